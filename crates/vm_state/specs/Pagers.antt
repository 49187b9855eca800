-- How far a host is with the pagers of its objects.
use Rattle.std.specs.Prelude.{ℕ, Bool, true, false, if◌then◌else◌, Option, Some, None}
use Rattle.vm_objects.specs.declared.row.ObjectRow.{ObjectRow}
use Rattle.vm_objects.specs.declared.row.PagerState.{PagerState}
use Rattle.vm_objects.specs.declared.row.PagerState.TheVariants as state

-- the pager was told of the object
abbrev pub has_pager : PagerState → Bool
has_pager state.Without = false
has_pager state.Sent = true
has_pager state.Ready = true

abbrev pub is_ready_state : PagerState → Bool
is_ready_state state.Without = false
is_ready_state state.Sent = false
is_ready_state state.Ready = true

-- the control that began last, of an object that is known
abbrev pub last_in : Option ObjectRow → ℕ
last_in None = 0
last_in (Some row) = row.control

-- the control that lives
abbrev pub live_in : Option ObjectRow → Option ℕ
live_in None = None
live_in (Some row) = if row.live then Some row.control else None

-- an object that is known stays when its last entry goes
abbrev pub cached_in : Option ObjectRow → Bool
cached_in None = false
cached_in (Some row) = row.cache

abbrev pub ready_in : Option ObjectRow → Bool
ready_in None = false
ready_in (Some row) = is_ready_state row.state
