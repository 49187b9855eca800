-- The state in which an answer finds its page: the columns of the table of messages.
use Rattle.std.specs.Prelude.{ℕ, ◌==◌, ◌&&◌, Option, Some, None, if◌then◌else◌, nat_lt}
use Rattle.vm_base.specs.declared.ids.Lock.{Lock}
use Rattle.vm_objects.specs.declared.row.ObjectRow.{ObjectRow}
use Rattle.vm_resident.specs.declared.page_row.PageRow.{PageRow}
use Rattle.vm_tables.specs.declared.acts.MessageKind.{MessageKind}
use Rattle.vm_tables.specs.declared.acts.MessageKind.TheVariants as kind
use Rattle.vm_tables.specs.declared.acts.PageState.{PageState}
use Rattle.vm_tables.specs.declared.acts.PageState.TheVariants as state

-- a page that is here, with these accesses prohibited
abbrev pub locked_state : Lock → PageState
locked_state lock = if lock.read then state.ReadLocked else (if lock.write then state.WriteLocked else state.Unlocked)

-- a page with this row, or with none
abbrev pub row_state : Option PageRow → PageState
row_state None = state.Absent
row_state (Some row) = if row.here then locked_state row.lock else state.Asked

-- what an answer for a control finds, which speaks of this page of the object, with this row; behind the object's end there are no pages
abbrev pub page_state : ObjectRow → ℕ → ℕ → Option PageRow → PageState
page_state known control page row =
    if known.live && known.control == control then (if nat_lt page known.pages then row_state row else state.Absent) else state.Dead

-- a supply is of the kind that its lock says
abbrev pub supply_kind : Lock → MessageKind
supply_kind lock = if lock.read then kind.SupplyReadLocked else (if lock.write then kind.SupplyWriteLocked else kind.SupplyUnlocked)
