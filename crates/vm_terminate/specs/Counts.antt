-- What the end of an object uses of the room that a host has.
use Rattle.std.specs.Prelude.{ℕ, zero, suc, ◌≡◌, ◌≢◌, ◌+◌, ◌<◌, ◌≤◌, Bool, false, Option, Some, None, if◌then◌else◌}
use Rattle.vm_base.specs.declared.ids.ObjectKind.TheVariants.{Temp}
use Rattle.vm_objects.specs.Objects.{ObjectTable, object_at}
use Rattle.vm_objects.specs.declared.row.ObjectRow.{ObjectRow}
use Rattle.vm_parts.specs.Listed.{listed_pages}
use Rattle.vm_parts.specs.declared.parts.HostParts.{HostParts}
use Rattle.vm_shadow.specs.Chains.{ChainTable}
use Rattle.vm_terminate.specs.Finishes.{EndsWith}

-- an object is known whose control is in use
abbrev pub is_live_row : Option ObjectRow → Bool
is_live_row None = false
is_live_row (Some row) = row.live

-- how many of the objects below a number have a control that lives
abbrev pub live_below : ObjectTable → ℕ → ℕ
live_below objects zero = 0
live_below objects (suc o) = (if is_live_row (object_at objects o) then 1 else 0) + live_below objects o

-- what an end uses of the room: a place in the log for each page that leaves and each control that ends, a buffer for a page at most; as many regions are
-- marked as before
pub record UsesRoom (n : ℕ) (old new : HostParts) (chains_old chains_new : ChainTable) (before after : ℕ) : Type 0 where
  pub log : before + (listed_pages new.queues + live_below new.objects n) ≤ after + (listed_pages old.queues + live_below old.objects n)
  pub buffers : old.buffers.count + listed_pages new.queues ≤ new.buffers.count + listed_pages old.queues
  pub rows : old.resident.spare ≤ new.resident.spare
  pub objects : old.objects.rows ≤ new.objects.rows
  pub shadows : chains_old.spare ≤ chains_new.spare
  pub marked : chains_new.marked ≡ chains_old.marked
  pub fewer : listed_pages new.queues ≤ listed_pages old.queues
  pub live : live_below new.objects n ≤ live_below old.objects n

-- what ends with an object has numbers below this
abbrev pub EndBelow : ℕ → ChainTable → ObjectTable → ℕ → Type 0
EndBelow n chains objects object = (o : ℕ) → EndsWith chains objects object o → o < n

-- there is a buffer for each page that is here, where an object that ends isn't temporary: its pages may go back, and those of a temporary one are dropped
abbrev pub HasBuffers : ChainTable → HostParts → ℕ → Type 0
HasBuffers chains parts object =
    (o : ℕ) (row : ObjectRow) → EndsWith chains parts.objects object o → object_at parts.objects o ≡ Some row → row.kind ≢ Temp
    → listed_pages parts.queues ≤ parts.buffers.count
