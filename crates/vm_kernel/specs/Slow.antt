-- A slow copy whose pages are all copied ends: the region that it filled is mapped.
use Rattle.std.specs.Prelude.{ℕ, ◌≡◌, ◌*◌, ◌/◌, ◌<◌, ◌^◌, true, List, ◌∷◌, Option, Some, None, IsSome}
use Rattle.vm_base.specs.declared.entry.Entry.{Entry}
use Rattle.vm_base.specs.declared.ids.TaskId.{TaskId}
use Rattle.vm_base.specs.Entries.{entered}
use Rattle.vm_maps.specs.Maps.{ChangesOnly, entries_in, rows_in}
use Rattle.vm_model.specs.declared.event.Event.{Event}
use Rattle.vm_model.specs.declared.event.Event.TheVariants as event
use Rattle.vm_kernel.specs.Changes.{CanEnter, whole_entry}
use Rattle.vm_kernel.specs.Forking.{got}
use Rattle.vm_kernel.specs.Sweeping.{PutsEntries}
use Rattle.vm_kernel.specs.declared.parts.Parts.{Parts}
use Rattle.vm_state.specs.Places.{has_region}
use Rattle.vm_waits.specs.declared.waiting.Destination.{Destination}
use Rattle.vm_waits.specs.declared.waiting.Waiting.{Waiting}
use Rattle.vm_waits.specs.declared.waiting.Want.{Want}
use Rattle.vm_waits.specs.declared.waiting.Want.TheVariants as want

-- the entry of what a slow copy of so many pages of this size filled
abbrev pub filled_entry : ℕ → ℕ → Destination → Entry
filled_entry size pages to = whole_entry to.address (pages * size) to.region

-- a task can get an entry on the whole of a region
pub record CanMapFilled (task : ℕ) (row : Entry) (k : Parts) : Type 0 where
  pub lives : IsSome (entries_in task k.maps)
  pub free : CanEnter task row k
  pub pages : row.bytes / k.maps.size < 2 ^ 32
  pub region : has_region k.chains row.region.0 ≡ true

-- where the access is a slow copy, its task can get the entry of what it filled
abbrev pub CanEndWant : ℕ → Want → Option Destination → Parts → Type 0
CanEndWant task (want.CopyTo address pages target next) (Some to) k = CanMapFilled task (filled_entry k.size pages to) k
CanEndWant task (want.CopyTo address pages target next) None k = Unit {0}
CanEndWant task (want.Load address bytes) destination k = Unit {0}
CanEndWant task (want.Store address bytes value) destination k = Unit {0}

abbrev pub CanEndCopy : Waiting → Parts → Type 0
CanEndCopy w k = CanEndWant w.task.0 w.want w.destination k

-- a slow copy ended: its task got an entry, the only one on its region, and both were told
pub record MapsFilled (task : TaskId) (row : Entry) (old new : Parts) (before after : List Event) : Type 0 where
  pub host : new.host ≡ old.host
  pub size : new.size ≡ old.size
  pub declared : new.declared ≡ old.declared
  pub copied : new.copies ≡ old.copies
  pub memory : new.memory ≡ old.memory
  pub laundry : new.laundry ≡ old.laundry
  pub waits : new.waits ≡ old.waits
  pub maps : ChangesOnly old.maps new.maps task.0 (Some (entered row (rows_in task.0 old.maps)))
  pub counts : PutsEntries row.region.0 1 old.chains new.chains
  pub told : after ≡ got task row ∷ event.CopyEnded task ∷ before

-- nothing was done
pub record DidNothing (old new : Parts) (before after : List Event) : Type 0 where
  pub same : new ≡ old
  pub told : after ≡ before

-- where the access is a slow copy, it ended
abbrev pub EndsWant : TaskId → Want → Option Destination → Parts → Parts → List Event → List Event → Type 0
EndsWant task (want.CopyTo address pages target next) (Some to) old new before after = MapsFilled task (filled_entry old.size pages to) old new before after
EndsWant task (want.CopyTo address pages target next) None old new before after = DidNothing old new before after
EndsWant task (want.Load address bytes) destination old new before after = DidNothing old new before after
EndsWant task (want.Store address bytes value) destination old new before after = DidNothing old new before after

abbrev pub EndsCopyIn : Waiting → Parts → Parts → List Event → List Event → Type 0
EndsCopyIn w old new before after = EndsWant w.task w.want w.destination old new before after
