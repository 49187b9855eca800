-- A fork gives a child the entries that are to be shared and copies of others; a copy gives a task one.
use Rattle.std.specs.Prelude.{ℕ, ◌≡◌, ◌+◌, ◌/◌, ◌<◌, ◌≤◌, ◌^◌, true, List, ◌∷◌, Some, IsSome, if◌then◌else◌}
use Rattle.vm_base.specs.declared.entry.Entry.{Entry}
use Rattle.vm_base.specs.declared.ids.TaskId.{TaskId}
use Rattle.vm_base.specs.Entries.{entered}
use Rattle.vm_model.specs.declared.event.Event.{Event}
use Rattle.vm_model.specs.declared.event.Event.TheVariants as event
use Rattle.vm_maps.specs.Maps.{ChangesOnly, entries_in, rows_in}
use Rattle.vm_base.specs.declared.ids.RegionId.{RegionId}
use Rattle.vm_objects.specs.Objects.{PutsObject, SameMarks, object_at}
use Rattle.vm_objects.specs.declared.row.ObjectRow.{ObjectRow}
use Rattle.vm_shadow.specs.Chains.{ChainTable, CopiesRegion, RegionsBelow, region_at}
use Rattle.vm_shadow.specs.declared.ids.Ids.{Ids}
use Rattle.vm_shadow.specs.declared.region_row.RegionRow.{RegionRow}
use Rattle.vm_kernel.specs.Changes.{CanEnter}
use Rattle.vm_state.specs.Places.{has_region, region_entries}
use Rattle.vm_kernel.specs.Sweeping.{PutsEntries}
use Rattle.vm_kernel.specs.declared.parts.Parts.{Parts}

-- that a task got an entry
abbrev pub got : TaskId → Entry → Event
got task row = event.Entered task row.address row.bytes row.region row.offset row.prot row.inherit

-- a task can get an entry: its addresses are free
pub record CanShare (task : ℕ) (row : Entry) (k : Parts) : Type 0 where
  pub lives : IsSome (entries_in task k.maps)
  pub free : CanEnter task row k
  pub pages : row.offset + row.bytes / k.maps.size < 2 ^ 32
  pub region : has_region k.chains row.region.0 ≡ true
  pub few : region_entries k.chains row.region.0 + 1 < 2 ^ 32

-- a task got an entry, and that was told
pub record Shares (task : TaskId) (row : Entry) (old new : Parts) (before after : List Event) : Type 0 where
  pub host : new.host ≡ old.host
  pub size : new.size ≡ old.size
  pub declared : new.declared ≡ old.declared
  pub copied : new.copies ≡ old.copies
  pub memory : new.memory ≡ old.memory
  pub laundry : new.laundry ≡ old.laundry
  pub waits : new.waits ≡ old.waits
  pub maps : ChangesOnly old.maps new.maps task.0 (Some (entered row (rows_in task.0 old.maps)))
  pub counts : PutsEntries row.region.0 (region_entries old.chains row.region.0 + 1) old.chains new.chains
  pub told : after ≡ got task row ∷ before

-- an entry for the range of another, on the whole of a region
abbrev pub entry_on : Entry → RegionId → Entry
entry_on row region = record row { region = region; offset = 0 }

-- a task can get an entry for a range, on a copy of pages of a region from one of its pages on
pub record CanCopy (task : ℕ) (source : RegionId) (offset : ℕ) (row : Entry) (k : Parts) (ids : Ids) : Type 0 where
  pub lives : IsSome (entries_in task k.maps)
  pub free : CanEnter task row k
  pub sized : k.maps.size ≡ k.size
  pub pages : row.bytes / k.size < 2 ^ 32
  pub region : RegionRow
  pub there : region_at k.chains source.0 ≡ Some region
  pub inside : offset + row.bytes / k.size ≤ region.pages
  pub known : ObjectRow
  pub object : object_at k.memory.objects region.top.0 ≡ Some known
  pub over : region.shift + region.pages ≤ known.pages
  pub references : known.references + 1 < 2 ^ 32
  pub below : RegionsBelow ids.next_region k.chains
  pub regions : ids.next_region + 1 < 2 ^ 32
  pub marks : ids.marks + 2 < 2 ^ 32

-- a task got such an entry: the region is copied, its object has one reference more, and both were told
pub record EntersCopy (task : TaskId) (source : RegionId) (offset : ℕ) (row : Entry) (old new : Parts) (old_ids new_ids : Ids) (before after : List Event) :
    Type 0 where
  pub host : new.host ≡ old.host
  pub size : new.size ≡ old.size
  pub declared : new.declared ≡ old.declared
  pub copied : new.copies ≡ old.copies
  pub laundry : new.laundry ≡ old.laundry
  pub waits : new.waits ≡ old.waits
  pub copy : RegionId
  pub number : copy.0 ≡ old_ids.next_region
  pub region : RegionRow
  pub there : region_at old.chains source.0 ≡ Some region
  pub mid : ChainTable
  pub copies : CopiesRegion source.0 copy.0 offset (row.bytes / old.size) region old.chains mid
  pub counts : PutsEntries copy.0 1 mid new.chains
  pub known : ObjectRow
  pub object : object_at old.memory.objects region.top.0 ≡ Some known
  pub memory : new.memory ≡ record old.memory { objects = new.memory.objects }
  pub refers : PutsObject region.top.0 (Some (record known { references = known.references + 1 })) old.memory.objects new.memory.objects
  pub absent : SameMarks old.memory.objects new.memory.objects
  pub maps : ChangesOnly old.maps new.maps task.0 (Some (entered (entry_on row copy) (rows_in task.0 old.maps)))
  pub ids : new_ids ≡ record old_ids { next_region = old_ids.next_region + 1; marks = old_ids.marks + (if region.marked then 1 else 2) }
  pub told : after ≡ got task (entry_on row copy) ∷ event.RegionCopied copy source offset (row.bytes / old.size) ∷ before
