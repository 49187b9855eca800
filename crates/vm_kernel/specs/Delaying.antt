-- A task gets an entry on a delayed copy of a file's pages: a copy object stands on the file then, and the file's newest one until then stands on that.
use Rattle.std.specs.Prelude.{ℕ, ◌≡◌, ◌+◌, ◌/◌, ◌<◌, ◌≤◌, ◌^◌, true, false, List, ◌∷◌, Option, Some, None, IsSome, replicate}
use Rattle.vm_base.specs.declared.entry.Entry.{Entry}
use Rattle.vm_base.specs.declared.ids.ObjectId.{ObjectId}
use Rattle.vm_base.specs.declared.ids.ObjectKind.TheVariants.{Temp}
use Rattle.vm_base.specs.declared.ids.RegionId.{RegionId}
use Rattle.vm_base.specs.declared.ids.TaskId.{TaskId}
use Rattle.vm_base.specs.Entries.{entered}
use Rattle.vm_base.specs.Limits.{most_pages}
use Rattle.vm_copies.specs.Copies.{AreNewest, ClearsHad, CopyTable, PutsCopy, PutsNewest, newest_at}
use Rattle.vm_fault.specs.Pushes.{CopiesFit}
use Rattle.vm_maps.specs.Maps.{ChangesOnly, entries_in, rows_in}
use Rattle.vm_model.specs.declared.event.Event.TheVariants as event
use Rattle.vm_model.specs.declared.event.Event.{Event}
use Rattle.vm_objects.specs.Objects.{ObjectTable, PutsObject, SameMarks, object_at}
use Rattle.vm_objects.specs.declared.row.ObjectRow.{ObjectRow}
use Rattle.vm_objects.specs.declared.row.PagerState.TheVariants.{Without}
use Rattle.vm_shadow.specs.Chains.{ChainTable, ObjectsBelow, PutsRegion, Rebases, RegionsBelow}
use Rattle.vm_shadow.specs.declared.ids.Ids.{Ids}
use Rattle.vm_shadow.specs.declared.region_row.RegionRow.{RegionRow}
use Rattle.vm_kernel.specs.Changes.{CanEnter}
use Rattle.vm_kernel.specs.Forking.{entry_on, got}
use Rattle.vm_kernel.specs.Freeing.{FreesPushers}
use Rattle.vm_kernel.specs.declared.parts.Parts.{Parts}

-- a file can get the next object as its newest copy: the tables know of no such object, and the copies that live fit them
pub record CanDelayFile (file : ℕ) (row : ObjectRow) (k : Parts) (copy : ℕ) : Type 0 where
  pub known : object_at k.memory.objects file ≡ Some row
  pub pages : row.pages ≤ most_pages
  pub references : row.references + 1 < 2 ^ 32
  pub older : file < copy
  pub unknown : object_at k.memory.objects copy ≡ None
  pub below : ObjectsBelow copy k.chains
  pub fits : CopiesFit k.copies k.memory k.chains
  pub number : copy + 1 < 2 ^ 32

-- a task can get an entry for a range, on a delayed copy of pages of a file from one of its pages on
pub record CanDelay (task : ℕ) (source : RegionId) (row : Entry) (k : Parts) (ids : Ids) : Type 0 where
  pub lives : IsSome (entries_in task k.maps)
  pub free : CanEnter task row k
  pub sized : k.maps.size ≡ k.size
  pub pages : row.bytes / k.size < 2 ^ 32
  pub file : ObjectRow
  pub delays : CanDelayFile source.0 file k ids.next_object
  pub below : RegionsBelow ids.next_region k.chains
  pub regions : ids.next_region + 1 < 2 ^ 32
  pub marks : ids.marks + 1 < 2 ^ 32

-- a copy object that has so many references, of a file with this row
abbrev pub copy_row : ObjectRow → ℕ → ObjectRow
copy_row file references =
    record { kind = Temp; pages = file.pages; state = Without; control = 0; live = false; cache = false; references = references }

-- the copy object is its file's newest now, and has had no page
pub record BeginsFor (file copy : ObjectId) (pages : ℕ) (old new : CopyTable) : Type 0 where
  pub put : PutsCopy copy.0 (Some (record { source = file; pages = pages; had = replicate pages false })) old new
  pub had : ClearsHad copy.0 old new
  pub newest : PutsNewest file.0 (Some copy) old new
  pub living : AreNewest new

-- A copy object of a file with this row is there, and stands on the file. Where none lived, the file has one reference more, and the copy one; else the newest
-- until then stands on the copy now, which has another reference from that.
pub data Stands (file copy : ObjectId) (row : ObjectRow) (chains chains2 : ChainTable) (objects objects2 : ObjectTable) : Option ObjectId → Type 0 where
  OnFile : Rebases copy.0 file chains chains2 → (mid : ObjectTable) → PutsObject copy.0 (Some (copy_row row 1)) objects mid
      → PutsObject file.0 (Some (record row { references = row.references + 1 })) mid objects2
      → Stands file copy row chains chains2 objects objects2 None
  Under : (older : ObjectId) (mid : ChainTable) → Rebases copy.0 file chains mid → Rebases older.0 copy mid chains2
      → PutsObject copy.0 (Some (copy_row row 2)) objects objects2 → Stands file copy row chains chains2 objects objects2 (Some older)

-- a file has a new copy object
pub record MakesCopy (file copy : ObjectId) (row : ObjectRow) (old new : Parts) : Type 0 where
  pub same : new ≡ record old { memory = record old.memory { objects = new.memory.objects }; chains = new.chains; copies = new.copies }
  pub begins : BeginsFor file copy row.pages old.copies new.copies
  pub stands : Stands file copy row old.chains new.chains old.memory.objects new.memory.objects (newest_at old.copies file.0)
  pub absent : SameMarks old.memory.objects new.memory.objects

-- the region of a delayed copy, over its copy object
abbrev pub delayed_row : ObjectId → ℕ → ℕ → RegionRow
delayed_row copy offset pages = record { top = copy; shift = offset; pages = pages; marked = true; entries = 1 }

-- that pages of a file's region are copied, in a region over a copy object
abbrev pub delayed : RegionId → RegionId → ℕ → ℕ → ObjectId → Event
delayed region source offset pages copy = event.Delayed region source offset pages copy

-- a task got such an entry: the file has a new copy object, over which there is a region with this entry, and both were told; who waited to push a page of
-- the file is to be run again
pub record EntersDelayed (task : TaskId) (source : RegionId) (offset : ℕ) (row : Entry) (old new : Parts) (old_ids new_ids : Ids) (before after : List Event) :
    Type 0 where
  pub host : new.host ≡ old.host
  pub size : new.size ≡ old.size
  pub declared : new.declared ≡ old.declared
  pub laundry : new.laundry ≡ old.laundry
  pub waits : FreesPushers source.0 old.copies old.waits new.waits
  pub region : RegionId
  pub number : region.0 ≡ old_ids.next_region
  pub copy : ObjectId
  pub object : copy.0 ≡ old_ids.next_object
  pub file : ObjectRow
  pub known : object_at old.memory.objects source.0 ≡ Some file
  pub begins : BeginsFor (record { 0 = source.0 }) copy file.pages old.copies new.copies
  pub mid : ChainTable
  pub stands : Stands (record { 0 = source.0 }) copy file old.chains mid old.memory.objects new.memory.objects (newest_at old.copies source.0)
  pub made : PutsRegion region.0 (Some (delayed_row copy offset (row.bytes / old.size))) mid new.chains
  pub memory : new.memory ≡ record old.memory { objects = new.memory.objects }
  pub absent : SameMarks old.memory.objects new.memory.objects
  pub maps : ChangesOnly old.maps new.maps task.0 (Some (entered (entry_on row region) (rows_in task.0 old.maps)))
  pub ids : new_ids ≡ record { next_object = old_ids.next_object + 1; next_region = old_ids.next_region + 1; marks = old_ids.marks + 1 }
  pub told : after ≡ got task (entry_on row region) ∷ delayed region source offset (row.bytes / old.size) copy ∷ before
