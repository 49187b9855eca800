-- The address maps of tasks, as contracts see them.
use Rattle.std.specs.Prelude.{ℕ, ◌+◌, ◌/◌, ◌^◌, ◌<◌, ◌≡◌, ◌≢◌, ◌==◌, List, [], ◌∷◌, Option, Some, None, unwrap_or, if◌then◌else◌}
use Rattle.vm_base.specs.Entries.{Mapping, is_within, mapping_at, parts_in}
use Rattle.vm_base.specs.declared.entry.Entry.{Entry}
use Rattle.vm_base.specs.declared.ids.Inherit.{Inherit}
use Rattle.vm_base.specs.declared.ids.Prot.{Prot}
use Rattle.vm_maps.specs.declared.change.MapChange.{MapChange}

-- the page size, and each task with its entries by rising address
pub record Mapped : Type 0 where
  pub size : ℕ
  pub tasks : List (ℕ × List Entry)

abbrev pub entries_among : ℕ → List (ℕ × List Entry) → Option (List Entry)
entries_among task [] = None
entries_among task (map ∷ maps) = if map.0 == task then Some map.1 else entries_among task maps

-- the entries of a task, where it has a map
abbrev pub entries_in : ℕ → Mapped → Option (List Entry)
entries_in task maps = entries_among task maps.tasks

-- the entries of a task that has a map
abbrev pub rows_in : ℕ → Mapped → List Entry
rows_in task maps = unwrap_or (entries_in task maps) []

-- what an address of a task is mapped to
abbrev pub mapping_in : ℕ → ℕ → Mapped → Option Mapping
mapping_in task at maps = mapping_at maps.size at (rows_in task maps)

-- addresses in the range of a change are mapped to what this makes of it, and all others as they were
abbrev pub Remaps : (ℕ → Option Mapping → Option Mapping) → Mapped → Mapped → ℕ → MapChange → Type 0
Remaps becomes old new task change =
    (at : ℕ) → mapping_in task at new
    ≡ (if is_within change.address change.bytes at then becomes at (mapping_in task at old) else mapping_in task at old)

-- the parts of a task's entries in the range of a change
abbrev pub parts_for : Mapped → ℕ → MapChange → List Entry
parts_for maps task change = parts_in maps.size change.address change.bytes (rows_in task maps)

abbrev pub with_prot : Prot → Mapping → Mapping
with_prot prot old = record old { prot = prot }

abbrev pub with_inherit : Inherit → Mapping → Mapping
with_inherit inherit old = record old { inherit = inherit }

-- one task has these entries now, or no map, and all else is as it was
pub record ChangesOnly (old new : Mapped) (task : ℕ) (entries : Option (List Entry)) : Type 0 where
  pub size : new.size ≡ old.size
  pub changed : entries_in task new ≡ entries
  pub others : (other : ℕ) → other ≢ task → entries_in other new ≡ entries_in other old

-- an entry for the range of a change, whose region can number its pages
pub record IsNewEntry (size : ℕ) (change : MapChange) (row : Entry) : Type 0 where
  pub address : row.address ≡ change.address
  pub bytes : row.bytes ≡ change.bytes
  pub pages : row.offset + row.bytes / size < 2 ^ 32
