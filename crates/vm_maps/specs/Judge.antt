-- The codes that a task's entries give to a change and to an access.
use Rattle.std.specs.Prelude.{ℕ, ◌+◌, ◌%◌, ◌≡◌, Bool, true, false, not, List, length, Option, Some, None, Result, Ok, Err, if◌then◌else◌, nat_lt}
use Rattle.vm_base.specs.Entries.{allows, entry_at, inherited, is_mapped, is_range, meets_range, most_entries, page_at, protected, removed}
use Rattle.vm_base.specs.declared.code.Code.{Code}
use Rattle.vm_base.specs.declared.code.Code.TheVariants as code
use Rattle.vm_base.specs.declared.entry.Entry.{Entry}
use Rattle.vm_base.specs.declared.ids.Access.{Access}
use Rattle.vm_maps.specs.Maps.{Mapped, entries_in, rows_in}
use Rattle.vm_maps.specs.declared.change.MapChange.{MapChange}
use Rattle.vm_maps.specs.declared.change.MapKind.{MapKind}
use Rattle.vm_maps.specs.declared.change.MapKind.TheVariants as kind
use Rattle.vm_maps.specs.declared.place.Place.{Place}

-- a protection or an inheritance is for mapped pages alone
abbrev pub is_unmapped : MapKind → ℕ → ℕ → ℕ → List Entry → Bool
is_unmapped kind.Enter size address bytes rows = false
is_unmapped kind.Remove size address bytes rows = false
is_unmapped kind.Protect size address bytes rows = not (is_mapped size address bytes rows)
is_unmapped kind.Inherit size address bytes rows = not (is_mapped size address bytes rows)

-- a new entry is for a free range alone
abbrev pub is_occupied : MapKind → ℕ → ℕ → List Entry → Bool
is_occupied kind.Enter address bytes rows = meets_range address bytes rows
is_occupied kind.Remove address bytes rows = false
is_occupied kind.Protect address bytes rows = false
is_occupied kind.Inherit address bytes rows = false

-- how many entries there are after the change
abbrev pub count_after : MapKind → ℕ → MapChange → List Entry → ℕ
count_after kind.Enter size change rows = length rows + 1
count_after kind.Remove size change rows = length (removed size change.address change.bytes rows)
count_after kind.Protect size change rows = length (protected size change.address change.bytes change.prot rows)
count_after kind.Inherit size change rows = length (inherited size change.address change.bytes change.inherit rows)

-- the code of the first test that holds
abbrev pub judged : ℕ → MapChange → List Entry → Option Code
judged size change rows =
    if not (is_range size change.address change.bytes) then Some code.InvalidArgument
    else (if is_unmapped change.kind size change.address change.bytes rows then Some code.InvalidAddress
    else (if is_occupied change.kind change.address change.bytes rows then Some code.NoSpace
    else (if nat_lt most_entries (count_after change.kind size change rows) then Some code.TableFull
    else None)))

-- the place where an entry has an address
abbrev pub place_at : ℕ → ℕ → Entry → Place
place_at size address row =
    record { region = row.region; page = record { 0 = page_at size address row }; at = address % size }

abbrev pub looked_up_in : ℕ → ℕ → Access → Option Entry → Result Place Code
looked_up_in size address need None = Err code.InvalidAddress
looked_up_in size address need (Some row) =
    if allows need row.prot then Ok (place_at size address row) else Err code.ProtectionFailure

-- where an access of an address leads, or why it is refused
abbrev pub looked_up : ℕ → ℕ → Access → List Entry → Result Place Code
looked_up size address need rows = looked_up_in size address need (entry_at address rows)

-- a task has an entry that holds the address, and allows the access
pub record IsAllowed (maps : Mapped) (task address : ℕ) (need : Access) : Type 0 where
  pub entry : Entry
  pub lives : entries_in task maps ≡ Some (rows_in task maps)
  pub found : entry_at address (rows_in task maps) ≡ Some entry
  pub allowed : allows need entry.prot ≡ true
