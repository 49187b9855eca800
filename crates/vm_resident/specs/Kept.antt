-- How the rows are kept: in a map, with the set of their pages beside it.
use Rattle.std.specs.List.{IsDistinct}
use Rattle.std.specs.Map.{keys_of}
use Rattle.std.specs.Prelude.{ℕ, ◌≡◌, ◌≤◌, Bool, false, List, is_some, map}
use Rattle.vm_base.specs.Keys.{is_page}
use Rattle.vm_base.specs.declared.ids.PageKey.{PageKey}
use Rattle.vm_sets.specs.Groups.{PageSet, is_in, is_marked}
use Rattle.vm_resident.specs.Owners.{OwnerMap, leads_to}
use Rattle.vm_resident.specs.Resident.{IsOwned, has_note, owner_among, row_among}
use Rattle.vm_resident.specs.declared.page_row.PageRow.{PageRow}
use Rattle.vm_resident.specs.declared.resident_page.ResidentPage.{ResidentPage}

-- the pages with their rows, in the order of the map
abbrev pub pages_of : List (PageKey × PageRow) → List ResidentPage
pages_of entries = map (λ (entry : PageKey × PageRow). record { key = entry.0; row = entry.1 }) entries

abbrev pub same_page : PageKey → PageKey → Bool
same_page key other = is_page key other.object.0 other.page.0

-- each frame leads to the first page whose row has it, and to no other
pub record IsLed (entries : List (PageKey × PageRow)) (owners : OwnerMap) : Type 0 where
  pub owned : IsOwned (record { rows = pages_of entries; spare = 0 })
  pub at : (f : ℕ) → leads_to owners f ≡ owner_among f (pages_of entries)

-- the set has the pages of the rows, marked where anything is noted of them, each frame that is not shared leads back, and all have the room that is promised
pub record IsKept (entries : List (PageKey × PageRow)) (room : ℕ) (set : PageSet) (owners : OwnerMap) (spare : ℕ) : Type 0 where
  pub unique : IsDistinct same_page (keys_of entries)
  pub pages : (o p : ℕ) → is_in set o p ≡ is_some (row_among o p (pages_of entries))
  pub noted : (o p : ℕ) → is_marked set o p ≡ has_note (row_among o p (pages_of entries))
  pub led : owners.shared ≡ false → IsLed entries owners
  pub rows_room : spare ≤ room
  pub pages_room : spare ≤ set.spare
  pub owners_room : spare ≤ owners.spare
