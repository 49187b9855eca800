-- The resident pages of a host, as contracts see them.
use Rattle.std.specs.Prelude.{ℕ, ◌≡◌, ◌≢◌, ◌≤◌, ◌<◌, ◌==◌, ◌&&◌, ◌||◌, Bool, true, false, List, [], ◌∷◌, Option, Some, None, IsSome, if◌then◌else◌}
use Rattle.vm_base.specs.Keys.{is_page}
pub use Rattle.vm_base.specs.Keys.{page_key}
use Rattle.vm_base.specs.declared.ids.PageKey.{PageKey}
use Rattle.vm_resident.specs.declared.page_row.PageRow.{PageRow}
use Rattle.vm_resident.specs.declared.resident_page.ResidentPage.{ResidentPage}

-- the resident pages with their rows, and how many more there is room for
pub record ResidentTable : Type 0 where
  pub rows : List ResidentPage
  pub spare : ℕ

abbrev pub row_among : ℕ → ℕ → List ResidentPage → Option PageRow
row_among object page [] = None
row_among object page (other ∷ others) =
    if is_page other.key object page then Some other.row else row_among object page others

-- the row of a page, where it is resident
abbrev pub row_at : ResidentTable → ℕ → ℕ → Option PageRow
row_at table object page = row_among object page table.rows

abbrev pub owner_among : ℕ → List ResidentPage → Option PageKey
owner_among f [] = None
owner_among f (other ∷ others) = if other.row.frame.0 == f then Some other.key else owner_among f others

-- the first page whose row has a frame, where one has it
abbrev pub owner_of : ResidentTable → ℕ → Option PageKey
owner_of table f = owner_among f table.rows

-- one page has this row now, or none, and each other page has the row that it had
pub record PutsRow (object page : ℕ) (row : Option PageRow) (old new : ResidentTable) : Type 0 where
  pub at : (o p : ℕ) → row_at new o p ≡ (if object == o && page == p then row else row_at old o p)

-- one frame leads to this page now, or to none, and each other frame to where it led
pub record PutsOwner (f : ℕ) (key : Option PageKey) (old new : ResidentTable) : Type 0 where
  pub at : (g : ℕ) → owner_of new g ≡ (if f == g then key else owner_of old g)

-- the frame of each row leads back to its page, so no two rows share a frame
pub record IsOwned (table : ResidentTable) : Type 0 where
  pub at : (o p : ℕ) (row : PageRow) → row_at table o p ≡ Some row → owner_of table row.frame.0 ≡ Some (page_key o p)

-- no row has the frame
abbrev pub NoRowHas : ResidentTable → ℕ → Type 0
NoRowHas table f = (o p : ℕ) (row : PageRow) → row_at table o p ≡ Some row → row.frame.0 ≢ f

-- no page of the object from one on is resident
abbrev pub NoRowsFrom : ResidentTable → ℕ → ℕ → Type 0
NoRowsFrom table object from = (q : ℕ) → from ≤ q → row_at table object q ≡ None

-- the first resident page of the object from one on
pub record IsNextPage (table : ResidentTable) (object from page : ℕ) : Type 0 where
  pub low : from ≤ page
  pub there : IsSome (row_at table object page)
  pub first : (q : ℕ) → from ≤ q → q < page → row_at table object q ≡ None

-- anything is noted of a page: it is dirty or precious, or its manager is asked to lift the lock
abbrev pub is_noted : PageRow → Bool
is_noted row = row.dirty || (row.precious || row.unlock_sent)

abbrev pub has_note : Option PageRow → Bool
has_note None = false
has_note (Some row) = is_noted row

-- nothing is noted of any page of the object from one on
abbrev pub NoneNotedFrom : ResidentTable → ℕ → ℕ → Type 0
NoneNotedFrom table object from = (q : ℕ) → from ≤ q → has_note (row_at table object q) ≡ false

-- the first page of the object from one on of which anything is noted
pub record IsNextNoted (table : ResidentTable) (object from page : ℕ) : Type 0 where
  pub low : from ≤ page
  pub there : has_note (row_at table object page) ≡ true
  pub first : (q : ℕ) → from ≤ q → q < page → has_note (row_at table object q) ≡ false
