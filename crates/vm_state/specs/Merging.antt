-- Which objects of a host can be merged, by its tables, and what that does to the pages that are here.
use Rattle.std.specs.Prelude.{ℕ, ◌+◌, ◌≡◌, ◌==◌, Option, Some, None, if◌then◌else◌, nat_lt}
use Rattle.vm_copies.specs.Copies.{CopyTable}
use Rattle.vm_frames.specs.Frames.{FrameTable, page_in}
use Rattle.vm_objects.specs.Objects.{ObjectTable, PutsObject, SameMarks}
pub use Rattle.vm_merge.specs.Merges.{CanMerge, IsThin, IsThinBut}
use Rattle.vm_resident.specs.Resident.{ResidentTable, row_at}
use Rattle.vm_resident.specs.declared.page_row.PageRow.{PageRow}
use Rattle.vm_shadow.specs.Chains.{ChainTable, MergesShadow}

-- a page's own row, or the one that it gets where it has none
abbrev pub its_own_or : Option PageRow → Option PageRow → Option PageRow
its_own_or None gets = gets
its_own_or (Some own) gets = Some own

-- The upper of two objects has so many pages, and its page 0 is over the lower's page `shift`. Where a page of the upper has no row it gets that of the page
-- under it; the lower has no rows any more, and each other object has those that it had.
pub record MergesRows (upper lower shift pages : ℕ) (old new : ResidentTable) : Type 0 where
  pub at : (o p : ℕ) → row_at new o p ≡ (if upper == o
      then its_own_or (row_at old upper p) (if nat_lt p pages then row_at old lower (shift + p) else None)
      else (if lower == o then None else row_at old o p))

-- the frames of the pages that are left hold the same bytes
pub record KeepsBytes (resident : ResidentTable) (old new : FrameTable) : Type 0 where
  pub at : (o p : ℕ) (row : PageRow) → row_at resident o p ≡ Some row → page_in new row.frame.0 ≡ page_in old row.frame.0

-- a merge by the tables: the lower's shadow row is the upper's, by the sum of both shifts, nothing refers to the lower any more, and all else is as it was
pub record MergesObjects (upper lower : ℕ) (chains chains2 : ChainTable) (copies : CopyTable) (objects objects2 : ObjectTable) : Type 0 where
  pub can : CanMerge copies chains objects upper lower
  pub chain : MergesShadow upper lower can.link chains chains2
  pub object : PutsObject lower (Some (record can.lower_row { references = 0 })) objects objects2
  pub marks : SameMarks objects objects2
