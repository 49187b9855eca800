-- What becomes of the pages of an object that is merged into another.
use Rattle.std.specs.Prelude.{ℕ, true, ◌+◌, ◌<◌, ◌≤◌, ◌≡◌, IsSome, Some, None}
use Rattle.vm_base.specs.declared.ids.ObjectId.{ObjectId}
use Rattle.vm_base.specs.declared.ids.PageKey.{PageKey}
use Rattle.vm_base.specs.declared.ids.PageNo.{PageNo}
use Rattle.vm_resident.specs.Resident.{row_at}
use Rattle.vm_resident.specs.declared.page_row.PageRow.{PageRow}
use Rattle.vm_parts.specs.Changes.{Discards, ShiftsPage}
use Rattle.vm_parts.specs.declared.parts.HostParts.{HostParts}

-- one page goes up to the upper object, whose page 0 is over the lower's page `shift` and which has so many pages; or it goes, and its frame is free, since the
-- upper has no place for it, or a page there
pub data PageMerges (upper : ObjectId) (shift pages : ℕ) (key : PageKey) (row : PageRow) (old new : HostParts) : Type 0 where
  MovesUp : (to : PageNo) → key.page.0 ≡ shift + to.0 → to.0 < pages → ShiftsPage key (record { object = upper; page = to }) row old new
      → PageMerges upper shift pages key row old new
  Goes : ((p : ℕ) → key.page.0 ≡ shift + p → p < pages → IsSome (row_at old.resident upper.0 p)) → Discards key row old new
      → PageMerges upper shift pages key row old new

-- the lower's pages do so from one on, by rising number, until none is left
pub data PagesMerge (upper lower : ObjectId) (shift pages : ℕ) : ℕ → HostParts → HostParts → Type 0 where
  NoMore : (from : ℕ) → (s : HostParts) → ((p : ℕ) → from ≤ p → row_at s.resident lower.0 p ≡ None) → PagesMerge upper lower shift pages from s s
  Next : (from : ℕ) → (page : PageNo) → (row : PageRow) → (old mid new : HostParts) → from ≤ page.0
      → ((p : ℕ) → from ≤ p → p < page.0 → row_at old.resident lower.0 p ≡ None) → row_at old.resident lower.0 page.0 ≡ Some row → mid.objects ≡ old.objects
      → PageMerges upper shift pages (record { object = lower; page = page }) row old mid → PagesMerge upper lower shift pages (page.0 + 1) mid new
      → PagesMerge upper lower shift pages from old new

-- no page of an object is asked
abbrev pub NoneAsked : HostParts → ℕ → Type 0
NoneAsked parts o = (p : ℕ) (row : PageRow) → row_at parts.resident o p ≡ Some row → row.here ≡ true
