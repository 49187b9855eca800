-- No page of some objects is asked, also where the pages of one of them go up to another.
use Rattle.std.proofs.Common.{◌≡◌, ◌∙◌, ℕ, ◌+◌, ◌==◌, ◌&&◌, Bool, true, false, Some, None, sym, ap}
use Rattle.std.specs.Prelude.{if◌then◌else◌}
use Rattle.vm_base.specs.declared.ids.ObjectId.{ObjectId}
use Rattle.vm_base.specs.declared.ids.PageKey.{PageKey}
use Rattle.vm_parts.specs.Merging.{Goes, MovesUp, NoneAsked, PageMerges, PagesMerge}
use Rattle.vm_parts.specs.Merging as merging
use Rattle.vm_parts.specs.declared.parts.HostParts.{HostParts}
use Rattle.vm_resident.specs.Resident.{row_at}
use Rattle.vm_resident.specs.declared.page_row.PageRow.{PageRow}

-- no page of these objects is asked
abbrev pub NoneOf : (ℕ → Type 0) → HostParts → Type 0
NoneOf among parts = (o : ℕ) → among o → NoneAsked parts o

page_here : (among : ℕ → Type 0) (upper : ObjectId) (shift pages : ℕ) (key : PageKey) (row : PageRow) (old new : HostParts)
    → PageMerges upper shift pages key row old new → row.here ≡ true → NoneOf among old → NoneOf among new
page_here among upper shift pages key row old new (MovesUp to is less shifts) here none o is_in p other found =
    by (upper.0 == o && to.0 == p) (key.object.0 == o && key.page.0 == p) (sym (shifts.rows o p) ∙ found)
  where
    by : (b c : Bool) → (if b then Some row else (if c then None else row_at old.resident o p)) ≡ Some other → other.here ≡ true
    by true c same = let both : row ≡ other = cc in ap (λ z. z.here) (sym both) ∙ here
    by false true bad = absurd (let no_row : None ≡ Some other = bad in cc)
    by false false there = none o is_in p other there
page_here among upper shift pages key row old new (Goes why discards) here none o is_in p other found =
    by (key.object.0 == o && key.page.0 == p) (sym (discards.row.at o p) ∙ found)
  where
    by : (b : Bool) → (if b then None else row_at old.resident o p) ≡ Some other → other.here ≡ true
    by true bad = absurd (let no_row : None ≡ Some other = bad in cc)
    by false there = none o is_in p other there

pub pages_here : (among : ℕ → Type 0) (upper lower : ObjectId) (shift pages from : ℕ) (old new : HostParts)
    → PagesMerge upper lower shift pages from old new → among lower.0 → NoneOf among old → NoneOf among new
pages_here among upper lower shift pages _ _ _ (merging.NoMore at_end same none_left) low none = none
pages_here among upper lower shift pages _ _ _ (merging.Next start page row first_parts mid last further first found same merges more) low none =
    pages_here among upper lower shift pages (page.0 + 1) mid last more low
    (page_here among upper shift pages (record { object = lower; page = page }) row first_parts mid merges (none lower.0 low page.0 row found) none)
