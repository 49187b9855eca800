-- The pages of an object go by the word of its pager, one after another.
use Rattle.std.proofs.Common.{◌≡◌, ◌∙◌, ℕ, zero, suc, ◌+◌, ◌<◌, ◌≤◌, true, false, List, ◌∷◌, Option, Some, None, inl, inr, refl, sym, ap, subst, arith}
use Rattle.std.proofs.lemmas.Bool.Decides.{eqb_tells, leb_tells}
use Rattle.vm_base.specs.declared.ids.HostId.{HostId}
use Rattle.vm_base.specs.declared.ids.ObjectId.{ObjectId}
use Rattle.vm_base.specs.declared.ids.PageNo.{PageNo}
use Rattle.vm_parts.proofs.Rows.{row_cases}
use Rattle.vm_parts.specs.Changes.{is_here, one}
use Rattle.vm_parts.specs.Fits.{Fit, object_pages}
use Rattle.vm_parts.specs.declared.parts.HostParts.{HostParts}
use Rattle.vm_resident.specs.Resident.{IsNextPage, NoRowsFrom, PutsRow, ResidentTable, row_at}
use Rattle.vm_resident.specs.declared.page_row.PageRow.{PageRow}
use Rattle.vm_terminate.specs.Destroys.{IsCancelled, IsDropped, NextAsked, NextHere, NoneHere, PagesCancel, PagesDrop, here_below}
use Rattle.vm_terminate.specs.Finishes.{FinishState}
use Rattle.vm_terminate.specs.Steps.{NoneHereFrom}

-- no page of an object is behind its last one
pub none_above : (parts : HostParts) (object from : ℕ) → Fit parts → object_pages parts.objects object ≤ from → NoRowsFrom parts.resident object from
none_above parts object from fit above p low = by (row_at parts.resident object p) refl
  where
    by : (row : Option PageRow) → row_at parts.resident object p ≡ row → row ≡ None
    by None is = refl
    by (Some row) is = let inside = fit.inside object p row is in absurd (omega (arith, inside, above, low))

-- no page up to the next one is here
pub none_before : (table : ResidentTable) (object from page : ℕ) → ((p : ℕ) → p < from → is_here (row_at table object p) ≡ false)
    → IsNextPage table object from page → (p : ℕ) → p < page → is_here (row_at table object p) ≡ false
none_before table object from page behind next p less = elim (leb_tells from p) [
  | inl above ↦ ap is_here (next.first p above.1 less)
  | inr below ↦ behind p below.1
]

-- the next page isn't here
pub none_passed : (table : ResidentTable) (object from page : ℕ) (row : PageRow) → ((p : ℕ) → p < from → is_here (row_at table object p) ≡ false)
    → IsNextPage table object from page → row_at table object page ≡ Some row → row.here ≡ false
    → (p : ℕ) → p < page + 1 → is_here (row_at table object p) ≡ false
none_passed table object from page row behind next found away p less = elim (eqb_tells page p) [
  | inl same ↦ ap is_here (sym (ap (row_at table object) same.1) ∙ found) ∙ away
  | inr apart ↦ none_before table object from page behind next p (let other = apart.1 in omega arith)
]

-- the next page has gone
pub none_gone : (old new : ResidentTable) (object from page : ℕ) → ((p : ℕ) → p < from → is_here (row_at old object p) ≡ false)
    → IsNextPage old object from page → PutsRow object page None old new → (p : ℕ) → p < page + 1 → is_here (row_at new object p) ≡ false
none_gone old new object from page behind next put p less = elim (row_cases object page None old new put object p) [
  | inl gone ↦ ap is_here gone.is
  | inr other ↦
      ap is_here other.is ∙ none_before old object from page behind next p (let apart : page ≡ p → ⊥ = λ e. other.apart refl e in omega arith)
]

-- each page of an object behind the one that has gone is as it was
pub same_ahead : (old new : ResidentTable) (object page : ℕ) → PutsRow object page None old new → (p : ℕ) → page + 1 ≤ p
    → row_at new object p ≡ row_at old object p
same_ahead old new object page put p low = elim (row_cases object page None old new put object p) [
  | inl gone ↦ absurd (let same = gone.page in omega arith)
  | inr other ↦ other.is
]

-- a page that is here has a number below those from which none is
pub below_none : (table : ResidentTable) (object n page : ℕ) (row : PageRow) → NoneHereFrom table object n → row_at table object page ≡ Some row
    → row.here ≡ true → page < n
below_none table object n page row none found here = elim (leb_tells n page) [
  | inl above ↦ absurd (none page above.1 (ap is_here found ∙ here))
  | inr below ↦ below.1
]

-- as many pages are here below a number where each is as before
same_here : (old new : ResidentTable) (object n : ℕ) → ((p : ℕ) → p < n → row_at new object p ≡ row_at old object p)
    → here_below new object n ≡ here_below old object n
same_here old new object zero same = refl
same_here old new object (suc p) same =
    let rest = same_here old new object p (λ q less. same q (omega arith)) in
    let here : one (is_here (row_at new object p)) ≡ one (is_here (row_at old object p)) = ap (λ z. one (is_here z)) (same p (omega arith)) in
    omega (arith, rest, here)

-- one page less is here
pub one_gone : (old new : ResidentTable) (object page n : ℕ) (row : PageRow) → page < n → row_at old object page ≡ Some row → row.here ≡ true
    → PutsRow object page None old new → here_below new object n + 1 ≡ here_below old object n
one_gone old new object page zero row less found here put = absurd (omega arith)
one_gone old new object page (suc p) row less found here put = elim (row_cases object page None old new put object p) [
  | inl gone ↦
      let rest = same_here old new object p (λ q below. elim (row_cases object page None old new put object q)
      [ inl also ↦ absurd (let first = gone.page in let second = also.page in omega arith) | inr other ↦ other.is ]) in
      let before : one (is_here (row_at old object p)) ≡ 1 =
      ap (λ z. one (is_here z)) (sym (ap (row_at old object) gone.page) ∙ found) ∙ ap one here in
      let after : one (is_here (row_at new object p)) ≡ 0 = ap (λ z. one (is_here z)) gone.is in
      omega (arith, rest, before, after)
  | inr other ↦
      let apart : page ≡ p → ⊥ = λ e. other.apart refl e in
      let rest = one_gone old new object page p row (omega arith) found here put in
      let same : one (is_here (row_at new object p)) ≡ one (is_here (row_at old object p)) = ap (λ z. one (is_here z)) other.is in
      omega (arith, rest, same)
]

-- where a page is here, one is
pub some_here_below : (table : ResidentTable) (object page n : ℕ) (row : PageRow) → page < n → row_at table object page ≡ Some row → row.here ≡ true
    → 0 < here_below table object n
some_here_below table object page zero row less found here = absurd (omega arith)
some_here_below table object page (suc p) row less found here = elim (eqb_tells page p) [
  | inl same ↦
      let this : one (is_here (row_at table object p)) ≡ 1 =
      ap (λ z. one (is_here z)) (sym (ap (row_at table object) same.1) ∙ found) ∙ ap one here in
      omega (arith, this)
  | inr apart ↦ let rest = some_here_below table object page p row (let other = apart.1 in omega arith) found here in omega (arith, rest)
]

-- the pages drop from a number on, and below it none is here
from_lower : (host : HostId) (object : ObjectId) (low high : ℕ) (old end : FinishState) → low ≤ high
    → ((p : ℕ) → low ≤ p → p < high → is_here (row_at old.parts.resident object.0 p) ≡ false)
    → PagesDrop host object high old end → PagesDrop host object low old end
from_lower host object low _ _ _ less between (NoneHere high s none) =
    NoneHere low s (λ p above. elim (leb_tells high p) [ inl far ↦ none p far.1 | inr near ↦ between p above near.1 ])
from_lower host object low _ _ _ less between (NextHere high page row old mid end far first found drops more) =
    NextHere low page row old mid end (omega arith)
    (λ p above below. elim (leb_tells high p) [ inl past ↦ first p past.1 below | inr near ↦ between p above near.1 ]) found drops more

-- a page that isn't here is passed over, and the others behind it drop
pub passes_over : (host : HostId) (object : ObjectId) (from : ℕ) (page : PageNo) (row : PageRow) (old end : FinishState)
    → IsNextPage old.parts.resident object.0 from page.0 → row_at old.parts.resident object.0 page.0 ≡ Some row → row.here ≡ false
    → PagesDrop host object (page.0 + 1) old end → PagesDrop host object from old end
passes_over host object from page row old end next found away more =
    from_lower host object from (page.0 + 1) old end (let low = next.low in omega arith) (λ p above below. elim (eqb_tells page.0 p) [
      | inl same ↦ ap is_here (sym (ap (row_at old.parts.resident object.0) same.1) ∙ found) ∙ away
      | inr apart ↦ ap is_here (next.first p above (let other = apart.1 in omega arith))
    ]) more

-- a page drops, and the others behind it
pub drops_one : (host : HostId) (object : ObjectId) (from : ℕ) (page : PageNo) (row : PageRow) (old mid end : FinishState)
    → IsNextPage old.parts.resident object.0 from page.0 → row_at old.parts.resident object.0 page.0 ≡ Some row
    → IsDropped host (record { object = object; page = page }) row old mid
    → PagesDrop host object (page.0 + 1) mid end → PagesDrop host object from old end
drops_one host object from page row old mid end next found drops more =
    NextHere from page row old mid end next.low (λ p above below. ap is_here (next.first p above below)) found drops
    (subst (λ (n : ℕ). PagesDrop host object n mid end) (let e : page.0 + 1 ≡ suc page.0 = omega arith in e) more)

-- a page is asked no more, nor are the others behind it
pub cancels_one : (object : ObjectId) (from : ℕ) (page : PageNo) (more : List ℕ) (row : PageRow) (old mid end : FinishState)
    → IsNextPage old.parts.resident object.0 from page.0 → row_at old.parts.resident object.0 page.0 ≡ Some row
    → IsCancelled (record { object = object; page = page }) row old mid
    → PagesCancel object (page.0 + 1) more mid end → PagesCancel object from (page.0 ∷ more) old end
cancels_one object from page more row old mid end next found cancelled rest =
    NextAsked from page more row old mid end next.low next.first found cancelled
    (subst (λ (n : ℕ). PagesCancel object n more mid end) (let e : page.0 + 1 ≡ suc page.0 = omega arith in e) rest)
