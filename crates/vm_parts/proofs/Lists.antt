-- A page leaves the lists.
use Rattle.std.proofs.Common.{◌≡◌, ◌∙◌, ℕ, ◌+◌, ◌<◌, ◌≤◌, ◌||◌, ◌==◌, Bool, true, false, List, [], ◌∷◌, ◌++◌, length, if◌then◌else◌, Some, sym, refl, arith}
use Rattle.vm_queues.specs.Queues.{Page, Queues, has_page, is_queued, pages_except, queues_except}
use Rattle.vm_resident.specs.Resident.{row_at}
use Rattle.vm_resident.specs.declared.page_row.PageRow.{PageRow}
use Rattle.vm_parts.specs.Fits.{Fit}
use Rattle.vm_parts.specs.Listed.{listed_pages}
use Rattle.vm_parts.specs.declared.parts.HostParts.{HostParts}

-- without the pages of one frame a list is no longer
pub except_fewer : (f : ℕ) (pages : List Page) → length (pages_except f pages) ≤ length pages
except_fewer f [] = omega arith
except_fewer f (page ∷ pages) =
    let rest = except_fewer f pages in
    elim (page.frame == f) as (λ b. length (if b then pages_except f pages else page ∷ pages_except f pages) ≤ length (page ∷ pages))
    [ true ↦ omega arith | false ↦ omega arith ]

one_less : (f : ℕ) (pages : List Page) → has_page pages f ≡ true → length (pages_except f pages) + 1 ≤ length pages
one_less f [] has = absurd (let bad : false ≡ true = has in cc)
one_less f (page ∷ pages) has = at (page.frame == f) (one_less f pages) has
  where
    at : (is : Bool) → (has_page pages f ≡ true → length (pages_except f pages) + 1 ≤ length pages) → (is || has_page pages f) ≡ true
        → length (if is then pages_except f pages else page ∷ pages_except f pages) + 1 ≤ length (page ∷ pages)
    at true less has = let rest = except_fewer f pages in omega arith
    at false less has = let rest = less has in omega arith

-- a page that isn't on the first of two lists is on both together exactly where it is on the other
on_other : (inactive active : List Page) (f : ℕ) → has_page inactive f ≡ false → has_page (inactive ++ active) f ≡ has_page active f
on_other [] active f none = refl
on_other (page ∷ inactive) active f none = by (page.frame == f) (λ rest. on_other inactive active f rest) none
  where
    by : (b : Bool) → (has_page inactive f ≡ false → has_page (inactive ++ active) f ≡ has_page active f) → (b || has_page inactive f) ≡ false
        → (b || has_page (inactive ++ active) f) ≡ has_page active f
    by true rest none = absurd (let bad : true ≡ false = none in cc)
    by false rest none = rest none

-- one page less is listed
pub listed_less : (f : ℕ) (old new : Queues) → is_queued old f ≡ true → new ≡ queues_except f old → listed_pages new + 1 ≤ listed_pages old
listed_less f old new is out = rw out (at (has_page old.inactive f) refl)
  where
    at : (first : Bool) → has_page old.inactive f ≡ first → listed_pages (queues_except f old) + 1 ≤ listed_pages old
    at true first =
        let less = one_less f old.inactive first in
        let others = except_fewer f old.active in
        omega arith
    at false first =
        let other : has_page old.active f ≡ true = sym (on_other old.inactive old.active f first) ∙ is in
        let less = one_less f old.active other in
        let others = except_fewer f old.inactive in
        omega arith

-- where a page is listed there is one
pub some_listed : (f : ℕ) (queues : Queues) → is_queued queues f ≡ true → 0 < listed_pages queues
some_listed f queues is = let less = listed_less f queues (queues_except f queues) is refl in omega arith

-- a page that is here is on a list
pub some_here : (parts : HostParts) (o p : ℕ) (row : PageRow) → Fit parts → row_at parts.resident o p ≡ Some row → row.here ≡ true
    → 0 < listed_pages parts.queues
some_here parts o p row fit found here = some_listed row.frame.0 parts.queues (fit.listed o p row found ∙ here)
