-- The pages of an object that are to be looked at yet, and how many there can be.
use Rattle.std.proofs.Common.{◌≡◌, ◌∙◌, ℕ, ◌+◌, ◌≤◌, true, false, Option, Some, inl, inr, refl, sym, arith}
use Rattle.vm_parts.proofs.Lists.{listed_less}
use Rattle.vm_parts.proofs.Rows.{not_shared, one_case, row_cases}
use Rattle.vm_parts.specs.Fits.{Fit}
use Rattle.vm_parts.specs.Listed.{listed_pages}
use Rattle.vm_parts.specs.declared.parts.HostParts.{HostParts}
use Rattle.vm_queues.proofs.Queued.{queued_removed}
use Rattle.vm_queues.specs.Queues.{Queues, is_queued, queues_except}
use Rattle.vm_resident.specs.Resident.{PutsRow, row_at}
use Rattle.vm_resident.specs.declared.page_row.PageRow.{PageRow}

-- each page of an object that is here, from one on, is on these lists
pub record AreLeft (object from : ℕ) (parts : HostParts) : Type 0 where
  pub lists : Queues
  pub queued : (p : ℕ) (row : PageRow) → from ≤ p → row_at parts.resident object p ≡ Some row → row.here ≡ true → is_queued lists row.frame.0 ≡ true

abbrev pub left_at_first : (object from : ℕ) (parts : HostParts) → Fit parts → AreLeft object from parts
left_at_first object from parts fit = record { lists = parts.queues; queued = λ p row low is here. fit.listed object p row is ∙ here }

-- a page that is asked is passed over
abbrev pub left_behind : (object from page : ℕ) (parts : HostParts) → from ≤ page → AreLeft object from parts → AreLeft object (page + 1) parts
left_behind object from page parts low left = record { lists = left.lists; queued = λ p row above is here. left.queued p row (omega arith) is here }

-- a page that is here has changed or gone, and needs no room any more
abbrev pub left_less : (object from page : ℕ) (row : PageRow) (now : Option PageRow) (old new : HostParts) → Fit old → from ≤ page
    → row_at old.resident object page ≡ Some row → PutsRow object page now old.resident new.resident
    → AreLeft object from old → AreLeft object (page + 1) new
left_less object from page row now old new fit low found put left =
    record {
      lists = queues_except row.frame.0 left.lists;
      queued = λ p r above is here. elim (row_cases object page now old.resident new.resident put object p) [
        | inl same ↦ absurd (let e = same.page in omega arith)
        | inr other ↦
            let was : row_at old.resident object p ≡ Some r = sym other.is ∙ is in
            elim (one_case row.frame.0 r.frame.0 false _ _ (queued_removed row.frame.0 left.lists (queues_except row.frame.0 left.lists) refl r.frame.0)) [
              | inl shared ↦ absurd (not_shared old.resident object page object p row r fit.owned found was other.apart shared.0)
              | inr apart ↦ apart.1 ∙ left.queued p r (omega arith) was here
            ]
      ];
    }

-- the page that is looked at
pub one_left : (object from page : ℕ) (row : PageRow) (parts : HostParts) (left : AreLeft object from parts) → from ≤ page
    → row_at parts.resident object page ≡ Some row → row.here ≡ true
    → listed_pages (queues_except row.frame.0 left.lists) + 1 ≤ listed_pages left.lists
one_left object from page row parts left low found here =
    listed_less row.frame.0 left.lists (queues_except row.frame.0 left.lists) (left.queued page row low found here) refl
