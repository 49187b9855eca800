-- The pages that a lock request leaves as they are.
use Rattle.std.specs.Prelude.{ℕ, ◌≡◌, ◌+◌, ◌<◌, ◌≤◌, false, Some, IsSome}
use Rattle.vm_parts.specs.Changes.{relocked}
use Rattle.vm_resident.specs.Resident.{ResidentTable, row_at}
use Rattle.vm_resident.specs.declared.page_row.PageRow.{PageRow}
use Rattle.vm_locks.specs.Obeys.{act_on}
use Rattle.vm_locks.specs.declared.request.LockRequest.{LockRequest}

-- a page with this row stays where it is here, and its row is what it was
pub record IsLeft (request : LockRequest) (row : PageRow) : Type 0 where
  pub act : act_on request row ≡ record { give_back = false; remove = false }
  pub same : relocked request.lock false row ≡ row

-- each page of the range from one on is left
abbrev pub LeavesRest : LockRequest → ResidentTable → ℕ → ℕ → Type 0
LeavesRest request table object from = (q : ℕ) (row : PageRow) → from ≤ q → q < request.page.0 + request.count → row_at table object q ≡ Some row
    → IsLeft request row

-- each page of the range is left from one on, up to this one, which has a row
pub record IsNextFor (request : LockRequest) (table : ResidentTable) (object from page : ℕ) : Type 0 where
  pub low : from ≤ page
  pub inside : page < request.page.0 + request.count
  pub there : IsSome (row_at table object page)
  pub left : (q : ℕ) (row : PageRow) → from ≤ q → q < page → row_at table object q ≡ Some row → IsLeft request row
