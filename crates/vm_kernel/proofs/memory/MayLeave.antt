-- A page that may leave a host: what the history has of it.
use Rattle.vm_kernel.proofs.Common.{Bool, FrameTable, List, Local, PageRow, Some, [], ap, false, if◌then◌else◌, local_of_row, lock_number, page_in, true, ℕ}
use Rattle.vm_kernel.proofs.Common.{◌∙◌, ◌≡◌}

-- what the history has of a page that is here
pub record IsSeen (seen : Local) (row : PageRow) (bytes : List ℕ) : Type 0 where
  pub here : seen.here ≡ true
  pub bytes_are : seen.bytes ≡ bytes
  pub lock : seen.lock ≡ lock_number row.lock
  pub dirty : seen.dirty ≡ row.dirty
  pub precious : seen.precious ≡ row.precious
  pub unlocking : seen.unlocking ≡ row.unlock_sent

pub seen_here : (fs : FrameTable) (row : PageRow) (lacked : Bool) (seen : Local) → seen ≡ local_of_row fs (Some row) lacked → row.here ≡ true
    → IsSeen seen row (page_in fs row.frame.0)
seen_here fs row lacked seen is here =
    record {
      here = ap (λ z. z.here) is ∙ here;
      bytes_are = ap (λ z. z.bytes) is ∙ ap (λ b. if b then page_in fs row.frame.0 else []) here;
      lock = ap (λ z. z.lock) is;
      dirty = ap (λ z. z.dirty) is ∙ ap (λ b. if b then row.dirty else false) here;
      precious = ap (λ z. z.precious) is;
      unlocking = ap (λ z. z.unlocking) is;
    }
