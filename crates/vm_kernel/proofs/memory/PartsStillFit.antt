-- The parts fit still, once a page and its frame have changed.
use Rattle.vm_kernel.proofs.Common.{ArePlain, Bool, Changes, Fit, FrameNo, HostParts, IfSome, IsPlainRow, List, Option, PageKey, PageRow, Parts, PartsFit}
use Rattle.vm_kernel.proofs.Common.{Queues, ap, false, inl, inr, row_cases, subst, sym, true, ℕ, ◌∙◌, ◌≡◌}

-- a row is plain, unless its page is here
abbrev pub IsPlainAway : PageRow → Type 0
IsPlainAway row = row.here ≡ false → IsPlainRow row

pub plain_here : (row : PageRow) → row.here ≡ true → IsPlainAway row
plain_here row here away = absurd (let bad : true ≡ false = sym here ∙ away in cc)

-- the rows of pages that are asked are plain still, once a page has such a row, or none
pub plain_changed : (key : PageKey) (frame : FrameNo) (was now : Option PageRow) (held : Bool) (bytes : List ℕ) (lists : Queues) (old new : HostParts)
    → ArePlain old.resident → Changes key frame was now held bytes lists old new → IfSome now IsPlainAway → ArePlain new.resident
plain_changed key frame was now held bytes lists old new plain c is o p row found =
    elim (row_cases key.object.0 key.page.0 now old.resident new.resident c.row o p) [
      | inl put ↦ subst (λ (z : Option PageRow). IfSome z IsPlainAway) (sym put.is ∙ found) is
      | inr other ↦ plain o p row (sym other.is ∙ found)
    ]

pub fits_changed : (key : PageKey) (frame : FrameNo) (was now : Option PageRow) (held : Bool) (bytes : List ℕ) (lists : Queues) (k : Parts) (memory : HostParts)
    → PartsFit k.memory k.size → Fit memory → memory.buffers ≡ k.memory.buffers
    → Changes key frame was now held bytes lists k.memory memory → IfSome now IsPlainAway → PartsFit memory k.size
fits_changed key frame was now held bytes lists k memory fits fit buffers c is =
    record {
      parts = fit;
      plain = plain_changed key frame was now held bytes lists k.memory memory fits.plain c is;
      buffers = ap (λ z. z.size) buffers
          ∙ fits.buffers;
    }
