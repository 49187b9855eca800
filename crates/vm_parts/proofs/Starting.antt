-- The parts of a host fit each other before a page has come.
use Rattle.std.proofs.Common.{◌≡◌, ℕ, ◌<◌, false, [], get_or, length, replicate, ap, sym, ◌∙◌, subst, None}
use Rattle.std.proofs.lemmas.List.{get_or-replicate, length-replicate}
use Rattle.vm_frames.specs.Frames.{frame_count}
use Rattle.vm_queues.specs.Queues.{IsEmpty}
use Rattle.vm_resident.specs.Resident.{owner_of, row_at}
use Rattle.vm_base.proofs.Options.{none_of}
use Rattle.vm_parts.specs.Fits.{Fit}
use Rattle.vm_parts.specs.declared.parts.HostParts.{HostParts}

pub fit_new : (size n : ℕ) (parts : HostParts)
    → parts.frames ≡ record { pages = replicate n (replicate size 0); claims = replicate n false; wired = 0 } → parts.buffers.size ≡ size
    → ((o p : ℕ) → row_at parts.resident o p ≡ None) → ((f : ℕ) → owner_of parts.resident f ≡ None) → IsEmpty parts.queues → parts.queues.frames ≡ n → Fit parts
fit_new size n parts frames sized rows owners empty queues =
    let pages : parts.frames.pages ≡ replicate n (replicate size 0) = ap (λ z. z.pages) frames in
    let count : frame_count parts.frames ≡ n = ap (λ z. length z.claims) frames ∙ length-replicate n false in
    record {
      owned = record { at = λ o p row is. none_of (row_at parts.resident o p) row (rows o p) is };
      held = λ o p row is. none_of (row_at parts.resident o p) row (rows o p) is;
      listed = λ o p row is. none_of (row_at parts.resident o p) row (rows o p) is;
      unlisted = λ f none. empty f;
      unowned = λ f none. owners f;
      inside = λ o p row is. none_of (row_at parts.resident o p) row (rows o p) is;
      all_sized =
          λ f below. ap (λ z. length (get_or z f [])) pages
          ∙ (ap length (get_or-replicate n f (replicate size 0) [] (subst (λ (z : ℕ). f < z) count below)) ∙ (length-replicate size 0 ∙ sym sized));
      count = queues ∙ sym count;
      pages = ap length pages ∙ (length-replicate n (replicate size 0) ∙ sym count);
    }
