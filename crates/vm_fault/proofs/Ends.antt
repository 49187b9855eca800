-- What an access comes to that needs a frame, or gets one.
use Rattle.std.proofs.Common.{◌≡◌, ℕ, zero, suc, ◌<◌, refl, ap, ◌∙◌, subst, arith}
use Rattle.std.specs.Prelude.{◌≢◌}
use Rattle.vm_base.specs.declared.ids.FrameNo.{FrameNo}
use Rattle.vm_base.specs.declared.ids.PageKey.{PageKey}
use Rattle.vm_fault.specs.Faults.{KeepsPlan, References}
use Rattle.vm_frames.specs.Frames.{page_in}
use Rattle.vm_objects.specs.declared.row.PagerState.{PagerState}
use Rattle.vm_objects.specs.declared.row.PagerState.TheVariants as state
use Rattle.vm_parts.specs.Changes.{Brings, RaisesPage}
use Rattle.vm_parts.specs.Fits.{Fit}
use Rattle.vm_parts.specs.declared.parts.HostParts.{HostParts}
use Rattle.vm_parts.proofs.Changing.{changes_roomier}
use Rattle.vm_parts.proofs.Fitting.{fit_touched}
use Rattle.vm_queues.specs.Queues.{KeepsPages, Queues, with_reference}
use Rattle.vm_resident.specs.declared.page_row.PageRow.{PageRow}

-- a pager that was told, and may answer, is ready
pub is_ready : (s : PagerState) → s ≢ state.Without → s ≢ state.Sent → s ≡ state.Ready
is_ready state.Without told not = absurd (told refl)
is_ready state.Sent told not = absurd (not refl)
is_ready state.Ready told not = refl

pub positive : (n : ℕ) → 0 < n → (m : ℕ) × (n ≡ suc m)
positive zero some = absurd (omega arith)
positive (suc m) some = (m, refl)

-- the page in a frame is marked as referenced
pub references : (frame : FrameNo) (parts : HostParts) (qs : Queues) → Fit parts → qs ≡ with_reference frame.0 parts.queues → KeepsPages parts.queues qs
    → References frame parts (record parts { queues = qs })
references frame parts qs fit marks keeps =
    let frames = ap (λ z. z.frames) marks in
    record { is = refl; marks = marks; keeps = keeps; frames = frames; fit = fit_touched parts qs fit keeps frames }

-- where room was made for a page first

pub brings_roomier : (key : PageKey) (frame : FrameNo) (parts mid new : HostParts) → mid ≡ record parts { resident = mid.resident }
    → mid.resident.rows ≡ parts.resident.rows → Brings key frame mid new → Brings key frame parts new
brings_roomier key frame parts mid new is rows brings =
    changes_roomier key frame _ _ _ _ _ parts new mid.resident rows (subst (λ (z : HostParts). Brings key frame z new) is brings)

pub raises_roomier : (key : PageKey) (frame : FrameNo) (from : PageRow) (parts mid new : HostParts) → mid ≡ record parts { resident = mid.resident }
    → mid.resident.rows ≡ parts.resident.rows
    → RaisesPage key frame (page_in mid.frames from.frame.0) mid new → RaisesPage key frame (page_in parts.frames from.frame.0) parts new
raises_roomier key frame from parts mid new is rows raises =
    changes_roomier key frame _ _ _ _ _ parts new mid.resident rows (subst (λ (z : HostParts). RaisesPage key frame (page_in z.frames from.frame.0) z new) is
    raises)

pub plan_roomier : (parts mid new : HostParts) → mid ≡ record parts { resident = mid.resident } → Fit new → new.objects ≡ mid.objects
    → new.buffers ≡ mid.buffers → KeepsPlan parts new
plan_roomier parts mid new is fit objects buffers =
    record { fit = fit; objects = objects ∙ ap (λ (z : HostParts). z.objects) is; buffers = buffers ∙ ap (λ (z : HostParts). z.buffers) is }
