use Rattle.std.proofs.Common.{◌≡◌, ℕ, ◌-◌, ◌≤◌, false, List}
use Rattle.vm_base.specs.declared.ids.FrameNo.{FrameNo}
use Rattle.vm_copies.specs.Copies.{CopyTable}
use Rattle.vm_model.specs.declared.event.Event.{Event}
use Rattle.vm_parts.specs.Changes.{is_here}
use Rattle.vm_parts.specs.Fits.{Fit}
use Rattle.vm_resident.specs.Resident.{row_at}
use Rattle.vm_shadow.specs.Chains.{ChainTable}
use Rattle.vm_terminate.specs.Destroys.{PagesCancel}
use Rattle.vm_terminate.specs.Finishes.{FinishState}
use Rattle.vm_terminate.specs.Steps.{finish_state}
use Rattle.vm_terminate.proofs.destroying.cancel_pages.Given as goal

abbrev pub invariant-asked : goal.invariant-asked
invariant-asked l = record {
  fit : Fit l.parts;
  objects : l.parts.objects ≡ l.fn.parts.objects;
  buffers : l.parts.buffers ≡ l.fn.parts.buffers;
  queues : l.parts.queues ≡ l.fn.parts.queues;
  none : (p : ℕ) → is_here (row_at l.parts.resident l.object.0 p) ≡ false;
  spare : l.fn.parts.resident.spare ≤ l.parts.resident.spare;
  cancels : (chains : ChainTable) (copies : CopyTable) (held : List FrameNo) (room : ℕ) (events : List Event) (more : List ℕ) (end : FinishState)
      → PagesCancel l.object l.from.0 more (finish_state l.parts chains copies held room events) end
      → (asked : List ℕ) × PagesCancel l.object 0 asked (finish_state l.fn.parts chains copies held room events) end;
}

abbrev pub decreases-asked : goal.decreases-asked
decreases-asked l = l.pages - l.from.0
