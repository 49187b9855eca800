use Rattle.std.proofs.Common.{◌≡◌, ℕ, ◌+◌, ◌-◌, ◌<◌, ◌≤◌, false, List, length}
use Rattle.vm_base.specs.declared.ids.FrameNo.{FrameNo}
use Rattle.vm_copies.specs.Copies.{CopyTable}
use Rattle.vm_parts.specs.Changes.{is_here}
use Rattle.vm_parts.specs.Fits.{Fit}
use Rattle.vm_parts.specs.Listed.{listed_pages}
use Rattle.vm_resident.specs.Resident.{row_at}
use Rattle.vm_shadow.specs.Chains.{ChainTable}
use Rattle.vm_terminate.specs.Destroys.{PagesDrop, here_below}
use Rattle.vm_terminate.specs.Finishes.{FinishState}
use Rattle.vm_terminate.specs.Steps.{NoneHereFrom, finish_state}
use Rattle.vm_terminate.proofs.destroying.drop_pages.Given as goal

abbrev pub invariant-pages : goal.invariant-pages
invariant-pages l = record {
  fit : Fit l.parts;
  objects : l.parts.objects ≡ l.fn.parts.objects;
  buffers : l.parts.buffers ≡ l.fn.parts.buffers;
  behind : (p : ℕ) → p < l.from.0 → is_here (row_at l.parts.resident l.object.0 p) ≡ false;
  ahead : (p : ℕ) → l.from.0 ≤ p → row_at l.parts.resident l.object.0 p ≡ row_at l.fn.parts.resident l.object.0 p;
  log : l.fn.log.room + listed_pages l.parts.queues ≤ l.log.room + listed_pages l.fn.parts.queues;
  left : (n : ℕ) → NoneHereFrom l.fn.parts.resident l.object.0 n
      → l.fn.log.room + here_below l.parts.resident l.object.0 n ≤ l.log.room + here_below l.fn.parts.resident l.object.0 n;
  told : length l.log.items + listed_pages l.parts.queues ≤ length l.fn.log.items + listed_pages l.fn.parts.queues;
  fewer : listed_pages l.parts.queues ≤ listed_pages l.fn.parts.queues;
  spare : l.fn.parts.resident.spare ≤ l.parts.resident.spare;
  drops : (chains : ChainTable) (copies : CopyTable) (held : List FrameNo) (room : ℕ) (end : FinishState)
      → PagesDrop l.host l.object l.from.0 (finish_state l.parts chains copies held room l.log.items) end
      → PagesDrop l.host l.object 0 (finish_state l.fn.parts chains copies held room l.fn.log.items) end;
}

abbrev pub decreases-pages : goal.decreases-pages
decreases-pages l = l.pages - l.from.0
