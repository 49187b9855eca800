use Rattle.std.proofs.Common.{◌≡◌, ◌+◌, ◌-◌, ◌≤◌, Some}
use Rattle.vm_base.specs.declared.ids.ObjectKind.TheVariants as kind
use Rattle.vm_copies.specs.Copies.{CopyTable}
use Rattle.vm_objects.specs.Objects.{object_at}
use Rattle.vm_parts.specs.Fits.{Fit}
use Rattle.vm_parts.specs.Listed.{listed_pages}
use Rattle.vm_shadow.specs.Chains.{ChainTable}
use Rattle.vm_terminate.specs.Finishes.{FinishState, PagesLeave}
use Rattle.vm_terminate.specs.Steps.{AllHere, finish_state}
use Rattle.vm_terminate.proofs.pages.end_pages.Given as goal

abbrev pub invariant-pages : goal.invariant-pages
invariant-pages g l = record {
  fit : Fit l.parts;
  known : object_at l.parts.objects l.object.0 ≡ Some l.known;
  here : AllHere l.parts.resident l.object.0;
  room : listed_pages l.parts.queues ≤ g.L.Holder.room l.laundry;
  size : l.parts.buffers.size ≡ l.fn.parts.buffers.size;
  log : l.fn.log.room + listed_pages l.parts.queues ≤ l.log.room + listed_pages l.fn.parts.queues;
  buffers : l.fn.parts.buffers.count + listed_pages l.parts.queues ≤ l.parts.buffers.count + listed_pages l.fn.parts.queues;
  saved : l.known.kind ≡ kind.Temp → l.fn.parts.buffers.count ≤ l.parts.buffers.count;
  spare : l.fn.parts.resident.spare ≤ l.parts.resident.spare;
  rows : l.fn.parts.objects.rows ≤ l.parts.objects.rows;
  fewer : listed_pages l.parts.queues ≤ listed_pages l.fn.parts.queues;
  leave : (chains : ChainTable) (copies : CopyTable) (end : FinishState)
      → PagesLeave l.host l.object l.known l.from.0 (finish_state l.parts chains copies (g.L.Holder.held l.laundry) (g.L.Holder.room l.laundry) l.log.items) end
      → PagesLeave l.host l.object l.known 0
      (finish_state l.fn.parts chains copies (g.L.Holder.held l.fn.laundry) (g.L.Holder.room l.fn.laundry) l.fn.log.items) end;
}

abbrev pub decreases-pages : goal.decreases-pages
decreases-pages g l = l.known.pages - l.from.0
