use Rattle.std.proofs.Common.{◌≡◌, ◌+◌, ◌-◌, ◌≤◌, Some, length}
use Rattle.vm_objects.specs.Objects.{object_at}
use Rattle.vm_parts.specs.Fits.{Fit}
use Rattle.vm_parts.specs.Listed.{listed_pages}
use Rattle.vm_locks.proofs.Left.{AreLeft}
use Rattle.vm_locks.specs.Obeys.{LockState, PagesObey, lock_state}
use Rattle.vm_locks.proofs.pages.lock_pages.Given as goal

abbrev pub invariant-pages : goal.invariant-pages
invariant-pages g l = record {
  fit : Fit l.parts;
  known : object_at l.parts.objects l.object.0 ≡ Some l.known;
  low : l.request.page.0 ≤ l.from.0;
  size : l.parts.buffers.size ≡ l.fn.parts.buffers.size;
  left : AreLeft l.object.0 l.from.0 l.parts;
  room : listed_pages left.lists ≤ g.L.Holder.room l.laundry;
  log : l.fn.log.room + listed_pages left.lists ≤ l.log.room + listed_pages l.fn.parts.queues;
  told : length l.log.items + listed_pages left.lists ≤ length l.fn.log.items + listed_pages l.fn.parts.queues;
  buffers : l.fn.parts.buffers.count + listed_pages left.lists ≤ l.parts.buffers.count + listed_pages l.fn.parts.queues;
  spare : l.fn.parts.resident.spare ≤ l.parts.resident.spare;
  rows : l.fn.parts.objects.rows ≤ l.parts.objects.rows;
  obey : (end : LockState) → PagesObey l.host l.object l.known.control l.request l.from.0
      (lock_state l.parts (g.L.Holder.held l.laundry) (g.L.Holder.room l.laundry) l.log.items) end
      → PagesObey l.host l.object l.known.control l.request l.request.page.0 (lock_state l.fn.parts (g.L.Holder.held l.fn.laundry)
      (g.L.Holder.room l.fn.laundry) l.fn.log.items) end;
}

abbrev pub decreases-pages : goal.decreases-pages
decreases-pages g l = l.request.page.0 + l.request.count - l.from.0
