use Rattle.std.proofs.Common.{◌≡◌, ℕ, ◌≤◌, ◌+◌, length, Some}
use Rattle.vm_base.specs.declared.ids.ObjectKind.TheVariants.{Temp}
use Rattle.vm_objects.specs.Objects.{object_at}
use Rattle.vm_objects.specs.declared.row.ObjectRow.{ObjectRow}
use Rattle.vm_parts.specs.Listed.{listed_pages}
use Rattle.vm_shadow.specs.Chains.{height}
use Rattle.vm_terminate.proofs.Walking.{HasComeTo}
use Rattle.vm_terminate.specs.Counts.{EndBelow, UsesRoom, live_below}
use Rattle.vm_terminate.specs.Finishes.{EndsWith, FinishState, Finishes, left_of}
use Rattle.vm_terminate.specs.Steps.{finish_state}
use Rattle.vm_terminate.proofs.finishing.finish.Given as goal

abbrev pub invariant-down : goal.invariant-down
invariant-down g l = record {
  come : HasComeTo l.fn.object.0 (finish_state l.fn.parts l.fn.chains l.fn.copies (g.L.Holder.held l.fn.laundry) (g.L.Holder.room l.fn.laundry) l.fn.log.items)
      (finish_state l.parts l.chains l.copies (g.L.Holder.held l.laundry) (g.L.Holder.room l.laundry) l.log.items) l.ending.0;
  so_far : (end : FinishState)
      → (more : Finishes l.host l.ending (finish_state l.parts l.chains l.copies (g.L.Holder.held l.laundry) (g.L.Holder.room l.laundry) l.log.items) end)
      → (f : Finishes l.host l.fn.object
      (finish_state l.fn.parts l.fn.chains l.fn.copies (g.L.Holder.held l.fn.laundry) (g.L.Holder.room l.fn.laundry) l.fn.log.items) end)
      × (left_of f ≡ left_of more);
  uses : (n : ℕ) → EndBelow n l.fn.chains l.fn.parts.objects l.fn.object.0 → UsesRoom n l.fn.parts l.parts l.fn.chains l.chains l.fn.log.room l.log.room;
  saved : ((o : ℕ) (row : ObjectRow) → EndsWith l.fn.chains l.fn.parts.objects l.fn.object.0 o → object_at l.fn.parts.objects o ≡ Some row → row.kind ≡ Temp)
      → l.fn.parts.buffers.count ≤ l.parts.buffers.count;
  told : (n : ℕ) → EndBelow n l.fn.chains l.fn.parts.objects l.fn.object.0
      → length l.log.items + (listed_pages l.parts.queues + live_below l.parts.objects n) ≤ length
      l.fn.log.items + (listed_pages l.fn.parts.queues + live_below l.fn.parts.objects n);
  room : l.fn.copies.room ≤ l.copies.room;
  size : l.parts.buffers.size ≡ l.fn.parts.buffers.size;
}

abbrev pub decreases-down : goal.decreases-down
decreases-down g l = height l.fn.chains l.ending.0
