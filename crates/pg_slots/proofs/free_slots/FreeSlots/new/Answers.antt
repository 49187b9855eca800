use Rattle.pg_slots.proofs.Free.{none_given}
use Rattle.pg_slots.proofs.free_slots.FreeSlots.new.Goals as goal

pub invariant_of-result : goal.invariant_of-result
invariant_of-result c = (c.in_ok-given.ensures.heap_order, rw c.in_ok-given.ensures.items (none_given c.args.count _ c.in_ok-given.ensures.capacity))
