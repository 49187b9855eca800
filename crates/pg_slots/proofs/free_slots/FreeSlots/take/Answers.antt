use Rattle.std.proofs.Common.{◌<◌, true, length, rules}
use Rattle.std.specs.BinaryHeap.{heap_capacity, heap_items}
use Rattle.pg_slots.proofs.Free.{Changes, found_lowest, marks, popped_lowest}
use Rattle.pg_slots.proofs.free_slots.FreeSlots.take.Goals as goal
use Rattle.pg_slots.specs.Kept.{IsLowestFirst}

left : (c : goal.Else-is_none) → IsLowestFirst (heap_items c.pop.new.self)
    × Changes c.args.slot true (heap_capacity c.self.inside.given) (marks c.self.inside.count c.self.inside.unused (heap_items c.self.inside.given))
    (marks c.self.inside.count c.self.inside.unused (heap_items c.pop.new.self))
left c =
    let low = found_lowest c.args.self.now c.lowest.result c.args.slot c.if-ne.ensures c.lowest.ensures in
    let full : 0 < length (heap_items c.self.inside.given) = search rules in
    popped_lowest c.self.inside.count c.self.inside.unused (heap_capacity c.self.inside.given) c.args.slot (heap_items c.self.inside.given)
    (heap_items c.pop.new.self) c.pop.result c.self.invariant.0 c.self.invariant.1 c.if-is_none.ensures full
    c.pop.ensures.top c.pop.ensures.permutation c.pop.ensures.heap_order (rw (← c.self.view_is) at low)

pub invariant_of-self-else-is_none : goal.invariant_of-self-else-is_none
invariant_of-self-else-is_none c = ((left c).0, rw c.pop.ensures.capacity (left c).1.free)

pub returns-else-is_none-clause-taken : goal.returns-else-is_none-clause-taken
returns-else-is_none-clause-taken c = rw (← c.self.view_is) (left c).1.taken
