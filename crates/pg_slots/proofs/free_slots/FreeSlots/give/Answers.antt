use Rattle.std.proofs.Common.{◌<◌, false, rules}
use Rattle.std.specs.BinaryHeap.{heap_capacity, heap_items, heap_len}
use Rattle.pg_slots.proofs.Free.{Changes, has_room, marks, pushed}
use Rattle.vm_base.proofs.Results.{on_ok}
use Rattle.pg_slots.proofs.free_slots.FreeSlots.give.Goals as goal
use Rattle.pg_slots.specs.Kept.{IsLowestFirst}

left : (c : goal.After-push) → IsLowestFirst (heap_items c.push.new.self)
    × Changes c.args.slot false (heap_capacity c.push.new.self) (marks c.self.inside.count c.self.inside.unused (heap_items c.self.inside.given))
    (marks c.self.inside.count c.self.inside.unused (heap_items c.push.new.self))
left c =
    let taken = rw (← c.self.view_is) at c.requires in
    let few = has_room c.self.inside.count c.self.inside.unused (heap_capacity c.self.inside.given) c.args.slot (heap_items c.self.inside.given)
    c.self.invariant.1 taken in
    let room : heap_len c.self.inside.given < heap_capacity c.self.inside.given = search rules in
    let ok = c.push.ensures.succeeds room in
    let moved = on_ok c.push.result _ c.push.ensures.permutation ok in (
      on_ok c.push.result _ c.push.ensures.heap_order ok c.self.invariant.0,
      pushed c.self.inside.count c.self.inside.unused (heap_capacity c.self.inside.given) (heap_capacity c.push.new.self) c.args.slot
          (heap_items c.self.inside.given) (heap_items c.push.new.self) c.self.invariant.1 c.push.ensures.capacity taken moved,
    )

pub invariant_of-self : goal.invariant_of-self
invariant_of-self c = ((left c).0, (left c).1.free)

pub returns-clause-taken : goal.returns-clause-taken
returns-clause-taken c = rw (← c.self.view_is) (left c).1.taken
