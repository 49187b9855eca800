use Rattle.std.proofs.Common.{◌<◌, length, rules}
use Rattle.std.specs.BinaryHeap.{heap_items}
use Rattle.pg_slots.proofs.Free.{lowest_given}
use Rattle.pg_slots.proofs.free_slots.FreeSlots.lowest.Goals as goal

pub returns-in-Some : goal.returns-in-Some
returns-in-Some c =
    let some : 0 < length (heap_items c.self.inside.given) = search rules in
    rw (← c.self.view_is) (lowest_given c.self.inside.count c.self.inside.unused _ _ c.in-Some.slot.now c.self.invariant.1 some c.in-Some.ensures.lookup
    (c.in-Some.ensures.greatest c.self.invariant.0))
