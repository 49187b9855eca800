use Rattle.std.proofs.Common.{◌∷◌}
use Rattle.std.specs.BinaryHeap.{heap_items}
use Rattle.vm_merge.proofs.Heaps.{behind_top, first_in, in_front, least_top, losers_back, same_losers}
use Rattle.vm_merge.proofs.losers.Losers.pop.Goals as goal
use Rattle.vm_merge.proofs.losers.Losers.pop.Goals.{In_ok-top}
use Rattle.vm_merge.specs.Losing.{losers_of}

pub returns-clause-least : goal.returns-clause-least
returns-clause-least c =
    let top = c.in_ok-top.top in
    let before = heap_items c.self.inside.heap in
    let behind = heap_items c.pop.new.self in
    rw (← c.self.view_is) (
      losers_back before (top ∷ behind) c.in_ok-top.ensures.permutation top.0 (first_in top.0 (losers_of behind)),
      least_top top before (c.in_ok-top.ensures.heap_order c.self.invariant).1,
    )

pub returns-clause-rest : goal.returns-clause-rest
returns-clause-rest c =
    let top = c.in_ok-top.top in
    let before = heap_items c.self.inside.heap in
    let behind = heap_items c.pop.new.self in
    rw (← c.self.view_is) (λ other h. in_front top.0 other (losers_of behind) (same_losers before (top ∷ behind) c.in_ok-top.ensures.permutation other h))

pub returns-clause-no_other : goal.returns-clause-no_other
returns-clause-no_other c =
    let top = c.in_ok-top.top in
    let before = heap_items c.self.inside.heap in
    let behind = heap_items c.pop.new.self in
    rw (← c.self.view_is) (λ other h. losers_back before (top ∷ behind) c.in_ok-top.ensures.permutation other (behind_top top.0 other (losers_of behind) h))
