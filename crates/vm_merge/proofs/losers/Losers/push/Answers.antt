use Rattle.std.proofs.Common.{◌<◌, ◌∷◌, IsPermutation, arith}
use Rattle.std.specs.BinaryHeap.{heap_capacity, heap_items, heap_len}
use Rattle.vm_base.proofs.Results.{on_ok}
use Rattle.vm_merge.proofs.Heaps.{behind_top, first_in, same_losers}
use Rattle.vm_merge.proofs.losers.Losers.push.Goals as goal
use Rattle.vm_merge.proofs.losers.Losers.push.Goals.{After-push}
use Rattle.vm_merge.specs.Losing.{losers_of}

moved : (c : After-push) → IsPermutation (record { 0 = c.args.object } ∷ heap_items c.self.inside.heap) (heap_items c.push.new.self)
moved c =
    let some = rw (← c.self.view_is) at c.requires in
    let room : heap_len c.self.inside.heap < heap_capacity c.self.inside.heap = omega (arith, some) in
    on_ok c.push.result _ c.push.ensures.permutation (c.push.ensures.succeeds room)

pub returns-clause-added : goal.returns-clause-added
returns-clause-added c =
    same_losers (record { 0 = c.args.object } ∷ heap_items c.self.inside.heap) (heap_items c.push.new.self) (moved c) c.args.object
    (first_in c.args.object (losers_of (heap_items c.self.inside.heap)))

pub returns-clause-kept : goal.returns-clause-kept
returns-clause-kept c =
    rw (← c.self.view_is) (λ other h. same_losers (record { 0 = c.args.object } ∷ heap_items c.self.inside.heap) (heap_items c.push.new.self) (moved c) other
    (behind_top c.args.object other (losers_of (heap_items c.self.inside.heap)) h))
