use Rattle.std.proofs.Common.{◌≡◌, length}
use Rattle.vm_queues.specs.Kept.{ArePageLists, page_lists}
use Rattle.vm_queues.specs.Queues.{needs_none, referenced_front, spared}
use Rattle.vm_queues.proofs.lists.spare.Given as goal

abbrev pub invariant-spare : goal.invariant-spare
invariant-spare l = record {
  kept : ArePageLists l.lists;
  balanced : needs_none (page_lists l.lists);
  spared : spared (page_lists l.lists) ≡ spared (page_lists l.fn.lists);
}

abbrev pub decreases-spare : goal.decreases-spare
decreases-spare l = length (referenced_front (page_lists l.lists).inactive)
