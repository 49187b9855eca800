use Rattle.std.proofs.Common.{◌≡◌}
use Rattle.vm_queues.specs.Kept.{ArePageLists, page_lists}
use Rattle.vm_queues.specs.Queues.{balanced, shortage}
use Rattle.vm_queues.proofs.lists.balance.Given as goal

abbrev pub invariant-balance : goal.invariant-balance
invariant-balance l = record {
  kept : ArePageLists l.lists;
  balanced : balanced (page_lists l.lists) ≡ balanced (page_lists l.fn.lists);
}

abbrev pub decreases-balance : goal.decreases-balance
decreases-balance l = shortage (page_lists l.lists)
