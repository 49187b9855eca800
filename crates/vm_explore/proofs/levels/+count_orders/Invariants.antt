use Rattle.std.proofs.Common.{length}
use Rattle.vm_explore.proofs.levels.+count_orders.Given as goal

abbrev pub decreases-count_orders : goal.decreases-count_orders
decreases-count_orders l = length l.tasks.now
