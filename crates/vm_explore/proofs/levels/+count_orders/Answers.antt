use Rattle.std.proofs.Common.{arith}
use Rattle.std.proofs.lemmas.List.{length-drop}
use Rattle.vm_explore.proofs.Longer.{orders_few}
use Rattle.vm_explore.proofs.levels.+count_orders.Goals as goal

pub overflow_mul-result : goal.overflow_mul-result
overflow_mul-result t c = omega (arith, orders_few _ c.count_orders.result _ c.count_orders.ensures (omega (arith, length-drop 1 c.args.tasks.now)) c.requires)
