use Rattle.std.proofs.Common.{arith}
use Rattle.vm_explore.proofs.Longer.{all_orders}
use Rattle.vm_explore.proofs.levels.orders.Goals as goal

pub returns-clause-all : goal.returns-clause-all
returns-clause-all c = (all_orders c.args.tasks.now c.in_ok-kinds.kinds.items c.loop.found.items c.loop.index c.in_ok-kinds.ensures c.loop.invariant
    (omega arith)).all

pub returns-clause-only : goal.returns-clause-only
returns-clause-only c = (all_orders c.args.tasks.now c.in_ok-kinds.kinds.items c.loop.found.items c.loop.index c.in_ok-kinds.ensures c.loop.invariant
    (omega arith)).only

pub returns-clause-apart : goal.returns-clause-apart
returns-clause-apart c = (all_orders c.args.tasks.now c.in_ok-kinds.kinds.items c.loop.found.items c.loop.index c.in_ok-kinds.ensures c.loop.invariant
    (omega arith)).apart
