use Rattle.vm_explore.proofs.Lines.{counted_kept, counted_only, counted_there, counted_times}
use Rattle.vm_explore.proofs.counts.Table.count.Goals as goal

pub returns-clause-there : goal.returns-clause-there
returns-clause-there c = rw c.in_ok-put.ensures.ok (counted_there c.args.values.items c.args.order.now c.args.self.now)

pub returns-clause-kept : goal.returns-clause-kept
returns-clause-kept c = rw c.in_ok-put.ensures.ok (counted_kept c.args.values.items c.args.order.now c.args.self.now)

pub returns-clause-only : goal.returns-clause-only
returns-clause-only c = rw c.in_ok-put.ensures.ok (counted_only c.args.values.items c.args.order.now c.args.self.now)

pub returns-clause-times : goal.returns-clause-times
returns-clause-times c = rw c.in_ok-put.ensures.ok (counted_times c.args.values.items c.args.order.now c.args.self.now)
