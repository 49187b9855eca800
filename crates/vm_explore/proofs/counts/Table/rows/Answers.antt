use Rattle.vm_explore.proofs.Counted.{rows_apart}
use Rattle.vm_explore.proofs.counts.Table.rows.Goals as goal

pub returns-clause-apart : goal.returns-clause-apart
returns-clause-apart c = rw c.deref.ensures.value (rows_apart c.self.inside.rows.items c.self.invariant.apart)
