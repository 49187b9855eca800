use Rattle.vm_base.proofs.Results.{on_ok}
use Rattle.vm_ports.proofs.links.put_ends.Goals as goal

pub returns-clause-ends : goal.returns-clause-ends
returns-clause-ends c = λ other. (on_ok c.insert.result _ c.insert.ensures.updates (c.insert.ensures.succeeds c.requires)).0 (record { 0 = other })
