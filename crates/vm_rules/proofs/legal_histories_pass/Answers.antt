use Rattle.vm_rules.proofs.Rules.{cut_passes}
use Rattle.vm_rules.proofs.legal_histories_pass.Goals as goal

pub returns-clause-cut : goal.returns-clause-cut
returns-clause-cut c = cut_passes
