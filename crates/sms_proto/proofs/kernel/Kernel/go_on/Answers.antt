use Rattle.sms_proto.specs.Adds.{Same}
use Rattle.sms_proto.proofs.kernel.Kernel.go_on.Goals as goal

pub returns-in_default-clause-adds : goal.returns-in_default-clause-adds
returns-in_default-clause-adds c = Same

pub returns-then-self-clause-adds : goal.returns-then-self-clause-adds
returns-then-self-clause-adds c = Same

pub returns-then-self-2-clause-adds : goal.returns-then-self-2-clause-adds
returns-then-self-2-clause-adds c = Same
