use Rattle.sms_proto.proofs.Adding.{added_letter}
use Rattle.sms_proto.proofs.kernel.Kernel.end.Goals as goal

pub returns-clause-adds : goal.returns-clause-adds
returns-clause-adds c = added_letter _ _ _ _ _ c.in_ok-push.ensures.ok c.sent.ensures tt
