use Rattle.std.proofs.Common.{refl}
use Rattle.sms_proto.proofs.Adding.{added}
use Rattle.sms_proto.proofs.kernel.Kernel.store.Goals as goal

pub returns-clause-adds : goal.returns-clause-adds
returns-clause-adds c = added _ _ _ _ c.in_ok-push.ensures.ok (refl, refl, refl)
