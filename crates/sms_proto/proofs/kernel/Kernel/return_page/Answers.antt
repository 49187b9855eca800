use Rattle.std.proofs.Common.{refl, subst, sym}
use Rattle.vm_model.specs.declared.message.Message.{Message}
use Rattle.sms_proto.specs.Adds.{IsPageMessage}
use Rattle.sms_proto.proofs.Adding.{added_letter}
use Rattle.sms_proto.proofs.kernel.Kernel.return_page.Goals as goal

pub returns-clause-adds : goal.returns-clause-adds
returns-clause-adds c =
    added_letter _ _ _ _ _ c.in_ok-push.ensures.ok c.sent.ensures (subst (λ (m : Message). IsPageMessage m) (sym c.in_ok-message.ensures) refl)
