use Rattle.std.proofs.Common.{◌∙◌, ap}
use Rattle.vm_model.specs.declared.message.Message.{Message}
use Rattle.vm_model.specs.declared.event.Event.TheVariants.{Taken}
use Rattle.vm_model.specs.declared.message.Channel.TheVariants.{Down}
use Rattle.sms_proto.proofs.Adding.{adds_none}
use Rattle.sms_proto.proofs.kernel.Kernel.take_unlock.Goals as goal

pub returns-clause-adds : goal.returns-clause-adds
returns-clause-adds c =
    adds_none _ _ _ _ _ c.in_ok-push.ensures.ok (c.taken.ensures
    ∙ ap (λ (m : Message). Taken (Down c.args.self.now.host (record { 0 = 0 }) c.args.self.now.control) m) c.lock.ensures)
