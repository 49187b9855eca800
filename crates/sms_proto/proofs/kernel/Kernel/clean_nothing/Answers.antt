use Rattle.std.proofs.Common.{refl, ◌∙◌, ap}
use Rattle.vm_model.specs.declared.message.Message.{Message}
use Rattle.vm_model.specs.declared.event.Event.TheVariants.{Taken}
use Rattle.vm_model.specs.declared.message.Channel.TheVariants.{Down}
use Rattle.sms_proto.proofs.Adding.{adds_next, adds_none}
use Rattle.sms_proto.proofs.kernel.Kernel.clean_nothing.Goals as goal

pub returns-clause-adds : goal.returns-clause-adds
returns-clause-adds c =
    adds_next _ _ _ _ _ _ c.in_ok-push-2.ensures.ok c.done.ensures (refl, refl, refl)
    (adds_none _ _ _ _ _ c.in_ok-push.ensures.ok (c.taken.ensures
    ∙ ap (λ (m : Message). Taken (Down c.args.self.now.host (record { 0 = 0 }) c.args.self.now.control) m) c.lock.ensures))
