use Rattle.std.proofs.Common.{refl, ◌∙◌, ap, ◌∷◌}
use Rattle.vm_model.specs.declared.event.Event.{Event}
use Rattle.sms_proto.proofs.Adding.{added}
use Rattle.sms_proto.proofs.kernel.Kernel.drop_page.Goals as goal

pub returns-clause-adds : goal.returns-clause-adds
returns-clause-adds c = added _ _ _ _ (c.in_ok-push.ensures.ok ∙ ap (λ (e : Event). e ∷ c.args.events.now.items) c.dropped.ensures) (refl, refl, refl)
