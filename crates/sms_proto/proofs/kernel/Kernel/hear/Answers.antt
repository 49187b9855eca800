use Rattle.std.proofs.Common.{◌≡◌, refl, sym, subst, ◌∙◌, ap, List, ◌∷◌, arith}
use Rattle.std.proofs.lemmas.Grind.{common_steps}
use Rattle.vm_model.specs.declared.event.Event.{Event}
use Rattle.vm_model.specs.declared.event.Event.TheVariants.{Taken}
use Rattle.vm_model.specs.declared.message.Channel.TheVariants.{Up}
use Rattle.vm_model.specs.declared.message.Message.{Message}
use Rattle.sms_proto.specs.Kernels.{KernelFits}
use Rattle.sms_proto.proofs.Mail.{fits_heard}
use Rattle.sms_proto.proofs.kernel.Kernel.hear.Goals as goal

pub returns-clause-fits : goal.returns-clause-fits
returns-clause-fits c = λ l fits first message heard.
    let items : c.args.self.now.up.items ≡ l ∷ c.pop_front.new.self.items = grind (arith, common_steps) in
    subst (λ (e : List Event). KernelFits e (record c.args.self.now { up = c.pop_front.new.self; heard = c.args.heard }))
    (sym (c.in_ok-push.ensures.ok ∙ ap (λ (m : Message). Taken (Up c.args.self.now.host (record { 0 = 0 })) m ∷ c.args.events.now.items) message))
    (fits_heard c.args.events.now.items c.args.self.now (record c.args.self.now { up = c.pop_front.new.self; heard = c.args.heard }) l fits items refl heard)
