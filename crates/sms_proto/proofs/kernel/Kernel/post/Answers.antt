use Rattle.std.proofs.Common.{◌≡◌, refl, sym, subst, ◌∙◌, ap, List, ◌∷◌, ◌&&◌, ◌==◌, arith}
use Rattle.std.proofs.lemmas.Grind.{common_steps}
use Rattle.std.proofs.lemmas.Bool.Decides.{nat_tests}
use Rattle.vm_model.specs.declared.event.Event.{Event}
use Rattle.vm_model.specs.declared.event.Event.TheVariants.{Sent}
use Rattle.vm_model.specs.declared.message.Channel.TheVariants.{Down}
use Rattle.vm_model.specs.declared.message.Message.{Message}
use Rattle.sms_proto.specs.Kernels.{KernelFits}
use Rattle.sms_proto.proofs.Mail.{fits_posted, posted}
use Rattle.sms_proto.proofs.kernel.Kernel.post.Goals as goal

pub returns-clause-fits : goal.returns-clause-fits
returns-clause-fits c =
    let items : c.push_back.new.self.items ≡ posted (c.args.self.now.live && c.args.self.now.control == c.args.self.now.heard) c.args.self.now.down.items
    c.args.order = grind (arith, common_steps, nat_tests) in
    subst (λ (e : List Event). KernelFits e (record c.args.self.now { down = c.push_back.new.self }))
    (sym (c.in_ok-push.ensures.ok ∙ ap (λ (m : Message). Sent (Down c.args.self.now.host (record { 0 = 0 }) c.args.self.now.heard) m ∷ c.args.events.now.items)
    c.requires.message))
    (fits_posted c.args.events.now.items c.args.self.now (record c.args.self.now { down = c.push_back.new.self }) c.args.order c.requires.fits refl items refl
    c.requires.whole)
