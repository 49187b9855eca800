use Rattle.std.proofs.Common.{◌∙◌, ap, sym, subst, ◌∷◌, List, Some, true}
use Rattle.vm_model.specs.declared.event.Event.{Event}
use Rattle.sms_proto.specs.Kernels.{KernelFits}
use Rattle.sms_proto.proofs.Beginning.{fits_anew}
use Rattle.sms_proto.proofs.kernel.Kernel.begin_anew.Goals as goal

pub returns-clause-fits : goal.returns-clause-fits
returns-clause-fits c =
    subst (λ (l : List Event). KernelFits l (record c.args.self.now { control = c.args.control; live = true; want = Some c.args.want }))
    (sym (c.in_ok-push.ensures.ok ∙ ap (λ (e : Event). e ∷ c.args.events.now.items) c.begun.ensures))
    (fits_anew c.args.events.now.items c.args.self.now c.args.want c.args.control c.requires.fits c.requires.gone c.requires.next c.requires.idle
    c.requires.plain)
