use Rattle.vm_kernel.proofs.Common.{Parts, Rests, subst, sym, ◌∙◌}
use Rattle.vm_kernel.proofs.steps.Refusals.{for_here, maps_sized, refusal_is}
use Rattle.vm_kernel.proofs.kernel.Kernel.refusal.Goals as goal

pub refusal-requires : goal.refusal-requires
refusal-requires g c =
    let rests = subst (λ (z : Parts). Rests g.given.header g.given.host z c.args.ids.now g.given.past) (sym c.self.view_is) c.requires.0 in
    record {
      sized = maps_sized rests;
      here = for_here g.given.header g.given.host c.self.inside.parts c.args.ids.now g.given.past c.args.command.now rests
          c.requires.1.0 c.requires.1.1.0 c.requires.1.1.1.0;
    }

pub returns : goal.returns
returns g c =
    let rests = subst (λ (z : Parts). Rests g.given.header g.given.host z c.args.ids.now g.given.past) (sym c.self.view_is) c.requires.0 in
    c.refusal.ensures ∙ sym (refusal_is g.given.header g.given.host c.self.inside.parts c.args.ids.now g.given.past c.args.elsewhere c.args.command.now rests
    c.requires.1.0 c.requires.1.1.0 c.requires.1.1.1.1.0 c.requires.1.1.1.1.1.0 c.requires.1.1.1.1.1.1)
