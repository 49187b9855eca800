use Rattle.vm_hosts.proofs.Common.{ActsOn, AllRest, HostTable, acts_on, ap, subst, sym, ◌∙◌}
use Rattle.vm_hosts.specs.Steps.{IsFoundOn}
use Rattle.vm_kernel.specs.Begun.{targets_here}
use Rattle.vm_kernel.specs.Refusing.{maps_elsewhere}
use Rattle.vm_hosts.proofs.Tables.{found}
use Rattle.vm_hosts.proofs.hosts.Hosts.refusal.Goals as goal

pub refusal-requires : goal.refusal-requires
refusal-requires g c =
    let given = g.given in
    let hosts : HostTable = record { kernels = c.self.inside.kernels.items; ids = c.self.inside.ids } in
    let all : AllRest given.header hosts given.past = subst (λ (z : HostTable). AllRest given.header z given.past) (sym c.self.view_is) c.requires.0 in
    let acts : ActsOn given.header c.in-Some.host.0 c.args.command.now given.past = subst (IsFoundOn given.header c.args.command.now given.past) c.in-Some.is
    c.requires.1.1.1 in
    let at = found given.header hosts given.past c.in-Some.host.0 c.index.result.now all acts.known c.index.ensures in (
      at.rests,
      (
        ap (λ z. acts_on z c.args.command.now given.past) at.number ∙ acts.acts,
        (
          ap (λ z. targets_here z c.args.command.now given.past) at.number ∙ c.in_default-pair_refusal.ensures,
          (
            c.requires.1.0,
            (
              c.requires.1.1.0,
              (
                sym c.takes_name.ensures ∙ c.if-takes_name.false,
                c.maps_elsewhere-elsewhere.ensures
                    ∙ ap (λ z. maps_elsewhere given.header z c.args.command.now given.past) (sym at.number),
              ),
            ),
          ),
        ),
      ),
    )

pub returns : goal.returns
returns g c = c.refusal.ensures
