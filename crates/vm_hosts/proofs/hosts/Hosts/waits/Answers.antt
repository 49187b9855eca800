use Rattle.vm_hosts.proofs.Common.{AllRest, HostTable, subst, sym, waits_here, ◌∙◌}
use Rattle.vm_hosts.proofs.Tables.{found}
use Rattle.vm_hosts.proofs.hosts.Hosts.waits.Goals as goal

pub returns : goal.returns
returns g c =
    let given = g.given in
    let hosts : HostTable = record { kernels = c.self.inside.kernels.items; ids = c.self.inside.ids } in
    let all : AllRest given.header hosts given.past = subst (λ (z : HostTable). AllRest given.header z given.past) (sym c.self.view_is) c.requires.0 in
    let at = found given.header hosts given.past c.args.host.0 c.index.result.now all (all.tasks c.args.task.0 c.args.host.0 c.requires.1) c.index.ensures in
    c.waits.ensures ∙ waits_here given.header c.args.host.0 c.index.result.now hosts.ids given.past (all.rests c.args.host.0 c.index.result.now at.at)
    c.args.task.0 c.requires.1
