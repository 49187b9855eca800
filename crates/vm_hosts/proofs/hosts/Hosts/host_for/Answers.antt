use Rattle.vm_hosts.proofs.Common.{Command, HostId, MatchOption, Some, refusal, subst, sym, ◌≡◌}
use Rattle.vm_base.specs.declared.code.Code.TheVariants.{NoSuchName}
use Rattle.vm_hosts.specs.Steps.{ActsOn}
use Rattle.vm_hosts.proofs.Pairs.{copy_home}
use Rattle.vm_hosts.proofs.hosts.Hosts.host_for.Goals as goal

pub returns-in-Copy : goal.returns-in-Copy
returns-in-Copy g c =
    subst (λ (z : Command). MatchOption c.home-in-Copy.result (refusal g.given.header g.given.past z ≡ Some NoSuchName)
    (λ (h : HostId). ActsOn g.given.header h.0 z g.given.past)) (sym c.in-Copy.is)
    (copy_home g.given.header g.given.past c.in-Copy.task c.in-Copy.address c.in-Copy.bytes c.in-Copy.target c.in-Copy.to c.home-in-Copy.result
    c.home-in-Copy.ensures (c.requires.0.tasks c.in-Copy.task.0))
