use Rattle.vm_hosts.proofs.Homes.{NotBelow}
use Rattle.vm_hosts.proofs.hosts.Hosts.home.Given as goal

abbrev pub invariant-search : goal.invariant-search
invariant-search g l = NotBelow l.host l.self l.task.0
