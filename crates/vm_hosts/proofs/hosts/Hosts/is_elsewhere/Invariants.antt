use Rattle.vm_hosts.proofs.Files.{NoneKnows}
use Rattle.vm_hosts.proofs.hosts.Hosts.is_elsewhere.Given as goal

abbrev pub invariant-search : goal.invariant-search
invariant-search g l = NoneKnows l.self l.object.0 l.host.0 l.other
