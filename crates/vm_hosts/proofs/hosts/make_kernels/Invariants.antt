use Rattle.vm_hosts.proofs.Common.{AreNew}
use Rattle.vm_hosts.proofs.hosts.make_kernels.Given as goal

abbrev pub invariant-hosts : goal.invariant-hosts
invariant-hosts l = AreNew l.header l.host l.kernels.items
