use Rattle.vm_hosts.proofs.Newest.{all_new}
use Rattle.vm_hosts.proofs.hosts.Hosts.new.Goals as goal

pub returns-clause-rests : goal.returns-clause-rests
returns-clause-rests c =
    rw (c.len-declared.ensures) (all_new c.args.header.now c.in_ok-kernels.kernels.items c.requires.ranged c.in_ok-kernels.ensures.made)

pub returns-clause-queues : goal.returns-clause-queues
returns-clause-queues c = c.in_ok-kernels.ensures.made.queues
