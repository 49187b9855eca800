use Rattle.vm_hosts.proofs.hosts.Hosts.host_for.Given as goal

abbrev pub ghost-home : goal.ghost-home
ghost-home g a = g.given
