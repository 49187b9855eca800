use Rattle.vm_hosts.proofs.hosts.Hosts.takes_name.Given as goal

abbrev pub ghost-home : goal.ghost-home
ghost-home g a = g.given
