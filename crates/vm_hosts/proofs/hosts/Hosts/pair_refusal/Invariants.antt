use Rattle.vm_hosts.proofs.hosts.Hosts.pair_refusal.Given as goal

abbrev pub ghost-home : goal.ghost-home
ghost-home g a = g.given

abbrev pub ghost-waits : goal.ghost-waits
ghost-waits g a = g.given
