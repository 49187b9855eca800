use Rattle.vm_hosts.proofs.hosts.Hosts.maps_elsewhere.Given as goal

abbrev pub ghost-is_elsewhere : goal.ghost-is_elsewhere
ghost-is_elsewhere g a = g.given
