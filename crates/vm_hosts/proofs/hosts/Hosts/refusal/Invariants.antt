use Rattle.vm_hosts.proofs.hosts.Hosts.refusal.Given as goal

abbrev pub ghost-takes_name : goal.ghost-takes_name
ghost-takes_name g a = g.given

abbrev pub ghost-refusal : goal.ghost-refusal
ghost-refusal g a = record { header = g.given.header; host = a.self.now.host.0; outside = g.given.outside; past = g.given.past }

abbrev pub ghost-pair_refusal : goal.ghost-pair_refusal
ghost-pair_refusal g a = g.given

abbrev pub ghost-maps_elsewhere : goal.ghost-maps_elsewhere
ghost-maps_elsewhere g a = g.given
