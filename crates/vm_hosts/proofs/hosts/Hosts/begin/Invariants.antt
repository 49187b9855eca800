use Rattle.vm_hosts.proofs.hosts.Hosts.begin.Given as goal

abbrev pub ghost-begin : goal.ghost-begin
ghost-begin g a = record { header = g.given.header; host = a.self.now.host.0; outside = g.given.outside; past = g.given.past }

abbrev pub ghost-serve_all : goal.ghost-serve_all
ghost-serve_all g a = g.given
