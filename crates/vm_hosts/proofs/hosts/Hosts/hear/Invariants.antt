use Rattle.vm_hosts.proofs.Common.{◌++◌}
use Rattle.vm_hosts.proofs.hosts.Hosts.hear.Given as goal

abbrev pub ghost-take : goal.ghost-take
ghost-take g a =
    record {
      header = g.given.header;
      host = a.self.now.host.0;
      outside = g.given.outside;
      past = g.given.past;
      front = g.given.front;
      command = g.given.command;
    }

abbrev pub ghost-serve_all : goal.ghost-serve_all
ghost-serve_all g a = record { header = g.given.header; outside = g.given.outside; command = g.given.command; past = g.given.front ++ g.given.past }
