use Rattle.vm_hosts.proofs.Behind.{first_of}
use Rattle.vm_hosts.proofs.hosts.Hosts.behind.Given as goal

abbrev pub ghost-laundered : goal.ghost-laundered
ghost-laundered g a =
    record {
      header = g.given.header;
      host = a.self.now.host.0;
      outside = g.given.outside;
      past = g.given.past;
      front = first_of g.given.front;
      command = g.given.command;
    }
