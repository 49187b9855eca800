use Rattle.vm_kernel.proofs.Common.{first_in_queue}
use Rattle.vm_kernel.specs.Plays.{SparesSource}
use Rattle.vm_kernel.proofs.parts.Parts.stops.Given as goal

abbrev pub ghost-reclaim : goal.ghost-reclaim
ghost-reclaim g a =
    record {
      header = g.given.header;
      host = g.given.host;
      outside = g.given.outside;
      past = g.given.past;
      command = g.given.command;
      by = SparesSource (first_in_queue a.self.now.waits.queue);
    }
