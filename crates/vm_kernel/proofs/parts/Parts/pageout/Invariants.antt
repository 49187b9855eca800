use Rattle.vm_kernel.proofs.Common.{QueueIsStill, first_in_queue, paging}
use Rattle.vm_kernel.proofs.lists.PageoutReclaims.{Reclaiming}
use Rattle.vm_kernel.proofs.lists.FramesSkipped.{Reclaimed}
use Rattle.vm_kernel.specs.Plays.{PlaysBy, SparesSourceSince}
use Rattle.vm_kernel.proofs.parts.Parts.pageout.Given as goal

abbrev pub ghost-source : goal.ghost-source
ghost-source g a = g.given

abbrev pub ghost-reclaim : goal.ghost-reclaim
ghost-reclaim g a =
    record {
      header = g.given.header;
      host = g.given.host;
      outside = g.given.outside;
      past = g.given.past;
      command = g.given.command;
      by = SparesSourceSince (first_in_queue a.self.now.waits.queue) g.given.past;
    }

abbrev pub invariant-pages : goal.invariant-pages
invariant-pages g l = record {
  reclaiming : Reclaiming g.given.header g.given.host g.given.outside g.given.command l.count l.counter l.first g.given.past l.self l.ids l.log.items;
  plays : PlaysBy g.given.header (SparesSourceSince (first_in_queue l.fn.self.waits.queue) g.given.past) g.given.past l.fn.log.items (paging l.fn.self)
      l.log.items (paging l.self);
  reclaimed : Reclaimed l.counter l.fn.self l.self l.fn.log l.log;
  quiet : QueueIsStill l.fn.self.waits.queue l.self.waits.queue l.fn.log.items l.log.items;
}
