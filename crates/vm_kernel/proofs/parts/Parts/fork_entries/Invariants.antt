use Rattle.vm_kernel.proofs.Common.{Plays, QueueIsStill, paging, rows_in, ◌*◌, ◌+◌}
use Rattle.vm_kernel.proofs.space.ForkShares.{HasForked}
use Rattle.vm_kernel.specs.Rooms.{KeepsSpare, Spends}
use Rattle.vm_kernel.proofs.parts.Parts.fork_entries.Given as goal

abbrev pub invariant-all : goal.invariant-all
invariant-all g l = record {
  forked : HasForked g.given.header g.given.host g.given.outside l.task l.child (rows_in l.task.0 l.fn.self.maps) l.i g.given.past l.self l.ids l.log.items;
  plays : Plays g.given.header g.given.past l.fn.log.items (paging l.fn.self) l.log.items (paging l.self);
  spends : Spends (1 + 4 * l.i) (1 + 4 * l.i) 0 l.fn.self l.fn.log l.self l.log;
  spare : KeepsSpare l.fn.self l.self;
  quiet : QueueIsStill l.fn.self.waits.queue l.self.waits.queue l.fn.log.items l.log.items;
}
