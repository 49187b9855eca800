use Rattle.vm_kernel.proofs.Common.{Plays, QueueIsStill, Sweeps, by_address, drop, length, paging, ◌++◌, ◌+◌, ◌≤◌}
use Rattle.vm_kernel.specs.Rooms.{HasBuffers, Spends, leaving}
use Rattle.vm_kernel.specs.Endings.{EndsSoFar}
use Rattle.vm_merge.specs.Merges.{IsThinBut}
use Rattle.vm_kernel.proofs.parts.Parts.sweep.Given as goal

abbrev pub ghost-release : goal.ghost-release
ghost-release g a =
    record {
      header = g.given.header;
      host = g.given.host;
      outside = g.given.outside;
      past = g.given.past;
      command = g.given.command;
      rest = drop (a.i + 1) (by_address a.gone.now);
    }

abbrev pub invariant-all : goal.invariant-all
invariant-all g l = record {
  sweeps : Sweeps g.given.header g.given.host g.given.outside g.given.command g.given.past l.self l.ids (drop l.i (by_address l.gone)) l.log.items;
  thin : IsThinBut l.self.copies l.losers.items l.self.chains l.self.memory.objects;
  count : length l.losers.items ≤ length l.fn.losers.items + l.i;
  room : l.fn.losers.room ≤ l.losers.room + l.i;
  plays : Plays g.given.header g.given.past l.fn.log.items (paging l.fn.self) l.log.items (paging l.self);
  quiet : QueueIsStill l.fn.self.waits.queue l.self.waits.queue l.fn.log.items l.log.items;
  ends : EndsSoFar g.given.header (l.fn.log.items ++ g.given.past) (by_address l.gone) (drop l.i (by_address l.gone)) l.fn.log.items l.log.items;
  spends : Spends (leaving l.fn.self l.ids) 0 (leaving l.self l.ids) l.fn.self l.fn.log l.self l.log;
  buffers : HasBuffers l.fn.self → HasBuffers l.self;
}
