use Rattle.vm_kernel.proofs.Common.{LegalEvents, Plays, length, paging, ◌++◌, ◌≡◌}
use Rattle.vm_kernel.specs.Destroying.{AllUnserved, FailsOnly, StandOrFell}
use Rattle.vm_kernel.specs.Matches.{Undone}
use Rattle.vm_kernel.specs.Rooms.{Spends}
use Rattle.vm_kernel.proofs.parts.Parts.fail_unserved.Given as goal

abbrev pub invariant-all : goal.invariant-all
invariant-all g l = record {
  undone : Undone g.given.header g.given.host l.self l.ids (l.log.items ++ g.given.past);
  unserved : AllUnserved l.self;
  standing : StandOrFell g.given.header l.self (l.log.items ++ g.given.past);
  goes : LegalEvents g.given.header g.given.host g.given.outside g.given.command g.given.past l.fn.log.items l.log.items;
  only : FailsOnly l.fn.log.items l.log.items;
  plays : Plays g.given.header g.given.past l.fn.log.items (paging l.fn.self) l.log.items (paging l.self);
  queue : l.self.waits.queue ≡ l.fn.self.waits.queue;
  spends : Spends 0 0 0 l.fn.self l.fn.log l.self l.log;
  same : l.self ≡ record l.fn.self { waits = l.self.waits };
}

abbrev pub decreases-all : goal.decreases-all
decreases-all g l = length l.self.waits.rows

abbrev pub ghost-end_unserved : goal.ghost-end_unserved
ghost-end_unserved g a = g.given
