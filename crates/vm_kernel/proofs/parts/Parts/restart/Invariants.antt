use Rattle.vm_kernel.proofs.Common.{IsNextAccess, LegalEvents, Plays, RunsNoneYet, Works, count_again, length, paging, ℕ, ◌++◌, ◌+◌, ◌≤◌}
use Rattle.vm_kernel.proofs.steps.FoundPageEnds.{FirstOf}
use Rattle.vm_kernel.proofs.steps.FramesInTurn.{Restarting}
use Rattle.vm_kernel.specs.Rooms.{HasRoom, KeepsSpare, dues}
use Rattle.vm_supply.specs.declared.woken.Woken.TheVariants as woken
use Rattle.vm_kernel.proofs.parts.Parts.restart.Given as goal

abbrev pub ghost-attempt : goal.ghost-attempt
ghost-attempt g a = g.given

abbrev pub invariant-again : goal.invariant-again
invariant-again g l = record {
  works : Works g.given.header g.given.host l.self l.ids woken.Nobody (l.log.items ++ g.given.past);
  goes : LegalEvents g.given.header g.given.host g.given.outside g.given.command g.given.past l.fn.log.items l.log.items;
  plays : Plays g.given.header g.given.past l.fn.log.items (paging l.fn.self) l.log.items (paging l.self);
  first : (task : ℕ) → IsNextAccess task l.fn.self.waits.rows
      → FirstOf g.given.header task g.given.past l.fn.self.waits.rows l.self.waits.rows l.fn.log.items l.log.items;
  room : (more : ℕ) → HasRoom more l.fn.self l.fn.log.room → HasRoom more l.self l.log.room;
  spare : KeepsSpare l.fn.self l.self;
  few : length l.log.items + dues l.self ≤ length l.fn.log.items + dues l.fn.self;
  restarts : RunsNoneYet l.fn.log.items → Restarting g.given.header g.given.host g.given.past l.fn.self.waits.queue l.self.waits l.log.items;
}

abbrev pub decreases-again : goal.decreases-again
decreases-again g l = count_again l.self.waits.rows
