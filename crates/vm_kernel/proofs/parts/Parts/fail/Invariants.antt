use Rattle.vm_kernel.proofs.Common.{Asker, FailsNow, IsAnswered, LegalEvents, Plays, RunsNobody, Works, [], fails_access, length, paging, since, true, ◌++◌}
use Rattle.vm_kernel.proofs.Common.{◌≡◌}
use Rattle.std.proofs.Common.{◌⊎◌}
use Rattle.vm_supply.specs.declared.woken.Woken.TheVariants as woken
use Rattle.vm_kernel.specs.Rooms.{HasBuffers, Spends, leaving}
use Rattle.vm_kernel.proofs.controls.WaitersFail.{EndsBefore, EndsOr}
use Rattle.vm_kernel.proofs.parts.Parts.fail.Given as goal

abbrev pub invariant-all : goal.invariant-all
invariant-all g l = record {
  works : Works g.given.header g.given.host l.self l.ids (woken.Fails l.key) (l.log.items ++ g.given.past);
  fails : FailsNow g.given.header g.given.host (woken.Fails l.key) (l.log.items ++ g.given.past);
  answered : IsAnswered (woken.Fails l.key) l.self.memory.resident;
  before : EndsBefore l.key l.self.waits.rows (l.log.items ++ g.given.past);
  goes : LegalEvents g.given.header g.given.host g.given.outside g.given.command g.given.past l.fn.log.items l.log.items;
  plays : Plays g.given.header g.given.past l.fn.log.items (paging l.fn.self) l.log.items (paging l.self);
  each : EndsOr l.key l.fn.self.waits.rows l.self.waits.rows (l.log.items ++ g.given.past);
  some : (since (fails_access l.key.object.0 l.key.page.0) (l.log.items ++ g.given.past) ≡ true) ⊎ Asker l.self.waits.rows l.key.object.0 l.key.page.0;
  quiet : RunsNobody l.fn.self.waits.queue l.self.waits.queue l.fn.log.items l.log.items;
  spends : Spends (leaving l.fn.self l.ids) 0 (leaving l.self l.ids) l.fn.self l.fn.log l.self l.log;
  buffers : HasBuffers l.fn.self → HasBuffers l.self;
}

abbrev pub decreases-all : goal.decreases-all
decreases-all g l = length l.self.waits.rows

abbrev pub ghost-end_region : goal.ghost-end_region
ghost-end_region g a =
    record {
      header = g.given.header;
      host = g.given.host;
      outside = g.given.outside;
      past = g.given.past;
      command = g.given.command;
      who = woken.Fails g.given.page;
      rest = [];
    }
