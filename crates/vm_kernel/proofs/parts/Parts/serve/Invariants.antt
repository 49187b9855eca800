use Rattle.vm_kernel.proofs.Common.{KeepsOthers, LegalEvents, Rests, claimed, frame_count, length, queued, ℕ, ◌*◌, ◌++◌, ◌+◌, ◌≡◌, ◌≤◌}
use Rattle.vm_kernel.proofs.steps.FramesInTurn.{Serving}
use Rattle.vm_kernel.specs.Rooms.{ServeRoom, dues}
use Rattle.vm_kernel.specs.Serving.{pages_to_copy}
use Rattle.vm_kernel.proofs.parts.Parts.serve.Given as goal

abbrev pub ghost-attempt : goal.ghost-attempt
ghost-attempt g a = g.given

abbrev pub ghost-stops : goal.ghost-stops
ghost-stops g a = g.given

abbrev pub invariant-serve : goal.invariant-serve
invariant-serve g l = record {
  rests : Rests g.given.header g.given.host l.self l.ids (l.log.items ++ g.given.past);
  goes : LegalEvents g.given.header g.given.host g.given.outside g.given.command g.given.past l.fn.log.items l.log.items;
  others : KeepsOthers l.fn.self.waits.queue l.fn.self.waits.rows l.self.waits.rows;
  room : (more : ℕ) → ServeRoom more l.fn.self l.fn.log.room → ServeRoom more l.self l.log.room;
  few : length l.log.items + dues l.self ≤ length l.fn.log.items + dues l.fn.self;
  idle : queued l.fn.self.waits.rows ≡ 0 → (l.self ≡ l.fn.self) × ((l.ids ≡ l.fn.ids) × (l.log ≡ l.fn.log));
  serving : Serving g.given.header g.given.past l.fn.self l.self l.fn.log.items l.log.items;
}

abbrev pub decreases-serve : goal.decreases-serve
decreases-serve g l = queued l.self.waits.rows * (frame_count l.self.memory.frames + 1) + claimed l.self.memory.frames + pages_to_copy l.self.waits.rows
