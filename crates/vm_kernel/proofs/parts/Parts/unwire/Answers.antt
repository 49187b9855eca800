use Rattle.vm_kernel.proofs.Common.{ap, arith, length, refl, sym}
use Rattle.vm_kernel.proofs.lists.ListsAsTold.{plays_told}
use Rattle.vm_kernel.proofs.steps.EventsGrow.{on_ok}
use Rattle.vm_kernel.proofs.memory.FramesWired.{ran_unwire}
use Rattle.vm_kernel.proofs.room.EndsSpend.{framed}
use Rattle.vm_kernel.proofs.room.CallsSpend.{wired_count}
use Rattle.vm_kernel.proofs.parts.Parts.unwire.Goals as goal

pub returns-clause-ran : goal.returns-clause-ran
returns-clause-ran g c =
    on_ok c.tell_wired.result _ _
    (ran_unwire g.given.header g.given.host g.given.outside c.args.count g.given.past c.args.self.now c.args.ids.now c.args.log.now.items _ c.unwire.new.self
    c.unwire.result c.requires c.unwire.ensures.enough c.unwire.ensures.wired)
    c.tell_wired.ensures.told

pub returns-clause-plays : goal.returns-clause-plays
returns-clause-plays g c = on_ok c.tell_wired.result _ _ (λ told. plays_told told refl) c.tell_wired.ensures.told

pub returns-clause-spends : goal.returns-clause-spends
returns-clause-spends g c =
    let frames = framed c.args.self.now (sym (wired_count c.unwire.new.self c.args.self.now.memory.frames _ c.unwire.result c.unwire.ensures.wired)) in
    on_ok c.tell_wired.result _ _
    (λ told. let one = ap length told in record {
      told = omega (arith, one, frames);
      room = omega (arith, c.tell_wired.ensures.room, frames);
      rows = omega (arith, frames);
      shadows = omega arith;
      objects = omega arith;
      copies = omega arith;
    })
    c.tell_wired.ensures.told

pub returns-clause-succeeds : goal.returns-clause-succeeds
returns-clause-succeeds g c = λ roomy. c.tell_wired.ensures.succeeds (omega (arith, roomy.log))
