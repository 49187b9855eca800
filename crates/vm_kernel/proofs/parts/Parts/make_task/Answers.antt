use Rattle.vm_kernel.proofs.Common.{ap, arith, length, refl}
use Rattle.vm_kernel.proofs.lists.ListsAsTold.{plays_told}
use Rattle.vm_kernel.proofs.steps.EventsGrow.{on_ok}
use Rattle.vm_kernel.proofs.space.TaskMade.{ran_task}
use Rattle.vm_kernel.proofs.room.CallsSpend.{never_err}
use Rattle.vm_kernel.proofs.parts.Parts.make_task.Goals as goal

pub returns-clause-ran : goal.returns-clause-ran
returns-clause-ran g c =
    on_ok c.push.result _ _
    (ran_task g.given.header g.given.host g.given.outside c.args.task g.given.past c.args.self.now c.args.ids.now c.args.log.now.items _ c.add_task.new.self
    c.requires c.in_ok-add_task.ensures.ok)
    c.push.ensures.ok

pub returns-clause-plays : goal.returns-clause-plays
returns-clause-plays g c = on_ok c.push.result _ _ (λ told. plays_told told refl) c.push.ensures.ok

pub returns-clause-spends : goal.returns-clause-spends
returns-clause-spends g c =
    on_ok c.push.result _ _
    (λ told. let one = ap length told in record {
      told = omega (arith, one);
      room = omega (arith, c.push.ensures.room);
      rows = omega arith;
      shadows = omega arith;
      objects = omega arith;
      copies = omega arith;
    })
    c.push.ensures.ok

pub returns-clause-err : goal.returns-clause-err
returns-clause-err g c = λ roomy. never_err c.push.result _ (c.push.ensures.succeeds (omega (arith, roomy.log)))
