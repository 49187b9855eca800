use Rattle.vm_kernel.proofs.Common.{◌++◌}
use Rattle.vm_kernel.proofs.steps.EventsGrow.{on_ok}
use Rattle.vm_kernel.proofs.steps.StepEnds.{prompt_of, queue_of}
use Rattle.vm_kernel.proofs.steps.QueueServed.{both_ok}
use Rattle.vm_kernel.proofs.steps.WhoSleeps.{none_sleeps}
use Rattle.vm_kernel.proofs.parts.Parts.go_on.Goals as goal

pub returns-clause-prompt : goal.returns-clause-prompt
returns-clause-prompt g c =
    both_ok c.serve.result _ _ _ (prompt_of g.given.header g.given.host c.serve.new.self c.serve.new.ids (c.serve.new.log.items ++ g.given.past))
    c.serve.ensures.rests c.serve.ensures.served

pub returns-clause-awake : goal.returns-clause-awake
returns-clause-awake g c =
    both_ok c.serve.result _ _ _
    (λ rests served. none_sleeps g.given.header g.given.host c.serve.new.self c.serve.new.ids (c.serve.new.log.items ++ g.given.past) rests
    (queue_of g.given.header g.given.host c.serve.new.self (c.serve.new.log.items ++ g.given.past) served))
    c.serve.ensures.rests c.serve.ensures.served

pub returns-clause-queue : goal.returns-clause-queue
returns-clause-queue g c =
    on_ok c.serve.result _ _ (queue_of g.given.header g.given.host c.serve.new.self (c.serve.new.log.items ++ g.given.past)) c.serve.ensures.served
