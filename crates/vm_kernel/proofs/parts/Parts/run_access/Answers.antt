use Rattle.vm_kernel.proofs.Common.{On, PageKey, Some, [], ap, arith, count_again, false, is_frame, one_again, one_frame, queue_without, queued, refl, rules}
use Rattle.vm_kernel.proofs.Common.{subst, true, with_on, ◌++◌, ◌+◌, ◌∙◌, ◌∷◌, ◌≡◌, ◌≤◌, ◌⊎◌}
use Rattle.vm_fault.specs.declared.step.FaultStep.TheVariants as step
use Rattle.vm_waits.proofs.Copies.{copies_some}
use Rattle.vm_waits.specs.Waits.{count_copies, with_want}
use Rattle.vm_waits.specs.declared.waiting.On.TheVariants as on
use Rattle.vm_kernel.proofs.room.RoomForRun.{as_many_run, copies_gone, copies_on, copies_turn, cost_most, few_left, few_wanting}
use Rattle.vm_kernel.proofs.room.RoomForRun.{keeps_both, pays_run, room_left, room_to_end, room_to_run, room_wanting, run_spare, some_run, tells_end}
use Rattle.vm_kernel.proofs.steps.FramesClaimed.{WaitsOn, once_joins, once_queued, once_turned, waits_page, waits_ready, waits_word, word_over}
use Rattle.vm_kernel.proofs.steps.FoundPageEnds.{ends_next}
use Rattle.vm_kernel.proofs.steps.WhereAccessLeads.{can_fault}
use Rattle.vm_kernel.proofs.steps.RowsInOrder.{PutsInOrder}
use Rattle.vm_kernel.proofs.room.RunPays.{runs_kind}
use Rattle.vm_kernel.proofs.steps.PagesLeft.{left_goes_on, left_gone, left_turns, left_turns_less, once_of}
use Rattle.vm_kernel.proofs.steps.PageByPage.{left_at_end, pagewise}
use Rattle.vm_kernel.proofs.lists.ListsAsTold.{plays_attempt}
use Rattle.vm_kernel.proofs.steps.AfterRun.{can_end, done_runs, ends_last, if_row, joins_queue, keeps_rest, noted, noted_gone, noted_row, noted_turned}
use Rattle.vm_kernel.proofs.steps.AfterRun.{once_ended, page_runs, queued_runs, ready_runs, word_runs}
use Rattle.vm_kernel.proofs.steps.FaultStates.{with_state}
use Rattle.vm_kernel.specs.Serving.{LeavesFrameQueue, waits_at}
use Rattle.vm_kernel.proofs.parts.Parts.run_access.Goals as goal
use Rattle.vm_kernel.proofs.parts.Parts.run_access.Goals.{in-Ask, in-Ask-2, in-WaitAnswer, in-WaitReady}

pub fault-requires : goal.fault-requires
fault-requires g c = can_fault g.given.header g.given.host _ _ _ _ c.args.waiting _ c.requires.0 c.requires.1.0

pub waits_at-on-requires : goal.waits_at-on-requires
waits_at-on-requires g c = record { allowed = c.requires.0.waits.allowed c.args.waiting.task.0 c.args.waiting c.requires.1.0 }

pub end_copy-requires : goal.end_copy-requires
end_copy-requires g c =
    can_end g.given.header g.given.host g.given.outside g.given.command g.given.past c.args.self.now _ c.args.waiting c.args.may_claim c.in-Done.value _ _ _
    c.remove.new.self c.requires.0 c.requires.1.0 c.requires.1.1.0 (rw c.in-Done.is at c.in_ok-step.ensures.runs)

pub returns-in-Done-clause-works : goal.returns-in-Done-clause-works
returns-in-Done-clause-works g c =
    let w = c.args.waiting in
    let rows = c.args.self.now.waits.rows in
    let put = noted w c.fault.new.want rows c.set_want.new.self.rows c.requires.1.0 c.set_want.ensures.entry c.set_want.ensures.rows in
    (done_runs g.given.header g.given.host g.given.outside g.given.command g.given.past c.args.self.now c.end_copy.new.self _ w c.args.may_claim c.in-Done.value
    _ _ _ c.remove.new.self c.end_copy.new.log.items c.requires.0 c.requires.1.0 c.requires.1.1.0 c.requires.1.1.1
    (rw c.in-Done.is at c.in_ok-step.ensures.runs)
    (noted_gone w c.fault.new.want rows c.set_want.new.self.rows c.remove.new.self.rows put c.remove.ensures.entry c.remove.ensures.rows)
    c.in_ok-end_copy-in-Done.ensures.ends).works

pub returns-in-Done-clause-goes : goal.returns-in-Done-clause-goes
returns-in-Done-clause-goes g c =
    let w = c.args.waiting in
    let rows = c.args.self.now.waits.rows in
    let put = noted w c.fault.new.want rows c.set_want.new.self.rows c.requires.1.0 c.set_want.ensures.entry c.set_want.ensures.rows in
    (done_runs g.given.header g.given.host g.given.outside g.given.command g.given.past c.args.self.now c.end_copy.new.self _ w c.args.may_claim c.in-Done.value
    _ _ _ c.remove.new.self c.end_copy.new.log.items c.requires.0 c.requires.1.0 c.requires.1.1.0 c.requires.1.1.1
    (rw c.in-Done.is at c.in_ok-step.ensures.runs)
    (noted_gone w c.fault.new.want rows c.set_want.new.self.rows c.remove.new.self.rows put c.remove.ensures.entry c.remove.ensures.rows)
    c.in_ok-end_copy-in-Done.ensures.ends).goes

pub returns-in-Done-clause-ends : goal.returns-in-Done-clause-ends
returns-in-Done-clause-ends g c =
    ends_last g.given.header g.given.host g.given.past c.args.self.now c.end_copy.new.self _ c.args.waiting c.args.may_claim c.in-Done.value _ _
    c.end_copy.new.log.items _ c.remove.new.self c.requires.0 c.requires.1.0 (rw c.in-Done.is at c.in_ok-step.ensures.runs)
    c.in_ok-end_copy-in-Done.ensures.ends

pub returns-in-Done-clause-attempts : goal.returns-in-Done-clause-attempts
returns-in-Done-clause-attempts g c =
    let w = c.args.waiting in
    let old = c.args.self.now.waits.rows in
    let put = noted w c.fault.new.want old c.set_want.new.self.rows c.requires.1.0 c.set_want.ensures.entry c.set_want.ensures.rows in
    let there = noted_row w c.fault.new.want old c.set_want.new.self.rows put in
    let rest = keeps_rest w _ c.end_copy.new.self _ c.end_copy.new.log.items c.in_ok-end_copy-in-Done.ensures.ends in
    let agains = if_row c.set_want.new.self.rows w.task.0 (with_want w c.fault.new.want)
    (λ was. count_again c.remove.new.self.rows + one_again was.on ≡ count_again c.set_want.new.self.rows) there c.remove.ensures.again in
    let queues = if_row c.set_want.new.self.rows w.task.0 (with_want w c.fault.new.want)
    (λ was. queued c.remove.new.self.rows + one_frame was.on ≡ queued c.set_want.new.self.rows) there c.remove.ensures.queued in
    record {
      left =
          rw rest.waits (left_gone w.task.0 c.fault.new.want old c.set_want.new.self.rows c.remove.new.self.rows w (once_of _ 0 old c.requires.0.order)
          c.requires.1.0 c.set_want.ensures.rows c.remove.ensures.rows (left_at_end (pagewise c.in_ok-step.ensures.runs)));
      again = rw rest.waits (agains ∙ c.set_want.ensures.again);
      queued = rw rest.waits (queues ∙ c.set_want.ensures.queued);
      laundry = rest.laundry;
    }

pub returns-in-Done-clause-plays : goal.returns-in-Done-clause-plays
returns-in-Done-clause-plays g c =
    (keeps_rest c.args.waiting _ c.end_copy.new.self _ c.end_copy.new.log.items c.in_ok-end_copy-in-Done.ensures.ends).plays g.given.header g.given.past _ _
    (plays_attempt g.given.header g.given.past c.in_ok-step.ensures.runs)

pub returns-in-Done-clause-once : goal.returns-in-Done-clause-once
returns-in-Done-clause-once g c =
    let w = c.args.waiting in
    let rows = c.args.self.now.waits.rows in
    let put = noted w c.fault.new.want rows c.set_want.new.self.rows c.requires.1.0 c.set_want.ensures.entry c.set_want.ensures.rows in
    once_ended g.given.header g.given.host g.given.past c.args.self.now c.end_copy.new.self _ w c.args.may_claim c.in-Done.value _ _ c.end_copy.new.log.items _
    c.remove.new.self c.requires.0 c.requires.1.0 (rw c.in-Done.is at c.in_ok-step.ensures.runs) c.in_ok-step.ensures.still
    (noted_gone w c.fault.new.want rows c.set_want.new.self.rows c.remove.new.self.rows put c.remove.ensures.entry c.remove.ensures.rows).entry
    (c.remove.ensures.queue ∙ ap (queue_without w.task.0) c.set_want.ensures.queue) c.in_ok-end_copy-in-Done.ensures.ends

pub returns-then-ne-clause-works : goal.returns-then-ne-clause-works
returns-then-ne-clause-works g c =
    let w = c.args.waiting in
    let rows = c.args.self.now.waits.rows in
    let put = noted w c.fault.new.want rows c.set_want.new.self.rows c.requires.1.0 c.set_want.ensures.entry c.set_want.ensures.rows in
    (queued_runs g.given.header g.given.host g.given.outside g.given.command g.given.past c.args.self.now _ w c.args.may_claim c.in-NeedFrame.source _ _ _
    c.join_queue.new.self c.requires.0 c.requires.1.0 c.requires.1.1.0 (rw c.in-NeedFrame.is at c.in_ok-step.ensures.runs)
    (noted_turned w c.fault.new.want on.Frame rows c.set_want.new.self.rows c.join_queue.new.self.rows put c.join_queue.ensures.entry
    c.join_queue.ensures.rows)).works

pub returns-then-ne-clause-goes : goal.returns-then-ne-clause-goes
returns-then-ne-clause-goes g c =
    let w = c.args.waiting in
    let rows = c.args.self.now.waits.rows in
    let put = noted w c.fault.new.want rows c.set_want.new.self.rows c.requires.1.0 c.set_want.ensures.entry c.set_want.ensures.rows in
    (queued_runs g.given.header g.given.host g.given.outside g.given.command g.given.past c.args.self.now _ w c.args.may_claim c.in-NeedFrame.source _ _ _
    c.join_queue.new.self c.requires.0 c.requires.1.0 c.requires.1.1.0 (rw c.in-NeedFrame.is at c.in_ok-step.ensures.runs)
    (noted_turned w c.fault.new.want on.Frame rows c.set_want.new.self.rows c.join_queue.new.self.rows put c.join_queue.ensures.entry
    c.join_queue.ensures.rows)).goes

pub returns-then-ne-clause-ends : goal.returns-then-ne-clause-ends
returns-then-ne-clause-ends g c =
    ends_next g.given.header g.given.host g.given.past c.args.self.now _ c.args.waiting c.args.may_claim c.in_ok-step.step _ _ _ c.requires.0 c.requires.1.0
    c.in_ok-step.ensures.runs

pub returns-then-ne-clause-once : goal.returns-then-ne-clause-once
returns-then-ne-clause-once g c =
    let w = c.args.waiting in
    let rows = c.args.self.now.waits.rows in
    let other : is_frame w.on ≡ false = search rules in
    let put = noted w c.fault.new.want rows c.set_want.new.self.rows c.requires.1.0 c.set_want.ensures.entry c.set_want.ensures.rows in
    once_joins w c.args.may_claim c.in-NeedFrame.source c.args.self.now.waits c.join_queue.new.self (rw c.in-NeedFrame.is at c.in_ok-step.ensures.runs)
    c.in_ok-step.ensures.still other
    (noted_turned w c.fault.new.want on.Frame rows c.set_want.new.self.rows c.join_queue.new.self.rows put c.join_queue.ensures.entry
    c.join_queue.ensures.rows).entry
    (c.join_queue.ensures.queue ∙ ap (λ z. z ++ w.task ∷ []) c.set_want.ensures.queue)

pub returns-then-ne-clause-attempts : goal.returns-then-ne-clause-attempts
returns-then-ne-clause-attempts g c =
    let w = c.args.waiting in
    let rows = c.args.self.now.waits.rows in
    let other : is_frame w.on ≡ false = search rules in
    let put = noted w c.fault.new.want rows c.set_want.new.self.rows c.requires.1.0 c.set_want.ensures.entry c.set_want.ensures.rows in
    let there = noted_row w c.fault.new.want rows c.set_want.new.self.rows put in
    let agains = if_row c.set_want.new.self.rows w.task.0 (with_want w c.fault.new.want)
    (λ was. count_again c.join_queue.new.self.rows + one_again was.on ≡ count_again c.set_want.new.self.rows) there c.join_queue.ensures.again in
    joins_queue g.given.header g.given.host g.given.outside g.given.command g.given.past c.args.self.now _ w c.args.may_claim c.in-NeedFrame.source _ _ _
    c.join_queue.new.self c.requires.0 c.requires.1.0 c.requires.1.1.0 c.requires.1.1.1 (rw c.in-NeedFrame.is at c.in_ok-step.ensures.runs)
    (returns-then-ne-clause-once g c)
    (agains ∙ c.set_want.ensures.again) (rw other (c.join_queue.ensures.queued ∙ ap (λ z. z + 1) c.set_want.ensures.queued))
    (left_turns w.task.0 c.fault.new.want on.Frame rows c.set_want.new.self.rows c.join_queue.new.self.rows w (once_of _ 0 rows c.requires.0.order)
    c.requires.1.0 c.set_want.ensures.rows c.join_queue.ensures.rows)

pub returns-then-ne-clause-plays : goal.returns-then-ne-clause-plays
returns-then-ne-clause-plays g c = plays_attempt g.given.header g.given.past c.in_ok-step.ensures.runs

pub returns-else-ne-clause-works : goal.returns-else-ne-clause-works
returns-else-ne-clause-works g c =
    let w = c.args.waiting in
    let rows = c.args.self.now.waits.rows in
    let same : w.on ≡ on.Frame = search rules in
    let put = noted w c.fault.new.want rows c.set_want.new.self.rows c.requires.1.0 c.set_want.ensures.entry c.set_want.ensures.rows in
    (queued_runs g.given.header g.given.host g.given.outside g.given.command g.given.past c.args.self.now _ w c.args.may_claim c.in-NeedFrame.source _ _ _
    c.set_want.new.self c.requires.0 c.requires.1.0 c.requires.1.1.0 (rw c.in-NeedFrame.is at c.in_ok-step.ensures.runs)
    (subst (λ (z : On). PutsInOrder w.task.0 (Some (with_on (with_want w c.fault.new.want) z)) rows c.set_want.new.self.rows) same put)).works

pub returns-else-ne-clause-goes : goal.returns-else-ne-clause-goes
returns-else-ne-clause-goes g c =
    let w = c.args.waiting in
    let rows = c.args.self.now.waits.rows in
    let same : w.on ≡ on.Frame = search rules in
    let put = noted w c.fault.new.want rows c.set_want.new.self.rows c.requires.1.0 c.set_want.ensures.entry c.set_want.ensures.rows in
    (queued_runs g.given.header g.given.host g.given.outside g.given.command g.given.past c.args.self.now _ w c.args.may_claim c.in-NeedFrame.source _ _ _
    c.set_want.new.self c.requires.0 c.requires.1.0 c.requires.1.1.0 (rw c.in-NeedFrame.is at c.in_ok-step.ensures.runs)
    (subst (λ (z : On). PutsInOrder w.task.0 (Some (with_on (with_want w c.fault.new.want) z)) rows c.set_want.new.self.rows) same put)).goes

pub returns-else-ne-clause-ends : goal.returns-else-ne-clause-ends
returns-else-ne-clause-ends g c =
    ends_next g.given.header g.given.host g.given.past c.args.self.now _ c.args.waiting c.args.may_claim c.in_ok-step.step _ _ _ c.requires.0 c.requires.1.0
    c.in_ok-step.ensures.runs

pub returns-else-ne-clause-once : goal.returns-else-ne-clause-once
returns-else-ne-clause-once g c =
    let w = c.args.waiting in
    let rows = c.args.self.now.waits.rows in
    let same : w.on ≡ on.Frame = search rules in
    once_queued w c.args.may_claim c.in-NeedFrame.source c.args.self.now.waits c.set_want.new.self (rw c.in-NeedFrame.is at c.in_ok-step.ensures.runs)
    c.in_ok-step.ensures.still same
    (noted w c.fault.new.want rows c.set_want.new.self.rows c.requires.1.0 c.set_want.ensures.entry c.set_want.ensures.rows).entry c.set_want.ensures.queue

pub returns-else-ne-clause-attempts : goal.returns-else-ne-clause-attempts
returns-else-ne-clause-attempts g c =
    let w = c.args.waiting in
    let rows = c.args.self.now.waits.rows in
    let same : w.on ≡ on.Frame = search rules in
    let none : one_again w.on ≡ 0 = ap one_again same in
    let one : one_frame w.on ≡ 1 = ap one_frame same in
    let agains = c.set_want.ensures.again in
    let queues = c.set_want.ensures.queued in
    joins_queue g.given.header g.given.host g.given.outside g.given.command g.given.past c.args.self.now _ w c.args.may_claim c.in-NeedFrame.source _ _ _
    c.set_want.new.self c.requires.0 c.requires.1.0 c.requires.1.1.0 c.requires.1.1.1 (rw c.in-NeedFrame.is at c.in_ok-step.ensures.runs)
    (returns-else-ne-clause-once g c)
    (omega (arith, none, agains)) (omega (arith, one, queues)) (left_goes_on w.task.0 c.fault.new.want rows c.set_want.new.self.rows w
    (once_of _ 0 rows c.requires.0.order) c.requires.1.0 c.set_want.ensures.rows)

pub returns-else-ne-clause-plays : goal.returns-else-ne-clause-plays
returns-else-ne-clause-plays g c = plays_attempt g.given.header g.given.past c.in_ok-step.ensures.runs

pub returns-clause-works : goal.returns-clause-works
returns-clause-works g c =
    let w = c.args.waiting in
    let rows = c.args.self.now.waits.rows in
    let last = c.fault.new.want in
    let put = noted w last rows c.set_want.new.self.rows c.requires.1.0 c.set_want.ensures.entry c.set_want.ensures.rows in
    let puts = noted_turned w last c.match-step.on rows c.set_want.new.self.rows c.set_on.new.self.rows put c.set_on.ensures.entry c.set_on.ensures.rows in
    let turns = λ (reason : On) (is : c.match-step.on ≡ reason). subst (λ (z : On). PutsInOrder w.task.0 (Some (with_on (with_want w last) z)) rows
    c.set_on.new.self.rows) is puts in
    let page = λ (key : PageKey) (comes : (c.in_ok-step.step ≡ step.Ask key) ⊎ (c.in_ok-step.step ≡ step.Unlock key)) (is : c.match-step.on ≡ on.Page key).
    (page_runs g.given.header g.given.host g.given.outside g.given.command g.given.past c.args.self.now _ w c.args.may_claim c.in_ok-step.step key _ _ _
    c.set_on.new.self c.requires.0 c.requires.1.0 c.requires.1.1.0 c.in_ok-step.ensures.runs comes (turns (on.Page key) is)).works in
    elim c.match-step.branch [
      | in-WaitReady at ↦
          (ready_runs g.given.header g.given.host g.given.outside g.given.command g.given.past c.args.self.now _ w c.args.may_claim at.in-WaitReady.object _ _ _
          c.set_on.new.self c.requires.0 c.requires.1.0 c.requires.1.1.0 (rw at.in-WaitReady.is at c.in_ok-step.ensures.runs)
          (turns (on.Ready at.in-WaitReady.object) at.on-is)).works
      | in-Ask at ↦ page at.in-Ask.key at.in-Ask.is at.on-is
      | in-Ask-2 at ↦ page at.in-Ask.key at.in-Ask.is at.on-is
      | in-WaitAnswer at ↦
          (word_runs g.given.header g.given.host g.given.outside g.given.command g.given.past c.args.self.now _ w c.args.may_claim at.in-WaitAnswer.key _ _ _
          c.set_on.new.self c.requires.0 c.requires.1.0 c.requires.1.1.0 (rw at.in-WaitAnswer.is at c.in_ok-step.ensures.runs)
          (turns (waits_at c.args.self.now w at.in-WaitAnswer.key) (at.on-is ∙ at.waits_at-on.ensures))).works
    ]

pub returns-clause-goes : goal.returns-clause-goes
returns-clause-goes g c =
    let w = c.args.waiting in
    let rows = c.args.self.now.waits.rows in
    let last = c.fault.new.want in
    let put = noted w last rows c.set_want.new.self.rows c.requires.1.0 c.set_want.ensures.entry c.set_want.ensures.rows in
    let puts = noted_turned w last c.match-step.on rows c.set_want.new.self.rows c.set_on.new.self.rows put c.set_on.ensures.entry c.set_on.ensures.rows in
    let turns = λ (reason : On) (is : c.match-step.on ≡ reason). subst (λ (z : On). PutsInOrder w.task.0 (Some (with_on (with_want w last) z)) rows
    c.set_on.new.self.rows) is puts in
    let page = λ (key : PageKey) (comes : (c.in_ok-step.step ≡ step.Ask key) ⊎ (c.in_ok-step.step ≡ step.Unlock key)) (is : c.match-step.on ≡ on.Page key).
    (page_runs g.given.header g.given.host g.given.outside g.given.command g.given.past c.args.self.now _ w c.args.may_claim c.in_ok-step.step key _ _ _
    c.set_on.new.self c.requires.0 c.requires.1.0 c.requires.1.1.0 c.in_ok-step.ensures.runs comes (turns (on.Page key) is)).goes in
    elim c.match-step.branch [
      | in-WaitReady at ↦
          (ready_runs g.given.header g.given.host g.given.outside g.given.command g.given.past c.args.self.now _ w c.args.may_claim at.in-WaitReady.object _ _ _
          c.set_on.new.self c.requires.0 c.requires.1.0 c.requires.1.1.0 (rw at.in-WaitReady.is at c.in_ok-step.ensures.runs)
          (turns (on.Ready at.in-WaitReady.object) at.on-is)).goes
      | in-Ask at ↦ page at.in-Ask.key at.in-Ask.is at.on-is
      | in-Ask-2 at ↦ page at.in-Ask.key at.in-Ask.is at.on-is
      | in-WaitAnswer at ↦
          (word_runs g.given.header g.given.host g.given.outside g.given.command g.given.past c.args.self.now _ w c.args.may_claim at.in-WaitAnswer.key _ _ _
          c.set_on.new.self c.requires.0 c.requires.1.0 c.requires.1.1.0 (rw at.in-WaitAnswer.is at c.in_ok-step.ensures.runs)
          (turns (waits_at c.args.self.now w at.in-WaitAnswer.key) (at.on-is ∙ at.waits_at-on.ensures))).goes
    ]

pub returns-clause-ends : goal.returns-clause-ends
returns-clause-ends g c =
    ends_next g.given.header g.given.host g.given.past c.args.self.now _ c.args.waiting c.args.may_claim c.in_ok-step.step _ _ _ c.requires.0 c.requires.1.0
    c.in_ok-step.ensures.runs

pub returns-clause-attempts : goal.returns-clause-attempts
returns-clause-attempts g c =
    let w = c.args.waiting in
    let old = c.args.self.now.waits.rows in
    let last = c.fault.new.want in
    let put = noted w last old c.set_want.new.self.rows c.requires.1.0 c.set_want.ensures.entry c.set_want.ensures.rows in
    let there = noted_row w last old c.set_want.new.self.rows put in
    let agains = if_row c.set_want.new.self.rows w.task.0 (with_want w last) (λ was. count_again c.set_on.new.self.rows + one_again was.on ≡ count_again
    c.set_want.new.self.rows + one_again c.match-step.on) there c.set_on.ensures.again in
    let queues = if_row c.set_want.new.self.rows w.task.0 (with_want w last) (λ was. queued c.set_on.new.self.rows + one_frame was.on ≡ queued
    c.set_want.new.self.rows) there c.set_on.ensures.queued in
    let less = left_turns_less w.task.0 last c.match-step.on old c.set_want.new.self.rows c.set_on.new.self.rows w (once_of _ 0 old c.requires.0.order)
    c.requires.1.0 c.set_want.ensures.rows c.set_on.ensures.rows (left_at_end (pagewise c.in_ok-step.ensures.runs)) in
    let noted_again = c.set_want.ensures.again in
    let leaves : one_again c.match-step.on ≡ 0 → LeavesFrameQueue w c.args.self.now
    (record (with_state c.args.self.now (record {
      parts = c.fault.new.parts;
      chains = c.fault.new.chains;
      copies = c.fault.new.copies;
      ids = c.fault.new.ids;
      events = c.fault.new.log.items;
    })) { waits = c.set_on.new.self }) =
    λ none. record { left = less; again = omega (arith, agains, noted_again, none); queued = queues ∙ c.set_want.ensures.queued; laundry = refl } in
    elim c.match-step.branch [
      | in-WaitReady at ↦ leaves (ap one_again at.on-is)
      | in-Ask at ↦ leaves (ap one_again at.on-is)
      | in-Ask-2 at ↦ leaves (ap one_again at.on-is)
      | in-WaitAnswer at ↦ leaves (ap one_again (at.on-is ∙ at.waits_at-on.ensures) ∙ word_over c.args.self.now c.args.waiting at.in-WaitAnswer.key)
    ]

pub returns-clause-plays : goal.returns-clause-plays
returns-clause-plays g c = plays_attempt g.given.header g.given.past c.in_ok-step.ensures.runs

pub returns-clause-once : goal.returns-clause-once
returns-clause-once g c =
    let w = c.args.waiting in
    let rows = c.args.self.now.waits.rows in
    let last = c.fault.new.want in
    let put = noted w last rows c.set_want.new.self.rows c.requires.1.0 c.set_want.ensures.entry c.set_want.ensures.rows in
    let turned = λ (why : WaitsOn c.in_ok-step.step c.match-step.on).
    once_turned w c.args.may_claim c.in_ok-step.step c.match-step.on c.args.self.now.memory.objects c.args.self.now.waits c.set_on.new.self _ why
    c.requires.0.waits c.in_ok-step.ensures.runs c.in_ok-step.ensures.still
    (noted_turned w last c.match-step.on rows c.set_want.new.self.rows c.set_on.new.self.rows put c.set_on.ensures.entry c.set_on.ensures.rows).entry
    (c.set_on.ensures.queue ∙ ap (queue_without w.task.0) c.set_want.ensures.queue) in
    elim c.match-step.branch [
      | in-WaitReady at ↦ turned (waits_ready c.in_ok-step.step c.match-step.on at.in-WaitReady.object at.in-WaitReady.is at.on-is)
      | in-Ask at ↦ turned (waits_page c.in_ok-step.step c.match-step.on at.in-Ask.key at.in-Ask.is at.on-is)
      | in-Ask-2 at ↦ turned (waits_page c.in_ok-step.step c.match-step.on at.in-Ask.key at.in-Ask.is at.on-is)
      | in-WaitAnswer at ↦
          turned (waits_word c.args.self.now w c.in_ok-step.step c.match-step.on at.in-WaitAnswer.key at.in-WaitAnswer.is (at.on-is ∙ at.waits_at-on.ensures))
    ]

-- there is room, and something is left behind it

pub returns-in_err-step-clause-room : goal.returns-in_err-step-clause-room
returns-in_err-step-clause-room g c = λ more has.
    let w = c.args.waiting in
    let some = some_run c.args.self.now.waits.rows w c.requires.1.0 c.requires.1.1.0 in
    absurd (let bad : false ≡ true = c.in_err-step.ensures.succeeds (room_to_run w.want has c.requires.0.matches.core.fits.parts some
    (copies_some c.args.self.now.waits.rows w.task.0 w c.requires.1.0)) in cc)

pub returns-in_err-end_copy-in-Done-clause-room : goal.returns-in_err-end_copy-in-Done-clause-room
returns-in_err-end_copy-in-Done-clause-room g c = λ more has.
    let w = c.args.waiting in
    let some = some_run c.args.self.now.waits.rows w c.requires.1.0 c.requires.1.1.0 in
    let pays = pays_run c.args.self.now c.args.ids.now w c.args.log.now.items (step.Done c.in-Done.value) c.requires.1.0
    (rw c.in-Done.is at c.in_ok-step.ensures.runs) in
    absurd (let bad : false ≡ true = c.in_err-end_copy-in-Done.ensures.succeeds (λ copying. room_to_end (step.Done c.in-Done.value) w _ c.fault.new.log.room has
    pays c.in_ok-step.ensures.takes some refl copying) in cc)

pub returns-in-Done-clause-room : goal.returns-in-Done-clause-room
returns-in-Done-clause-room g c = λ more has.
    let w = c.args.waiting in
    let ended = c.in_ok-end_copy-in-Done.ensures in
    let pays = pays_run c.args.self.now c.args.ids.now w c.args.log.now.items (step.Done c.in-Done.value) c.requires.1.0
    (rw c.in-Done.is at c.in_ok-step.ensures.runs) in
    let tells = tells_end w _ c.end_copy.new.self _ c.end_copy.new.log.items ended.ends in
    let copies : count_copies c.end_copy.new.self.waits.rows ≤ count_copies c.args.self.now.waits.rows = rw (keeps_rest w _ c.end_copy.new.self _
    c.end_copy.new.log.items c.in_ok-end_copy-in-Done.ensures.ends).waits
    (copies_gone w.task.0 c.fault.new.want c.args.self.now.waits.rows c.set_want.new.self.rows c.remove.new.self.rows w
    (once_of _ 0 c.args.self.now.waits.rows c.requires.0.order) c.requires.1.0 c.set_want.ensures.rows c.remove.ensures.rows
    (runs_kind c.in_ok-step.ensures.runs)) in
    let leaves = returns-in-Done-clause-attempts g c in (
      refl,
      room_left (step.Done c.in-Done.value) w _ c.fault.new.log.room tells.extra c.end_copy.new.log.items has pays c.in_ok-step.ensures.takes tells.costs
          c.requires.1.1.0 leaves.again leaves.queued copies tells.memory ended.chains tells.told ended.room,
    )

pub returns-in-Done-clause-spare : goal.returns-in-Done-clause-spare
returns-in-Done-clause-spare g c =
    let w = c.args.waiting in
    let pays = pays_run c.args.self.now c.args.ids.now w c.args.log.now.items (step.Done c.in-Done.value) c.requires.1.0
    (rw c.in-Done.is at c.in_ok-step.ensures.runs) in
    keeps_both (run_spare c.args.self.now _ c.remove.new.self pays) c.in_ok-end_copy-in-Done.ensures.spare

pub returns-then-ne-clause-room : goal.returns-then-ne-clause-room
returns-then-ne-clause-room g c = λ more has.
    let w = c.args.waiting in
    let pays = pays_run c.args.self.now c.args.ids.now w c.args.log.now.items (step.NeedFrame c.in-NeedFrame.source) c.requires.1.0
    (rw c.in-NeedFrame.is at c.in_ok-step.ensures.runs) in
    let joins = returns-then-ne-clause-attempts g c in
    let same = as_many_run w c.args.self.now.waits.rows c.join_queue.new.self.rows c.requires.1.1.0 joins.again joins.queued in
    let copies = copies_turn w.task.0 c.fault.new.want on.Frame c.args.self.now.waits.rows c.set_want.new.self.rows c.join_queue.new.self.rows w
    (once_of _ 0 c.args.self.now.waits.rows c.requires.0.order) c.requires.1.0 c.set_want.ensures.rows c.join_queue.ensures.rows
    (runs_kind c.in_ok-step.ensures.runs) in
    (refl, room_wanting c.in-NeedFrame.source w _ c.fault.new.log.room has pays c.in_ok-step.ensures.takes same copies refl refl)

pub returns-then-ne-clause-spare : goal.returns-then-ne-clause-spare
returns-then-ne-clause-spare g c =
    let w = c.args.waiting in
    let pays = pays_run c.args.self.now c.args.ids.now w c.args.log.now.items (step.NeedFrame c.in-NeedFrame.source) c.requires.1.0
    (rw c.in-NeedFrame.is at c.in_ok-step.ensures.runs) in
    run_spare c.args.self.now _ c.join_queue.new.self pays

pub returns-else-ne-clause-room : goal.returns-else-ne-clause-room
returns-else-ne-clause-room g c = λ more has.
    let w = c.args.waiting in
    let pays = pays_run c.args.self.now c.args.ids.now w c.args.log.now.items (step.NeedFrame c.in-NeedFrame.source) c.requires.1.0
    (rw c.in-NeedFrame.is at c.in_ok-step.ensures.runs) in
    let joins = returns-else-ne-clause-attempts g c in
    let same = as_many_run w c.args.self.now.waits.rows c.set_want.new.self.rows c.requires.1.1.0 joins.again joins.queued in
    let copies = copies_on w.task.0 c.fault.new.want c.args.self.now.waits.rows c.set_want.new.self.rows w
    (once_of _ 0 c.args.self.now.waits.rows c.requires.0.order) c.requires.1.0 c.set_want.ensures.rows (runs_kind c.in_ok-step.ensures.runs) in
    (refl, room_wanting c.in-NeedFrame.source w _ c.fault.new.log.room has pays c.in_ok-step.ensures.takes same copies refl refl)

pub returns-else-ne-clause-spare : goal.returns-else-ne-clause-spare
returns-else-ne-clause-spare g c =
    let w = c.args.waiting in
    let pays = pays_run c.args.self.now c.args.ids.now w c.args.log.now.items (step.NeedFrame c.in-NeedFrame.source) c.requires.1.0
    (rw c.in-NeedFrame.is at c.in_ok-step.ensures.runs) in
    run_spare c.args.self.now _ c.set_want.new.self pays

pub returns-clause-room : goal.returns-clause-room
returns-clause-room g c = λ more has.
    let w = c.args.waiting in
    let answer = c.in_ok-step.step in
    let pays = pays_run c.args.self.now c.args.ids.now w c.args.log.now.items answer c.requires.1.0 c.in_ok-step.ensures.runs in
    let leaves = returns-clause-attempts g c in
    let copies = copies_turn w.task.0 c.fault.new.want c.match-step.on c.args.self.now.waits.rows c.set_want.new.self.rows c.set_on.new.self.rows w
    (once_of _ 0 c.args.self.now.waits.rows c.requires.0.order) c.requires.1.0 c.set_want.ensures.rows c.set_on.ensures.rows
    (runs_kind c.in_ok-step.ensures.runs) in (
      refl,
      room_left answer w _ c.fault.new.log.room 0 c.fault.new.log.items has pays c.in_ok-step.ensures.takes (cost_most answer w.want) c.requires.1.1.0
          leaves.again leaves.queued copies refl (refl, refl) (omega arith) (omega arith),
    )

pub returns-clause-spare : goal.returns-clause-spare
returns-clause-spare g c =
    let w = c.args.waiting in
    let pays = pays_run c.args.self.now c.args.ids.now w c.args.log.now.items c.in_ok-step.step c.requires.1.0 c.in_ok-step.ensures.runs in
    run_spare c.args.self.now _ c.set_on.new.self pays

-- and no more was told than was due

pub returns-in-Done-clause-few : goal.returns-in-Done-clause-few
returns-in-Done-clause-few g c =
    let w = c.args.waiting in
    let pays = pays_run c.args.self.now c.args.ids.now w c.args.log.now.items (step.Done c.in-Done.value) c.requires.1.0
    (rw c.in-Done.is at c.in_ok-step.ensures.runs) in
    let tells = tells_end w _ c.end_copy.new.self _ c.end_copy.new.log.items c.in_ok-end_copy-in-Done.ensures.ends in
    let copies : count_copies c.end_copy.new.self.waits.rows ≤ count_copies c.args.self.now.waits.rows = rw (keeps_rest w _ c.end_copy.new.self _
    c.end_copy.new.log.items c.in_ok-end_copy-in-Done.ensures.ends).waits
    (copies_gone w.task.0 c.fault.new.want c.args.self.now.waits.rows c.set_want.new.self.rows c.remove.new.self.rows w
    (once_of _ 0 c.args.self.now.waits.rows c.requires.0.order) c.requires.1.0 c.set_want.ensures.rows c.remove.ensures.rows
    (runs_kind c.in_ok-step.ensures.runs)) in
    let leaves = returns-in-Done-clause-attempts g c in
    few_left c.args.self.now c.end_copy.new.self (step.Done c.in-Done.value) w _ tells.extra c.end_copy.new.log.items pays tells.costs c.requires.1.1.0
    leaves.again leaves.queued copies tells.memory c.in_ok-end_copy-in-Done.ensures.chains.1 tells.told

pub returns-then-ne-clause-few : goal.returns-then-ne-clause-few
returns-then-ne-clause-few g c =
    let w = c.args.waiting in
    let pays = pays_run c.args.self.now c.args.ids.now w c.args.log.now.items (step.NeedFrame c.in-NeedFrame.source) c.requires.1.0
    (rw c.in-NeedFrame.is at c.in_ok-step.ensures.runs) in
    let joins = returns-then-ne-clause-attempts g c in
    let same = as_many_run w c.args.self.now.waits.rows c.join_queue.new.self.rows c.requires.1.1.0 joins.again joins.queued in
    let copies = copies_turn w.task.0 c.fault.new.want on.Frame c.args.self.now.waits.rows c.set_want.new.self.rows c.join_queue.new.self.rows w
    (once_of _ 0 c.args.self.now.waits.rows c.requires.0.order) c.requires.1.0 c.set_want.ensures.rows c.join_queue.ensures.rows
    (runs_kind c.in_ok-step.ensures.runs) in
    few_wanting c.args.self.now (record c.args.self.now { waits = c.join_queue.new.self; memory = c.fault.new.parts; chains = c.fault.new.chains })
    c.in-NeedFrame.source w _ pays same copies refl refl

pub returns-else-ne-clause-few : goal.returns-else-ne-clause-few
returns-else-ne-clause-few g c =
    let w = c.args.waiting in
    let pays = pays_run c.args.self.now c.args.ids.now w c.args.log.now.items (step.NeedFrame c.in-NeedFrame.source) c.requires.1.0
    (rw c.in-NeedFrame.is at c.in_ok-step.ensures.runs) in
    let joins = returns-else-ne-clause-attempts g c in
    let same = as_many_run w c.args.self.now.waits.rows c.set_want.new.self.rows c.requires.1.1.0 joins.again joins.queued in
    let copies = copies_on w.task.0 c.fault.new.want c.args.self.now.waits.rows c.set_want.new.self.rows w
    (once_of _ 0 c.args.self.now.waits.rows c.requires.0.order) c.requires.1.0 c.set_want.ensures.rows (runs_kind c.in_ok-step.ensures.runs) in
    few_wanting c.args.self.now (record c.args.self.now { waits = c.set_want.new.self; memory = c.fault.new.parts; chains = c.fault.new.chains })
    c.in-NeedFrame.source w _ pays same copies refl refl

pub returns-clause-few : goal.returns-clause-few
returns-clause-few g c =
    let w = c.args.waiting in
    let answer = c.in_ok-step.step in
    let pays = pays_run c.args.self.now c.args.ids.now w c.args.log.now.items answer c.requires.1.0 c.in_ok-step.ensures.runs in
    let leaves = returns-clause-attempts g c in
    let copies = copies_turn w.task.0 c.fault.new.want c.match-step.on c.args.self.now.waits.rows c.set_want.new.self.rows c.set_on.new.self.rows w
    (once_of _ 0 c.args.self.now.waits.rows c.requires.0.order) c.requires.1.0 c.set_want.ensures.rows c.set_on.ensures.rows
    (runs_kind c.in_ok-step.ensures.runs) in
    few_left c.args.self.now (record c.args.self.now { waits = c.set_on.new.self; memory = c.fault.new.parts; chains = c.fault.new.chains }) answer w _ 0
    c.fault.new.log.items pays (cost_most answer w.want) c.requires.1.1.0 leaves.again leaves.queued copies refl refl (omega arith)
