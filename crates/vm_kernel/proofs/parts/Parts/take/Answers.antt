use Rattle.vm_kernel.proofs.controls.DestroyTaken.{destroyed_goes}
use Rattle.vm_kernel.proofs.Common.{Event, HasEnded, List, Restarted, TaskId, [], ap, arith, false, subst, true, ◌++◌, ◌+◌, ◌∙◌, ◌≡◌, ◌≤◌, ℕ}
use Rattle.vm_kernel.proofs.lists.ListsAsTold.{plays_both}
use Rattle.vm_kernel.proofs.controls.WaitersFail.{absence_goes, each_failed, each_goes, paid_failed, paid_goes}
use Rattle.vm_kernel.proofs.steps.EventsGrow.{goes_both, on_ok}
use Rattle.vm_kernel.proofs.controls.LockHeeded.{ended_still, locked_goes}
use Rattle.vm_kernel.proofs.controls.StaySaid.{change_goes}
use Rattle.vm_kernel.proofs.steps.FramesInTurn.{unrun_after}
use Rattle.vm_kernel.proofs.parts.Parts.take.Given as given
use Rattle.vm_kernel.proofs.room.PartsOfStep.{few_behind, listed_few, more_fewer, ok_has, room_behind, told_behind, word_costs, word_few}
use Rattle.vm_kernel.proofs.room.EndsSpend.{roomy_fewer, roomy_on}
use Rattle.vm_kernel.proofs.room.CallsSpend.{spends_both, spends_more}
use Rattle.vm_kernel.specs.Rooms.{Spends, front, heeding, waking, word_breadth}
use Rattle.vm_kernel.proofs.parts.Parts.take.Goals as goal

-- the history behind the taking
abbrev taken : given.Over → List Event
taken g = g.given.front ++ g.given.past

pub returns-clause-goes : goal.returns-clause-goes
returns-clause-goes g c =
    let heard = goes_both g.given.header g.given.host g.given.outside g.given.command (taken g) [] c.heed.new.log.items c.wake.new.log.items
    c.in_ok-woken.ensures.goes c.in_ok-wake.ensures.goes in
    on_ok c.restart.result _ _ (λ goes. goes_both g.given.header g.given.host g.given.outside g.given.command (taken g) [] c.wake.new.log.items
    c.restart.new.log.items heard goes) c.restart.ensures.goes

pub returns-clause-failed : goal.returns-clause-failed
returns-clause-failed g c =
    let paid =
    paid_failed g.given.header g.given.host g.given.outside g.given.command c.in_ok-woken.woken (taken g) c.heed.new.log.items c.wake.new.log.items
    c.in_ok-woken.ensures.fails c.in_ok-wake.ensures.goes c.in_ok-wake.ensures.failed in
    on_ok c.restart.result _ _ (λ goes. paid_goes g.given.header g.given.host g.given.outside g.given.command (taken g) c.wake.new.log.items
    c.restart.new.log.items goes paid) c.restart.ensures.goes

pub returns-clause-zeroed : goal.returns-clause-zeroed
returns-clause-zeroed g c =
    let paid = absence_goes g.given.header g.given.host g.given.outside g.given.command (taken g) c.heed.new.log.items c.wake.new.log.items
    c.in_ok-wake.ensures.goes c.in_ok-woken.ensures.zeroed in
    on_ok c.restart.result _ _ (λ goes. absence_goes g.given.header g.given.host g.given.outside g.given.command (taken g) c.wake.new.log.items
    c.restart.new.log.items goes paid) c.restart.ensures.goes

pub returns-clause-locked : goal.returns-clause-locked
returns-clause-locked g c =
    let paid = locked_goes g.given.header g.given.host g.given.outside g.given.command (taken g) c.heed.new.log.items c.wake.new.log.items
    c.in_ok-wake.ensures.goes c.in_ok-woken.ensures.locked in
    on_ok c.restart.result _ _ (λ goes. locked_goes g.given.header g.given.host g.given.outside g.given.command (taken g) c.wake.new.log.items
    c.restart.new.log.items goes paid) c.restart.ensures.goes

pub returns-clause-changed : goal.returns-clause-changed
returns-clause-changed g c =
    let paid = change_goes g.given.header g.given.host g.given.outside g.given.command (taken g) c.heed.new.log.items c.wake.new.log.items
    c.in_ok-wake.ensures.goes c.in_ok-woken.ensures.changed in
    on_ok c.restart.result _ _ (λ goes. change_goes g.given.header g.given.host g.given.outside g.given.command (taken g) c.wake.new.log.items
    c.restart.new.log.items goes paid) c.restart.ensures.goes

pub returns-clause-destroyed : goal.returns-clause-destroyed
returns-clause-destroyed g c =
    let paid = destroyed_goes g.given.header g.given.host g.given.outside g.given.command (taken g) c.heed.new.log.items c.wake.new.log.items
    c.in_ok-wake.ensures.goes c.in_ok-woken.ensures.destroyed in
    on_ok c.restart.result _ _ (λ goes. destroyed_goes g.given.header g.given.host g.given.outside g.given.command (taken g) c.wake.new.log.items
    c.restart.new.log.items goes paid) c.restart.ensures.goes

pub returns-clause-ended : goal.returns-clause-ended
returns-clause-ended g c =
    let rows = c.args.self.now.waits.rows in
    let ended : HasEnded c.in_ok-woken.woken rows (c.wake.new.log.items ++ taken g) =
    ended_still c.in_ok-woken.woken rows c.heed.new.self.waits.rows (c.wake.new.log.items ++ taken g) c.in_ok-woken.ensures.askers c.in_ok-wake.ensures.ended in
    let each = each_failed g.given.header g.given.host g.given.outside g.given.command c.in_ok-woken.woken rows (taken g) c.heed.new.log.items
    c.wake.new.log.items c.in_ok-woken.ensures.fails c.in_ok-wake.ensures.goes ended in
    on_ok c.restart.result _ _ (λ goes. each_goes g.given.header g.given.host g.given.outside g.given.command rows (taken g) c.wake.new.log.items
    c.restart.new.log.items goes each) c.restart.ensures.goes

pub returns-clause-plays : goal.returns-clause-plays
returns-clause-plays g c =
    let heard = c.in_ok-woken.ensures.plays in
    on_ok c.restart.result _ _ (λ more. record {
      heard = heard.heard;
      brings = heard.brings;
      plays = plays_both (plays_both heard.plays c.in_ok-wake.ensures.plays) more;
    }) c.restart.ensures.plays

pub returns-clause-restarts : goal.returns-clause-restarts
returns-clause-restarts g c =
    let quiet = c.in_ok-wake.ensures.quiet in
    let yet = unrun_after _ _ c.heed.new.log.items c.wake.new.log.items c.in_ok-woken.ensures.early quiet in
    on_ok c.restart.result _ _
    (λ restarts. subst (λ (z : List TaskId). Restarted g.given.header g.given.host c.restart.new.self.waits.rows (taken g) z c.restart.new.self.waits.queue
    c.restart.new.log.items) (quiet.queue ∙ c.in_ok-woken.ensures.queue) (restarts yet))
    c.restart.ensures.restarts

-- what the word and the end of those whom it fails tell
abbrev cost : (g : given.Over) → goal.After-restart g → ℕ
cost g c = heeding c.args.message.now c.args.self.now c.args.ids.now + waking c.in_ok-woken.woken c.heed.new.self c.args.ids.now

cost_few : (g : given.Over) (c : goal.After-restart g) → cost g c ≤ front (word_breadth c.args.message.now) c.args.self.now
cost_few g c =
    word_costs c.args.message.now c.in_ok-woken.woken c.args.self.now c.heed.new.self c.args.ids.now (listed_few c.requires.0.matches c.stand_once.ensures)
    c.in_ok-woken.ensures.dies

all_spends : (g : given.Over) (c : goal.After-restart g) → Spends (cost g c) 0 0 c.args.self.now c.args.log.now c.wake.new.self c.wake.new.log
all_spends g c =
    spends_both c.args.self.now c.heed.new.self c.wake.new.self c.args.log.now c.heed.new.log c.wake.new.log _ _ _
    (spends_more c.args.self.now c.heed.new.self c.args.log.now c.heed.new.log (heeding c.args.message.now c.args.self.now c.args.ids.now) 0
    (waking c.in_ok-woken.woken c.heed.new.self c.args.ids.now) c.in_ok-woken.ensures.spends) c.in_ok-wake.ensures.spends

pub returns-clause-few : goal.returns-clause-few
returns-clause-few g c =
    let few = told_behind c.args.self.now c.wake.new.self c.args.log.now c.wake.new.log (cost g c) 0 (front (word_breadth c.args.message.now) c.args.self.now)
    (cost_few g c) (all_spends g c) in
    on_ok c.restart.result _ _ (λ more. few_behind more few) c.restart.ensures.few

pub returns-clause-room : goal.returns-clause-room
returns-clause-room g c = λ more had marks has asks.
    let left = room_behind c.args.self.now c.wake.new.self c.args.log.now c.wake.new.log (cost g c) 0 more (all_spends g c)
    (more_fewer _ _ (cost g c) 0 more c.args.self.now _ had (cost_few g c) (omega arith)) in
    let runs = c.restart.ensures.room more left in
    let keeps = ok_has c.restart.result _ runs.0 c.restart.ensures.spare in
    let some = c.in_ok-wake.ensures.enough (λ key is. c.in_ok-woken.ensures.failing key is has) (c.in_ok-woken.ensures.buffers asks has) in
    let buffers = ap (λ z. z.count) keeps.buffers in
    (runs.0, (runs.1, omega (arith, buffers, some)))

pub returns-in_err-woken-clause-room : goal.returns-in_err-woken-clause-room
returns-in_err-woken-clause-room g c = λ more had marks has asks.
    let few = word_few c.args.message.now c.args.self.now c.args.ids.now (listed_few c.requires.0.matches c.stand_once.ensures) in
    absurd (let bad : false ≡ true = c.in_err-woken.ensures.succeeds (roomy_fewer _ _ _ 0 c.args.self.now _ had.tables few (omega arith)) asks (λ ends. has)
    marks in
    cc)

pub returns-in_err-wake-clause-room : goal.returns-in_err-wake-clause-room
returns-in_err-wake-clause-room g c = λ more had marks has asks.
    let told = heeding c.args.message.now c.args.self.now c.args.ids.now in
    let later = waking c.in_ok-woken.woken c.heed.new.self c.args.ids.now in
    let few = word_costs c.args.message.now c.in_ok-woken.woken c.args.self.now c.heed.new.self c.args.ids.now
    (listed_few c.requires.0.matches c.stand_once.ensures) c.in_ok-woken.ensures.dies in
    let room = roomy_on c.args.self.now c.heed.new.self c.args.log.now c.heed.new.log (told + later) _
    (spends_more c.args.self.now c.heed.new.self c.args.log.now c.heed.new.log told 0 later c.in_ok-woken.ensures.spends)
    (roomy_fewer _ _ (told + later) 0 c.args.self.now _ had.tables few (omega arith)) in
    absurd (let bad : false ≡ true = c.in_err-wake.ensures.succeeds room (λ key is. c.in_ok-woken.ensures.failing key is has) in cc)
