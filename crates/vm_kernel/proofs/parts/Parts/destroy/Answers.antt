use Rattle.vm_kernel.proofs.Common.{LegalEvents, Paging, Parts, Plays, [], ap, arith, false, is_control, live_in, object_at, paging, subst, sym, true, ◌++◌}
use Rattle.vm_kernel.proofs.Common.{◌∙◌, ◌≡◌}
use Rattle.std.specs.Prelude.{◌+◌}
use Rattle.vm_kernel.proofs.controls.DestroyTaken.{TookIt, Unmoved, WokenOn, paid_done, quiet_end, standing_woken, took_it, unmoved, unserved_woken}
use Rattle.vm_kernel.proofs.controls.DestroyTaken.{woken_on_it, woken_on_spends, works_done}
use Rattle.vm_kernel.proofs.lists.ListsAsTold.{plays_both}
use Rattle.vm_kernel.proofs.room.CallsSpend.{spends_both, spends_none}
use Rattle.vm_kernel.proofs.room.EndsSpend.{roomy_on, spends_hand}
use Rattle.vm_kernel.proofs.steps.EventsGrow.{goes_both, on_ok}
use Rattle.vm_kernel.proofs.steps.QueueServed.{both_ok, three_ok}
use Rattle.vm_kernel.specs.Destroying.{WakesOn}
use Rattle.vm_kernel.specs.Matches.{Undone}
use Rattle.vm_kernel.specs.Rooms.{Spends}
use Rattle.vm_parts.specs.Listed.{listed_pages}
use Rattle.vm_state.specs.References.{is_live_in}
use Rattle.vm_kernel.proofs.parts.Parts.destroy.Given as given
use Rattle.vm_kernel.proofs.parts.Parts.destroy.Goals as goal
use Rattle.vm_kernel.proofs.parts.Parts.destroy.Goals.at
use Rattle.vm_kernel.proofs.parts.Parts.destroy.Goals.{After-fail_unserved, After-wake_on, Then-not-is_live}

-- it was for another control
none : (g : given.Over) (c : Then-not-is_live g)
    → Unmoved g.given.header g.given.host g.given.outside g.given.command c.args.self.now c.args.ids.now (g.given.front ++ g.given.past) c.args.log.now.items
none g c =
    unmoved g.given.header g.given.host g.given.outside g.given.command c.args.self.now c.args.ids.now g.given.past g.given.front c.args.log.now.items
    c.args.object c.args.control c.requires.1.0.reason c.requires.0 c.requires.1.0.is c.requires.1.1.1 (sym c.is_live.ensures ∙ c.if-not-is_live.true)

pub returns-then-not-is_live-clause-works : goal.returns-then-not-is_live-clause-works
returns-then-not-is_live-clause-works g c = (none g c).heeds.works

pub returns-then-not-is_live-clause-goes : goal.returns-then-not-is_live-clause-goes
returns-then-not-is_live-clause-goes g c = (none g c).heeds.goes

pub returns-then-not-is_live-clause-early : goal.returns-then-not-is_live-clause-early
returns-then-not-is_live-clause-early g c = (none g c).heeds.early

pub returns-then-not-is_live-clause-paid : goal.returns-then-not-is_live-clause-paid
returns-then-not-is_live-clause-paid g c = (none g c).paid

pub returns-then-not-is_live-clause-plays : goal.returns-then-not-is_live-clause-plays
returns-then-not-is_live-clause-plays g c = (none g c).heeds.plays

pub returns-then-not-is_live-clause-queue : goal.returns-then-not-is_live-clause-queue
returns-then-not-is_live-clause-queue g c = λ lives.
    absurd (let bad : true ≡ false = sym lives ∙ (sym c.is_live.ensures ∙ c.if-not-is_live.true) in cc)

pub returns-then-not-is_live-clause-spends : goal.returns-then-not-is_live-clause-spends
returns-then-not-is_live-clause-spends g c =
    spends_hand c.args.self.now c.args.self.now c.args.log.now c.args.log.now 0 0 _ (spends_none c.args.self.now c.args.log.now 0) (omega arith)

-- it was for the live one
lives : (g : given.Over) (c : After-wake_on g) → is_control c.args.control (live_in (object_at c.args.self.now.memory.objects c.args.object.0)) ≡ true
lives g c = sym c.is_live.ensures ∙ c.if-not-is_live.false

woke : (g : given.Over) (c : After-wake_on g) → WokenOn c.args.self.now c.args.object.0 c.wake_on.new.self
woke g c =
    woken_on_it c.args.self.now c.empty.new.self c.wake_on.new.self c.args.object.0 c.in_ok-empty.ensures.same c.wake_on.ensures.same c.wake_on.ensures.wakes

took : (g : given.Over) (c : After-wake_on g)
    → TookIt g.given.header g.given.host c.args.object.0 g.given.past (c.empty.new.log.items ++ (g.given.front ++ g.given.past))
took g c =
    took_it g.given.header g.given.host g.given.outside g.given.command g.given.past g.given.front c.empty.new.log.items c.args.object c.args.control
    c.requires.1.0.reason c.args.self.now c.args.ids.now c.requires.0 c.requires.1.0.is (lives g c) c.in_ok-empty.ensures.goes

undone : (g : given.Over) (c : After-wake_on g)
    → Undone g.given.header g.given.host c.wake_on.new.self c.args.ids.now (c.empty.new.log.items ++ (g.given.front ++ g.given.past))
undone g c =
    let wakes = subst (λ (z : Parts). WakesOn z.maps c.args.object.0 z.waits c.wake_on.new.self.waits) c.in_ok-empty.ensures.same c.wake_on.ensures.wakes in
    subst (λ (z : Parts). Undone g.given.header g.given.host z c.args.ids.now (c.empty.new.log.items ++ (g.given.front ++ g.given.past)))
    (sym c.wake_on.ensures.same) (c.in_ok-empty.ensures.works c.wake_on.new.self.waits wakes)

pub fail_unserved-requires : goal.fail_unserved-requires
fail_unserved-requires g d =
    let c = (at.fail_unserved-requires g d).After-wake_on in
    let wild = c.requires.1.1.0.wild in (
      undone g c,
      (
        unserved_woken g.given.header g.given.host c.args.self.now c.wake_on.new.self c.args.ids.now g.given.past c.args.object.0 c.requires.0 wild (woke g c)
            (ap (λ (z : Parts). is_live_in (object_at z.memory.objects c.args.object.0)) c.wake_on.ensures.same ∙ c.in_ok-empty.ensures.ended),
        standing_woken g.given.header g.given.host c.args.self.now c.wake_on.new.self c.args.ids.now g.given.past
            (c.empty.new.log.items ++ (g.given.front ++ g.given.past)) c.args.object.0 c.requires.0 wild (took g c) (woke g c),
      ),
    )

-- behind the end
abbrev waked : (g : given.Over) (c : After-fail_unserved g) → After-wake_on g
waked g c = (at.returns-clause-works g c).After-wake_on

goes_on : (g : given.Over) (c : After-fail_unserved g)
    → LegalEvents g.given.header g.given.host g.given.outside g.given.command (g.given.front ++ g.given.past) c.empty.new.log.items
    c.fail_unserved.new.log.items
    → LegalEvents g.given.header g.given.host g.given.outside g.given.command (g.given.front ++ g.given.past) [] c.fail_unserved.new.log.items
goes_on g c goes =
    goes_both g.given.header g.given.host g.given.outside g.given.command (g.given.front ++ g.given.past) [] c.empty.new.log.items
    c.fail_unserved.new.log.items c.in_ok-empty.ensures.goes goes

took_on : (g : given.Over) (c : After-fail_unserved g)
    → LegalEvents g.given.header g.given.host g.given.outside g.given.command (g.given.front ++ g.given.past) c.empty.new.log.items
    c.fail_unserved.new.log.items
    → TookIt g.given.header g.given.host c.args.object.0 g.given.past (c.fail_unserved.new.log.items ++ (g.given.front ++ g.given.past))
took_on g c goes =
    took_it g.given.header g.given.host g.given.outside g.given.command g.given.past g.given.front c.fail_unserved.new.log.items c.args.object c.args.control
    c.requires.1.0.reason c.args.self.now c.args.ids.now c.requires.0 c.requires.1.0.is (lives g (waked g c)) (goes_on g c goes)

pub returns-clause-works : goal.returns-clause-works
returns-clause-works g c =
    three_ok c.fail_unserved.result _ _ _ _ (λ done fallen goes. works_done done fallen (took_on g c goes).locks) c.fail_unserved.ensures.undone
    c.fail_unserved.ensures.replied c.fail_unserved.ensures.goes

pub returns-clause-goes : goal.returns-clause-goes
returns-clause-goes g c = on_ok c.fail_unserved.result _ _ (goes_on g c) c.fail_unserved.ensures.goes

pub returns-clause-early : goal.returns-clause-early
returns-clause-early g c =
    on_ok c.fail_unserved.result _ _
    (λ only. quiet_end c.args.self.now c.empty.new.log.items c.fail_unserved.new.log.items c.in_ok-empty.ensures.only only) c.fail_unserved.ensures.only

pub returns-clause-paid : goal.returns-clause-paid
returns-clause-paid g c =
    both_ok c.fail_unserved.result _ _ _
    (λ fallen goes. paid_done g.given.header g.given.host g.given.outside g.given.command c.args.object.0 g.given.past (g.given.front ++ g.given.past)
    c.empty.new.log.items c.fail_unserved.new.log.items (took_on g c goes) c.in_ok-empty.ensures.emptied goes fallen)
    c.fail_unserved.ensures.replied c.fail_unserved.ensures.goes

pub returns-clause-plays : goal.returns-clause-plays
returns-clause-plays g c =
    on_ok c.fail_unserved.result _ _
    (λ more. plays_both c.in_ok-empty.ensures.plays
    (subst (λ (z : Paging). Plays g.given.header (g.given.front ++ g.given.past) c.empty.new.log.items z c.fail_unserved.new.log.items
    (paging c.fail_unserved.new.self)) (ap paging c.wake_on.ensures.same) more)) c.fail_unserved.ensures.plays

-- what is spent in front of those who fail
spent : (g : given.Over) (c : After-fail_unserved g)
    → Spends (listed_pages c.args.self.now.memory.queues + 1) 0 0 c.args.self.now c.args.log.now c.wake_on.new.self c.empty.new.log
spent g c =
    spends_both c.args.self.now c.empty.new.self c.wake_on.new.self c.args.log.now c.empty.new.log c.empty.new.log _ 0 0 c.in_ok-empty.ensures.spends
    (woken_on_spends c.empty.new.self c.wake_on.new.self c.args.object.0 c.empty.new.log c.wake_on.ensures.same c.wake_on.ensures.wakes.rows)

pub returns-clause-spends : goal.returns-clause-spends
returns-clause-spends g c =
    on_ok c.fail_unserved.result _ _
    (spends_both c.args.self.now c.wake_on.new.self c.fail_unserved.new.self c.args.log.now c.empty.new.log c.fail_unserved.new.log _ 0 0 (spent g c))
    c.fail_unserved.ensures.spends

pub returns-clause-succeeds : goal.returns-clause-succeeds
returns-clause-succeeds g c = λ room.
    c.fail_unserved.ensures.succeeds (roomy_on c.args.self.now c.wake_on.new.self c.args.log.now c.empty.new.log _ 0 (spent g c) room)
