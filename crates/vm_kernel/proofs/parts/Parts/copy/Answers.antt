use Rattle.vm_kernel.proofs.Common.{Ran, Starts, TaskId, ap, arith, false, refl, rows_in, subst, sym, true, ℕ, ◌<◌, ◌∙◌, ◌≡◌, ◌≤◌}
use Rattle.vm_model.specs.declared.command.Command.TheVariants as command
use Rattle.vm_kernel.proofs.space.ForkDelays.{delayed_plays, delayed_quiet}
use Rattle.vm_kernel.proofs.space.RangeCopied.{begun_late, can_place, can_place_late, may_place, ran_copy}
use Rattle.vm_kernel.proofs.steps.CopyBegins.{copy_slow, copy_target_own, entered_quiet}
use Rattle.vm_kernel.proofs.steps.EventsGrow.{on_ok}
use Rattle.vm_kernel.proofs.steps.HeadAlone.{begun_as, begun_ran, ran_as, starts_as}
use Rattle.vm_kernel.proofs.steps.QueueServed.{three_ok}
use Rattle.vm_kernel.proofs.lists.ListsAsTold.{lists_same, plays_both, plays_told}
use Rattle.vm_kernel.proofs.steps.FramesInTurn.{restarts_behind, restarts_quiet}
use Rattle.vm_kernel.proofs.room.PartsOfStep.{begun_leaves, few_behind, few_ok, kept_ok, leaves_behind, more_fewer, room_behind, told_behind}
use Rattle.vm_kernel.proofs.room.EndsSpend.{roomy_fewer}
use Rattle.vm_kernel.proofs.room.CallsSpend.{never_err}
use Rattle.vm_kernel.specs.Rooms.{front, making}
use Rattle.vm_kernel.specs.declared.breadth.Breadth.TheVariants as wide
use Rattle.vm_kernel.proofs.parts.Parts.copy.Goals as goal

pub place-place-requires : goal.place-place-requires
place-place-requires g c =
    (may_place g.given.header g.given.host c.args.task c.args.address c.args.bytes c.args.target c.args.to g.given.past c.args.self.now c.args.ids.now
    c.args.log.now.items (starts_as c.requires.0 c.requires.1)).allowed

pub begin_copy-requires : goal.begin_copy-requires
begin_copy-requires g c =
    let starts = starts_as c.requires.0 c.requires.1 in
    let slow = sym c.is_paged.ensures ∙ c.if-not-is_paged.true in
    let own = copy_target_own c.place-place.result starts c.place-place.ensures.place slow in (
      refl,
      (
        subst (λ (z : TaskId). Starts g.given.header g.given.host (command.Copy c.args.task c.args.address c.args.bytes z c.args.to) g.given.past
            c.args.self.now c.args.ids.now c.args.log.now.items) own starts,
        (
          copy_slow c.args.address c.place-place.result c.args.self.now (rows_in c.args.task.0 c.args.self.now.maps) c.place-place.ensures.place slow,
          c.place-place.ensures.order,
        ),
      ),
    )

pub enter_copy-requires : goal.enter_copy-requires
enter_copy-requires g c =
    can_place g.given.header g.given.host c.args.task c.args.address c.args.bytes c.args.target c.args.to g.given.past c.args.self.now c.args.ids.now
    c.args.log.now.items c.place-place.result c.whole_entry-range.result (starts_as c.requires.0 c.requires.1)
    c.place-place.ensures.place (subst (λ (z : ℕ). z ≤ c.place-place.result.region.0) c.len.ensures c.if-place-len.false) c.whole_entry-range.ensures

pub enter_delayed-requires : goal.enter_delayed-requires
enter_delayed-requires g c =
    can_place_late g.given.header g.given.host c.args.task c.args.address c.args.bytes c.args.target c.args.to g.given.past c.args.self.now c.args.ids.now
    c.args.log.now.items c.place-place.result c.whole_entry-range.result (starts_as c.requires.0 c.requires.1)
    c.place-place.ensures.place (sym c.is_paged.ensures ∙ c.if-not-is_paged.false)
    (subst (λ (z : ℕ). c.place-place.result.region.0 < z) c.len.ensures c.if-place-len.true) c.whole_entry-range.ensures

pub restart-requires : goal.restart-requires
restart-requires g c =
    (begun_late g.given.header g.given.host g.given.outside c.args.task c.args.address c.args.bytes c.args.target c.args.to g.given.past c.args.self.now
    c.enter_delayed.new.self c.args.ids.now c.enter_delayed.new.ids c.args.log.now.items c.enter_delayed.new.log.items c.place-place.result
    c.whole_entry-range.result (starts_as c.requires.0 c.requires.1) c.place-place.ensures.place (sym c.is_paged.ensures ∙ c.if-not-is_paged.false)
    (subst (λ (z : ℕ). c.place-place.result.region.0 < z) c.len.ensures c.if-place-len.true) c.whole_entry-range.ensures
    c.in_ok-enter_delayed.ensures.enters).works

-- The slow copy.

pub returns-then-not-is_paged-clause-ran : goal.returns-then-not-is_paged-clause-ran
returns-then-not-is_paged-clause-ran g c =
    let own = copy_target_own c.place-place.result (starts_as c.requires.0 c.requires.1) c.place-place.ensures.place
    (sym c.is_paged.ensures ∙ c.if-not-is_paged.true) in
    on_ok c.begin_copy.result _ _
    (λ ran. ran_as c.requires.0 (subst (λ (z : TaskId). Ran g.given.header g.given.host g.given.outside
    (command.Copy c.args.task c.args.address c.args.bytes z c.args.to) g.given.past c.begin_copy.new.self c.begin_copy.new.ids c.begin_copy.new.log.items)
    (sym own) ran))
    c.begin_copy.ensures.ran

pub returns-then-not-is_paged-clause-few : goal.returns-then-not-is_paged-clause-few
returns-then-not-is_paged-clause-few g c = c.begin_copy.ensures.few

pub returns-then-not-is_paged-clause-room : goal.returns-then-not-is_paged-clause-room
returns-then-not-is_paged-clause-room g c = λ more had access has.
    let began = c.begin_copy.ensures.room more had access in
    begun_leaves c.begin_copy.result more c.args.self.now c.begin_copy.new.self c.begin_copy.new.log.room began.0 c.begin_copy.ensures.spare has

pub returns-then-not-is_paged-clause-err : goal.returns-then-not-is_paged-clause-err
returns-then-not-is_paged-clause-err g c = λ had access has. never_err c.begin_copy.result _ (c.begin_copy.ensures.room 0 had access).1

-- The delayed one, behind which accesses are run again.

pub returns-then-place-len-clause-ran : goal.returns-then-place-len-clause-ran
returns-then-place-len-clause-ran g c =
    let begun = begun_late g.given.header g.given.host g.given.outside c.args.task c.args.address c.args.bytes c.args.target c.args.to g.given.past
    c.args.self.now c.enter_delayed.new.self c.args.ids.now c.enter_delayed.new.ids c.args.log.now.items c.enter_delayed.new.log.items c.place-place.result
    c.whole_entry-range.result (starts_as c.requires.0 c.requires.1) c.place-place.ensures.place (sym c.is_paged.ensures ∙ c.if-not-is_paged.false)
    (subst (λ (z : ℕ). c.place-place.result.region.0 < z) c.len.ensures c.if-place-len.true) c.whole_entry-range.ensures
    c.in_ok-enter_delayed.ensures.enters in
    three_ok c.restart.result _ _ _ _ (λ rests goes first. begun_ran (begun_as c.requires.0 begun) rests goes) c.restart.ensures.rests c.restart.ensures.goes
    c.restart.ensures.first

pub returns-then-place-len-clause-plays : goal.returns-then-place-len-clause-plays
returns-then-place-len-clause-plays g c =
    on_ok c.restart.result _ _ (λ more. plays_both (delayed_plays c.in_ok-enter_delayed.ensures.enters) more) c.restart.ensures.plays

pub returns-then-place-len-clause-restarts : goal.returns-then-place-len-clause-restarts
returns-then-place-len-clause-restarts g c =
    on_ok c.restart.result _ _
    (restarts_behind g.given.header g.given.host c.restart.new.self.waits.rows g.given.past c.args.self.now.waits.queue c.enter_delayed.new.self.waits.queue
    c.restart.new.self.waits.queue c.args.log.now.items c.enter_delayed.new.log.items c.restart.new.log.items c.requires.1.nothing
    (delayed_quiet c.in_ok-enter_delayed.ensures.enters))
    c.restart.ensures.restarts

pub returns-then-place-len-clause-few : goal.returns-then-place-len-clause-few
returns-then-place-len-clause-few g c =
    let few = told_behind c.args.self.now c.enter_delayed.new.self c.args.log.now c.enter_delayed.new.log 4 4 (front wide.Frames c.args.self.now) (omega arith)
    c.in_ok-enter_delayed.ensures.spends in
    on_ok c.restart.result _ _ (λ more. few_behind more few) c.restart.ensures.few

pub returns-then-place-len-clause-room : goal.returns-then-place-len-clause-room
returns-then-place-len-clause-room g c = λ more had access has.
    let some = more_fewer (front wide.Frames c.args.self.now) (making wide.Frames c.args.self.now) 4 4 more c.args.self.now _ had (omega arith) (omega arith) in
    let runs = c.restart.ensures.room more (room_behind c.args.self.now c.enter_delayed.new.self c.args.log.now c.enter_delayed.new.log 4 4 more
    c.in_ok-enter_delayed.ensures.spends some) in
    leaves_behind c.restart.result more c.args.self.now c.enter_delayed.new.self c.restart.new.self c.restart.new.log.room runs.1
    c.in_ok-enter_delayed.ensures.spare c.restart.ensures.spare has

pub returns-then-place-len-clause-err : goal.returns-then-place-len-clause-err
returns-then-place-len-clause-err g c = λ had access has.
    let some = more_fewer (front wide.Frames c.args.self.now) (making wide.Frames c.args.self.now) 4 4 0 c.args.self.now _ had (omega arith) (omega arith) in
    never_err c.restart.result _ (c.restart.ensures.room 0 (room_behind c.args.self.now c.enter_delayed.new.self c.args.log.now c.enter_delayed.new.log 4 4 0
    c.in_ok-enter_delayed.ensures.spends some)).0

pub returns-in_err-enter_delayed-clause-err : goal.returns-in_err-enter_delayed-clause-err
returns-in_err-enter_delayed-clause-err g c = λ had access has.
    let some = roomy_fewer (front wide.Frames c.args.self.now) (making wide.Frames c.args.self.now) 4 4 c.args.self.now _ had.tables (omega arith)
    (omega arith) in
    absurd (let bad : false ≡ true = c.in_err-enter_delayed.ensures.succeeds some in cc)

-- The symmetric one.

pub returns-clause-ran : goal.returns-clause-ran
returns-clause-ran g c =
    on_ok c.enter_copy.result _ _
    (λ entered. ran_as c.requires.0
    (ran_copy g.given.header g.given.host g.given.outside c.args.task c.args.address c.args.bytes c.args.target c.args.to g.given.past c.args.self.now
    c.enter_copy.new.self c.args.ids.now c.enter_copy.new.ids c.args.log.now.items c.enter_copy.new.log.items c.place-place.result
    c.whole_entry-range.result (starts_as c.requires.0 c.requires.1)
    c.place-place.ensures.place (subst (λ (z : ℕ). z ≤ c.place-place.result.region.0) c.len.ensures c.if-place-len.false) c.whole_entry-range.ensures entered))
    c.enter_copy.ensures.enters

pub returns-clause-plays : goal.returns-clause-plays
returns-clause-plays g c =
    on_ok c.enter_copy.result _ _
    (λ entered. plays_both (plays_told refl refl) (plays_told entered.told (lists_same c.args.self.now c.enter_copy.new.self
    (ap (λ z. z.resident) entered.memory) (ap (λ z. z.queues) entered.memory))))
    c.enter_copy.ensures.enters

pub returns-clause-restarts : goal.returns-clause-restarts
returns-clause-restarts g c =
    on_ok c.enter_copy.result _ _
    (λ entered.
    restarts_quiet g.given.header g.given.host c.enter_copy.new.self.waits.rows g.given.past c.args.self.now.waits.queue c.enter_copy.new.self.waits.queue
    c.args.log.now.items c.enter_copy.new.log.items c.requires.1.nothing (entered_quiet entered))
    c.enter_copy.ensures.enters

pub returns-clause-few : goal.returns-clause-few
returns-clause-few g c =
    few_ok c.enter_copy.result c.args.self.now c.enter_copy.new.self c.args.log.now c.enter_copy.new.log 4 4 (front wide.Frames c.args.self.now) (omega arith)
    c.enter_copy.ensures.spends

pub returns-clause-room : goal.returns-clause-room
returns-clause-room g c = λ more had access has.
    kept_ok c.enter_copy.result c.args.self.now c.enter_copy.new.self c.args.log.now c.enter_copy.new.log 4 4 (front wide.Frames c.args.self.now)
    (making wide.Frames c.args.self.now) more (omega arith) (omega arith) c.enter_copy.ensures.spends c.enter_copy.ensures.spare had has

pub returns-clause-err : goal.returns-clause-err
returns-clause-err g c =
    λ had access has. never_err c.enter_copy.result _ (c.enter_copy.ensures.succeeds
    (roomy_fewer (front wide.Frames c.args.self.now) (making wide.Frames c.args.self.now) 4 4 c.args.self.now _ had.tables (omega arith) (omega arith)))
