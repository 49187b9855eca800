use Rattle.vm_kernel.proofs.Common.{ap, arith, count_again, false, refl, true, ◌∙◌, ◌≡◌}
use Rattle.vm_kernel.proofs.steps.EventsGrow.{on_ok}
use Rattle.vm_kernel.proofs.lists.ListsAsTold.{plays_both, plays_told}
use Rattle.vm_kernel.proofs.steps.AccessBegins.{Loads, begun_next, begun_ran, begun_works}
use Rattle.vm_kernel.proofs.steps.QueueServed.{three_ok}
use Rattle.vm_model.specs.declared.event.Event.TheVariants as event
use Rattle.vm_kernel.proofs.steps.FramesInTurn.{quiet_more, restarts_behind}
use Rattle.vm_kernel.proofs.room.PartsOfStep.{any_ok, begun_spends, few_behind, room_behind, spare_behind, told_behind}
use Rattle.vm_kernel.proofs.parts.Parts.load.Goals as goal

pub restart-requires : goal.restart-requires
restart-requires g c =
    begun_works g.given.header g.given.host g.given.command c.args.task (Loads c.args.address c.args.size) g.given.past c.args.self.now c.args.ids.now
    c.args.log.now.items c.push.new.self.items c.reserve.new.self c.begin.new.self
    c.requires.0 c.requires.1 c.in_ok-push.ensures.ok c.reserve.ensures.rows c.begin.ensures.entry c.begin.ensures.rows

pub returns-clause-ran : goal.returns-clause-ran
returns-clause-ran g c =
    let next =
    begun_next c.args.task (Loads c.args.address c.args.size) c.reserve.new.self.rows c.begin.new.self.rows
    (ap count_again c.reserve.ensures.rows ∙ c.requires.1.rests.idle) c.begin.ensures.again c.begin.ensures.entry in
    three_ok c.restart.result _ _ _ _
    (begun_ran g.given.header g.given.host g.given.outside g.given.command c.args.task (Loads c.args.address c.args.size) g.given.past c.args.self.now
    c.restart.new.self c.args.ids.now c.restart.new.ids c.args.log.now.items c.push.new.self.items c.restart.new.log.items
    c.begin.new.self.rows c.requires.0 c.requires.1 c.in_ok-push.ensures.ok next)
    c.restart.ensures.rests c.restart.ensures.goes c.restart.ensures.first

pub returns-clause-plays : goal.returns-clause-plays
returns-clause-plays g c = on_ok c.restart.result _ _ (λ more. plays_both (plays_told c.in_ok-push.ensures.ok refl) more) c.restart.ensures.plays

pub returns-clause-restarts : goal.returns-clause-restarts
returns-clause-restarts g c =
    let quiet = quiet_more c.args.self.now.waits.queue c.begin.new.self.queue c.args.log.now.items c.push.new.self.items
    (event.BegunLoad c.args.task c.args.address c.args.size) (c.begin.ensures.queue ∙ c.reserve.ensures.queue) c.in_ok-push.ensures.ok tt in
    on_ok c.restart.result _ _ (restarts_behind g.given.header g.given.host c.restart.new.self.waits.rows g.given.past c.args.self.now.waits.queue
    c.begin.new.self.queue c.restart.new.self.waits.queue c.args.log.now.items c.push.new.self.items c.restart.new.log.items c.requires.1.nothing quiet)
    c.restart.ensures.restarts

pub returns-clause-few : goal.returns-clause-few
returns-clause-few g c =
    let spends = begun_spends _ c.args.self.now c.begin.new.self c.args.log.now c.push.new.self c.begin.ensures.rows c.reserve.ensures.rows refl
    c.in_ok-push.ensures.ok c.in_ok-push.ensures.room in
    let few = told_behind c.args.self.now (record c.args.self.now { waits = c.begin.new.self }) c.args.log.now c.push.new.self 4 4 4 (omega arith) spends in
    on_ok c.restart.result _ _ (λ more. few_behind more few) c.restart.ensures.few

pub returns-clause-room : goal.returns-clause-room
returns-clause-room g c = λ more had access.
    let spends = begun_spends _ c.args.self.now c.begin.new.self c.args.log.now c.push.new.self c.begin.ensures.rows c.reserve.ensures.rows refl
    c.in_ok-push.ensures.ok c.in_ok-push.ensures.room in
    let runs = c.restart.ensures.room more (room_behind c.args.self.now (record c.args.self.now { waits = c.begin.new.self }) c.args.log.now c.push.new.self 4 4
    more spends had) in
    (any_ok c.restart.result _ runs.1, runs.0)

pub returns-in_err-reserve-clause-room : goal.returns-in_err-reserve-clause-room
returns-in_err-reserve-clause-room g c = λ more had access. absurd (let bad : false ≡ true = c.in_err-reserve.ensures.succeeds (omega (arith, access)) in cc)

pub returns-in_err-push-clause-room : goal.returns-in_err-push-clause-room
returns-in_err-push-clause-room g c = λ more had access. absurd (let bad : false ≡ true = c.in_err-push.ensures.succeeds (omega (arith, had.log)) in cc)

pub returns-clause-spare : goal.returns-clause-spare
returns-clause-spare g c =
    on_ok c.restart.result _ _
    (λ keeps. spare_behind c.args.self.now c.begin.new.self c.restart.new.self keeps)
    c.restart.ensures.spare
