use Rattle.vm_kernel.proofs.Common.{arith}
use Rattle.vm_kernel.proofs.lists.ListsAsTold.{plays_both}
use Rattle.vm_kernel.proofs.room.CallsSpend.{never_err}
use Rattle.vm_kernel.proofs.room.MergesSpend.{any_err}
use Rattle.vm_kernel.proofs.room.PartsOfStep.{few_behind, leaves_behind, room_behind, told_behind}
use Rattle.vm_kernel.proofs.steps.EventsGrow.{on_ok}
use Rattle.vm_kernel.proofs.steps.FramesInTurn.{restarts_behind}
use Rattle.vm_kernel.proofs.steps.HeadAlone.{begun_as, begun_ran, starts_as}
use Rattle.vm_kernel.proofs.steps.QueueServed.{three_ok}
use Rattle.vm_kernel.specs.Rooms.{of_entries}
use Rattle.vm_kernel.proofs.parts.Parts.fork.Goals as goal

pub fork_entries-requires : goal.fork_entries-requires
fork_entries-requires g c = starts_as c.requires.0 c.requires.1

pub restart-requires : goal.restart-requires
restart-requires g c = c.in_ok-fork_entries.ensures.begun.works

pub returns-clause-ran : goal.returns-clause-ran
returns-clause-ran g c =
    let begun = begun_as c.requires.0 c.in_ok-fork_entries.ensures.begun in
    three_ok c.restart.result _ _ _ _ (λ rests goes first. begun_ran begun rests goes) c.restart.ensures.rests c.restart.ensures.goes c.restart.ensures.first

pub returns-clause-plays : goal.returns-clause-plays
returns-clause-plays g c = on_ok c.restart.result _ _ (λ more. plays_both c.in_ok-fork_entries.ensures.plays more) c.restart.ensures.plays

pub returns-clause-restarts : goal.returns-clause-restarts
returns-clause-restarts g c =
    on_ok c.restart.result _ _
    (restarts_behind g.given.header g.given.host c.restart.new.self.waits.rows g.given.past c.args.self.now.waits.queue c.fork_entries.new.self.waits.queue
    c.restart.new.self.waits.queue c.args.log.now.items c.fork_entries.new.log.items c.restart.new.log.items c.requires.1.nothing
    c.in_ok-fork_entries.ensures.quiet)
    c.restart.ensures.restarts

pub returns-clause-few : goal.returns-clause-few
returns-clause-few g c =
    let made = of_entries c.args.task.0 c.args.self.now in
    let few = told_behind c.args.self.now c.fork_entries.new.self c.args.log.now c.fork_entries.new.log made made made (omega arith)
    c.in_ok-fork_entries.ensures.spends in
    on_ok c.restart.result _ _ (λ more. few_behind more few) c.restart.ensures.few

pub returns-clause-room : goal.returns-clause-room
returns-clause-room g c = λ more had has.
    let made = of_entries c.args.task.0 c.args.self.now in
    let runs = c.restart.ensures.room more (room_behind c.args.self.now c.fork_entries.new.self c.args.log.now c.fork_entries.new.log made made more
    c.in_ok-fork_entries.ensures.spends had) in
    leaves_behind c.restart.result more c.args.self.now c.fork_entries.new.self c.restart.new.self c.restart.new.log.room runs.1
    c.in_ok-fork_entries.ensures.spare c.restart.ensures.spare has

pub returns-in_err-fork_entries-clause-err : goal.returns-in_err-fork_entries-clause-err
returns-in_err-fork_entries-clause-err g c =
    λ had. any_err c.from_residual.result _ (c.in_err-fork_entries.ensures.err had.tables)

pub returns-clause-err : goal.returns-clause-err
returns-clause-err g c = λ had.
    let made = of_entries c.args.task.0 c.args.self.now in
    let left = room_behind c.args.self.now c.fork_entries.new.self c.args.log.now c.fork_entries.new.log made made 0 c.in_ok-fork_entries.ensures.spends had in
    never_err c.restart.result _ (c.restart.ensures.room 0 left).0
