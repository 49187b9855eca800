use Rattle.vm_kernel.proofs.steps.CommandsBuilt.{none_else}
use Rattle.vm_kernel.proofs.steps.EventsGrow.{on_ok}
use Rattle.vm_kernel.proofs.steps.FramesInTurn.{restarts_quiet}
use Rattle.vm_kernel.proofs.Common.{arith, length, refl, rows_in, ◌+◌}
use Rattle.vm_kernel.proofs.room.PartsOfStep.{ended_ok, few_in, few_ok, kept_ok, ending_few, made_in, on_err}
use Rattle.vm_kernel.proofs.room.EndsSpend.{roomy_fewer}
use Rattle.vm_kernel.proofs.room.CallsSpend.{never_err}
use Rattle.vm_kernel.specs.Rooms.{leaving}
use Rattle.vm_kernel.proofs.parts.Parts.change_entries.Goals as goal

pub returns-in_default-clause-ran : goal.returns-in_default-clause-ran
returns-in_default-clause-ran g c =
    absurd (none_else c.args.command.now c.requires.1 c.in_default.not-Allocate c.in_default.not-Deallocate c.in_default.not-Protect c.in_default.not-Inherit)

pub returns-in-Allocate-clause-restarts : goal.returns-in-Allocate-clause-restarts
returns-in-Allocate-clause-restarts g c =
    on_ok c.allocate.result _ _ (restarts_quiet g.given.header g.given.host c.allocate.new.self.waits.rows g.given.past c.args.self.now.waits.queue
    c.allocate.new.self.waits.queue c.args.log.now.items c.allocate.new.log.items c.requires.0.nothing) c.allocate.ensures.quiet

pub returns-in-Deallocate-clause-restarts : goal.returns-in-Deallocate-clause-restarts
returns-in-Deallocate-clause-restarts g c =
    on_ok c.deallocate.result _ _ (restarts_quiet g.given.header g.given.host c.deallocate.new.self.waits.rows g.given.past c.args.self.now.waits.queue
    c.deallocate.new.self.waits.queue c.args.log.now.items c.deallocate.new.log.items c.requires.0.nothing) c.deallocate.ensures.quiet

pub returns-in-Protect-clause-restarts : goal.returns-in-Protect-clause-restarts
returns-in-Protect-clause-restarts g c =
    on_ok c.protect.result _ _ (restarts_quiet g.given.header g.given.host c.protect.new.self.waits.rows g.given.past c.args.self.now.waits.queue
    c.protect.new.self.waits.queue c.args.log.now.items c.protect.new.log.items c.requires.0.nothing) c.protect.ensures.quiet

pub returns-in-Inherit-clause-restarts : goal.returns-in-Inherit-clause-restarts
returns-in-Inherit-clause-restarts g c =
    on_ok c.inherit.result _ _ (restarts_quiet g.given.header g.given.host c.inherit.new.self.waits.rows g.given.past c.args.self.now.waits.queue
    c.inherit.new.self.waits.queue c.args.log.now.items c.inherit.new.log.items c.requires.0.nothing) c.inherit.ensures.quiet

pub returns-in-Allocate-clause-few : goal.returns-in-Allocate-clause-few
returns-in-Allocate-clause-few g c =
    few_ok c.allocate.result c.args.self.now c.allocate.new.self c.args.log.now c.allocate.new.log 2 2 _
    (few_in c.args.command.now _ c.args.self.now 2 c.in-Allocate.is (omega arith)) c.allocate.ensures.spends

pub returns-in-Allocate-clause-room : goal.returns-in-Allocate-clause-room
returns-in-Allocate-clause-room g c = λ more had access has.
    kept_ok c.allocate.result c.args.self.now c.allocate.new.self c.args.log.now c.allocate.new.log 2 2 _ _ more
    (few_in c.args.command.now _ c.args.self.now 2 c.in-Allocate.is (omega arith))
    (made_in c.args.command.now _ c.args.self.now 2 c.in-Allocate.is (omega arith)) c.allocate.ensures.spends c.allocate.ensures.spare had has

pub returns-in-Allocate-clause-err : goal.returns-in-Allocate-clause-err
returns-in-Allocate-clause-err g c =
    λ had access has. never_err c.allocate.result _ (c.allocate.ensures.succeeds
    (roomy_fewer _ _ 2 2 c.args.self.now _ had.tables (few_in c.args.command.now _ c.args.self.now 2 c.in-Allocate.is (omega arith))
    (made_in c.args.command.now _ c.args.self.now 2 c.in-Allocate.is (omega arith))))

pub returns-in-Deallocate-clause-few : goal.returns-in-Deallocate-clause-few
returns-in-Deallocate-clause-few g c =
    few_ok c.deallocate.result c.args.self.now c.deallocate.new.self c.args.log.now c.deallocate.new.log
    (1 + leaving c.args.self.now c.args.ids.now + length (rows_in c.in-Deallocate.task.0 c.args.self.now.maps)) 0 _
    (few_in c.args.command.now _ c.args.self.now _ c.in-Deallocate.is (ending_few c.in-Deallocate.task c.requires.0.rests.matches c.stand_once.ensures))
    c.deallocate.ensures.spends

pub returns-in-Deallocate-clause-room : goal.returns-in-Deallocate-clause-room
returns-in-Deallocate-clause-room g c = λ more had access has.
    ended_ok c.deallocate.result c.args.self.now c.deallocate.new.self c.args.log.now c.deallocate.new.log
    (1 + leaving c.args.self.now c.args.ids.now + length (rows_in c.in-Deallocate.task.0 c.args.self.now.maps)) _ _ more
    (few_in c.args.command.now _ c.args.self.now _ c.in-Deallocate.is (ending_few c.in-Deallocate.task c.requires.0.rests.matches c.stand_once.ensures))
    c.deallocate.ensures.spends c.deallocate.ensures.buffers had has

pub returns-in-Deallocate-clause-err : goal.returns-in-Deallocate-clause-err
returns-in-Deallocate-clause-err g c =
    λ had access has. on_err c.deallocate.result _ _ (λ same. (same.0, (refl, same.1)))
    (c.deallocate.ensures.err (roomy_fewer _ _ _ 0 c.args.self.now _ had.tables (few_in c.args.command.now _ c.args.self.now _ c.in-Deallocate.is
    (ending_few c.in-Deallocate.task c.requires.0.rests.matches c.stand_once.ensures)) (omega arith)) has)

pub returns-in-Protect-clause-few : goal.returns-in-Protect-clause-few
returns-in-Protect-clause-few g c =
    few_ok c.protect.result c.args.self.now c.protect.new.self c.args.log.now c.protect.new.log 1 1 _
    (few_in c.args.command.now _ c.args.self.now 1 c.in-Protect.is (omega arith)) c.protect.ensures.spends

pub returns-in-Protect-clause-room : goal.returns-in-Protect-clause-room
returns-in-Protect-clause-room g c = λ more had access has.
    kept_ok c.protect.result c.args.self.now c.protect.new.self c.args.log.now c.protect.new.log 1 1 _ _ more
    (few_in c.args.command.now _ c.args.self.now 1 c.in-Protect.is (omega arith))
    (made_in c.args.command.now _ c.args.self.now 1 c.in-Protect.is (omega arith)) c.protect.ensures.spends c.protect.ensures.spare had has

pub returns-in-Protect-clause-err : goal.returns-in-Protect-clause-err
returns-in-Protect-clause-err g c =
    λ had access has. on_err c.protect.result _ _ (λ same. (same.0, (refl, same.1)))
    (c.protect.ensures.err (roomy_fewer _ _ 1 1 c.args.self.now _ had.tables (few_in c.args.command.now _ c.args.self.now 1 c.in-Protect.is (omega arith))
    (made_in c.args.command.now _ c.args.self.now 1 c.in-Protect.is (omega arith))))

pub returns-in-Inherit-clause-few : goal.returns-in-Inherit-clause-few
returns-in-Inherit-clause-few g c =
    few_ok c.inherit.result c.args.self.now c.inherit.new.self c.args.log.now c.inherit.new.log 1 1 _
    (few_in c.args.command.now _ c.args.self.now 1 c.in-Inherit.is (omega arith)) c.inherit.ensures.spends

pub returns-in-Inherit-clause-room : goal.returns-in-Inherit-clause-room
returns-in-Inherit-clause-room g c = λ more had access has.
    kept_ok c.inherit.result c.args.self.now c.inherit.new.self c.args.log.now c.inherit.new.log 1 1 _ _ more
    (few_in c.args.command.now _ c.args.self.now 1 c.in-Inherit.is (omega arith))
    (made_in c.args.command.now _ c.args.self.now 1 c.in-Inherit.is (omega arith)) c.inherit.ensures.spends c.inherit.ensures.spare had has

pub returns-in-Inherit-clause-err : goal.returns-in-Inherit-clause-err
returns-in-Inherit-clause-err g c =
    λ had access has. on_err c.inherit.result _ _ (λ same. (same.0, (refl, same.1)))
    (c.inherit.ensures.err (roomy_fewer _ _ 1 1 c.args.self.now _ had.tables (few_in c.args.command.now _ c.args.self.now 1 c.in-Inherit.is (omega arith))
    (made_in c.args.command.now _ c.args.self.now 1 c.in-Inherit.is (omega arith))))

pub returns-in_default-clause-few : goal.returns-in_default-clause-few
returns-in_default-clause-few g c =
    absurd (none_else c.args.command.now c.requires.1 c.in_default.not-Allocate c.in_default.not-Deallocate c.in_default.not-Protect c.in_default.not-Inherit)

pub returns-in_default-clause-room : goal.returns-in_default-clause-room
returns-in_default-clause-room g c =
    absurd (none_else c.args.command.now c.requires.1 c.in_default.not-Allocate c.in_default.not-Deallocate c.in_default.not-Protect c.in_default.not-Inherit)
