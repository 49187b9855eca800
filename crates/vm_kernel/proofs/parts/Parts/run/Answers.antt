use Rattle.vm_kernel.proofs.Common.{Command, OnOk, Ran, arith, length, refl, rows_in, subst, sym, ◌+◌}
use Rattle.vm_kernel.proofs.steps.CommandsBuilt.{none_unknown, pageout_of, task_of}
use Rattle.vm_kernel.proofs.steps.EventsGrow.{on_ok}
use Rattle.vm_kernel.proofs.steps.FramesInTurn.{restarts_quiet}
use Rattle.vm_kernel.proofs.room.PartsOfStep.{begun_leaves, ended_ok, few_behind, few_in, few_ok, kept_ok, ending_few, listed_few, made_in, more_fewer, on_err}
use Rattle.vm_kernel.proofs.room.PartsOfStep.{out_few, room_behind, up_to_front}
use Rattle.vm_kernel.proofs.room.EndsSpend.{roomy_fewer}
use Rattle.vm_kernel.proofs.steps.QueueServed.{both_ok}
use Rattle.vm_kernel.proofs.room.CallsSpend.{never_err}
use Rattle.vm_kernel.specs.Plays.{PlaysBy, may_reclaim, paging}
use Rattle.vm_kernel.specs.Rooms.{HasReturns, front, leaving, making, of_entries}
use Rattle.vm_kernel.specs.declared.breadth.Breadth.TheVariants as wide
use Rattle.vm_kernel.proofs.parts.Parts.run.Given as given
use Rattle.vm_kernel.proofs.parts.Parts.run.Goals as goal

-- the command is one of those that are built
unknown : (g : given.Over) (c : goal.In_default g) → ⊥
unknown g c =
    none_unknown c.args.command.now c.requires.1 (record {
      task = c.in_default.not-Task;
      fork = c.in_default.not-Fork;
      exit = c.in_default.not-Exit;
      map = c.in_default.not-Map;
      allocate = c.in_default.not-Allocate;
      deallocate = c.in_default.not-Deallocate;
      protect = c.in_default.not-Protect;
      inherit = c.in_default.not-Inherit;
      load = c.in_default.not-Load;
      store = c.in_default.not-Store;
      copy = c.in_default.not-Copy;
      pageout = c.in_default.not-Pageout;
      wire = c.in_default.not-Wire;
      unwire = c.in_default.not-Unwire;
    })

pub returns-in_default-clause-ran : goal.returns-in_default-clause-ran
returns-in_default-clause-ran g c = absurd (unknown g c)

pub returns-in-Task-clause-ran : goal.returns-in-Task-clause-ran
returns-in-Task-clause-ran g c =
    let is = task_of g.given.header g.given.host c.args.command.now g.given.past c.args.self.now c.args.ids.now c.args.log.now.items c.in-Task.task
    c.in-Task.host c.requires.0 c.in-Task.is in
    on_ok c.make_task.result _ _ (λ ran. subst (λ (z : Command). Ran g.given.header g.given.host g.given.outside z g.given.past c.make_task.new.self
    c.args.ids.now c.make_task.new.log.items) (sym is) ran) c.make_task.ensures.ran

pub returns-in-Pageout-clause-ran : goal.returns-in-Pageout-clause-ran
returns-in-Pageout-clause-ran g c =
    let is = pageout_of g.given.header g.given.host c.args.command.now g.given.past c.args.self.now c.args.ids.now c.args.log.now.items c.in-Pageout.host
    c.in-Pageout.count c.requires.0 c.in-Pageout.is in
    on_ok c.pageout.result _ _ (λ ran. subst (λ (z : Command). Ran g.given.header g.given.host g.given.outside z g.given.past c.pageout.new.self c.args.ids.now
    c.pageout.new.log.items) (sym is) ran) c.pageout.ensures.ran

pub returns-in-Task-clause-restarts : goal.returns-in-Task-clause-restarts
returns-in-Task-clause-restarts g c =
    on_ok c.make_task.result _ _ (restarts_quiet g.given.header g.given.host c.make_task.new.self.waits.rows g.given.past c.args.self.now.waits.queue
    c.make_task.new.self.waits.queue c.args.log.now.items c.make_task.new.log.items c.requires.0.nothing) c.make_task.ensures.quiet

pub returns-in-Map-clause-restarts : goal.returns-in-Map-clause-restarts
returns-in-Map-clause-restarts g c =
    on_ok c.map.result _ _ (restarts_quiet g.given.header g.given.host c.map.new.self.waits.rows g.given.past c.args.self.now.waits.queue
    c.map.new.self.waits.queue c.args.log.now.items c.map.new.log.items c.requires.0.nothing) c.map.ensures.quiet

pub returns-in-Exit-clause-restarts : goal.returns-in-Exit-clause-restarts
returns-in-Exit-clause-restarts g c =
    on_ok c.exit.result _ _ (restarts_quiet g.given.header g.given.host c.exit.new.self.waits.rows g.given.past c.args.self.now.waits.queue
    c.exit.new.self.waits.queue c.args.log.now.items c.exit.new.log.items c.requires.0.nothing) c.exit.ensures.quiet

pub returns-in-Pageout-clause-restarts : goal.returns-in-Pageout-clause-restarts
returns-in-Pageout-clause-restarts g c =
    on_ok c.pageout.result _ _ (restarts_quiet g.given.header g.given.host c.pageout.new.self.waits.rows g.given.past c.args.self.now.waits.queue
    c.pageout.new.self.waits.queue c.args.log.now.items c.pageout.new.log.items c.requires.0.nothing) c.pageout.ensures.quiet

pub returns-in-Wire-clause-restarts : goal.returns-in-Wire-clause-restarts
returns-in-Wire-clause-restarts g c =
    on_ok c.wire.result _ _ (restarts_quiet g.given.header g.given.host c.wire.new.self.waits.rows g.given.past c.args.self.now.waits.queue
    c.wire.new.self.waits.queue c.args.log.now.items c.wire.new.log.items c.requires.0.nothing) c.wire.ensures.quiet

pub returns-in-Unwire-clause-restarts : goal.returns-in-Unwire-clause-restarts
returns-in-Unwire-clause-restarts g c =
    on_ok c.unwire.result _ _ (restarts_quiet g.given.header g.given.host c.unwire.new.self.waits.rows g.given.past c.args.self.now.waits.queue
    c.unwire.new.self.waits.queue c.args.log.now.items c.unwire.new.log.items c.requires.0.nothing) c.unwire.ensures.quiet

pub returns-in-Task-clause-few : goal.returns-in-Task-clause-few
returns-in-Task-clause-few g c =
    few_ok c.make_task.result c.args.self.now c.make_task.new.self c.args.log.now c.make_task.new.log 1 1 _
    (few_in c.args.command.now _ c.args.self.now 1 c.in-Task.is (omega arith)) c.make_task.ensures.spends

pub returns-in-Task-clause-room : goal.returns-in-Task-clause-room
returns-in-Task-clause-room g c = λ more had access has returns.
    kept_ok c.make_task.result c.args.self.now c.make_task.new.self c.args.log.now c.make_task.new.log 1 1 _ _ more
    (few_in c.args.command.now _ c.args.self.now 1 c.in-Task.is (omega arith)) (made_in c.args.command.now _ c.args.self.now 1 c.in-Task.is (omega arith))
    c.make_task.ensures.spends c.make_task.ensures.spare had has

pub returns-in-Task-clause-err : goal.returns-in-Task-clause-err
returns-in-Task-clause-err g c =
    λ had access has returns. on_err c.make_task.result _ _ (λ same. (same.0, (refl, same.1)))
    (c.make_task.ensures.err (roomy_fewer _ _ 1 1 c.args.self.now _ had.tables (few_in c.args.command.now _ c.args.self.now 1 c.in-Task.is (omega arith))
    (made_in c.args.command.now _ c.args.self.now 1 c.in-Task.is (omega arith))))

pub returns-in-Fork-clause-few : goal.returns-in-Fork-clause-few
returns-in-Fork-clause-few g c =
    let made = of_entries c.in-Fork.task.0 c.args.self.now in
    on_ok c.fork.result _ _ (λ few. few_behind few (up_to_front c.args.self.now (length c.args.log.now.items) made _
    (few_in c.args.command.now _ c.args.self.now made c.in-Fork.is (omega arith)))) c.fork.ensures.few

pub returns-in-Fork-clause-room : goal.returns-in-Fork-clause-room
returns-in-Fork-clause-room g c = λ more had access has returns.
    let made = of_entries c.in-Fork.task.0 c.args.self.now in
    c.fork.ensures.room more (more_fewer _ _ made made more c.args.self.now _ had (few_in c.args.command.now _ c.args.self.now made c.in-Fork.is (omega arith))
    (made_in c.args.command.now _ c.args.self.now made c.in-Fork.is (omega arith))) has

pub returns-in-Fork-clause-err : goal.returns-in-Fork-clause-err
returns-in-Fork-clause-err g c = λ had access has returns.
    let made = of_entries c.in-Fork.task.0 c.args.self.now in
    c.fork.ensures.err (more_fewer _ _ made made 0 c.args.self.now _ had (few_in c.args.command.now _ c.args.self.now made c.in-Fork.is (omega arith))
    (made_in c.args.command.now _ c.args.self.now made c.in-Fork.is (omega arith)))

pub returns-in-Exit-clause-few : goal.returns-in-Exit-clause-few
returns-in-Exit-clause-few g c =
    few_ok c.exit.result c.args.self.now c.exit.new.self c.args.log.now c.exit.new.log
    (1 + leaving c.args.self.now c.args.ids.now + length (rows_in c.in-Exit.task.0 c.args.self.now.maps)) 0 _
    (few_in c.args.command.now _ c.args.self.now _ c.in-Exit.is (ending_few c.in-Exit.task c.requires.0.rests.matches c.stand_once.ensures))
    c.exit.ensures.spends

pub returns-in-Exit-clause-room : goal.returns-in-Exit-clause-room
returns-in-Exit-clause-room g c = λ more had access has returns.
    ended_ok c.exit.result c.args.self.now c.exit.new.self c.args.log.now c.exit.new.log
    (1 + leaving c.args.self.now c.args.ids.now + length (rows_in c.in-Exit.task.0 c.args.self.now.maps)) _ _ more
    (few_in c.args.command.now _ c.args.self.now _ c.in-Exit.is (ending_few c.in-Exit.task c.requires.0.rests.matches c.stand_once.ensures))
    c.exit.ensures.spends
    c.exit.ensures.buffers had has

pub returns-in-Exit-clause-err : goal.returns-in-Exit-clause-err
returns-in-Exit-clause-err g c =
    λ had access has returns. on_err c.exit.result _ _ (λ same. (same.0, (refl, same.1)))
    (c.exit.ensures.err (roomy_fewer _ _ _ 0 c.args.self.now _ had.tables (few_in c.args.command.now _ c.args.self.now _ c.in-Exit.is
    (ending_few c.in-Exit.task c.requires.0.rests.matches c.stand_once.ensures)) (omega arith)) has)

pub returns-in-Map-clause-few : goal.returns-in-Map-clause-few
returns-in-Map-clause-few g c =
    few_ok c.map.result c.args.self.now c.map.new.self c.args.log.now c.map.new.log 2 2 _
    (few_in c.args.command.now _ c.args.self.now 2 c.in-Map.is (omega arith)) c.map.ensures.spends

pub returns-in-Map-clause-room : goal.returns-in-Map-clause-room
returns-in-Map-clause-room g c = λ more had access has returns.
    kept_ok c.map.result c.args.self.now c.map.new.self c.args.log.now c.map.new.log 2 2 _ _ more
    (few_in c.args.command.now _ c.args.self.now 2 c.in-Map.is (omega arith)) (made_in c.args.command.now _ c.args.self.now 2 c.in-Map.is (omega arith))
    c.map.ensures.spends c.map.ensures.spare had has

pub returns-in-Map-clause-err : goal.returns-in-Map-clause-err
returns-in-Map-clause-err g c =
    λ had access has returns. on_err c.map.result _ _ (λ same. (same.0, (refl, same.1)))
    (c.map.ensures.err (roomy_fewer _ _ 2 2 c.args.self.now _ had.tables (few_in c.args.command.now _ c.args.self.now 2 c.in-Map.is (omega arith))
    (made_in c.args.command.now _ c.args.self.now 2 c.in-Map.is (omega arith))))

pub returns-in-Wire-clause-few : goal.returns-in-Wire-clause-few
returns-in-Wire-clause-few g c =
    few_ok c.wire.result c.args.self.now c.wire.new.self c.args.log.now c.wire.new.log 1 1 _
    (few_in c.args.command.now _ c.args.self.now 1 c.in-Wire.is (omega arith)) c.wire.ensures.spends

pub returns-in-Wire-clause-room : goal.returns-in-Wire-clause-room
returns-in-Wire-clause-room g c = λ more had access has returns.
    kept_ok c.wire.result c.args.self.now c.wire.new.self c.args.log.now c.wire.new.log 1 1 _ _ more
    (few_in c.args.command.now _ c.args.self.now 1 c.in-Wire.is (omega arith)) (made_in c.args.command.now _ c.args.self.now 1 c.in-Wire.is (omega arith))
    c.wire.ensures.spends c.wire.ensures.spare had has

pub returns-in-Wire-clause-err : goal.returns-in-Wire-clause-err
returns-in-Wire-clause-err g c =
    λ had access has returns. never_err c.wire.result _ (c.wire.ensures.succeeds
    (roomy_fewer _ _ 1 1 c.args.self.now _ had.tables (few_in c.args.command.now _ c.args.self.now 1 c.in-Wire.is (omega arith))
    (made_in c.args.command.now _ c.args.self.now 1 c.in-Wire.is (omega arith))))

pub returns-in-Unwire-clause-few : goal.returns-in-Unwire-clause-few
returns-in-Unwire-clause-few g c =
    few_ok c.unwire.result c.args.self.now c.unwire.new.self c.args.log.now c.unwire.new.log 1 1 _
    (few_in c.args.command.now _ c.args.self.now 1 c.in-Unwire.is (omega arith)) c.unwire.ensures.spends

pub returns-in-Unwire-clause-room : goal.returns-in-Unwire-clause-room
returns-in-Unwire-clause-room g c = λ more had access has returns.
    kept_ok c.unwire.result c.args.self.now c.unwire.new.self c.args.log.now c.unwire.new.log 1 1 _ _ more
    (few_in c.args.command.now _ c.args.self.now 1 c.in-Unwire.is (omega arith))
    (made_in c.args.command.now _ c.args.self.now 1 c.in-Unwire.is (omega arith)) c.unwire.ensures.spends c.unwire.ensures.spare had has

pub returns-in-Unwire-clause-err : goal.returns-in-Unwire-clause-err
returns-in-Unwire-clause-err g c =
    λ had access has returns. never_err c.unwire.result _ (c.unwire.ensures.succeeds
    (roomy_fewer _ _ 1 1 c.args.self.now _ had.tables (few_in c.args.command.now _ c.args.self.now 1 c.in-Unwire.is (omega arith))
    (made_in c.args.command.now _ c.args.self.now 1 c.in-Unwire.is (omega arith))))

pub returns-in-Load-clause-few : goal.returns-in-Load-clause-few
returns-in-Load-clause-few g c =
    on_ok c.load.result _ _ (λ few. few_behind few (up_to_front c.args.self.now (length c.args.log.now.items) 4 _
    (few_in c.args.command.now _ c.args.self.now 4 c.in-Load.is (omega arith)))) c.load.ensures.few

pub returns-in-Load-clause-room : goal.returns-in-Load-clause-room
returns-in-Load-clause-room g c = λ more had access has returns.
    let began = c.load.ensures.room more (more_fewer _ _ 4 4 more c.args.self.now _ had
    (few_in c.args.command.now _ c.args.self.now 4 c.in-Load.is (omega arith)) (made_in c.args.command.now _ c.args.self.now 4 c.in-Load.is (omega arith)))
    access in
    begun_leaves c.load.result more c.args.self.now c.load.new.self c.load.new.log.room began.0 c.load.ensures.spare has

pub returns-in-Load-clause-err : goal.returns-in-Load-clause-err
returns-in-Load-clause-err g c =
    λ had access has returns. never_err c.load.result _ (c.load.ensures.room 0
    (more_fewer _ _ 4 4 0 c.args.self.now _ had (few_in c.args.command.now _ c.args.self.now 4 c.in-Load.is (omega arith))
    (made_in c.args.command.now _ c.args.self.now 4 c.in-Load.is (omega arith))) access).1

pub returns-in-Store-clause-few : goal.returns-in-Store-clause-few
returns-in-Store-clause-few g c =
    on_ok c.store.result _ _ (λ few. few_behind few (up_to_front c.args.self.now (length c.args.log.now.items) 4 _
    (few_in c.args.command.now _ c.args.self.now 4 c.in-Store.is (omega arith)))) c.store.ensures.few

pub returns-in-Store-clause-room : goal.returns-in-Store-clause-room
returns-in-Store-clause-room g c = λ more had access has returns.
    let began = c.store.ensures.room more (more_fewer _ _ 4 4 more c.args.self.now _ had
    (few_in c.args.command.now _ c.args.self.now 4 c.in-Store.is (omega arith))
    (made_in c.args.command.now _ c.args.self.now 4 c.in-Store.is (omega arith))) access in
    begun_leaves c.store.result more c.args.self.now c.store.new.self c.store.new.log.room began.0 c.store.ensures.spare has

pub returns-in-Store-clause-err : goal.returns-in-Store-clause-err
returns-in-Store-clause-err g c =
    λ had access has returns. never_err c.store.result _ (c.store.ensures.room 0
    (more_fewer _ _ 4 4 0 c.args.self.now _ had (few_in c.args.command.now _ c.args.self.now 4 c.in-Store.is (omega arith))
    (made_in c.args.command.now _ c.args.self.now 4 c.in-Store.is (omega arith))) access).1

pub returns-in-Copy-clause-room : goal.returns-in-Copy-clause-room
returns-in-Copy-clause-room g c =
    λ more had access has returns. c.copy.ensures.room more (more_fewer _ _ (front wide.Frames c.args.self.now) (making wide.Frames c.args.self.now) more
    c.args.self.now _ had (few_in c.args.command.now _ c.args.self.now _ c.in-Copy.is (omega arith))
    (made_in c.args.command.now _ c.args.self.now _ c.in-Copy.is (omega arith))) access has

pub returns-in-Copy-clause-err : goal.returns-in-Copy-clause-err
returns-in-Copy-clause-err g c =
    λ had access has returns. c.copy.ensures.err (more_fewer _ _ (front wide.Frames c.args.self.now) (making wide.Frames c.args.self.now) 0 c.args.self.now
    _ had (few_in c.args.command.now _ c.args.self.now _ c.in-Copy.is (omega arith))
    (made_in c.args.command.now _ c.args.self.now _ c.in-Copy.is (omega arith))) access has

pub returns-in-Copy-clause-few : goal.returns-in-Copy-clause-few
returns-in-Copy-clause-few g c =
    on_ok c.copy.result _ _ (λ few. few_behind few (up_to_front c.args.self.now (length c.args.log.now.items) (front wide.Frames c.args.self.now) _
    (few_in c.args.command.now _ c.args.self.now _ c.in-Copy.is (omega arith)))) c.copy.ensures.few

pub returns-in-Pageout-clause-few : goal.returns-in-Pageout-clause-few
returns-in-Pageout-clause-few g c =
    few_ok c.pageout.result c.args.self.now c.pageout.new.self c.args.log.now c.pageout.new.log _ 0 _
    (few_in c.args.command.now _ c.args.self.now _ c.in-Pageout.is (out_few c.args.self.now (listed_few c.requires.0.rests.matches c.stand_once.ensures)))
    c.pageout.ensures.spends

pub returns-in-Pageout-clause-room : goal.returns-in-Pageout-clause-room
returns-in-Pageout-clause-room g c = λ more had access has returns.
    let returned = subst (λ (z : Command). HasReturns z c.args.self.now) c.in-Pageout.is returns in
    let few = few_in c.args.command.now _ c.args.self.now _ c.in-Pageout.is (out_few c.args.self.now
    (listed_few c.requires.0.rests.matches c.stand_once.ensures)) in
    both_ok c.pageout.result _ _ _
    (λ is spare. (
      room_behind c.args.self.now c.pageout.new.self c.args.log.now c.pageout.new.log _ 0 more is
          (more_fewer _ _ _ 0 more c.args.self.now _ had few (omega arith)),
      spare returned,
    ))
    c.pageout.ensures.spends c.pageout.ensures.spare

pub returns-in-Pageout-clause-err : goal.returns-in-Pageout-clause-err
returns-in-Pageout-clause-err g c = λ had access has returns.
    let returned = subst (λ (z : Command). HasReturns z c.args.self.now) c.in-Pageout.is returns in
    let few = few_in c.args.command.now _ c.args.self.now _ c.in-Pageout.is (out_few c.args.self.now
    (listed_few c.requires.0.rests.matches c.stand_once.ensures)) in
    never_err c.pageout.result _ (c.pageout.ensures.succeeds (roomy_fewer _ _ _ 0 c.args.self.now _ had.tables few (omega arith)) returned)

pub returns-in_default-clause-few : goal.returns-in_default-clause-few
returns-in_default-clause-few g c = absurd (unknown g c)

pub returns-in_default-clause-room : goal.returns-in_default-clause-room
returns-in_default-clause-room g c = absurd (unknown g c)

pub returns-in-Copy-clause-plays : goal.returns-in-Copy-clause-plays
returns-in-Copy-clause-plays g c =
    subst (λ (z : Command). OnOk c.copy.result (PlaysBy g.given.header (may_reclaim z c.args.self.now.waits.queue g.given.past) g.given.past
    c.args.log.now.items (paging c.args.self.now) c.copy.new.log.items (paging c.copy.new.self))) (sym c.in-Copy.is)
    c.copy.ensures.plays

pub returns-in-Fork-clause-plays : goal.returns-in-Fork-clause-plays
returns-in-Fork-clause-plays g c =
    subst (λ (z : Command). OnOk c.fork.result (PlaysBy g.given.header (may_reclaim z c.args.self.now.waits.queue g.given.past) g.given.past
    c.args.log.now.items (paging c.args.self.now) c.fork.new.log.items (paging c.fork.new.self))) (sym c.in-Fork.is)
    c.fork.ensures.plays

pub returns-in-Allocate-clause-room : goal.returns-in-Allocate-clause-room
returns-in-Allocate-clause-room g c = λ more had access has returns. c.change_entries.ensures.room more had access has
