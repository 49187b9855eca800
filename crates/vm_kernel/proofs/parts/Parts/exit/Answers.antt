use Rattle.vm_kernel.proofs.Common.{Command, Event, IsDoneInTurn, List, Parts, Starts, Sweeps, ap, arith, by_address, entries_of, false, length, refl}
use Rattle.vm_kernel.proofs.Common.{rows_in, subst, sym, true, ◌∙◌, ◌∷◌, ◌≡◌}
use Rattle.vm_kernel.proofs.lists.ListsAsTold.{plays_both, plays_told}
use Rattle.vm_model.specs.declared.command.Command.TheVariants as command
use Rattle.vm_model.specs.declared.event.Event.TheVariants as event
use Rattle.vm_kernel.proofs.space.TasksEnd.{exit_gone, ran_swept, sweeps_exit}
use Rattle.vm_kernel.proofs.steps.EventsGrow.{on_ok}
use Rattle.vm_kernel.proofs.space.EntriesLeave.{ends_behind, still_ended}
use Rattle.vm_kernel.specs.Endings.{EndsByAddress}
use Rattle.vm_kernel.specs.Rooms.{leaving}
use Rattle.vm_kernel.specs.Plays.{paging}
use Rattle.vm_kernel.proofs.steps.QueueServed.{both_ok}
use Rattle.vm_kernel.proofs.room.EndsSpend.{exit_spends}
use Rattle.vm_kernel.proofs.room.MergesSpend.{all_gone, any_err, buffers_more, ends_err, ends_ok, rows_back, rows_enough, starts_roomier, still_more}
use Rattle.vm_kernel.proofs.parts.Parts.exit.Goals as goal

pub sweep_and_merge-requires : goal.sweep_and_merge-requires
sweep_and_merge-requires g c =
    let now = c.args.self.now in
    let more = c.room_to_merge.new.self in
    let mid : Parts = record more { maps = c.end_task-gone.new.self } in
    let gone = by_address c.end_task-gone.result in
    let starts = starts_roomier g.given.header g.given.host (command.Exit c.args.task) g.given.past now more c.args.ids.now c.args.log.now.items
    c.in_ok-losers.ensures.is
    (subst (λ (z : Command). Starts g.given.header g.given.host z g.given.past now c.args.ids.now c.args.log.now.items) c.requires.0 c.requires.1) in
    let sweeps = sweeps_exit g.given.header g.given.host g.given.outside c.args.task g.given.past c.args.log.now.items more c.args.ids.now
    c.end_task-gone.new.self gone starts c.end_task-gone.ensures.entries c.end_task-gone.ensures.ended in
    let few = all_gone c.args.task.0 now more c.end_task-gone.result c.in_ok-losers.ensures.is c.end_task-gone.ensures.entries in
    let room = c.in_ok-losers.ensures.room in
    let count = c.entry_count.ensures.count in (
      subst (λ (z : Command). Sweeps g.given.header g.given.host g.given.outside z g.given.past mid c.args.ids.now gone c.push.new.self.items)
          (sym c.requires.0)
          (subst (λ (z : List Event). Sweeps g.given.header g.given.host g.given.outside (command.Exit c.args.task) g.given.past mid c.args.ids.now gone z)
          (sym (c.in_ok-push.ensures.ok ∙ ap (λ z. event.TaskEnded c.args.task ∷ z) starts.nothing)) sweeps),
      (starts.rests.thin, (c.in_ok-losers.ensures.empty, omega (arith, few, room, count))),
    )

pub returns-clause-ran : goal.returns-clause-ran
returns-clause-ran g c =
    both_ok c.sweep_and_merge.result _ _ _
    (λ is thin. ran_swept g.given.header g.given.host g.given.outside g.given.command g.given.past c.sweep_and_merge.new.log.items c.sweep_and_merge.new.self
    c.args.ids.now is thin (subst (λ (z : Command). IsDoneInTurn g.given.header z c.sweep_and_merge.new.log.items g.given.past) (sym c.requires.0) tt))
    c.sweep_and_merge.ensures.sweeps c.sweep_and_merge.ensures.thin

pub returns-clause-plays : goal.returns-clause-plays
returns-clause-plays g c =
    on_ok c.sweep_and_merge.result _ _ (λ more. plays_both (plays_told c.in_ok-push.ensures.ok (ap paging c.in_ok-losers.ensures.is)) more)
    c.sweep_and_merge.ensures.plays

pub returns-clause-quiet : goal.returns-clause-quiet
returns-clause-quiet g c =
    on_ok c.sweep_and_merge.result _ _
    (λ more. still_more c.args.self.now c.room_to_merge.new.self c.sweep_and_merge.new.self (event.TaskEnded c.args.task) c.args.log.now.items
    c.push.new.self.items c.sweep_and_merge.new.log.items c.in_ok-losers.ensures.is c.in_ok-push.ensures.ok tt more)
    c.sweep_and_merge.ensures.quiet

pub returns-clause-ends : goal.returns-clause-ends
returns-clause-ends g c =
    let now = c.args.self.now in
    let more = c.room_to_merge.new.self in
    let gone = by_address c.end_task-gone.result in
    let starts = starts_roomier g.given.header g.given.host (command.Exit c.args.task) g.given.past now more c.args.ids.now c.args.log.now.items
    c.in_ok-losers.ensures.is
    (subst (λ (z : Command). Starts g.given.header g.given.host z g.given.past now c.args.ids.now c.args.log.now.items) c.requires.0 c.requires.1) in
    let same = exit_gone gone starts c.end_task-gone.ensures.entries in
    on_ok c.sweep_and_merge.result _ _
    (λ so. subst (λ (z : Command). EndsByAddress g.given.header g.given.past z c.sweep_and_merge.new.log.items) (sym c.requires.0)
    (ends_behind g.given.header g.given.past (event.TaskEnded c.args.task) gone (entries_of g.given.header.size c.args.task.0 g.given.past)
    c.push.new.self.items c.sweep_and_merge.new.log.items (c.in_ok-push.ensures.ok ∙ ap (λ z. event.TaskEnded c.args.task ∷ z) starts.nothing) same
    (still_ended g.given.header c.args.task g.given.past) so))
    c.sweep_and_merge.ensures.ends

pub returns-clause-spends : goal.returns-clause-spends
returns-clause-spends g c =
    let now = c.args.self.now in
    let more = c.room_to_merge.new.self in
    let gone = c.end_task-gone.result in
    let is = c.in_ok-losers.ensures.is in
    let few = all_gone c.args.task.0 now more gone is c.end_task-gone.ensures.entries in
    let count = c.entry_count.ensures.count in
    ends_ok c.sweep_and_merge.result now (record now { maps = c.end_task-gone.new.self }) (record more { maps = c.end_task-gone.new.self })
    c.sweep_and_merge.new.self c.args.ids.now c.args.log.now c.push.new.self c.sweep_and_merge.new.log (length (rows_in c.args.task.0 now.maps))
    (length gone.items)
    (exit_spends now c.args.ids.now c.end_task-gone.new.self c.args.log.now c.push.new.self _ c.in_ok-push.ensures.ok c.in_ok-push.ensures.room)
    (ap (λ (z : Parts). record z { maps = c.end_task-gone.new.self }) (rows_back now more is)) (ap (λ (z : Parts). leaving z c.args.ids.now) is)
    (omega (arith, few))
    (rows_enough (length gone.items) c.entry_count.result now.memory.resident.spare more (omega (arith, few, count)) c.in_ok-losers.ensures.rows)
    c.sweep_and_merge.ensures.spends

pub returns-clause-err : goal.returns-clause-err
returns-clause-err g c = λ room has.
    let now = c.args.self.now in
    let more = c.room_to_merge.new.self in
    let gone = c.end_task-gone.result in
    let is = c.in_ok-losers.ensures.is in
    let few = all_gone c.args.task.0 now more gone is c.end_task-gone.ensures.entries in
    let count = c.entry_count.ensures.count in
    let small = c.entry_count.ensures.few in
    ends_err c.sweep_and_merge.result now (record now { maps = c.end_task-gone.new.self }) (record more { maps = c.end_task-gone.new.self })
    c.sweep_and_merge.new.self c.args.ids.now c.args.log.now c.push.new.self c.sweep_and_merge.new.log (length (rows_in c.args.task.0 now.maps))
    (length gone.items)
    (exit_spends now c.args.ids.now c.end_task-gone.new.self c.args.log.now c.push.new.self _ c.in_ok-push.ensures.ok c.in_ok-push.ensures.room)
    (ap (λ (z : Parts). record z { maps = c.end_task-gone.new.self }) (rows_back now more is)) (ap (λ (z : Parts). leaving z c.args.ids.now) is)
    (omega (arith, few))
    (rows_enough (length gone.items) c.entry_count.result now.memory.resident.spare more (omega (arith, few, count)) c.in_ok-losers.ensures.rows)
    (omega (arith, count, small)) c.sweep_and_merge.ensures.succeeds room (buffers_more now more is has) _

pub returns-in_err-push-clause-err : goal.returns-in_err-push-clause-err
returns-in_err-push-clause-err g c = λ room has. let bad : false ≡ true = c.in_err-push.ensures.succeeds (omega (arith, room.log)) in absurd (cc)

pub returns-in_err-losers-clause-err : goal.returns-in_err-losers-clause-err
returns-in_err-losers-clause-err g c = λ room has. any_err c.from_residual.result
    ((c.room_to_merge.new.self ≡ c.args.self.now) × (c.args.log.now.items ≡ c.args.log.now.items)) (c.in_err-losers.ensures.err, refl)

pub returns-clause-buffers : goal.returns-clause-buffers
returns-clause-buffers g c =
    on_ok c.sweep_and_merge.result _ _ (λ more has. more (buffers_more c.args.self.now c.room_to_merge.new.self c.in_ok-losers.ensures.is has))
    c.sweep_and_merge.ensures.buffers
