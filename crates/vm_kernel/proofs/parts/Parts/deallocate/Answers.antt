use Rattle.vm_kernel.proofs.Common.{Command, Event, Ids, IsDoneInTurn, List, Parts, Starts, Sweeps, ap, arith, by_address, entries_of, false, length}
use Rattle.vm_kernel.proofs.Common.{parts_in, refl, rows_in, subst, sym, true, ◌+◌, ◌∙◌, ◌∷◌, ◌≡◌}
use Rattle.vm_kernel.proofs.lists.ListsAsTold.{plays_both, plays_told}
use Rattle.vm_model.specs.declared.command.Command.TheVariants as command
use Rattle.vm_model.specs.declared.event.Event.TheVariants as event
use Rattle.vm_kernel.proofs.space.EntriesChanged.{all_there, entries_few, may_remove}
use Rattle.vm_kernel.proofs.space.TasksEnd.{ran_swept, removed_gone, sweeps_removed}
use Rattle.vm_kernel.proofs.steps.EventsGrow.{on_ok}
use Rattle.vm_kernel.proofs.space.EntriesLeave.{ends_behind, still_removed}
use Rattle.vm_kernel.specs.Endings.{EndsByAddress}
use Rattle.vm_kernel.specs.Plays.{paging}
use Rattle.vm_kernel.specs.Rooms.{leaving, with_rows}
use Rattle.vm_kernel.proofs.space.StillThin.{thin_chains}
use Rattle.vm_kernel.proofs.space.EntriesAtBoundary.{cut_there}
use Rattle.vm_kernel.proofs.steps.QueueServed.{both_ok}
use Rattle.vm_kernel.proofs.room.CallsSpend.{removed_spends}
use Rattle.vm_kernel.proofs.room.MergesSpend.{any_err, buffers_more, ends_err, ends_ok, parts_gone, rows_back, rows_enough, starts_roomier, still_more}
use Rattle.vm_kernel.proofs.parts.Parts.deallocate.Given.{Over}
use Rattle.vm_kernel.proofs.parts.Parts.deallocate.Goals as goal

-- with room for merges it starts as it did
starts_more : (g : Over) (doing : Command) (now more : Parts) (ids : Ids) (events : List Event) → more ≡ with_rows more.memory.resident.spare now
    → g.given.command ≡ doing → Starts g.given.header g.given.host g.given.command g.given.past now ids events
    → Starts g.given.header g.given.host doing g.given.past more ids events
starts_more g doing now more ids events is command starts =
    starts_roomier g.given.header g.given.host doing g.given.past now more ids events is
    (subst (λ (z : Command). Starts g.given.header g.given.host z g.given.past now ids events) command starts)

pub cuts_of-cuts-requires-clause-end : goal.cuts_of-cuts-requires-clause-end
cuts_of-cuts-requires-clause-end g c =
    (may_remove (starts_more g (command.Deallocate c.args.task c.args.address c.args.bytes) c.args.self.now c.room_to_merge.new.self c.args.ids.now
    c.args.log.now.items c.in_ok-losers.ensures.is c.requires.0 c.requires.1)).below

pub count_cuts-requires-clause-low : goal.count_cuts-requires-clause-low
count_cuts-requires-clause-low g c =
    let starts = starts_more g (command.Deallocate c.args.task c.args.address c.args.bytes) c.args.self.now c.room_to_merge.new.self c.args.ids.now
    c.args.log.now.items c.in_ok-losers.ensures.is c.requires.0 c.requires.1 in
    cut_there c.room_to_merge.new.self.chains c.args.address (rows_in c.args.task.0 c.room_to_merge.new.self.maps) _ (all_there c.args.task.0 starts.rests)
    c.cuts_of-cuts.ensures.low

pub count_cuts-requires-clause-high : goal.count_cuts-requires-clause-high
count_cuts-requires-clause-high g c =
    let starts = starts_more g (command.Deallocate c.args.task c.args.address c.args.bytes) c.args.self.now c.room_to_merge.new.self c.args.ids.now
    c.args.log.now.items c.in_ok-losers.ensures.is c.requires.0 c.requires.1 in
    cut_there c.room_to_merge.new.self.chains (c.args.address + c.args.bytes) (rows_in c.args.task.0 c.room_to_merge.new.self.maps) _
    (all_there c.args.task.0 starts.rests) c.cuts_of-cuts.ensures.high

pub count_cuts-requires-clause-few : goal.count_cuts-requires-clause-few
count_cuts-requires-clause-few g c =
    let starts = starts_more g (command.Deallocate c.args.task c.args.address c.args.bytes) c.args.self.now c.room_to_merge.new.self c.args.ids.now
    c.args.log.now.items c.in_ok-losers.ensures.is c.requires.0 c.requires.1 in
    entries_few g.given.header.size c.room_to_merge.new.self.maps c.room_to_merge.new.self.chains starts.rests.matches.core.spaces.entries

pub sweep_and_merge-requires : goal.sweep_and_merge-requires
sweep_and_merge-requires g c =
    let more = c.room_to_merge.new.self in
    let mid : Parts = record more { maps = c.remove.new.self; chains = c.count_cuts.new.chains } in
    let gone = by_address c.in-Ok.gone in
    let starts = starts_more g (command.Deallocate c.args.task c.args.address c.args.bytes) c.args.self.now more c.args.ids.now
    c.args.log.now.items c.in_ok-losers.ensures.is c.requires.0 c.requires.1 in
    let sweeps = sweeps_removed g.given.header g.given.host g.given.outside c.args.task c.args.address c.args.bytes g.given.past c.args.log.now.items more
    c.args.ids.now c.remove.new.self c.count_cuts.new.chains c.removal.result gone
    starts c.removal.ensures c.in-Ok.ensures.changes c.in-Ok.ensures.taken
    (c.count_cuts.ensures.raised _ _ c.cuts_of-cuts.ensures.low c.cuts_of-cuts.ensures.high) in
    let few = parts_gone c.args.task.0 c.args.self.now more c.removal.result c.in-Ok.gone c.in_ok-losers.ensures.is c.in-Ok.ensures.taken in
    let room = c.in_ok-losers.ensures.room in
    let count = c.entry_count.ensures.count in (
      subst (λ (z : Command). Sweeps g.given.header g.given.host g.given.outside z g.given.past mid c.args.ids.now gone c.push.new.self.items)
          (sym c.requires.0)
          (subst (λ (z : List Event). Sweeps g.given.header g.given.host g.given.outside (command.Deallocate c.args.task c.args.address c.args.bytes)
          g.given.past
          mid c.args.ids.now gone z) (sym (c.in_ok-push.ensures.ok ∙ ap (λ z. event.Removed c.args.task c.args.address c.args.bytes ∷ z) starts.nothing))
          sweeps),
      (
        thin_chains more.chains c.count_cuts.new.chains more.memory.objects
            (c.count_cuts.ensures.raised _ _ c.cuts_of-cuts.ensures.low c.cuts_of-cuts.ensures.high).shadows starts.rests.thin,
        (c.in_ok-losers.ensures.empty, omega (arith, few, room, count)),
      ),
    )

pub returns-clause-ran : goal.returns-clause-ran
returns-clause-ran g c =
    both_ok c.sweep_and_merge.result _ _ _
    (λ is thin. ran_swept g.given.header g.given.host g.given.outside g.given.command g.given.past c.sweep_and_merge.new.log.items c.sweep_and_merge.new.self
    c.args.ids.now is thin (subst (λ (z : Command). IsDoneInTurn g.given.header z c.sweep_and_merge.new.log.items g.given.past) (sym c.requires.0) tt))
    c.sweep_and_merge.ensures.sweeps c.sweep_and_merge.ensures.thin

pub returns-clause-plays : goal.returns-clause-plays
returns-clause-plays g c =
    on_ok c.sweep_and_merge.result _ _ (λ more. plays_both (plays_told c.in_ok-push.ensures.ok (ap paging c.in_ok-losers.ensures.is)) more)
    c.sweep_and_merge.ensures.plays

pub returns-clause-quiet : goal.returns-clause-quiet
returns-clause-quiet g c =
    on_ok c.sweep_and_merge.result _ _
    (λ more. still_more c.args.self.now c.room_to_merge.new.self c.sweep_and_merge.new.self (event.Removed c.args.task c.args.address c.args.bytes)
    c.args.log.now.items c.push.new.self.items c.sweep_and_merge.new.log.items c.in_ok-losers.ensures.is c.in_ok-push.ensures.ok tt more)
    c.sweep_and_merge.ensures.quiet

pub returns-clause-ends : goal.returns-clause-ends
returns-clause-ends g c =
    let gone = by_address c.in-Ok.gone in
    let starts = starts_more g (command.Deallocate c.args.task c.args.address c.args.bytes) c.args.self.now c.room_to_merge.new.self c.args.ids.now
    c.args.log.now.items c.in_ok-losers.ensures.is c.requires.0 c.requires.1 in
    let same = removed_gone c.removal.result gone starts c.removal.ensures c.in-Ok.ensures.taken in
    on_ok c.sweep_and_merge.result _ _
    (λ so. subst (λ (z : Command). EndsByAddress g.given.header g.given.past z c.sweep_and_merge.new.log.items) (sym c.requires.0)
    (ends_behind g.given.header g.given.past (event.Removed c.args.task c.args.address c.args.bytes) gone
    (parts_in g.given.header.size c.args.address c.args.bytes (entries_of g.given.header.size c.args.task.0 g.given.past)) c.push.new.self.items
    c.sweep_and_merge.new.log.items (c.in_ok-push.ensures.ok ∙ ap (λ z. event.Removed c.args.task c.args.address c.args.bytes ∷ z) starts.nothing) same
    (still_removed g.given.header c.args.task c.args.address c.args.bytes g.given.past) so))
    c.sweep_and_merge.ensures.ends

pub returns-clause-spends : goal.returns-clause-spends
returns-clause-spends g c =
    let now = c.args.self.now in
    let more = c.room_to_merge.new.self in
    let is = c.in_ok-losers.ensures.is in
    let few = parts_gone c.args.task.0 now more c.removal.result c.in-Ok.gone is c.in-Ok.ensures.taken in
    let count = c.entry_count.ensures.count in
    ends_ok c.sweep_and_merge.result now (record now { maps = c.remove.new.self; chains = c.count_cuts.new.chains })
    (record more { maps = c.remove.new.self; chains = c.count_cuts.new.chains }) c.sweep_and_merge.new.self c.args.ids.now c.args.log.now c.push.new.self
    c.sweep_and_merge.new.log (length (rows_in c.args.task.0 now.maps)) (length c.in-Ok.gone.items)
    (removed_spends now c.args.ids.now c.remove.new.self c.count_cuts.new.chains c.args.log.now c.push.new.self _
    (c.count_cuts.ensures.spare.0 ∙ ap (λ (z : Parts). z.chains.spare) is, c.count_cuts.ensures.spare.1 ∙ ap (λ (z : Parts). z.chains.marked) is)
    c.in_ok-push.ensures.ok c.in_ok-push.ensures.room)
    (ap (λ (z : Parts). record z { maps = c.remove.new.self; chains = c.count_cuts.new.chains }) (rows_back now more is))
    (ap (λ (z : Parts). leaving z c.args.ids.now) is) few
    (rows_enough (length c.in-Ok.gone.items) c.entry_count.result now.memory.resident.spare more (omega (arith, few, count)) c.in_ok-losers.ensures.rows)
    c.sweep_and_merge.ensures.spends

pub returns-clause-err : goal.returns-clause-err
returns-clause-err g c = λ room has.
    let now = c.args.self.now in
    let more = c.room_to_merge.new.self in
    let is = c.in_ok-losers.ensures.is in
    let few = parts_gone c.args.task.0 now more c.removal.result c.in-Ok.gone is c.in-Ok.ensures.taken in
    let count = c.entry_count.ensures.count in
    let small = c.entry_count.ensures.few in
    ends_err c.sweep_and_merge.result now (record now { maps = c.remove.new.self; chains = c.count_cuts.new.chains })
    (record more { maps = c.remove.new.self; chains = c.count_cuts.new.chains }) c.sweep_and_merge.new.self c.args.ids.now c.args.log.now c.push.new.self
    c.sweep_and_merge.new.log (length (rows_in c.args.task.0 now.maps)) (length c.in-Ok.gone.items)
    (removed_spends now c.args.ids.now c.remove.new.self c.count_cuts.new.chains c.args.log.now c.push.new.self _
    (c.count_cuts.ensures.spare.0 ∙ ap (λ (z : Parts). z.chains.spare) is, c.count_cuts.ensures.spare.1 ∙ ap (λ (z : Parts). z.chains.marked) is)
    c.in_ok-push.ensures.ok c.in_ok-push.ensures.room)
    (ap (λ (z : Parts). record z { maps = c.remove.new.self; chains = c.count_cuts.new.chains }) (rows_back now more is))
    (ap (λ (z : Parts). leaving z c.args.ids.now) is) few
    (rows_enough (length c.in-Ok.gone.items) c.entry_count.result now.memory.resident.spare more (omega (arith, few, count)) c.in_ok-losers.ensures.rows)
    (omega (arith, count, small)) c.sweep_and_merge.ensures.succeeds room (buffers_more now more is has) _

pub returns-in_err-push-clause-err : goal.returns-in_err-push-clause-err
returns-in_err-push-clause-err g c = λ room has. let bad : false ≡ true = c.in_err-push.ensures.succeeds (omega (arith, room.log)) in absurd (cc)

pub returns-in_err-losers-clause-err : goal.returns-in_err-losers-clause-err
returns-in_err-losers-clause-err g c = λ room has. any_err c.from_residual.result
    ((c.room_to_merge.new.self ≡ c.args.self.now) × (c.args.log.now.items ≡ c.args.log.now.items)) (c.in_err-losers.ensures.err, refl)

pub returns-clause-buffers : goal.returns-clause-buffers
returns-clause-buffers g c =
    on_ok c.sweep_and_merge.result _ _ (λ more has. more (buffers_more c.args.self.now c.room_to_merge.new.self c.in_ok-losers.ensures.is has))
    c.sweep_and_merge.ensures.buffers
