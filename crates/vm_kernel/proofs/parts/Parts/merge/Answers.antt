use Rattle.vm_kernel.proofs.Common.{Event, Ids, List, Parts, [], arith, nat_tests, refl, subst, sym, ◌++◌, ◌≡◌}
use Rattle.vm_kernel.proofs.parts.Parts.merge.Given.{Over}
use Rattle.vm_kernel.proofs.parts.Parts.merge.Goals as goal
use Rattle.vm_kernel.proofs.parts.Parts.merge.Goals.{After-merge_losers}
use Rattle.vm_kernel.proofs.room.EndsSpend.{frames_kept}
use Rattle.vm_kernel.proofs.room.MergesSpend.{merges_buffers, merges_list, merges_spend, merges_still}
use Rattle.vm_kernel.proofs.space.ObjectsMerged.{AllMerged, all_merged, may_merge}
use Rattle.vm_kernel.specs.Endings.{MergesOnly}
use Rattle.vm_kernel.specs.Plays.{Plays, paging}
use Rattle.vm_kernel.specs.Sweeping.{Sweeps}
use Rattle.vm_merge.specs.Standing.{merge_state}

-- it sweeps with the log that has room
with_log : (g : Over) (k : Parts) (ids : Ids) (old new : List Event) → new ≡ old
    → Sweeps g.given.header g.given.host g.given.outside g.given.command g.given.past k ids [] old
    → Sweeps g.given.header g.given.host g.given.outside g.given.command g.given.past k ids [] new
with_log g k ids old new same sweeps =
    subst (λ (z : List Event). Sweeps g.given.header g.given.host g.given.outside g.given.command g.given.past k ids [] z) (sym same) sweeps

pub merge_losers-requires : goal.merge_losers-requires
merge_losers-requires g c = (
  may_merge c.args.self.now c.reserve.new.self.items
      (with_log g c.args.self.now c.args.ids.now c.args.log.now.items c.reserve.new.self.items c.reserve.ensures.same c.requires.0),
  (
    c.requires.1,
    (
      grind (arith, nat_tests, c.len.ensures, c.in-Ok.ensures, c.from.ensures, c.from-2.ensures, c.from-3.ensures, c.promised.ensures, c.if-from-rows.false),
      omega (arith, c.len.ensures, c.in-Ok.ensures, c.in_ok-reserve.ensures.room),
    ),
  ),
)

-- what all merges did
merged : (g : Over) (c : After-merge_losers g) → AllMerged g.given.header g.given.host g.given.outside g.given.command g.given.past c.args.self.now
    c.args.ids.now
    (merge_state c.args.self.now.memory c.args.self.now.chains c.args.self.now.copies c.reserve.new.self.items)
    (merge_state c.merge_losers.new.parts c.merge_losers.new.chains c.args.self.now.copies c.merge_losers.new.log.items)
merged g c =
    all_merged c.args.self.now (merge_state c.args.self.now.memory c.args.self.now.chains c.args.self.now.copies c.reserve.new.self.items)
    (merge_state c.merge_losers.new.parts c.merge_losers.new.chains c.args.self.now.copies c.merge_losers.new.log.items) c.merge_losers.ensures.merges
    (with_log g c.args.self.now c.args.ids.now c.args.log.now.items
    c.reserve.new.self.items c.reserve.ensures.same c.requires.0)

pub returns-clause-sweeps : goal.returns-clause-sweeps
returns-clause-sweeps g c = (merged g c).sweeps

pub returns-clause-thin : goal.returns-clause-thin
returns-clause-thin g c = (merged g c).thin

pub returns-clause-plays : goal.returns-clause-plays
returns-clause-plays g c =
    subst (λ (z : List Event). Plays g.given.header g.given.past z (paging c.args.self.now) c.merge_losers.new.log.items
    (paging (record c.args.self.now { memory = c.merge_losers.new.parts; chains = c.merge_losers.new.chains }))) c.reserve.ensures.same (merged g c).plays

only : (g : Over) (c : After-merge_losers g) → MergesOnly c.args.log.now.items c.merge_losers.new.log.items
only g c = subst (λ (z : List Event). MergesOnly z c.merge_losers.new.log.items) c.reserve.ensures.same (merged g c).only

pub returns-clause-only : goal.returns-clause-only
returns-clause-only g c = only g c

pub returns-clause-quiet : goal.returns-clause-quiet
returns-clause-quiet g c =
    merges_still c.args.self.now (record c.args.self.now { memory = c.merge_losers.new.parts; chains = c.merge_losers.new.chains }) c.args.log.now.items
    c.merge_losers.new.log.items refl (only g c)

pub returns-clause-spends : goal.returns-clause-spends
returns-clause-spends g c = λ n has.
    merges_spend n _ c.args.self.now c.merge_losers.new.parts c.merge_losers.new.chains c.args.log.now c.reserve.new.self c.merge_losers.new.log has
    c.reserve.ensures.same c.reserve.ensures.kept c.merge_losers.ensures.told c.merge_losers.ensures.log c.merge_losers.ensures.spare
    c.merge_losers.ensures.objects c.merge_losers.ensures.shadows c.merge_losers.ensures.marked
    (frames_kept g.given.header g.given.host c.args.self.now (record c.args.self.now { memory = c.merge_losers.new.parts; chains = c.merge_losers.new.chains })
    c.args.ids.now c.args.ids.now [] [] (c.args.log.now.items ++ g.given.past) (c.merge_losers.new.log.items ++ g.given.past) c.requires.0.runs.matches
    (merged g c).sweeps.runs.matches)

pub returns-clause-buffers : goal.returns-clause-buffers
returns-clause-buffers g c =
    merges_buffers c.args.self.now (record c.args.self.now { memory = c.merge_losers.new.parts; chains = c.merge_losers.new.chains }) refl
    c.merge_losers.ensures.buffers
    (merges_list (merge_state c.args.self.now.memory c.args.self.now.chains c.args.self.now.copies c.reserve.new.self.items)
    (merge_state c.merge_losers.new.parts c.merge_losers.new.chains c.args.self.now.copies c.merge_losers.new.log.items) c.merge_losers.ensures.merges)
