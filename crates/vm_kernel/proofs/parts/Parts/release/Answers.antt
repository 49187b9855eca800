use Rattle.vm_kernel.proofs.Common.{PutsEntries, Still, arith, by_address, false, subst, sym, true, ℕ, ◌-◌, ◌∙◌, ◌≡◌}
use Rattle.vm_kernel.proofs.space.EntriesGone.{ends_less, ends_still, some_left, sweeps_less, sweeps_next, sweeps_on}
use Rattle.vm_kernel.proofs.space.EntriesLeave.{out_last, out_still}
use Rattle.vm_kernel.proofs.room.EndsSpend.{count_spends, roomy_on}
use Rattle.vm_kernel.proofs.room.CallsSpend.{spends_both}
use Rattle.vm_base.specs.declared.ids.ObjectId.{ObjectId}
use Rattle.vm_kernel.proofs.Common.{ChainTable, List, ObjectTable, ap}
use Rattle.vm_kernel.proofs.space.StillThin.{thin_but_chains}
use Rattle.vm_copies.specs.Copies.{CopyTable}
use Rattle.vm_merge.specs.Merges.{IsThinBut}
use Rattle.vm_kernel.proofs.parts.Parts.release.Goals as goal

pub overflow_sub-count : goal.overflow_sub-count
overflow_sub-count g c =
    let now = c.args.self.now in
    let sweeps = sweeps_next g.given.header g.given.host g.given.outside g.given.command g.given.past now c.args.ids.now (by_address c.args.gone.now)
    g.given.rest c.args.i c.at.result.now c.args.log.now.items c.at.ensures c.requires.1.0 c.requires.1.1.0 in
    let some = some_left g.given.header g.given.host g.given.outside g.given.command g.given.past now c.args.ids.now c.at.result.now g.given.rest
    c.args.log.now.items sweeps in
    let count = c.count_of-count.ensures in
    omega arith

pub set_count-requires : goal.set_count-requires
set_count-requires g c =
    let now = c.args.self.now in
    let sweeps = sweeps_next g.given.header g.given.host g.given.outside g.given.command g.given.past now c.args.ids.now (by_address c.args.gone.now)
    g.given.rest c.args.i c.at.result.now c.args.log.now.items c.at.ensures c.requires.1.0 c.requires.1.1.0 in
    sweeps.runs.matches.core.spaces.entries.known.0

pub end_region-requires : goal.end_region-requires
end_region-requires g c =
    let now = c.args.self.now in
    let entry = c.at.result.now in
    let sweeps = sweeps_next g.given.header g.given.host g.given.outside g.given.command g.given.past now c.args.ids.now (by_address c.args.gone.now)
    g.given.rest c.args.i entry c.args.log.now.items c.at.ensures c.requires.1.0 c.requires.1.1.0 in
    let put = subst (λ (z : ℕ). PutsEntries entry.region.0 (z - 1) now.chains c.set_count.new.chains) c.count_of-count.ensures c.set_count.ensures.puts in
    ends_less g.given.header g.given.host g.given.outside g.given.command g.given.past now c.args.ids.now entry g.given.rest c.args.log.now.items
    c.set_count.new.chains sweeps put (sym c.count_of-count.ensures ∙ c.if-count-eq1.true)

pub returns-else-count-eq1-clause-sweeps : goal.returns-else-count-eq1-clause-sweeps
returns-else-count-eq1-clause-sweeps g c =
    let now = c.args.self.now in
    let entry = c.at.result.now in
    let sweeps = sweeps_next g.given.header g.given.host g.given.outside g.given.command g.given.past now c.args.ids.now (by_address c.args.gone.now)
    g.given.rest c.args.i entry c.args.log.now.items c.at.ensures c.requires.1.0 c.requires.1.1.0 in
    let put = subst (λ (z : ℕ). PutsEntries entry.region.0 (z - 1) now.chains c.set_count.new.chains) c.count_of-count.ensures c.set_count.ensures.puts in
    sweeps_less g.given.header g.given.host g.given.outside g.given.command g.given.past now c.args.ids.now entry g.given.rest c.args.log.now.items
    c.set_count.new.chains sweeps put (λ one. c.if-count-eq1.false (c.count_of-count.ensures ∙ one))

pub returns-else-count-eq1-clause-plays : goal.returns-else-count-eq1-clause-plays
returns-else-count-eq1-clause-plays g c = Still

pub returns-in_ok-left-clause-sweeps : goal.returns-in_ok-left-clause-sweeps
returns-in_ok-left-clause-sweeps g c =
    let now = c.args.self.now in
    let sweeps = sweeps_next g.given.header g.given.host g.given.outside g.given.command g.given.past now c.args.ids.now (by_address c.args.gone.now)
    g.given.rest c.args.i c.at.result.now c.args.log.now.items c.at.ensures c.requires.1.0 c.requires.1.1.0 in
    sweeps_on sweeps c.in_ok-left.ensures.whole c.in_ok-left.ensures.goes c.in_ok-left.ensures.waits

pub returns-in_ok-left-clause-quiet : goal.returns-in_ok-left-clause-quiet
returns-in_ok-left-clause-quiet g c =
    ends_still c.args.self.now.waits c.end_region.new.self.waits c.args.log.now.items c.end_region.new.log.items c.in_ok-left.ensures.waits
    c.in_ok-left.ensures.only

pub returns-else-count-eq1-clause-ends : goal.returns-else-count-eq1-clause-ends
returns-else-count-eq1-clause-ends g c =
    out_still g.given.header _ (by_address c.args.gone.now) g.given.rest c.args.i c.at.result.now c.args.log.now.items c.at.ensures c.requires.1.0

pub returns-in_ok-left-clause-ends : goal.returns-in_ok-left-clause-ends
returns-in_ok-left-clause-ends g c =
    let now = c.args.self.now in
    let entry = c.at.result.now in
    let sweeps = sweeps_next g.given.header g.given.host g.given.outside g.given.command g.given.past now c.args.ids.now (by_address c.args.gone.now)
    g.given.rest c.args.i entry c.args.log.now.items c.at.ensures c.requires.1.0 c.requires.1.1.0 in
    out_last g.given.header g.given.host g.given.outside g.given.command g.given.past now c.args.ids.now (by_address c.args.gone.now) g.given.rest c.args.i
    entry c.args.log.now.items c.end_region.new.log.items c.at.ensures c.requires.1.0 sweeps (sym c.count_of-count.ensures ∙ c.if-count-eq1.true)
    c.in_ok-left.ensures.under

pub returns-else-count-eq1-clause-spends : goal.returns-else-count-eq1-clause-spends
returns-else-count-eq1-clause-spends g c = count_spends c.args.self.now c.args.ids.now c.set_count.new.chains c.args.log.now c.set_count.ensures.spare

pub returns-in_ok-left-clause-spends : goal.returns-in_ok-left-clause-spends
returns-in_ok-left-clause-spends g c =
    spends_both c.args.self.now (record c.args.self.now { chains = c.set_count.new.chains }) c.end_region.new.self c.args.log.now c.args.log.now
    c.end_region.new.log _ _ _
    (count_spends c.args.self.now c.args.ids.now c.set_count.new.chains c.args.log.now c.set_count.ensures.spare) c.in_ok-left.ensures.spends

pub returns-in_err-left-clause-succeeds : goal.returns-in_err-left-clause-succeeds
returns-in_err-left-clause-succeeds g c = λ room buffers.
    let bad : false ≡ true = c.in_err-left.ensures.succeeds (roomy_on c.args.self.now (record c.args.self.now { chains = c.set_count.new.chains })
    c.args.log.now c.args.log.now _ _
    (count_spends c.args.self.now c.args.ids.now c.set_count.new.chains c.args.log.now c.set_count.ensures.spare) room) buffers in
    absurd (cc)

-- the region counts less, and nothing else has changed
counted : {copies : CopyTable} (losers : List ObjectId) (cs cs2 : ChainTable) (os : ObjectTable) (region count : ℕ) → PutsEntries region count cs cs2
    → IsThinBut copies losers cs os → IsThinBut copies losers cs2 os
counted losers cs cs2 os region count puts thin = thin_but_chains losers cs cs2 os (λ o. ap (λ f. f o) puts.shadows) thin

pub returns-else-count-eq1-clause-thin : goal.returns-else-count-eq1-clause-thin
returns-else-count-eq1-clause-thin g c =
    counted c.args.losers.now.items c.args.self.now.chains c.set_count.new.chains c.args.self.now.memory.objects _ _ c.set_count.ensures.puts c.requires.1.1.1.0

pub returns-in_ok-left-clause-thin : goal.returns-in_ok-left-clause-thin
returns-in_ok-left-clause-thin g c =
    c.in_ok-left.ensures.loser c.args.losers.now.items c.note.new.losers.items c.note.ensures.kept c.note.ensures.added
    (counted c.args.losers.now.items c.args.self.now.chains c.set_count.new.chains c.args.self.now.memory.objects _ _ c.set_count.ensures.puts
    c.requires.1.1.1.0)
