use Rattle.vm_kernel.proofs.Common.{arith, count_on, region_entries, ◌+◌}
use Rattle.vm_kernel.proofs.space.EntriesAtBoundary.{cut_still, one_is, one_on}
use Rattle.vm_kernel.proofs.space.CountsChanged.{raised_few, raised_recounts, raised_twice}
use Rattle.vm_kernel.proofs.counting.count_cuts.Goals as goal

pub count_cut-requires-2-clause-there : goal.count_cut-requires-2-clause-there
count_cut-requires-2-clause-there c =
    let rows = one_on c.args.cuts.low in
    cut_still c.args.cuts.high (λ r. region_entries c.args.chains.now r + count_on r rows) c.args.chains.now c.count_cut.new.chains
    (raised_recounts rows c.args.chains.now c.count_cut.new.chains (c.count_cut.ensures.raised rows (one_is c.args.cuts.low))) c.requires.high

pub count_cut-requires-2-clause-few : goal.count_cut-requires-2-clause-few
count_cut-requires-2-clause-few c =
    let on = one_is c.args.cuts.low in
    λ r.
    let more = raised_few (one_on c.args.cuts.low) c.args.chains.now c.count_cut.new.chains (c.count_cut.ensures.raised (one_on c.args.cuts.low) on) on.few r in
    let few = c.requires.few r in
    omega arith

pub returns-clause-raised : goal.returns-clause-raised
returns-clause-raised c =
    λ low high on over. raised_twice low high c.args.chains.now c.count_cut.new.chains c.count_cut-2.new.chains (c.count_cut.ensures.raised low on)
    (c.count_cut-2.ensures.raised high over)
