use Rattle.vm_kernel.proofs.Common.{Option, PutsEntries, RegionId, subst, ℕ, ◌+◌}
use Rattle.vm_kernel.proofs.space.EntriesAtBoundary.{raised_cut, raised_uncut}
use Rattle.vm_kernel.specs.Sweeping.{IsCutOn}
use Rattle.vm_kernel.proofs.counting.count_cut.Goals as goal

pub returns-in_default-clause-raised : goal.returns-in_default-clause-raised
returns-in_default-clause-raised c = λ rows on. raised_uncut rows c.args.chains.now (subst (λ (z : Option RegionId). IsCutOn z rows) c.in_default.is on)

pub returns-clause-raised : goal.returns-clause-raised
returns-clause-raised c = λ rows on.
    raised_cut c.in-Some.region rows c.args.chains.now c.set_count.new.chains
    (subst (λ (z : ℕ). PutsEntries c.in-Some.region.0 (z + 1) c.args.chains.now c.set_count.new.chains) c.count_of-count.ensures c.set_count.ensures.puts)
    (subst (λ (z : Option RegionId). IsCutOn z rows) c.in-Some.is on)
