use Rattle.std.proofs.Common.{arith, refl}
use Rattle.vm_shadow.proofs.Counts.{marked_made}
use Rattle.vm_shadow.proofs.Ranks.{ranked_same}
use Rattle.vm_shadow.proofs.chains.Chains.make_region.Goals as goal

pub invariant_of-self-2 : goal.invariant_of-self-2
invariant_of-self-2 c =
    let made = marked_made c.self.inside.regions.entries c.insert.new.self.entries c.args.region c.args.row (rw (← c.self.view_is) at c.requires)
    c.in_ok-insert.ensures.entries in
    record {
      ranked = ranked_same _ _ (λ o. refl) c.self.invariant.ranked;
      low = c.self.invariant.low;
      count = grind (arith, made, c.self.invariant.count, c.if-row.branch);
      tallied = c.self.invariant.tallied;
    }

pub returns-clause-ok : goal.returns-clause-ok
returns-clause-ok c = rw (← c.self.view_is) record { at = λ r. c.in_ok-insert.ensures.updates.0 (record { 0 = r }); shadows = refl }
