use Rattle.std.proofs.Common.{◌≡◌, ◌∙◌, refl, sym, Some, arith}
use Rattle.vm_shadow.proofs.Counts.{marked_dropped}
use Rattle.vm_shadow.proofs.Ranks.{ranked_same}
use Rattle.vm_shadow.proofs.Tables.{row_told}
use Rattle.vm_shadow.specs.Chains.{region_at}
use Rattle.vm_shadow.specs.declared.region_row.RegionRow.{RegionRow}
use Rattle.vm_shadow.proofs.chains.Chains.drop_region.Goals as goal

pub overflow_sub-self : goal.overflow_sub-self
overflow_sub-self c =
    let dropped = marked_dropped _ _ c.args.region c.unwrap-row.result (sym c.swap_remove.ensures.value ∙ c.unwrap-row.ensures) c.swap_remove.ensures.entries in
    grind (arith, dropped, c.self.invariant.count, c.if-row.branch)

pub invariant_of-self : goal.invariant_of-self
invariant_of-self c =
    let dropped = marked_dropped _ _ c.args.region c.unwrap-row.result (sym c.swap_remove.ensures.value ∙ c.unwrap-row.ensures) c.swap_remove.ensures.entries in
    record {
      ranked = ranked_same _ _ (λ o. refl) c.self.invariant.ranked;
      low = c.self.invariant.low;
      count = grind (arith, dropped, c.self.invariant.count, c.if-row.branch);
      tallied = c.self.invariant.tallied;
    }

pub returns-clause-dropped : goal.returns-clause-dropped
returns-clause-dropped c = rw (← c.self.view_is) record { at = λ r. c.swap_remove.ensures.updates.0 (record { 0 = r }); shadows = refl }

pub returns-clause-marked : goal.returns-clause-marked
returns-clause-marked c =
    let row : RegionRow = c.unwrap-row.result in
    let there = sym c.swap_remove.ensures.value ∙ c.unwrap-row.ensures in
    let dropped = marked_dropped _ _ c.args.region row there c.swap_remove.ensures.entries in
    let is : region_at c.args.self.now c.args.region.0 ≡ Some row = rw (← c.self.view_is) there in
    row_told _ row _ is (rw (← c.self.view_is) (grind (arith, dropped, c.self.invariant.count, c.if-row.branch)))
