use Rattle.std.proofs.Common.{◌≡◌, ◌∙◌, sym, ap, refl, Some, arith}
use Rattle.std.specs.Option.{option_copied_mut}
use Rattle.vm_shadow.proofs.Counts.{marked_set}
use Rattle.vm_shadow.proofs.Ranks.{ranked_same}
use Rattle.vm_shadow.proofs.Tables.{row_told, some_of}
use Rattle.vm_shadow.specs.Chains.{region_at}
use Rattle.vm_shadow.specs.declared.region_row.RegionRow.{RegionRow}
use Rattle.vm_shadow.proofs.chains.Chains.set_entries.Goals as goal

pub invariant_of-self : goal.invariant_of-self
invariant_of-self c =
    let row : RegionRow = record c.unwrap-row.result.now { entries = c.args.entries } in
    let found = sym c.get_mut.ensures.value ∙ ap option_copied_mut c.unwrap-row.ensures in
    let set = marked_set _ _ c.args.region c.unwrap-row.result.now row found (c.get_mut.follows.holds row).0 in
    record {
      ranked = ranked_same _ _ (λ o. refl) c.self.invariant.ranked;
      low = c.self.invariant.low;
      count = omega (arith, set, c.self.invariant.count);
      tallied = c.self.invariant.tallied;
    }

pub returns-clause-row : goal.returns-clause-row
returns-clause-row c =
    let row : RegionRow = record c.unwrap-row.result.now { entries = c.args.entries } in
    let found = sym c.get_mut.ensures.value ∙ ap option_copied_mut c.unwrap-row.ensures in
    let is : region_at c.args.self.now c.args.region.0 ≡ Some c.unwrap-row.result.now = rw (← c.self.view_is) found in
    let put = (c.get_mut.follows.holds row).3 (some_of _ _ found) in
    row_told _ _ _ is (rw (← c.self.view_is) record { at = λ r. put.0 (record { 0 = r }); shadows = refl })
