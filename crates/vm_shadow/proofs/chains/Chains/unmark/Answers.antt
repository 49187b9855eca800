use Rattle.std.proofs.Common.{◌≡◌, ◌∙◌, sym, ap, refl, Some, true, false, arith}
use Rattle.std.specs.Option.{option_copied_mut}
use Rattle.vm_shadow.proofs.Counts.{marked_counted, marked_set}
use Rattle.vm_shadow.proofs.Ranks.{ranked_same}
use Rattle.vm_shadow.proofs.Tables.{row_must, row_told, some_of}
use Rattle.vm_shadow.specs.Chains.{region_at}
use Rattle.vm_shadow.specs.declared.region_row.RegionRow.{RegionRow}
use Rattle.vm_shadow.proofs.chains.Chains.unmark.Goals as goal

pub overflow_sub-self : goal.overflow_sub-self
overflow_sub-self c =
    let row : RegionRow = c.unwrap-unmarked.result.now in
    let found = sym c.get_mut.ensures.value ∙ ap option_copied_mut c.unwrap-unmarked.ensures in
    let is : region_at c.args.self.now c.args.region.0 ≡ Some row = rw (← c.self.view_is) found in
    let counted = marked_counted _ c.args.region row found (row_must _ _ _ is c.requires.marked) in
    omega (arith, counted, c.self.invariant.count)

pub invariant_of-self : goal.invariant_of-self
invariant_of-self c =
    let row : RegionRow = c.unwrap-unmarked.result.now in
    let unmarked : RegionRow = record row { marked = false } in
    let found = sym c.get_mut.ensures.value ∙ ap option_copied_mut c.unwrap-unmarked.ensures in
    let is : region_at c.args.self.now c.args.region.0 ≡ Some row = rw (← c.self.view_is) found in
    let marked : row.marked ≡ true = (row_must _ _ _ is c.requires.marked) in
    let set = marked_set _ _ c.args.region row unmarked found (c.get_mut.follows.holds unmarked).0 in
    record {
      ranked = ranked_same _ _ (λ o. refl) c.self.invariant.ranked;
      low = c.self.invariant.low;
      count = omega (arith, rw marked at set, c.self.invariant.count);
      tallied = c.self.invariant.tallied;
    }

pub returns-clause-unmarks : goal.returns-clause-unmarks
returns-clause-unmarks c =
    let row : RegionRow = c.unwrap-unmarked.result.now in
    let unmarked : RegionRow = record row { marked = false } in
    let found = sym c.get_mut.ensures.value ∙ ap option_copied_mut c.unwrap-unmarked.ensures in
    let is : region_at c.args.self.now c.args.region.0 ≡ Some row = rw (← c.self.view_is) found in
    let put = (c.get_mut.follows.holds unmarked).3 (some_of _ _ found) in
    row_told _ _ _ is (rw (← c.self.view_is) record { at = λ r. put.0 (record { 0 = r }); shadows = refl })

pub returns-clause-marked : goal.returns-clause-marked
returns-clause-marked c =
    let row : RegionRow = c.unwrap-unmarked.result.now in
    let found = sym c.get_mut.ensures.value ∙ ap option_copied_mut c.unwrap-unmarked.ensures in
    let is : region_at c.args.self.now c.args.region.0 ≡ Some row = rw (← c.self.view_is) found in
    let counted = marked_counted _ c.args.region row found (row_must _ _ _ is c.requires.marked) in
    rw (← c.self.view_is) (omega (arith, counted, c.self.invariant.count))
