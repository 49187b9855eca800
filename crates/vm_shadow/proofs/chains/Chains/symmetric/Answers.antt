use Rattle.std.proofs.Common.{◌≡◌, ◌∙◌, ◌+◌, ◌<◌, ◌^◌, sym, ap, refl, Some, true, arith}
use Rattle.std.specs.Option.{option_copied_mut}
use Rattle.vm_base.specs.declared.ids.RegionId.{RegionId}
use Rattle.vm_shadow.proofs.Counts.{mark, marked_made, marked_set}
use Rattle.vm_shadow.proofs.Ranks.{ranked_same}
use Rattle.vm_shadow.proofs.Tables.{region_copied, row_has, row_told, some_of, source_kept}
use Rattle.vm_shadow.specs.Chains.{ChainTable, PutsRegion, copy_of, region_at}
use Rattle.vm_shadow.specs.declared.region_row.RegionRow.{RegionRow}
use Rattle.vm_shadow.proofs.chains.Chains.symmetric.Goals as goal

pub overflow_add-shared : goal.overflow_add-shared
overflow_add-shared c =
    let is : region_at c.args.self.now c.args.source.0 ≡ Some c.index-row.result.now = rw (← c.self.view_is) c.index-row.ensures in
    let small : c.index-row.result.now.shift + c.args.offset < 2 ^ 32 = row_has _ _ _ is c.requires.shift in
    omega (arith, small)

pub invariant_of-self-2 : goal.invariant_of-self-2
invariant_of-self-2 c =
    let row : RegionRow = c.index-row.result.now in
    let found : RegionRow = c.unwrap-copied.result.now in
    let marked : RegionRow = record found { marked = true } in
    let copy : RegionId = record { 0 = c.args.ids.now.next_region } in
    let mid : ChainTable = record { regions = c.insert.new.self.entries; shadows = c.self.inside.shadows.entries; marked = 0; spare = 0 } in
    let is : region_at c.args.self.now c.args.source.0 ≡ Some row = rw (← c.self.view_is) c.index-row.ensures in
    let put : PutsRegion c.args.ids.now.next_region (Some (copy_of row c.args.offset c.args.pages)) c.args.self.now mid
    = rw (← c.self.view_is) record { at = λ r. c.in_ok-insert.ensures.updates.0 (record { 0 = r }); shadows = refl } in
    let there : region_at mid c.args.source.0 ≡ Some found = sym c.get_mut.ensures.value ∙ ap option_copied_mut c.unwrap-copied.ensures in
    let same : found ≡ row = source_kept c.args.self.now mid _ _ _ _ row found c.requires.below is put there in
    let none = rw (← c.self.view_is) at (c.requires.below c.args.ids.now.next_region (omega arith)) in
    let made = marked_made c.self.inside.regions.entries c.insert.new.self.entries copy (copy_of row c.args.offset c.args.pages) none
    c.in_ok-insert.ensures.entries in
    let set = marked_set c.insert.new.self.entries _ c.args.source found marked there (c.get_mut.follows.holds marked).0 in
    record {
      ranked = ranked_same _ _ (λ o. refl) c.self.invariant.ranked;
      low = c.self.invariant.low;
      count = grind (arith, made, set, ap mark same, c.self.invariant.count, c.if-row.branch);
      tallied = c.self.invariant.tallied;
    }

pub returns-clause-ok : goal.returns-clause-ok
returns-clause-ok c =
    let row : RegionRow = c.index-row.result.now in
    let found : RegionRow = c.unwrap-copied.result.now in
    let marked : RegionRow = record found { marked = true } in
    let mid : ChainTable = record { regions = c.insert.new.self.entries; shadows = c.self.inside.shadows.entries; marked = 0; spare = 0 } in
    let is : region_at c.args.self.now c.args.source.0 ≡ Some row = rw (← c.self.view_is) c.index-row.ensures in
    let put : PutsRegion c.args.ids.now.next_region (Some (copy_of row c.args.offset c.args.pages)) c.args.self.now mid
    = rw (← c.self.view_is) record { at = λ r. c.in_ok-insert.ensures.updates.0 (record { 0 = r }); shadows = refl } in
    let there : region_at mid c.args.source.0 ≡ Some found = sym c.get_mut.ensures.value ∙ ap option_copied_mut c.unwrap-copied.ensures in
    let marks = (c.get_mut.follows.holds marked).3 (some_of _ _ there) in
    row_told _ _ _ is (region_copied c.args.self.now mid _ _ _ _ _ row found c.requires.below is put there
    record { at = λ r. marks.0 (record { 0 = r }); shadows = refl })

pub returns-clause-marked : goal.returns-clause-marked
returns-clause-marked c =
    let is : region_at c.args.self.now c.args.source.0 ≡ Some c.index-row.result.now = rw (← c.self.view_is) c.index-row.ensures in
    row_told _ _ _ is (rw (← c.self.view_is) (grind (arith, c.if-row.branch)))

pub returns-clause-ids : goal.returns-clause-ids
returns-clause-ids c =
    let is : region_at c.args.self.now c.args.source.0 ≡ Some c.index-row.result.now = rw (← c.self.view_is) c.index-row.ensures in
    row_told _ _ _ is (grind (arith, c.if-row-2.branch))
