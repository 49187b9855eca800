use Rattle.std.proofs.Common.{◌≡◌, ◌∙◌, ℕ, ◌<◌, ◌==◌, if◌then◌else◌, sym, ap, subst, refl, Some, true, false, arith}
use Rattle.std.specs.Option.{option_copied_mut}
use Rattle.vm_base.specs.declared.ids.ObjectId.{ObjectId}
use Rattle.vm_shadow.proofs.Counts.{marked_counted, marked_set}
use Rattle.vm_shadow.proofs.Overs.{same_tallies}
use Rattle.vm_shadow.proofs.Ranks.{ranked_over, ranked_same}
use Rattle.vm_shadow.proofs.Tables.{kept_same, low_at, row_must, row_told, same_row, some_of}
use Rattle.vm_shadow.proofs.Tallying.{made_fits, next_free, tallied_made}
use Rattle.vm_shadow.specs.Chains.{ChainTable, IsRanked, ObjectsBelow, region_at, shadow_at}
use Rattle.vm_shadow.specs.declared.region_row.RegionRow.{RegionRow}
use Rattle.vm_shadow.specs.declared.shadow_row.ShadowRow.{ShadowRow}
use Rattle.vm_shadow.specs.Standing.{tally_at}
use Rattle.vm_shadow.specs.declared.tally.Tally.{Tally}
use Rattle.vm_shadow.proofs.chains.Chains.shadow_over.Goals as goal

pub overflow_sub-self : goal.overflow_sub-self
overflow_sub-self c =
    let row : RegionRow = c.index-row.result.now in
    let is : region_at c.args.self.now c.args.region.0 ≡ Some row = rw (← c.self.view_is) c.index-row.ensures in
    let counted = marked_counted _ c.args.region row c.index-row.ensures (row_must _ _ _ is c.requires.marked) in
    omega (arith, counted, c.self.invariant.count)

pub add-requires-clause-few : goal.add-requires-clause-few
add-requires-clause-few c =
    let o = c.index-row.result.now.top.0 in
    let kept : tally_at c.reserve.new.self o ≡ tally_at c.self.inside.overs o = ap (λ (f : ℕ → Tally). f o)
    (same_tallies c.self.inside.overs c.reserve.new.self c.reserve.ensures.same) in
    rw kept (made_fits _ _ c.args.ids.now.next_object c.self.invariant.tallied (rw (← c.self.view_is) at c.requires.below.shadows) c.requires.objects o).0

pub add-requires-clause-small : goal.add-requires-clause-small
add-requires-clause-small c =
    let o = c.index-row.result.now.top.0 in
    let kept : tally_at c.reserve.new.self o ≡ tally_at c.self.inside.overs o = ap (λ (f : ℕ → Tally). f o)
    (same_tallies c.self.inside.overs c.reserve.new.self c.reserve.ensures.same) in
    rw kept (made_fits _ _ c.args.ids.now.next_object c.self.invariant.tallied (rw (← c.self.view_is) at c.requires.below.shadows) c.requires.objects o).1

pub invariant_of-self-2 : goal.invariant_of-self-2
invariant_of-self-2 c =
    let row = c.index-row.result.now in
    let found : RegionRow = c.unwrap-shadowed.result.now in
    let shadowed : RegionRow = record found { top = record { 0 = c.args.ids.now.next_object }; shift = 0; marked = false } in
    let is : region_at c.args.self.now c.args.region.0 ≡ Some row = rw (← c.self.view_is) c.index-row.ensures in
    let less : row.top.0 < c.args.ids.now.next_object = c.requires.below.tops c.args.region.0 row is in
    let there = sym c.get_mut.ensures.value ∙ ap option_copied_mut c.unwrap-shadowed.ensures in
    let same : found ≡ row = same_row _ found row there c.index-row.ensures in
    let marked : found.marked ≡ true = ap (λ (z : RegionRow). z.marked) same ∙ row_must _ _ _ is c.requires.marked in
    let set = marked_set _ _ c.args.region found shadowed there (c.get_mut.follows.holds shadowed).0 in
    let next = c.args.ids.now.next_object in
    let object : ObjectId = record { 0 = next } in
    let under : ShadowRow = record { under = row.top; shift = row.shift } in
    let old : ChainTable = record { regions = c.self.inside.regions.entries; shadows = c.self.inside.shadows.entries; marked = 0; spare = 0 } in
    let new : ChainTable = record { regions = c.self.inside.regions.entries; shadows = c.insert.new.self.entries; marked = 0; spare = 0 } in
    let at : (o : ℕ) → shadow_at new o ≡ (if next == o then Some under else shadow_at old o) = λ o. c.in_ok-insert.ensures.updates.0 (record { 0 = o }) in
    let named = c.requires.below in
    let below : ObjectsBelow next old = subst (λ (z : ChainTable). ObjectsBelow next (record old { regions = z.regions; shadows = z.shadows }))
    (sym c.self.view_is)
    record { tops = named.tops; shadows = named.shadows; unders = named.unders } in
    let ranked : IsRanked new = ranked_over old new next under at (λ e. omega (arith, less, e))
    (λ o s is e. let small = below.unders o s is in omega (arith, small, e))
    (ranked_same _ old (λ o. refl) c.self.invariant.ranked) in
    record {
      ranked = ranked_same new _ (λ o. refl) ranked;
      low = low_at old new next under c.requires.objects (let small = c.requires.objects in omega (arith, small, less)) at c.self.invariant.low;
      count = omega (arith, rw marked at set, c.self.invariant.count);
      tallied = tallied_made (tally_at c.reserve.new.self) _ _ _ object under (next_free next _ below.shadows) c.in_ok-insert.ensures.entries
          c.insert.ensures.unique at (let small = c.requires.objects in omega (arith, small)) c.add.ensures.added
          (rw (same_tallies c.self.inside.overs c.reserve.new.self c.reserve.ensures.same) c.self.invariant.tallied);
    }

pub invariant_of-self : goal.invariant_of-self
invariant_of-self c = kept_same _ _ _ _ refl refl refl (same_tallies c.self.inside.overs c.reserve.new.self c.reserve.ensures.same) c.self.invariant

pub invariant_of-self-in_err-insert : goal.invariant_of-self-in_err-insert
invariant_of-self-in_err-insert c =
    kept_same _ _ _ _ refl c.in_err-insert.ensures.err refl (same_tallies c.self.inside.overs c.reserve.new.self c.reserve.ensures.same) c.self.invariant

pub returns-clause-ok : goal.returns-clause-ok
returns-clause-ok c =
    let row : RegionRow = c.index-row.result.now in
    let found : RegionRow = c.unwrap-shadowed.result.now in
    let shadowed : RegionRow = record found { top = record { 0 = c.args.ids.now.next_object }; shift = 0; marked = false } in
    let is : region_at c.args.self.now c.args.region.0 ≡ Some row = rw (← c.self.view_is) c.index-row.ensures in
    let there = sym c.get_mut.ensures.value ∙ ap option_copied_mut c.unwrap-shadowed.ensures in
    let same : found ≡ row = same_row _ found row there c.index-row.ensures in
    let put = (c.get_mut.follows.holds shadowed).3 (some_of _ _ there) in
    row_told _ _ _ is (rw (← c.self.view_is) record {
      at = λ r. rw (← same) (put.0 (record { 0 = r }));
      under = λ o. c.in_ok-insert.ensures.updates.0 (record { 0 = o });
    })

pub returns-clause-marked : goal.returns-clause-marked
returns-clause-marked c =
    let row : RegionRow = c.index-row.result.now in
    let is : region_at c.args.self.now c.args.region.0 ≡ Some row = rw (← c.self.view_is) c.index-row.ensures in
    let counted = marked_counted _ c.args.region row c.index-row.ensures (row_must _ _ _ is c.requires.marked) in
    rw (← c.self.view_is) (omega (arith, counted, c.self.invariant.count))
