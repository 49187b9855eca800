use Rattle.std.proofs.Common.{◌≡◌, ℕ, ◌==◌, if◌then◌else◌, ap, sym, refl, Some, arith}
use Rattle.vm_shadow.proofs.Overs.{same_tallies}
use Rattle.vm_shadow.proofs.Ranks.{ranked_over, ranked_same}
use Rattle.vm_shadow.proofs.Tables.{kept_same, low_at}
use Rattle.vm_shadow.proofs.Tallying.{merged_fits, put_fits, tallied_made}
use Rattle.vm_shadow.specs.Chains.{ChainTable, IsRanked, shadow_at}
use Rattle.vm_shadow.specs.Standing.{tally_at}
use Rattle.vm_shadow.specs.declared.shadow_row.ShadowRow.{ShadowRow}
use Rattle.vm_shadow.specs.declared.tally.Tally.{Tally}
use Rattle.vm_shadow.proofs.chains.Chains.stand.Goals as goal

pub add-requires-clause-few : goal.add-requires-clause-few
add-requires-clause-few c =
    let o = c.args.under.0 in
    let kept : tally_at c.reserve.new.self o ≡ tally_at c.self.inside.overs o = ap (λ (f : ℕ → Tally). f o)
    (same_tallies c.self.inside.overs c.reserve.new.self c.reserve.ensures.same) in
    let row : ShadowRow = record { under = c.args.under; shift = 0 } in
    let old : ChainTable = record { regions = c.self.inside.regions.entries; shadows = c.self.inside.shadows.entries; marked = 0; spare = 0 } in
    let new : ChainTable = record { regions = c.self.inside.regions.entries; shadows = c.insert.new.self.entries; marked = 0; spare = 0 } in
    let at : (o : ℕ) → shadow_at new o ≡ (if c.args.object.0 == o then Some row else shadow_at old o)
    = λ o. c.in_ok-insert.ensures.updates.0 (record { 0 = o }) in
    let low = low_at old new c.args.object.0 row c.requires.low.0 c.requires.low.1 at c.self.invariant.low in
    rw kept (put_fits _ _ _ c.args.object row c.self.invariant.tallied (rw (← c.self.view_is) at c.requires.bottom) c.in_ok-insert.ensures.entries
    c.insert.ensures.unique (λ q s found. (low q s found).0))

pub add-requires-clause-small : goal.add-requires-clause-small
add-requires-clause-small c =
    let o = c.args.under.0 in
    let kept : tally_at c.reserve.new.self o ≡ tally_at c.self.inside.overs o = ap (λ (f : ℕ → Tally). f o)
    (same_tallies c.self.inside.overs c.reserve.new.self c.reserve.ensures.same) in
    rw kept (merged_fits _ _ c.args.object.0 c.self.invariant.tallied (let small = c.requires.low.0 in omega (arith, small)) o)

pub invariant_of-self : goal.invariant_of-self
invariant_of-self c = kept_same _ _ _ _ refl refl refl (same_tallies c.self.inside.overs c.reserve.new.self c.reserve.ensures.same) c.self.invariant

pub invariant_of-self-in_err-insert : goal.invariant_of-self-in_err-insert
invariant_of-self-in_err-insert c =
    kept_same _ _ _ _ refl c.in_err-insert.ensures.err refl (same_tallies c.self.inside.overs c.reserve.new.self c.reserve.ensures.same) c.self.invariant

pub invariant_of-self-2 : goal.invariant_of-self-2
invariant_of-self-2 c =
    let row : ShadowRow = record { under = c.args.under; shift = 0 } in
    let old : ChainTable = record { regions = c.self.inside.regions.entries; shadows = c.self.inside.shadows.entries; marked = 0; spare = 0 } in
    let new : ChainTable = record { regions = c.self.inside.regions.entries; shadows = c.insert.new.self.entries; marked = 0; spare = 0 } in
    let at : (o : ℕ) → shadow_at new o ≡ (if c.args.object.0 == o then Some row else shadow_at old o)
    = λ o. c.in_ok-insert.ensures.updates.0 (record { 0 = o }) in
    let ranked : IsRanked new = ranked_over old new c.args.object.0 row at (λ e. c.requires.apart (sym e)) (rw (← c.self.view_is) at c.requires.bare)
    (ranked_same _ old (λ o. refl) c.self.invariant.ranked) in
    record {
      ranked = ranked_same new _ (λ o. refl) ranked;
      low = low_at old new c.args.object.0 row c.requires.low.0 c.requires.low.1 at c.self.invariant.low;
      count = c.self.invariant.count;
      tallied = tallied_made (tally_at c.reserve.new.self) _ _ _ c.args.object row (rw (← c.self.view_is) at c.requires.bottom) c.in_ok-insert.ensures.entries
          c.insert.ensures.unique at (let small = c.requires.low.0 in omega (arith, small)) c.add.ensures.added
          (rw (same_tallies c.self.inside.overs c.reserve.new.self c.reserve.ensures.same) c.self.invariant.tallied);
    }

pub returns-clause-ok : goal.returns-clause-ok
returns-clause-ok c = rw (← c.self.view_is) record { at = λ o. c.in_ok-insert.ensures.updates.0 (record { 0 = o }); regions = refl }

pub returns-clause-ranked : goal.returns-clause-ranked
returns-clause-ranked c =
    let row : ShadowRow = record { under = c.args.under; shift = 0 } in
    ranked_over _ _ c.args.object.0 row (λ o. c.in_ok-insert.ensures.updates.0 (record { 0 = o })) (λ e. c.requires.apart (sym e))
    (rw (← c.self.view_is) at c.requires.bare) c.self.invariant.ranked
