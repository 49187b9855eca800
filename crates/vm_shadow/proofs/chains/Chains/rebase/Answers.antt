use Rattle.std.proofs.Common.{◌≡◌, ◌∙◌, ℕ, ◌==◌, if◌then◌else◌, sym, ap, refl, Some, false, arith}
use Rattle.std.proofs.lemmas.Bool.Decides.{nat_tests}
use Rattle.std.specs.Map.{lookup}
use Rattle.std.specs.Option.{option_copied_mut}
use Rattle.vm_shadow.proofs.Overs.{has_number, none_over, two_stand}
use Rattle.vm_shadow.proofs.Ranks.{ranked_rebased, ranked_same}
use Rattle.vm_shadow.proofs.Tables.{low_at, row_must, same_row, some_of}
use Rattle.vm_shadow.proofs.Tallying.{tallied_moved}
use Rattle.vm_shadow.specs.Chains.{BacksNone, ChainTable, shadow_at}
use Rattle.vm_shadow.specs.Standing.{no_tally, tally_at}
use Rattle.vm_shadow.specs.declared.shadow_row.ShadowRow.{ShadowRow}
use Rattle.vm_shadow.specs.declared.tally.Tally.{Tally}
use Rattle.vm_shadow.proofs.chains.Chains.rebase.Goals as goal

pub remove-requires : goal.remove-requires
remove-requires c =
    let there = (rw (← c.self.view_is) at c.requires.same) ∙ c.index.ensures in
    record { has = has_number _ _ c.self.invariant.tallied c.args.older c.index.result.now _ there refl }

pub add-requires-clause-room : goal.add-requires-clause-room
add-requires-clause-room c =
    let row : ShadowRow = c.index.result.now in
    let there = (rw (← c.self.view_is) at c.requires.same) ∙ c.index.ensures in
    let two = two_stand _ _ c.self.invariant.tallied row.under.0 c.args.older.0 c.args.newer.0 row row c.requires.apart there c.index.ensures refl refl in
    let place = c.remove.ensures.place two in
    omega (arith, place)

pub add-requires-clause-few : goal.add-requires-clause-few
add-requires-clause-few c =
    let bare : BacksNone c.args.newer.0 c.args.self.now = c.requires.bare in
    let here = rw (← c.self.view_is) at bare in
    let apart : (c.index.result.now.under.0 == c.args.newer.0) ≡ false = grind (arith, nat_tests, here c.args.newer.0 c.index.result.now c.index.ensures) in
    let kept : tally_at c.remove.new.self c.args.newer.0 ≡ tally_at c.self.inside.overs c.args.newer.0
    = rw apart at (c.remove.ensures.removed c.args.newer.0) in
    let none : tally_at c.self.inside.overs c.args.newer.0 ≡ no_tally = none_over _ _ c.self.invariant.tallied c.args.newer.0 here in
    omega (arith, ap (λ (z : Tally). z.count) (kept ∙ none))

pub add-requires-clause-small : goal.add-requires-clause-small
add-requires-clause-small c =
    let here = rw (← c.self.view_is) at c.requires.bare in
    let there = (rw (← c.self.view_is) at c.requires.same) ∙ c.index.ensures in
    let apart : (c.index.result.now.under.0 == c.args.newer.0) ≡ false = grind (arith, nat_tests, here c.args.newer.0 c.index.result.now c.index.ensures) in
    let kept : tally_at c.remove.new.self c.args.newer.0 ≡ tally_at c.self.inside.overs c.args.newer.0
    = rw apart at (c.remove.ensures.removed c.args.newer.0) in
    let none : tally_at c.self.inside.overs c.args.newer.0 ≡ no_tally = none_over _ _ c.self.invariant.tallied c.args.newer.0 here in
    let small = (c.self.invariant.low c.args.older.0 c.index.result.now there).0 in
    omega (arith, ap (λ (z : Tally). z.sum) (kept ∙ none), small)

pub invariant_of-self : goal.invariant_of-self
invariant_of-self c =
    let row : ShadowRow = c.index.result.now in
    let put : ShadowRow = record { under = c.args.newer; shift = c.unwrap-moved.result.now.shift } in
    let here = rw (← c.self.view_is) at c.requires.bare in
    let there = (rw (← c.self.view_is) at c.requires.same) ∙ c.index.ensures in
    let found = sym c.get_mut.ensures.value ∙ ap option_copied_mut c.unwrap-moved.ensures in
    let old : ChainTable = record { regions = c.self.inside.regions.entries; shadows = c.self.inside.shadows.entries; marked = 0; spare = 0 } in
    let wrote = c.get_mut.follows.holds put in
    let new : ChainTable = record old { shadows = (c.get_mut.follows.lender put).entries } in
    let at : (o : ℕ) → shadow_at new o ≡ (if c.args.older.0 == o then Some put else shadow_at old o) =
    λ o. (wrote.3 (some_of _ _ found)).0 (record { 0 = o }) in
    record {
      ranked = ranked_same new _ (λ o. refl) (ranked_rebased old new c.args.older.0 c.args.newer.0 row put there c.index.ensures refl c.requires.apart
          here at (ranked_same _ old (λ o. refl) c.self.invariant.ranked));
      low = low_at old new c.args.older.0 put (c.self.invariant.low c.args.older.0 row there).0 (c.self.invariant.low c.args.newer.0 row c.index.ensures).0 at
          c.self.invariant.low;
      count = c.self.invariant.count;
      tallied = tallied_moved _ _ _ _ _ c.args.older row put there wrote.0 (here c.args.newer.0 row c.index.ensures) at c.remove.ensures.removed
          c.add.ensures.added c.self.invariant.tallied;
    }

pub returns-clause-rebases : goal.returns-clause-rebases
returns-clause-rebases c =
    let row : ShadowRow = c.index.result.now in
    let found = sym c.get_mut.ensures.value ∙ ap option_copied_mut c.unwrap-moved.ensures in
    let there = (rw (← c.self.view_is) at c.requires.same) ∙ c.index.ensures in
    let is : shadow_at c.args.self.now c.args.newer.0 ≡ Some row = rw (← c.self.view_is) c.index.ensures in
    let moved : ShadowRow = c.unwrap-moved.result.now in
    let zero : moved.shift ≡ 0 = ap (λ (z : ShadowRow). z.shift) (same_row _ moved row found there) ∙ row_must _ _ _ is c.requires.over in
    let put = (c.get_mut.follows.holds (record { under = c.args.newer; shift = moved.shift })).3 (some_of _ _ found) in
    rw (← c.self.view_is) record {
      at = λ o. put.0 (record { 0 = o }) ∙ ap (λ (n : ℕ). if c.args.older.0 == o then Some (record { under = c.args.newer; shift = n }) else
          lookup (λ id. o == id.0) c.self.inside.shadows.entries) zero;
      regions = refl;
    }

pub returns-clause-ranked : goal.returns-clause-ranked
returns-clause-ranked c =
    let row : ShadowRow = c.index.result.now in
    let put : ShadowRow = record { under = c.args.newer; shift = c.unwrap-moved.result.now.shift } in
    let here = rw (← c.self.view_is) at c.requires.bare in
    let there = (rw (← c.self.view_is) at c.requires.same) ∙ c.index.ensures in
    let found = sym c.get_mut.ensures.value ∙ ap option_copied_mut c.unwrap-moved.ensures in
    ranked_rebased _ _ c.args.older.0 c.args.newer.0 row put there c.index.ensures refl c.requires.apart here
    (λ o. ((c.get_mut.follows.holds put).3 (some_of _ _ found)).0 (record { 0 = o })) c.self.invariant.ranked

pub returns-clause-spare : goal.returns-clause-spare
returns-clause-spare c =
    let row : ShadowRow = c.index.result.now in
    let there = (rw (← c.self.view_is) at c.requires.same) ∙ c.index.ensures in
    let two = two_stand _ _ c.self.invariant.tallied row.under.0 c.args.older.0 c.args.newer.0 row row c.requires.apart there c.index.ensures refl refl in
    let same = (c.get_mut.follows.holds (record { under = c.args.newer; shift = c.unwrap-moved.result.now.shift })).6 in
    rw (← c.self.view_is, same) (grind (arith, c.remove.ensures.place two, c.add.ensures.spare))
