use Rattle.std.proofs.Common.{◌≡◌, ◌∙◌, ◌+◌, ◌==◌, ℕ, IsSome, Option, if◌then◌else◌, rules, sym, ap, subst, refl, None, Some}
use Rattle.std.specs.Map.{lookup}
use Rattle.std.specs.Option.{option_copied_mut}
use Rattle.vm_base.specs.declared.ids.ObjectId.{ObjectId}
use Rattle.vm_shadow.proofs.Overs.{has_number, over_has}
use Rattle.vm_shadow.proofs.Tables.{kept_dropped, kept_merged, merged_bottom, merged_over, row_behind, row_each, row_must, row_told, shadow_stays, some_of}
use Rattle.vm_shadow.proofs.Tallying.{apart_under, merged_fits, tallied_bottom, tallied_merged}
use Rattle.vm_shadow.specs.Chains.{IsRanked, shadow_at}
use Rattle.vm_shadow.specs.Standing.{HasNumber, tally_at}
use Rattle.vm_shadow.specs.declared.shadow_row.ShadowRow.{ShadowRow}
use Rattle.vm_shadow.proofs.chains.Chains.merge.Goals as goal

pub remove-requires : goal.remove-requires
remove-requires c =
    record { has = (over_has _ _ c.self.invariant.tallied c.args.upper c.args.lower (rw (← c.self.view_is) at c.requires.over)).0 }

pub invariant_of-self : goal.invariant_of-self
invariant_of-self c =
    let same : c.swap_remove.new.self.entries ≡ c.self.inside.shadows.entries = rw c.in_default.is at c.swap_remove.ensures.unchanged in
    let entries = rw same at c.swap_remove-in_default.ensures.entries in
    let at : (o : ℕ) → lookup (λ id. o == id.0) c.swap_remove-in_default.new.self.entries
    ≡ (if c.args.upper.0 == o then None else lookup (λ id. o == id.0) c.self.inside.shadows.entries) =
    rw (← same) (λ o. c.swap_remove-in_default.ensures.updates.0 (record { 0 = o })) in
    kept_dropped _ _ _ _ c.args.upper.0 at refl refl
    (tallied_bottom _ _ _ _ c.args.upper c.args.lower (rw (← c.self.view_is) at c.requires.over) entries c.swap_remove-in_default.ensures.unique at
    c.remove.ensures.removed c.self.invariant.tallied)
    c.self.invariant

pub replace-requires-clause-has : goal.replace-requires-clause-has
replace-requires-clause-has c =
    let low : ShadowRow = c.in-Some.low in
    let there : lookup (λ id. c.args.lower.0 == id.0) c.self.inside.shadows.entries ≡ Some low = sym c.swap_remove.ensures.value ∙ c.in-Some.is in
    let apart = apart_under _ c.args.lower.0 low c.self.invariant.ranked there in
    let kept : tally_at c.remove.new.self low.under.0 ≡ tally_at c.self.inside.overs low.under.0 = rw apart at (c.remove.ensures.removed low.under.0) in
    subst (HasNumber c.args.lower.0) (sym kept) (has_number _ _ c.self.invariant.tallied c.args.lower low low.under.0 there refl)

pub replace-requires-clause-small : goal.replace-requires-clause-small
replace-requires-clause-small c =
    let low : ShadowRow = c.in-Some.low in
    let there : lookup (λ id. c.args.lower.0 == id.0) c.self.inside.shadows.entries ≡ Some low = sym c.swap_remove.ensures.value ∙ c.in-Some.is in
    let apart = apart_under _ c.args.lower.0 low c.self.invariant.ranked there in
    let kept : tally_at c.remove.new.self low.under.0 ≡ tally_at c.self.inside.overs low.under.0 = rw apart at (c.remove.ensures.removed low.under.0) in
    let small = (over_has _ _ c.self.invariant.tallied c.args.upper c.args.lower (rw (← c.self.view_is) at c.requires.over)).1 in
    let fits = merged_fits _ _ c.args.upper.0 c.self.invariant.tallied small low.under.0 in
    rw kept fits

pub returns-in_default-clause-merges : goal.returns-in_default-clause-merges
returns-in_default-clause-merges c =
    let none : shadow_at c.args.self.now c.args.lower.0 ≡ None = rw (← c.self.view_is) (sym c.swap_remove.ensures.value ∙ c.in_default.is) in
    let mid : ℕ → Option ShadowRow = λ o. lookup (λ id. o == id.0) c.swap_remove.new.self.entries in
    let taken : (o : ℕ) → mid o ≡ (if c.args.lower.0 == o then None else shadow_at c.args.self.now o) =
    rw (← c.self.view_is) (λ o. c.swap_remove.ensures.updates.0 (record { 0 = o })) in
    row_each _ _ (merged_bottom c.args.self.now _ mid c.args.upper.0 c.args.lower.0 none taken
    (λ o. c.swap_remove-in_default.ensures.updates.0 (record { 0 = o })) (rw (← c.self.view_is) refl))

pub unwrap-up-requires : goal.unwrap-up-requires
unwrap-up-requires c =
    let mid : ℕ → Option ShadowRow = λ o. lookup (λ id. o == id.0) c.swap_remove.new.self.entries in
    let taken : (o : ℕ) → mid o ≡ (if c.args.lower.0 == o then None else shadow_at c.args.self.now o) =
    rw (← c.self.view_is) (λ o. c.swap_remove.ensures.updates.0 (record { 0 = o })) in
    let ranked : IsRanked c.args.self.now = rw (← c.self.view_is) c.self.invariant.ranked in
    let stays : IsSome (lookup (λ id. c.args.upper.0 == id.0) c.swap_remove.new.self.entries) =
    shadow_stays c.args.self.now mid c.args.upper.0 c.args.lower ranked c.requires.over taken in
    search (rules, stays)

pub invariant_of-self-2 : goal.invariant_of-self-2
invariant_of-self-2 c =
    let up : ShadowRow = c.unwrap-up.result.now in
    let low : ShadowRow = c.in-Some.low in
    let row : ShadowRow = record { under = low.under; shift = up.shift + low.shift } in
    let found = sym c.get_mut.ensures.value ∙ ap option_copied_mut c.unwrap-up.ensures in
    let old = c.self.inside.shadows.entries in
    let mid : ℕ → Option ShadowRow = λ o. lookup (λ id. o == id.0) c.swap_remove.new.self.entries in
    let taken : (o : ℕ) → mid o ≡ (if c.args.lower.0 == o then None else lookup (λ id. o == id.0) old) =
    λ o. c.swap_remove.ensures.updates.0 (record { 0 = o }) in
    let there = row_behind mid (λ o. lookup (λ id. o == id.0) old) c.args.lower.0 c.args.upper.0 up taken found in
    let is : shadow_at c.args.self.now c.args.upper.0 ≡ Some up = rw (← c.self.view_is) there in
    let under = row_must _ _ _ is c.requires.over in
    let put = (c.get_mut.follows.holds row).3 (some_of _ _ found) in
    let at : (o : ℕ) → lookup (λ id. o == id.0) (c.get_mut.follows.lender row).entries
    ≡ (if c.args.upper.0 == o then Some row else (if c.args.lower.0 == o then None else lookup (λ id. o == id.0) old)) =
    λ o. put.0 (record { 0 = o }) ∙ ap (λ z. if c.args.upper.0 == o then Some row else z) (taken o) in
    let low_there = sym c.swap_remove.ensures.value ∙ c.in-Some.is in
    let over = ap (λ (z : ObjectId). z.0) under in
    let apart = apart_under _ c.args.lower.0 low c.self.invariant.ranked low_there in
    kept_merged _ _ _ _ c.args.upper.0 c.args.lower.0 up low row there over low_there refl at refl refl
    (tallied_merged _ _ _ _ _ _ c.args.upper c.args.lower up low row low_there c.swap_remove.ensures.entries there found (c.get_mut.follows.holds row).0
    over refl apart c.swap_remove.ensures.unique at c.remove.ensures.removed c.replace.ensures.replaced c.self.invariant.tallied)
    c.self.invariant

pub returns-clause-merges : goal.returns-clause-merges
returns-clause-merges c =
    let up : ShadowRow = c.unwrap-up.result.now in
    let low : ShadowRow = c.in-Some.low in
    let row : ShadowRow = record { under = low.under; shift = up.shift + low.shift } in
    let found = sym c.get_mut.ensures.value ∙ ap option_copied_mut c.unwrap-up.ensures in
    let mid : ℕ → Option ShadowRow = λ o. lookup (λ id. o == id.0) c.swap_remove.new.self.entries in
    let taken : (o : ℕ) → mid o ≡ (if c.args.lower.0 == o then None else shadow_at c.args.self.now o) =
    rw (← c.self.view_is) (λ o. c.swap_remove.ensures.updates.0 (record { 0 = o })) in
    let is = row_behind mid (shadow_at c.args.self.now) c.args.lower.0 c.args.upper.0 up taken found in
    let put = (c.get_mut.follows.holds row).3 (some_of _ _ found) in
    let low_is : shadow_at c.args.self.now c.args.lower.0 ≡ Some low = rw (← c.self.view_is) (sym c.swap_remove.ensures.value ∙ c.in-Some.is) in
    row_told _ _ _ is (merged_over c.args.self.now _ mid c.args.upper.0 c.args.lower.0 up low low_is taken
    (λ o. put.0 (record { 0 = o })) (rw (← c.self.view_is) refl))
