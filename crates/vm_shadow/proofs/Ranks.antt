-- A rank falls along each chain, so each ends.
use Rattle.std.proofs.Common.{◌≡◌, ◌≢◌, ◌∙◌, sym, subst, ap, ℕ, zero, suc, ◌+◌, ◌-◌, ◌*◌, ◌<◌, ◌≤◌, ◌==◌, ◌^◌, true, false, Bool}
use Rattle.std.proofs.Common.{List, [], ◌∷◌, length, Option, Some, None}
use Rattle.std.proofs.Common.{IsSome, IfSome, ◌||◌, eqb, if◌then◌else◌, arith, refl}
use Rattle.std.proofs.lemmas.Bool.Decides.{nat_tests}
use Rattle.std.proofs.lemmas.Cmp.{nat_eq_equiv}
use Rattle.std.proofs.lemmas.Map.Keys.{IsDistinct-cons}
use Rattle.std.proofs.lemmas.Map.Steps.{length-le_from_distinct_below, length-le_from_keys}
use Rattle.std.specs.List.{AllByRecursion, IsDistinct, list_any}
use Rattle.std.specs.Map.{lookup}
use Rattle.std.proofs.lemmas.Bool.{cond-false, cond-true, eq-eqb, ne_eqb}
use native.Mathlib.Decide.{ℕ_discrete}
use Rattle.vm_base.specs.declared.ids.ObjectId.{ObjectId}
use Rattle.vm_shadow.specs.Chains.{BacksNone, ChainTable, IsRanked, height, height_within, shadow_at}
use Rattle.vm_shadow.specs.Kept.{HasLowNumbers}
use Rattle.vm_shadow.specs.declared.shadow_row.ShadowRow.{ShadowRow}

-- where there is no shadow each rank serves
pub ranked_none : (table : ChainTable) → ((o : ℕ) → shadow_at table o ≡ None) → IsRanked table
ranked_none table none = record { rank = λ o. o; under = λ o row is. absurd (let bad : None ≡ Some row = sym (none o) ∙ is in cc) }

-- where no shadow is new a rank falls still
pub ranked_fewer : (old new : ChainTable) → ((o : ℕ) (row : ShadowRow) → shadow_at new o ≡ Some row → shadow_at old o ≡ Some row) → IsRanked old → IsRanked new
ranked_fewer old new was r = record { rank = r.rank; under = λ o row is. r.under o row (was o row is) }

-- and where the shadows are the same
pub ranked_same : (old new : ChainTable) → ((o : ℕ) → shadow_at new o ≡ shadow_at old o) → IsRanked old → IsRanked new
ranked_same old new same = ranked_fewer old new (λ o row is. sym (same o) ∙ is)

pub dropped_was : (old new : ChainTable) (object : ℕ) → ((o : ℕ) → shadow_at new o ≡ (if object == o then None else shadow_at old o))
    → (o : ℕ) (row : ShadowRow) → shadow_at new o ≡ Some row → shadow_at old o ≡ Some row
dropped_was old new object at o row is = grind (arith, nat_tests, at o, is)

-- and where one has gone
pub ranked_dropped : (old new : ChainTable) (object : ℕ) → ((o : ℕ) → shadow_at new o ≡ (if object == o then None else shadow_at old o)) → IsRanked old
    → IsRanked new
ranked_dropped old new object at = ranked_fewer old new (dropped_was old new object at)

one_row : (x : Option ShadowRow) (a b : ShadowRow) → x ≡ Some a → x ≡ Some b → a ≡ b
one_row x a b one other = let both : Some a ≡ Some b = sym one ∙ other in cc

-- a new shadow that is under no other: its rank is one more than that of what it is over
pub ranked_over : (old new : ChainTable) (object : ℕ) (row : ShadowRow) → ((o : ℕ) → shadow_at new o ≡ (if object == o then Some row else shadow_at old o))
    → row.under.0 ≢ object → ((o : ℕ) (s : ShadowRow) → shadow_at old o ≡ Some s → s.under.0 ≢ object) → IsRanked old → IsRanked new
ranked_over old new object row at other unders r =
    record {
      rank = rank;
      under = λ o s is. elim (ℕ_discrete object o) [
        | yes e ↦
            let same : s ≡ row = one_row (shadow_at new o) s row is (at o ∙ cond-true (object == o) (Some row) (shadow_at old o) (eq-eqb object o e)) in
            let high : rank o ≡ r.rank row.under.0 + 1 = cond-true (object == o) (r.rank row.under.0 + 1) (r.rank o) (eq-eqb object o e) in
            let low : rank s.under.0 ≡ r.rank row.under.0 = ap (λ (z : ShadowRow). rank z.under.0) same
            ∙ cond-false (object == row.under.0) (r.rank row.under.0 + 1) (r.rank row.under.0) (ne_eqb object row.under.0 (λ f. other (sym f))) in
            omega (arith, high, low)
        | no apart ↦
            let was : shadow_at old o ≡ Some s = sym (at o ∙ cond-false (object == o) (Some row) (shadow_at old o) (ne_eqb object o apart)) ∙ is in
            let high : rank o ≡ r.rank o = cond-false (object == o) (r.rank row.under.0 + 1) (r.rank o) (ne_eqb object o apart) in
            let low : rank s.under.0 ≡ r.rank s.under.0 = cond-false (object == s.under.0) (r.rank row.under.0 + 1) (r.rank s.under.0)
            (ne_eqb object s.under.0 (λ f. unders o s was (sym f))) in
            omega (arith, high, low, r.under o s was)
      ];
    }
  where
    rank : ℕ → ℕ
    rank = λ o. if object == o then r.rank row.under.0 + 1 else r.rank o

-- a shadow over a shadow stands on what that one stands on, and all others stand as they stood: a rank falls still
pub ranked_merged : (old new : ChainTable) (upper : ℕ) (up low row : ShadowRow) → shadow_at old upper ≡ Some up → shadow_at old up.under.0 ≡ Some low
    → row.under.0 ≡ low.under.0 → shadow_at new upper ≡ Some row
    → ((o : ℕ) (s : ShadowRow) → upper ≢ o → shadow_at new o ≡ Some s → shadow_at old o ≡ Some s) → IsRanked old → IsRanked new
ranked_merged old new upper up low row over below number put others r = record {
  rank = r.rank;
  under = λ o s is. elim (ℕ_discrete upper o) [
    | yes same ↦
        let its : row ≡ s = one_row (shadow_at new upper) row s put (ap (shadow_at new) same ∙ is) in
        let low_rank : r.rank s.under.0 ≡ r.rank low.under.0 = ap r.rank (sym (ap (λ (z : ShadowRow). z.under.0) its) ∙ number) in
        let high : r.rank upper ≡ r.rank o = ap r.rank same in
        omega (arith, low_rank, high, r.under upper up over, r.under up.under.0 low below)
    | no apart ↦ r.under o s (others o s apart is)
  ];
}

-- a shadow comes to stand on another over the same object: all ranks are doubled, and that one comes between
pub ranked_rebased : (old new : ChainTable) (older newer : ℕ) (row put : ShadowRow) → shadow_at old older ≡ Some row → shadow_at old newer ≡ Some row
    → put.under.0 ≡ newer → older ≢ newer → BacksNone newer old
    → ((o : ℕ) → shadow_at new o ≡ (if older == o then Some put else shadow_at old o)) → IsRanked old → IsRanked new
ranked_rebased old new older newer row put over_old over_new under other bare at r =
    record {
      rank = rank;
      under = λ o s is. elim (ℕ_discrete older o) [
        | yes same ↦
            let its : s ≡ put = one_row (shadow_at new o) s put is (at o ∙ cond-true (older == o) (Some put) (shadow_at old o) (eq-eqb older o same)) in
            let low : rank s.under.0 ≡ rank newer = ap (λ (z : ShadowRow). rank z.under.0) its ∙ ap rank under in
            let high : rank o ≡ rank older = ap rank (sym same) in
            omega (arith, low, high, between, elsewhere older (λ e. other (sym e)), r.under older row over_old)
        | no apart ↦
            let was : shadow_at old o ≡ Some s = sym (at o ∙ cond-false (older == o) (Some put) (shadow_at old o) (ne_eqb older o apart)) ∙ is in
            kept o s was (elsewhere s.under.0 (λ e. bare o s was (sym e)))
      ];
    }
  where
    rank : ℕ → ℕ
    rank = λ o. if newer == o then r.rank row.under.0 * 2 + 1 else r.rank o * 2

    between : rank newer ≡ r.rank row.under.0 * 2 + 1
    between = cond-true (newer == newer) (r.rank row.under.0 * 2 + 1) (r.rank newer * 2) (eq-eqb newer newer refl)

    elsewhere : (o : ℕ) → newer ≢ o → rank o ≡ r.rank o * 2
    elsewhere o apart = cond-false (newer == o) (r.rank row.under.0 * 2 + 1) (r.rank o * 2) (ne_eqb newer o apart)

    kept : (o : ℕ) (s : ShadowRow) → shadow_at old o ≡ Some s → rank s.under.0 ≡ r.rank s.under.0 * 2 → rank s.under.0 < rank o
    kept o s was low = elim (ℕ_discrete newer o) [
      | yes same ↦
          let its : s ≡ row = one_row (shadow_at old o) s row was (ap (shadow_at old) (sym same) ∙ over_new) in
          let base : r.rank s.under.0 ≡ r.rank row.under.0 = ap (λ (z : ShadowRow). r.rank z.under.0) its in
          let high : rank o ≡ rank newer = ap rank (sym same) in
          omega (arith, low, base, high, between)
      | no apart ↦ omega (arith, low, elsewhere o apart, r.under o s was)
    ]

-- no chain goes further than it is followed
pub height_most : (at : ℕ → Option ShadowRow) (n o : ℕ) → height_within at n o ≤ n
height_most at zero o = omega arith
height_most at (suc n) o = by (height_most at n) (at o) refl
  where
    by : ((low : ℕ) → height_within at n low ≤ n) → (x : Option ShadowRow) → at o ≡ x → height_within at (suc n) o ≤ suc n
    by further None is = rw is (omega arith)
    by further (Some row) is = let less = further row.under.0 in rw is (omega (arith, less))

-- the shadows by their numbers
abbrev numbered : List (ObjectId × ShadowRow) → List (ℕ × ShadowRow)
numbered [] = []
numbered (e ∷ es) = (e.0.0, e.1) ∷ numbered es

numbered_finds : (es : List (ObjectId × ShadowRow)) (o : ℕ) → lookup (eqb o) (numbered es) ≡ lookup (λ id. o == id.0) es
numbered_finds [] o = refl
numbered_finds (e ∷ es) o = ap (λ (x : Option ShadowRow). if o == e.0.0 then Some e.1 else x) (numbered_finds es o)

numbered_length : (es : List (ObjectId × ShadowRow)) → length (numbered es) ≡ length es
numbered_length [] = refl
numbered_length (e ∷ es) = ap suc (numbered_length es)

module _ (table : ChainTable) (r : IsRanked table) where
  -- what was passed on the way down to an object: shadows, none of them twice, each of a greater rank
  record HasPassed (o : ℕ) (passed : List ℕ) : Type 0 where
    pub distinct : IsDistinct eqb passed
    pub above : AllByRecursion (λ v. r.rank o < r.rank v) passed
    pub shadows : (q : ℕ) → list_any (eqb q) passed ≡ true → IsSome (shadow_at table q)

  none_passed : (o : ℕ) → HasPassed o []
  unfolding IsDistinct
  none_passed o = record { distinct = tt; above = tt; shadows = λ q is. absurd (let bad : false ≡ true = is in cc) }

  apart_from : (o : ℕ) (passed : List ℕ) → AllByRecursion (λ v. r.rank o < r.rank v) passed → AllByRecursion (λ v. eqb o v ≡ false) passed
  apart_from o [] above = tt
  apart_from o (v ∷ passed) above = (by (eqb o v) refl, apart_from o passed above.1)
    where
      by : (b : Bool) → eqb o v ≡ b → b ≡ false
      by false is = refl
      by true is =
          let same : o ≡ v = grind (arith, nat_tests) in
          let both : r.rank o ≡ r.rank v = ap r.rank same in
          let less = above.0 in
          absurd (omega (arith, less, both))

  above_too : (low o : ℕ) (passed : List ℕ) → r.rank low < r.rank o → AllByRecursion (λ v. r.rank o < r.rank v) passed
      → AllByRecursion (λ v. r.rank low < r.rank v) passed
  above_too low o [] less above = tt
  above_too low o (v ∷ passed) less above = let first = above.0 in (omega (arith, less, first), above_too low o passed less above.1)

  passed_apart : (o : ℕ) (passed : List ℕ) → HasPassed o passed → IsDistinct eqb (o ∷ passed)
  passed_apart o passed has = IsDistinct-cons eqb o passed (apart_from o passed has.above) has.distinct

  passed_on : (o : ℕ) (passed : List ℕ) (row : ShadowRow) → HasPassed o passed → shadow_at table o ≡ Some row → HasPassed row.under.0 (o ∷ passed)
  passed_on o passed row has is =
      record {
        distinct = passed_apart o passed has;
        above = (r.under o row is, above_too row.under.0 o passed (r.under o row is) has.above);
        shadows = λ q in_list. by q (eqb q o) refl in_list;
      }
    where
      by : (q : ℕ) (b : Bool) → eqb q o ≡ b → (eqb q o || list_any (eqb q) passed) ≡ true → IsSome (shadow_at table q)
      by q true is_it in_list =
          let same : o ≡ q = grind (arith, nat_tests) in
          subst (λ (z : ℕ). IsSome (shadow_at table z)) same (rw is refl)
      by q false other in_list = has.shadows q (rw other at in_list)

  -- no chain passes more shadows than there are
  few_passed : (o : ℕ) (passed : List ℕ) → HasPassed o passed → length passed ≤ length table.shadows
  few_passed o passed has =
      let few = length-le_from_keys nat_eq_equiv passed (numbered table.shadows) has.distinct
      (λ q in_list. subst (λ (x : Option ShadowRow). IsSome x) (sym (numbered_finds table.shadows q)) (has.shadows q in_list)) in
      let long = numbered_length table.shadows in
      omega (arith, few, long)

  -- so that many steps are enough for each
  no_further : (n o : ℕ) (passed : List ℕ) → HasPassed o passed → length table.shadows ≤ length passed + n
      → height_within (shadow_at table) (suc n) o ≡ height_within (shadow_at table) n o
  no_further zero o passed has enough = by (shadow_at table o) refl
    where
      by : (x : Option ShadowRow) → shadow_at table o ≡ x → height_within (shadow_at table) 1 o ≡ 0
      by None is = rw is refl
      by (Some row) is = absurd (let few = few_passed row.under.0 (o ∷ passed) (passed_on o passed row has is) in omega (arith, few, enough))
  no_further (suc n) o passed has enough = by (no_further n) (shadow_at table o) refl
    where
      by : ((low : ℕ) (more : List ℕ) → HasPassed low more → length table.shadows ≤ length more + n
          → height_within (shadow_at table) (suc n) low ≡ height_within (shadow_at table) n low)
          → (x : Option ShadowRow) → shadow_at table o ≡ x → height_within (shadow_at table) (suc (suc n)) o ≡ height_within (shadow_at table) (suc n) o
      by further None is = rw is refl
      by further (Some row) is =
          let more = further row.under.0 (o ∷ passed) (passed_on o passed row has is) (omega (arith, enough)) in
          rw is (ap suc more)

  -- what stands under an object has one object less below it
  pub height_falls : (o : ℕ) (row : ShadowRow) → shadow_at table o ≡ Some row → height table row.under.0 + 1 ≡ height table o
  height_falls o row is =
      let more : height_within (shadow_at table) (suc (length table.shadows)) o ≡ height table o
      = no_further (length table.shadows) o [] (none_passed o) (omega arith) in
      let over : height_within (shadow_at table) (suc (length table.shadows)) o ≡ suc (height table row.under.0) = rw is refl in
      omega (arith, more, over)

  -- so has what was found under it
  pub falls_found : (o : ℕ) (found : Option ShadowRow) → found ≡ shadow_at table o → IfSome found (λ row. height table row.under.0 + 1 ≡ height table o)
  falls_found o None is = tt
  falls_found o (Some row) is = height_falls o row (sym is)

  module _ (most : ℕ) (shadows : (o : ℕ) (row : ShadowRow) → shadow_at table o ≡ Some row → o < most)
      (unders : (o : ℕ) (row : ShadowRow) → shadow_at table o ≡ Some row → row.under.0 < most) where
    -- where the objects of the chains have numbers below one, fewer are passed
    passed_below : (o : ℕ) (passed : List ℕ) → HasPassed o passed → o < most → length passed + 1 ≤ most
    passed_below o passed has small =
        let few = length-le_from_distinct_below (o ∷ passed) most (passed_apart o passed has) (λ q in_list. below q (eqb q o) refl in_list) in
        omega (arith, few)
      where
        below : (q : ℕ) (b : Bool) → eqb q o ≡ b → (eqb q o || list_any (eqb q) passed) ≡ true → q < most
        below q true same in_list = let is : q ≡ o = grind (arith, nat_tests) in omega (arith, is, small)
        below q false other in_list = found (shadow_at table q) refl (has.shadows q (rw other at in_list))
          where
            found : (x : Option ShadowRow) → shadow_at table q ≡ x → IsSome (shadow_at table q) → q < most
            found None is some = absurd (let bad : false ≡ true = rw is at some in cc)
            found (Some row) is some = shadows q row is

    -- so no chain has more objects
    height_below : (n o : ℕ) (passed : List ℕ) → HasPassed o passed → o < most → height_within (shadow_at table) n o + length passed + 1 ≤ most
    height_below zero o passed has small = let whole = passed_below o passed has small in omega (arith, whole)
    height_below (suc n) o passed has small = by (height_below n) (shadow_at table o) refl
      where
        by : ((low : ℕ) (more : List ℕ) → HasPassed low more → low < most → height_within (shadow_at table) n low + length more + 1 ≤ most)
            → (x : Option ShadowRow) → shadow_at table o ≡ x → height_within (shadow_at table) (suc n) o + length passed + 1 ≤ most
        by further None is =
            let none : height_within (shadow_at table) (suc n) o ≡ 0 = rw is refl in
            let whole = passed_below o passed has small in
            omega (arith, whole, none)
        by further (Some row) is =
            let more = further row.under.0 (o ∷ passed) (passed_on o passed row has is) (unders o row is) in
            let over : height_within (shadow_at table) (suc n) o ≡ suc (height_within (shadow_at table) n row.under.0) = rw is refl in
            omega (arith, more, over)

    -- an object with a greater number is no shadow
    pub height_few : 0 < most → (n o : ℕ) → height_within (shadow_at table) n o + 1 ≤ most
    height_few some zero o = omega (arith, some)
    height_few some (suc n) o = by (shadow_at table o) refl
      where
        by : (x : Option ShadowRow) → shadow_at table o ≡ x → height_within (shadow_at table) (suc n) o + 1 ≤ most
        by None is = let none : height_within (shadow_at table) (suc n) o ≡ 0 = rw is refl in omega (arith, some, none)
        by (Some row) is = let few = height_below (suc n) o [] (none_passed o) (shadows o row is) in omega (arith, few)

-- no chain has more objects than there are low numbers
pub low_few : (table : ChainTable) → IsRanked table → HasLowNumbers table → (n o : ℕ) → height_within (shadow_at table) n o + 1 < 2 ^ 32
low_few table ranked low n o =
    let few = height_few table ranked (2 ^ 32 - 1) (λ q row is. let small = (low q row is).0 in omega (arith, small))
    (λ q row is. let small = (low q row is).1 in omega (arith, small)) (omega arith) n o in
    omega (arith, few)
