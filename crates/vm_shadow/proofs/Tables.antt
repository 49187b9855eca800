-- What regions and shadows are after a write.
use Rattle.std.proofs.Common.{◌≡◌, ◌≢◌, ◌∙◌, sym, ap, subst, ℕ, ◌+◌, ◌<◌, ◌≤◌, ◌==◌, ◌^◌, true, false, Option, Some, None, if◌then◌else◌}
use Rattle.std.proofs.Common.{IfSome, IsSome, IsSomeAnd}
use Rattle.std.proofs.Common.{arith, refl}
use Rattle.std.proofs.lemmas.Bool.Decides.{nat_tests}
use Rattle.std.specs.Map.{lookup}
use Rattle.std.proofs.lemmas.Bool.{cond-false, cond-true, eq-eqb, ne_eqb}
use native.Mathlib.Decide.{ℕ_discrete}
use Rattle.vm_base.specs.declared.ids.ObjectId.{ObjectId}
use Rattle.vm_shadow.proofs.Ranks.{dropped_was, ranked_dropped, ranked_merged, ranked_same}
use Rattle.vm_shadow.specs.Chains.{ChainTable, CopiesRegion, IsDeep, IsRanked, MergesShadow, Over, PutsRegion, RegionsBelow, copy_of, region_at, shadow_at}
use Rattle.vm_shadow.specs.Kept.{AreKept, AreTallied, HasLowNumbers, count_marked}
use Rattle.vm_shadow.specs.declared.region_row.RegionRow.{RegionRow}
use Rattle.vm_shadow.specs.declared.shadow_row.ShadowRow.{ShadowRow}
use Rattle.vm_shadow.specs.declared.tally.Tally.{Tally}

pub some_of : {A : Type 0} (o : Option A) (x : A) → o ≡ Some x → IsSome o
some_of o x is = rw is refl

-- what holds of the row that is there
pub row_told : {A : Type 0} (o : Option A) (x : A) (P : A → Type 0) → o ≡ Some x → P x → IfSome o P
row_told o x P is told = rw is told

pub row_has : {A : Type 0} (o : Option A) (x : A) (P : A → Type 0) → o ≡ Some x → IfSome o P → P x
row_has o x P is told = rw is at told

pub row_must : {A : Type 0} (o : Option A) (x : A) (P : A → Type 0) → o ≡ Some x → IsSomeAnd o P → P x
row_must o x P is told = rw is at told

pub same_row : {A : Type 0} (o : Option A) (x y : A) → o ≡ Some x → o ≡ Some y → x ≡ y
same_row o x y one other = let both : Some x ≡ Some y = sym one ∙ other in cc

-- a region that is there has a number below the next one
pub region_below : (n r : ℕ) (row : RegionRow) (table : ChainTable) → RegionsBelow n table → region_at table r ≡ Some row → r < n
region_below n r row table below is =
    let none : n ≤ r → region_at table r ≡ None = below r in
    grind (arith, none, is)

-- a new region leaves each other with its row
pub source_kept : (old mid : ChainTable) (source copy offset pages : ℕ) (row found : RegionRow) → RegionsBelow copy old → region_at old source ≡ Some row
    → PutsRegion copy (Some (copy_of row offset pages)) old mid → region_at mid source ≡ Some found → found ≡ row
source_kept old mid source copy offset pages row found below is put there =
    let less = region_below copy source row old below is in
    let other : (copy == source) ≡ false = grind (arith, nat_tests) in
    let kept : region_at mid source ≡ Some row = rw other at (put.at source) ∙ is in
    same_row (region_at mid source) found row there kept

pub region_copied : (old mid new : ChainTable) (source copy offset pages : ℕ) (row found : RegionRow) → RegionsBelow copy old → region_at old source ≡ Some row
    → PutsRegion copy (Some (copy_of row offset pages)) old mid → region_at mid source ≡ Some found
    → PutsRegion source (Some (record found { marked = true })) mid new
    → CopiesRegion source copy offset pages row old new
region_copied old mid new source copy offset pages row found below is put there marks =
    let less = region_below copy source row old below is in
    let other : (copy == source) ≡ false = grind (arith, nat_tests) in
    let same : found ≡ row = source_kept old mid source copy offset pages row found below is put there in
    let at : (r : ℕ) → region_at new r ≡ (if copy == r then Some (copy_of row offset pages) else
    (if source == r then Some (record row { marked = true }) else region_at old r))
    = λ r. rw (← same) (grind (arith, nat_tests, marks.at r, put.at r, other)) in
    record { at = at; shadows = marks.shadows ∙ put.shadows }

-- numbers stay low where a shadow with a low one comes over an object with a low one, and each other was there before
pub low_put : (old new : ChainTable) (object : ℕ) (row : ShadowRow) → object + 1 < 2 ^ 32 → row.under.0 + 1 < 2 ^ 32 → shadow_at new object ≡ Some row
    → ((o : ℕ) (s : ShadowRow) → object ≢ o → shadow_at new o ≡ Some s → shadow_at old o ≡ Some s) → HasLowNumbers old → HasLowNumbers new
low_put old new object row small under put others low = λ o s is. elim (ℕ_discrete object o) [
  | yes same ↦
      let number = ap (λ (z : ShadowRow). z.under.0) (same_row (shadow_at new object) row s put (ap (shadow_at new) same ∙ is)) in
      (omega (arith, small, same), omega (arith, under, number))
  | no apart ↦ low o s (others o s apart is)
]

-- so they do where just that row was written
pub low_at : (old new : ChainTable) (object : ℕ) (row : ShadowRow) → object + 1 < 2 ^ 32 → row.under.0 + 1 < 2 ^ 32
    → ((o : ℕ) → shadow_at new o ≡ (if object == o then Some row else shadow_at old o)) → HasLowNumbers old → HasLowNumbers new
low_at old new object row small under at low =
    low_put old new object row small under (at object ∙ cond-true (object == object) (Some row) (shadow_at old object) (eq-eqb object object refl))
    (λ o s apart is. sym (at o ∙ cond-false (object == o) (Some row) (shadow_at old o) (ne_eqb object o apart)) ∙ is) low

-- tables with the same rows are kept alike
pub kept_same : (tallies next : ℕ → Tally) (old new : ChainTable) → new.regions ≡ old.regions → new.shadows ≡ old.shadows → new.marked ≡ old.marked
    → next ≡ tallies → AreKept tallies old → AreKept next new
kept_same tallies next old new regions shadows marked told kept =
    let rows : (o : ℕ) → shadow_at new o ≡ shadow_at old o = λ o. ap (λ z. lookup (λ id. o == id.0) z) shadows in
    record {
      ranked = ranked_same old new rows kept.ranked;
      low = λ o row is. kept.low o row (sym (rows o) ∙ is);
      count = marked ∙ (kept.count ∙ ap count_marked (sym regions));
      tallied = rw (told, shadows) kept.tallied;
    }

-- and where a shadow has gone
pub kept_dropped : (tallies next : ℕ → Tally) (old new : ChainTable) (object : ℕ)
    → ((o : ℕ) → shadow_at new o ≡ (if object == o then None else shadow_at old o))
    → new.regions ≡ old.regions → new.marked ≡ old.marked → AreTallied next new.shadows → AreKept tallies old → AreKept next new
kept_dropped tallies next old new object at regions marked tallied kept =
    record {
      ranked = ranked_dropped old new object at kept.ranked;
      low = λ o row is. kept.low o row (dropped_was old new object at o row is);
      count = marked ∙ (kept.count ∙ ap count_marked (sym regions));
      tallied = tallied;
    }

-- what holds of each row holds of the one that is there
pub row_each : {A : Type 0} (o : Option A) (P : A → Type 0) → ((x : A) → P x) → IfSome o P
row_each None P each = tt
row_each (Some x) P each = each x

-- the row that is found where another was taken out was there before
pub row_behind : {A : Type 0} (mid old : ℕ → Option A) (lower o : ℕ) (row : A) → ((q : ℕ) → mid q ≡ (if lower == q then None else old q)) → mid o ≡ Some row
    → old o ≡ Some row
row_behind mid old lower o row taken is = grind (arith, nat_tests, taken o, is)

-- a shadow stays where the object under it is taken out
pub shadow_stays : (old : ChainTable) (mid : ℕ → Option ShadowRow) (upper : ℕ) (lower : ObjectId) → IsRanked old
    → IsSomeAnd (shadow_at old upper) (λ row. row.under ≡ lower) → ((o : ℕ) → mid o ≡ (if lower.0 == o then None else shadow_at old o)) → IsSome (mid upper)
shadow_stays old mid upper lower r over taken = by (shadow_at old upper) refl over
  where
    by : (x : Option ShadowRow) → shadow_at old upper ≡ x → IsSomeAnd x (λ row. row.under ≡ lower) → IsSome (mid upper)
    by None is none = absurd none
    by (Some row) is under =
        let less = r.under upper row is in
        let apart : lower.0 ≢ upper = λ same. let rank = ap r.rank (ap (λ (z : ObjectId). z.0) under ∙ same) in omega (arith, less, rank) in
        let left : mid upper ≡ Some row = taken upper ∙ (cond-false (lower.0 == upper) None (shadow_at old upper) (ne_eqb lower.0 upper apart) ∙ is) in
        rw left refl

-- an object at the bottom is merged into its shadow, under which nothing stands then
pub merged_bottom : (old new : ChainTable) (mid : ℕ → Option ShadowRow) (upper lower : ℕ) → shadow_at old lower ≡ None
    → ((o : ℕ) → mid o ≡ (if lower == o then None else shadow_at old o)) → ((o : ℕ) → shadow_at new o ≡ (if upper == o then None else mid o))
    → region_at new ≡ region_at old → (up : ShadowRow) → MergesShadow upper lower up old new
merged_bottom old new mid upper lower none taken put regions up = record {
  at = λ o. rw none (put o ∙ ap (λ z. if upper == o then None else z) (taken o));
  regions = regions;
}

-- one over another
pub merged_over : (old new : ChainTable) (mid : ℕ → Option ShadowRow) (upper lower : ℕ) (up low : ShadowRow) → shadow_at old lower ≡ Some low
    → ((o : ℕ) → mid o ≡ (if lower == o then None else shadow_at old o))
    → ((o : ℕ) → shadow_at new o ≡ (if upper == o then Some (record { under = low.under; shift = up.shift + low.shift }) else mid o))
    → region_at new ≡ region_at old → MergesShadow upper lower up old new
merged_over old new mid upper lower up low there taken put regions = record {
  at = λ o. rw there (put o ∙ ap (λ z. if upper == o then Some (record { under = low.under; shift = up.shift + low.shift }) else z) (taken o));
  regions = regions;
}

-- where an object is merged into its shadow a rank falls still
pub kept_merged : (tallies next : ℕ → Tally) (old new : ChainTable) (upper lower : ℕ) (up low row : ShadowRow) → shadow_at old upper ≡ Some up
    → up.under.0 ≡ lower
    → shadow_at old lower ≡ Some low → row.under ≡ low.under
    → ((o : ℕ) → shadow_at new o ≡ (if upper == o then Some row else (if lower == o then None else shadow_at old o)))
    → new.regions ≡ old.regions → new.marked ≡ old.marked → AreTallied next new.shadows → AreKept tallies old → AreKept next new
kept_merged tallies next old new upper lower up low row over is there under at regions marked tallied kept =
    let others : (o : ℕ) (s : ShadowRow) → upper ≢ o → shadow_at new o ≡ Some s → shadow_at old o ≡ Some s =
    λ o s apart found. let test : (upper == o) ≡ false = grind (arith, nat_tests) in grind (arith, nat_tests, at o, found, test) in
    let put : shadow_at new upper ≡ Some row = grind (arith, nat_tests, at upper) in
    let below : shadow_at old up.under.0 ≡ Some low = rw is there in
    let number : row.under.0 ≡ low.under.0 = ap (λ (z : ObjectId). z.0) under in
    record {
      ranked = ranked_merged old new upper up low row over below number put others kept.ranked;
      low = low_put old new upper row (kept.low upper up over).0 (let small = (kept.low lower low there).1 in omega (arith, small, number)) put others kept.low;
      count = marked ∙ (kept.count ∙ ap count_marked (sym regions));
      tallied = tallied;
    }

-- one object more on the way down
pub deep_over : (table : ChainTable) (o : ℕ) (row : ShadowRow) (n : ℕ) → shadow_at table o ≡ Some row → IsDeep table row.under.0 n → IsDeep table o (n + 1)
deep_over table o row n is deep = subst (λ (m : ℕ). IsDeep table o m) (omega arith) (Over o n row is deep)
