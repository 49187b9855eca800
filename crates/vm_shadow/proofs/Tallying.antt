-- The tallies stay those of the shadows where shadows are written, and no count or sum is too great.
use Rattle.std.proofs.Common.{◌≡◌, ◌≢◌, ◌∙◌, sym, ap, subst, ℕ, suc, ◌+◌, ◌-◌, ◌*◌, ◌<◌, ◌≤◌, ◌==◌, ◌^◌, Bool, true, false, List, [], ◌∷◌, length, Some, None}
use Rattle.std.proofs.Common.{if◌then◌else◌}
use Rattle.std.proofs.Common.{◌||◌, IsSomeAnd, Option, eqb, arith, refl}
use Rattle.std.proofs.lemmas.Bool.Decides.{nat_tests}
use Rattle.std.proofs.lemmas.List.Sums.{count_by-le-length, sum_by-cons}
use Rattle.std.proofs.lemmas.Map.{keys-set_value}
use Rattle.std.proofs.lemmas.Map.Keys.{IsDistinct-cons, IsDistinct-head, IsDistinct-tail}
use Rattle.std.proofs.lemmas.Map.Steps.{length-le_from_distinct_below}
use Rattle.std.specs.List.{AllByRecursion, IsDistinct, count_by, list_any, sum_by}
use Rattle.std.specs.Map.{keys_of, lookup, set_value}
use native.Mathlib.Decide.{ℕ_discrete}
use Rattle.indexmap.specs.IndexMap.{insert_entry, swap_remove_entry}
use Rattle.vm_base.specs.declared.ids.ObjectId.{ObjectId}
use Rattle.vm_shadow.proofs.Overs.{count_told, later, number, one, sum_told, tally_is}
use Rattle.vm_shadow.proofs.Weights.{same_object, weighed_dropped, weighed_made, weighed_set}
use Rattle.vm_shadow.specs.Kept.{AreTallied, stands, tally_of}
use Rattle.vm_shadow.specs.Chains.{ChainTable, IsRanked, shadow_at}
use Rattle.vm_shadow.specs.Standing.{no_tally, renumbered, with_shadow, without_shadow}
use Rattle.vm_shadow.specs.declared.shadow_row.ShadowRow.{ShadowRow}
use Rattle.vm_shadow.specs.declared.tally.Tally.{Tally}

-- all numbers are small, where that of one object is, and each other shadow was there before
numbers_kept : (old new : List (ObjectId × ShadowRow)) (object : ℕ) → object < 2 ^ 32
    → ((o : ℕ) (row : ShadowRow) → lookup (λ id. o == id.0) old ≡ Some row → o < 2 ^ 32)
    → ((o : ℕ) (row : ShadowRow) → (object == o) ≡ false → lookup (λ id. o == id.0) new ≡ Some row → lookup (λ id. o == id.0) old ≡ Some row)
    → (o : ℕ) (row : ShadowRow) → lookup (λ id. o == id.0) new ≡ Some row → o < 2 ^ 32
numbers_kept old new object small before was o row found = elim (ℕ_discrete object o) [
  | yes is ↦ omega (arith, is, small)
  | no apart ↦ before o row (was o row (grind (arith, nat_tests)) found)
]

-- where one was made
pub tallied_made : (tallies next : ℕ → Tally) (old new : List (ObjectId × ShadowRow)) (object : ObjectId) (row : ShadowRow)
    → lookup (same_object object) old ≡ None → new ≡ insert_entry same_object old object row → IsDistinct same_object (keys_of new)
    → ((o : ℕ) → lookup (λ id. o == id.0) new ≡ (if object.0 == o then Some row else lookup (λ id. o == id.0) old)) → object.0 < 2 ^ 32
    → ((o : ℕ) → next o ≡ (if row.under.0 == o then with_shadow object.0 (tallies o) else tallies o)) → AreTallied tallies old → AreTallied next new
tallied_made tallies next old new object row none is unique at small told t =
    record {
      unique = unique;
      numbers = numbers_kept old new object.0 small t.numbers (λ o s apart found. sym (rw apart at (at o)) ∙ found);
      tally = λ o. written o (row.under.0 == o)
          (subst (λ (z : Tally). next o ≡ (if row.under.0 == o then with_shadow object.0 z else z)) (t.tally o) (told o))
          (weighed_made (one o) old new object row none is) (weighed_made (number o) old new object row none is);
    }
  where
    written : (o : ℕ) (b : Bool) → next o ≡ (if b then with_shadow object.0 (tally_of old o) else tally_of old o)
        → count_by (stands o) new ≡ count_by (stands o) old + (if b then 1 else 0)
        → sum_by (number o) new ≡ sum_by (number o) old + (if b then object.0 else 0) → next o ≡ tally_of new o
    written o true now counts sums =
        tally_is (next o) _ _ (ap (λ (z : Tally). z.count) now ∙ sym counts) (ap (λ (z : Tally). z.sum) now ∙ sym sums)
    written o false now counts sums =
        tally_is (next o) _ _ (omega (arith, ap (λ (z : Tally). z.count) now, counts)) (omega (arith, ap (λ (z : Tally). z.sum) now, sums))

-- where one has gone
pub tallied_dropped : (tallies next : ℕ → Tally) (old new : List (ObjectId × ShadowRow)) (object : ObjectId) (row : ShadowRow)
    → lookup (same_object object) old ≡ Some row → new ≡ swap_remove_entry (same_object object) old → IsDistinct same_object (keys_of new)
    → ((o : ℕ) → lookup (λ id. o == id.0) new ≡ (if object.0 == o then None else lookup (λ id. o == id.0) old))
    → ((o : ℕ) → next o ≡ (if row.under.0 == o then without_shadow object.0 (tallies o) else tallies o)) → AreTallied tallies old → AreTallied next new
tallied_dropped tallies next old new object row there is unique at told t =
    record {
      unique = unique;
      numbers = λ o s found. t.numbers o s (was o s found);
      tally = λ o. written o (row.under.0 == o)
          (subst (λ (z : Tally). next o ≡ (if row.under.0 == o then without_shadow object.0 z else z)) (t.tally o) (told o))
          (weighed_dropped (one o) old new object row there is) (weighed_dropped (number o) old new object row there is);
    }
  where
    was : (o : ℕ) (s : ShadowRow) → lookup (λ id. o == id.0) new ≡ Some s → lookup (λ id. o == id.0) old ≡ Some s
    was o s found = grind (arith, nat_tests, at o, found)

    written : (o : ℕ) (b : Bool) → next o ≡ (if b then without_shadow object.0 (tally_of old o) else tally_of old o)
        → count_by (stands o) new + (if b then 1 else 0) ≡ count_by (stands o) old
        → sum_by (number o) new + (if b then object.0 else 0) ≡ sum_by (number o) old → next o ≡ tally_of new o
    written o true now counts sums =
        tally_is (next o) _ _ (omega (arith, ap (λ (z : Tally). z.count) now, counts)) (omega (arith, ap (λ (z : Tally). z.sum) now, sums))
    written o false now counts sums =
        tally_is (next o) _ _ (omega (arith, ap (λ (z : Tally). z.count) now, counts)) (omega (arith, ap (λ (z : Tally). z.sum) now, sums))

-- where one is merged into another
pub tallied_merged : (tallies between next : ℕ → Tally) (old mid new : List (ObjectId × ShadowRow)) (upper lower : ObjectId) (up low row : ShadowRow)
    → lookup (same_object lower) old ≡ Some low → mid ≡ swap_remove_entry (same_object lower) old
    → lookup (same_object upper) old ≡ Some up → lookup (same_object upper) mid ≡ Some up → new ≡ set_value (same_object upper) mid row
    → up.under.0 ≡ lower.0 → row.under ≡ low.under → (lower.0 == low.under.0) ≡ false → IsDistinct same_object (keys_of mid)
    → ((o : ℕ) → lookup (λ id. o == id.0) new ≡ (if upper.0 == o then Some row else (if lower.0 == o then None else lookup (λ id. o == id.0) old)))
    → ((o : ℕ) → between o ≡ (if lower.0 == o then without_shadow upper.0 (tallies o) else tallies o))
    → ((o : ℕ) → next o ≡ (if low.under.0 == o then renumbered lower.0 upper.0 (between o) else between o)) → AreTallied tallies old → AreTallied next new
tallied_merged tallies between next old mid new upper lower up low row there taken had found put over under apart unique at before told t =
    record {
      unique = rw put (rw (keys-set_value (same_object upper) mid row) unique);
      numbers = numbers_kept old new upper.0 (t.numbers upper.0 up had) t.numbers was;
      tally = λ o. by o (lower.0 == o) (low.under.0 == o) refl refl;
    }
  where
    was : (o : ℕ) (s : ShadowRow) → (upper.0 == o) ≡ false → lookup (λ id. o == id.0) new ≡ Some s → lookup (λ id. o == id.0) old ≡ Some s
    was o s off is = grind (arith, nat_tests, at o, off, is)

    by : (o : ℕ) (a b : Bool) → (lower.0 == o) ≡ a → (low.under.0 == o) ≡ b → next o ≡ tally_of new o
    by o a b is_lower is_under =
        let high : stands o (upper, up) ≡ a = rw over is_lower in
        let stays : stands o (upper, row) ≡ b = rw under is_under in
        let counts : count_by (stands o) mid + (if b then 1 else 0) ≡ count_by (stands o) old
        = rw (← is_under) (weighed_dropped (one o) old mid lower low there taken) in
        let sums : sum_by (number o) mid + (if b then lower.0 else 0) ≡ sum_by (number o) old =
        rw (← is_under) (weighed_dropped (number o) old mid lower low there taken) in
        let new_counts : count_by (stands o) new + (if a then 1 else 0) ≡ count_by (stands o) mid + (if b then 1 else 0)
        = rw (← high, ← stays) (weighed_set (one o) mid new upper up row found put) in
        let new_sums : sum_by (number o) new + (if a then upper.0 else 0) ≡ sum_by (number o) mid + (if b then upper.0 else 0)
        = rw (← high, ← stays) (weighed_set (number o) mid new upper up row found put) in
        let first : between o ≡ (if a then without_shadow upper.0 (tally_of old o) else tally_of old o) = rw (← is_lower)
        (subst (λ (z : Tally). between o ≡ (if lower.0 == o then without_shadow upper.0 z else z)) (t.tally o) (before o)) in
        let second : next o ≡ (if b then renumbered lower.0 upper.0 (between o) else between o) = rw (← is_under) (told o) in
        written a b (λ p q. grind (arith, nat_tests, apart, is_lower ∙ p, is_under ∙ q)) first second counts sums new_counts new_sums
      where
        written : (a b : Bool) → (a ≡ true → b ≡ true → ⊥) → between o ≡ (if a then without_shadow upper.0 (tally_of old o) else tally_of old o)
            → next o ≡ (if b then renumbered lower.0 upper.0 (between o) else between o)
            → count_by (stands o) mid + (if b then 1 else 0) ≡ count_by (stands o) old
            → sum_by (number o) mid + (if b then lower.0 else 0) ≡ sum_by (number o) old
            → count_by (stands o) new + (if a then 1 else 0) ≡ count_by (stands o) mid + (if b then 1 else 0)
            → sum_by (number o) new + (if a then upper.0 else 0) ≡ sum_by (number o) mid + (if b then upper.0 else 0) → next o ≡ tally_of new o
        written true true never first second counts sums more greater = absurd (never refl refl)
        written true false never first second counts sums more greater =
            tally_is (next o) _ _ (omega (arith, ap (λ (z : Tally). z.count) first, ap (λ (z : Tally). z.count) second, counts, more))
            (omega (arith, ap (λ (z : Tally). z.sum) first, ap (λ (z : Tally). z.sum) second, sums, greater))
        written false true never first second counts sums more greater =
            tally_is (next o) _ _ (omega (arith, ap (λ (z : Tally). z.count) first, ap (λ (z : Tally). z.count) second, counts, more))
            (omega (arith, ap (λ (z : Tally). z.sum) first, ap (λ (z : Tally). z.sum) second, sums, greater))
        written false false never first second counts sums more greater =
            tally_is (next o) _ _ (omega (arith, ap (λ (z : Tally). z.count) first, ap (λ (z : Tally). z.count) second, counts, more))
            (omega (arith, ap (λ (z : Tally). z.sum) first, ap (λ (z : Tally). z.sum) second, sums, greater))

-- where one that stood on an object stands on another now
pub tallied_moved : (tallies between next : ℕ → Tally) (old new : List (ObjectId × ShadowRow)) (object : ObjectId) (was row : ShadowRow)
    → lookup (same_object object) old ≡ Some was → new ≡ set_value (same_object object) old row → was.under.0 ≢ row.under.0
    → ((o : ℕ) → lookup (λ id. o == id.0) new ≡ (if object.0 == o then Some row else lookup (λ id. o == id.0) old))
    → ((o : ℕ) → between o ≡ (if was.under.0 == o then without_shadow object.0 (tallies o) else tallies o))
    → ((o : ℕ) → next o ≡ (if row.under.0 == o then with_shadow object.0 (between o) else between o)) → AreTallied tallies old → AreTallied next new
tallied_moved tallies between next old new object was row there put apart at before told t =
    record {
      unique = rw put (rw (keys-set_value (same_object object) old row) t.unique);
      numbers = numbers_kept old new object.0 (t.numbers object.0 was there) t.numbers (λ o s off is. sym (rw off at (at o)) ∙ is);
      tally = λ o. written o (was.under.0 == o) (row.under.0 == o)
          (λ p q. let one : was.under.0 ≡ o = grind (arith, nat_tests) in let two : row.under.0 ≡ o = grind (arith, nat_tests) in apart (one ∙ sym two))
          (subst (λ (z : Tally). between o ≡ (if was.under.0 == o then without_shadow object.0 z else z)) (t.tally o) (before o))
          (told o) (weighed_set (one o) old new object was row there put) (weighed_set (number o) old new object was row there put);
    }
  where
    written : (o : ℕ) (a b : Bool) → (a ≡ true → b ≡ true → ⊥) → between o ≡ (if a then without_shadow object.0 (tally_of old o) else tally_of old o)
        → next o ≡ (if b then with_shadow object.0 (between o) else between o)
        → count_by (stands o) new + (if a then 1 else 0) ≡ count_by (stands o) old + (if b then 1 else 0)
        → sum_by (number o) new + (if a then object.0 else 0) ≡ sum_by (number o) old + (if b then object.0 else 0) → next o ≡ tally_of new o
    written o true true never first second counts sums = absurd (never refl refl)
    written o true false never first second counts sums =
        tally_is (next o) _ _ (omega (arith, ap (λ (z : Tally). z.count) first, ap (λ (z : Tally). z.count) second, counts))
        (omega (arith, ap (λ (z : Tally). z.sum) first, ap (λ (z : Tally). z.sum) second, sums))
    written o false true never first second counts sums =
        tally_is (next o) _ _ (omega (arith, ap (λ (z : Tally). z.count) first, ap (λ (z : Tally). z.count) second, counts))
        (omega (arith, ap (λ (z : Tally). z.sum) first, ap (λ (z : Tally). z.sum) second, sums))
    written o false false never first second counts sums =
        tally_is (next o) _ _ (omega (arith, ap (λ (z : Tally). z.count) first, ap (λ (z : Tally). z.count) second, counts))
        (omega (arith, ap (λ (z : Tally). z.sum) first, ap (λ (z : Tally). z.sum) second, sums))

-- the sum of numbers of 32 bits
pub sum_most : (o : ℕ) (es : List (ObjectId × ShadowRow)) → IsDistinct same_object (keys_of es)
    → ((q : ℕ) (row : ShadowRow) → lookup (λ id. q == id.0) es ≡ Some row → q < 2 ^ 32) → sum_by (number o) es ≤ 4294967295 * count_by (stands o) es
sum_most o [] unique small = omega arith
sum_most o (e ∷ es) unique small =
    by (stands o e) refl
    (sum_most o es (IsDistinct-tail same_object e.0 (keys_of es) unique) (λ q row found. small q row (later e es q row unique found)))
  where
    first : e.0.0 < 2 ^ 32
    first = let head : (e.0.0 == e.0.0) ≡ true = grind (arith, nat_tests) in small e.0.0 e.1 (rw head refl)

    by : (b : Bool) → stands o e ≡ b → sum_by (number o) es ≤ 4294967295 * count_by (stands o) es
        → sum_by (number o) (e ∷ es) ≤ 4294967295 * count_by (stands o) (e ∷ es)
    by true is rest =
        let step = sum_by-cons (one o) e es in
        let sums = sum_by-cons (number o) e es in
        let adds : one o e ≡ 1 = rw is refl in
        let gives : number o e ≡ e.0.0 = rw is refl in
        omega (arith, rest, first, step, sums, adds, gives)
    by false is rest =
        let step = sum_by-cons (one o) e es in
        let sums = sum_by-cons (number o) e es in
        let adds : one o e ≡ 0 = rw is refl in
        let gives : number o e ≡ 0 = rw is refl in
        omega (arith, rest, step, sums, adds, gives)

abbrev numbers_of : List (ObjectId × ShadowRow) → List ℕ
numbers_of [] = []
numbers_of (e ∷ es) = e.0.0 ∷ numbers_of es

as_many : (es : List (ObjectId × ShadowRow)) → length (numbers_of es) ≡ length es
as_many [] = refl
as_many (e ∷ es) = ap suc (as_many es)

numbers_apart : (n : ℕ) (es : List (ObjectId × ShadowRow)) → AllByRecursion (λ (id : ObjectId). (n == id.0) ≡ false) (keys_of es)
    → AllByRecursion (λ (q : ℕ). eqb n q ≡ false) (numbers_of es)
numbers_apart n [] apart = tt
numbers_apart n (e ∷ es) apart = (apart.0, numbers_apart n es apart.1)

numbers_differ : (es : List (ObjectId × ShadowRow)) → IsDistinct same_object (keys_of es) → IsDistinct eqb (numbers_of es)
unfolding IsDistinct
numbers_differ [] unique = tt
numbers_differ (e ∷ es) unique = IsDistinct-cons eqb e.0.0 (numbers_of es) (numbers_apart e.0.0 es (IsDistinct-head same_object e.0 (keys_of es) unique))
    (numbers_differ es (IsDistinct-tail same_object e.0 (keys_of es) unique))

numbers_below : (most : ℕ) (es : List (ObjectId × ShadowRow)) → ((q : ℕ) (row : ShadowRow) → lookup (λ id. q == id.0) es ≡ Some row → q < most)
    → (q : ℕ) → list_any (eqb q) (numbers_of es) ≡ true → q < most
numbers_below most es below q among = by (lookup (λ id. q == id.0) es) refl
  where
    there : (fs : List (ObjectId × ShadowRow)) → list_any (eqb q) (numbers_of fs) ≡ true → lookup (λ id. q == id.0) fs ≡ None → ⊥
    there [] among none = absurd (let bad : false ≡ true = among in cc)
    there (e ∷ es) among none = at (eqb q e.0.0) refl among none (there es)
      where
        at : (b : Bool) → eqb q e.0.0 ≡ b → (b || list_any (eqb q) (numbers_of es)) ≡ true
            → (if b then Some e.1 else lookup (λ id. q == id.0) es) ≡ None
            → (list_any (eqb q) (numbers_of es) ≡ true → lookup (λ id. q == id.0) es ≡ None → ⊥) → ⊥
        at true is among none behind = let bad : Some e.1 ≡ None = none in cc
        at false is among none behind = behind among none

    by : (x : Option ShadowRow) → lookup (λ id. q == id.0) es ≡ x → q < most
    by None is = absurd (there es among is)
    by (Some row) is = below q row is

-- no more shadows stand on an object than have numbers
pub count_most : (o most : ℕ) (es : List (ObjectId × ShadowRow)) → IsDistinct same_object (keys_of es)
    → ((q : ℕ) (row : ShadowRow) → lookup (λ id. q == id.0) es ≡ Some row → q < most) → count_by (stands o) es ≤ most
count_most o most es unique below =
    let few = length-le_from_distinct_below (numbers_of es) most (numbers_differ es unique) (numbers_below most es below) in
    omega (arith, few, as_many es, count_by-le-length (stands o) es)

-- nor is a count or a sum too great, where a shadow with the next number is made
pub made_fits : (tallies : ℕ → Tally) (shadows : List (ObjectId × ShadowRow)) (next : ℕ) → AreTallied tallies shadows
    → ((q : ℕ) (row : ShadowRow) → lookup (λ id. q == id.0) shadows ≡ Some row → q < next) → next + 1 < 2 ^ 32 → (o : ℕ)
    → ((tallies o).count + 1 < 2 ^ 32) × ((tallies o).sum + next < 2 ^ 64)
made_fits tallies shadows next t below small o =
    let counts = count_told tallies shadows t o in
    let sums = sum_told tallies shadows t o in
    let few = count_most o next shadows t.unique below in
    let most = sum_most o shadows t.unique t.numbers in
    (omega (arith, counts, few, small), omega (arith, counts, sums, few, most, small))

-- or one with any low number is
pub put_fits : (tallies : ℕ → Tally) (old new : List (ObjectId × ShadowRow)) (object : ObjectId) (row : ShadowRow) → AreTallied tallies old
    → lookup (same_object object) old ≡ None → new ≡ insert_entry same_object old object row → IsDistinct same_object (keys_of new)
    → ((q : ℕ) (s : ShadowRow) → lookup (λ id. q == id.0) new ≡ Some s → q + 1 < 2 ^ 32) → (tallies row.under.0).count + 1 < 2 ^ 32
put_fits tallies old new object row t none is unique low =
    let counts = count_told tallies old t row.under.0 in
    let made = weighed_made (one row.under.0) old new object row none is in
    let passes : stands row.under.0 (object, row) ≡ true = grind (arith, nat_tests) in
    let adds : one row.under.0 (object, row) ≡ 1 = rw passes refl in
    let few = count_most row.under.0 (2 ^ 32 - 1) new unique (λ q s found. let small = low q s found in omega (arith, small)) in
    omega (arith, counts, made, adds, few)

-- or a number of 32 bits comes in place of another
pub merged_fits : (tallies : ℕ → Tally) (shadows : List (ObjectId × ShadowRow)) (upper : ℕ) → AreTallied tallies shadows → upper < 2 ^ 32 → (o : ℕ)
    → (tallies o).sum + upper < 2 ^ 64
merged_fits tallies shadows upper t small o =
    let sums = sum_told tallies shadows t o in
    let few = count_most o (2 ^ 32) shadows t.unique t.numbers in
    let most = sum_most o shadows t.unique t.numbers in
    omega (arith, sums, few, most, small)

-- no shadow has the next number yet
pub next_free : (next : ℕ) (shadows : List (ObjectId × ShadowRow))
    → ((q : ℕ) (row : ShadowRow) → lookup (λ id. q == id.0) shadows ≡ Some row → q < next) → lookup (λ id. next == id.0) shadows ≡ None
next_free next shadows below = by (lookup (λ id. next == id.0) shadows) refl
  where
    by : (x : Option ShadowRow) → lookup (λ id. next == id.0) shadows ≡ x → x ≡ None
    by None is = refl
    by (Some row) is = absurd (let less = below next row is in omega (arith, less))

-- where an object at the bottom is merged into its shadow
pub tallied_bottom : (tallies next : ℕ → Tally) (old new : List (ObjectId × ShadowRow)) (upper lower : ObjectId)
    → IsSomeAnd (lookup (same_object upper) old) (λ row. row.under ≡ lower) → new ≡ swap_remove_entry (same_object upper) old
    → IsDistinct same_object (keys_of new)
    → ((o : ℕ) → lookup (λ id. o == id.0) new ≡ (if upper.0 == o then None else lookup (λ id. o == id.0) old))
    → ((o : ℕ) → next o ≡ (if lower.0 == o then without_shadow upper.0 (tallies o) else tallies o)) → AreTallied tallies old → AreTallied next new
tallied_bottom tallies next old new upper lower over is unique at told t = by (lookup (same_object upper) old) refl over
  where
    by : (x : Option ShadowRow) → lookup (same_object upper) old ≡ x → IsSomeAnd x (λ row. row.under ≡ lower) → AreTallied next new
    by None there none = absurd none
    by (Some row) there under =
        let named : row.under.0 ≡ lower.0 = ap (λ (z : ObjectId). z.0) under in
        tallied_dropped tallies next old new upper row there is unique at (λ o. rw named (told o)) t

none_tallied : (tallies : ℕ → Tally) → ((o : ℕ) → tallies o ≡ no_tally) → AreTallied tallies []
unfolding IsDistinct
none_tallied tallies told = record { unique = tt; numbers = λ o row found. absurd (let bad : None ≡ Some row = found in cc); tally = told }

-- where there is no shadow nothing is tallied
pub tallied_none : (tallies : ℕ → Tally) (shadows : List (ObjectId × ShadowRow)) → shadows ≡ [] → ((o : ℕ) → tallies o ≡ no_tally) → AreTallied tallies shadows
tallied_none tallies shadows empty told = rw empty (none_tallied tallies told)

-- a shadow doesn't stand on itself
pub apart_under : (table : ChainTable) (o : ℕ) (row : ShadowRow) → IsRanked table → shadow_at table o ≡ Some row → (o == row.under.0) ≡ false
apart_under table o row ranked is = by (o == row.under.0) refl
  where
    by : (b : Bool) → (o == row.under.0) ≡ b → b ≡ false
    by false apart = refl
    by true same =
        let number : o ≡ row.under.0 = grind (arith, nat_tests) in
        let rank = ap ranked.rank number in
        let less = ranked.under o row is in
        absurd (omega (arith, rank, less))
