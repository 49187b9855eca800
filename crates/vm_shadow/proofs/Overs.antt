-- The tallies of the shadows after a write, and the one shadow that they tell.
use Rattle.std.proofs.Common.{◌≡◌, ◌≢◌, ◌∙◌, sym, ap, subst, ℕ, ◌+◌, ◌<◌, ◌==◌, ◌^◌, Bool, true, false, List, [], ◌∷◌, Some, None, if◌then◌else◌}
use Rattle.std.proofs.Common.{Result, Ok, Err, OnOk, IsOk, IfNone, IfSome, IsSomeAnd, Option, arith, refl}
use Rattle.std.proofs.lemmas.Bool.Decides.{nat_tests}
use Rattle.std.proofs.lemmas.List.Sums.{sum_by-cons}
use Rattle.std.proofs.lemmas.Map.Keys.{IsDistinct-head, IsDistinct-tail}
use Rattle.std.specs.List.{AllByRecursion, IsDistinct, count_by, sum_by}
use Rattle.std.specs.Map.{keys_of, lookup}
use Rattle.std.specs.Option.{unwrap_or}
use native.Mathlib.Decide.{ℕ_discrete}
use Rattle.indexmap.specs.IndexMap.{swap_remove_entry}
use Rattle.vm_base.specs.declared.ids.ObjectId.{ObjectId}
use Rattle.vm_shadow.proofs.Weights.{same_object, weighed_dropped}
use Rattle.vm_shadow.specs.Chains.{ChainTable, StandsAlone, shadow_at}
use Rattle.vm_shadow.specs.Kept.{AreTallied, stands}
use Rattle.vm_shadow.specs.Standing.{HasNumber, TallyTable, no_tally, tally_at}
use Rattle.vm_shadow.specs.declared.shadow_row.ShadowRow.{ShadowRow}
use Rattle.vm_shadow.specs.declared.tally.Tally.{Tally}

-- what an entry adds to the count of an object, and to the sum
abbrev pub one : ℕ → ObjectId × ShadowRow → ℕ
one o e = if stands o e then 1 else 0

abbrev pub number : ℕ → ObjectId × ShadowRow → ℕ
number o e = if stands o e then e.0.0 else 0

-- a tally of these two
pub tally_is : (tally : Tally) (count sum : ℕ) → tally.count ≡ count → tally.sum ≡ sum → tally ≡ record { count = count; sum = sum }
tally_is tally count sum one two = both tally.count tally.sum one two
  where
    both : (c s : ℕ) → c ≡ count → s ≡ sum → ◌≡◌ {A = Tally} (record { count = c; sum = s }) (record { count = count; sum = sum })
    both c s one two = rw (one, two) refl

-- the tally of an object in the table of which the row was written
pub tally_put : (old new : TallyTable) (object : ℕ) (row : Option Tally) (write : Tally → Tally) → unwrap_or row no_tally ≡ write (tally_at old object)
    → ((o : ℕ) → lookup (λ id. o == id.0) new.rows ≡ (if object == o then row else lookup (λ id. o == id.0) old.rows))
    → (o : ℕ) → tally_at new o ≡ (if object == o then write (tally_at old o) else tally_at old o)
tally_put old new object row write written at o = by (object == o) refl
  where
    by : (b : Bool) → (object == o) ≡ b → tally_at new o ≡ (if object == o then write (tally_at old o) else tally_at old o)
    by true is =
        let same : object ≡ o = grind (arith, nat_tests) in
        let found : lookup (λ id. o == id.0) new.rows ≡ row = rw is at (at o) in
        rw is (ap (λ (x : Option Tally). unwrap_or x no_tally) found ∙ written ∙ ap (λ (q : ℕ). write (tally_at old q)) same)
    by false is =
        let found : lookup (λ id. o == id.0) new.rows ≡ lookup (λ id. o == id.0) old.rows = rw is at (at o) in
        rw is (ap (λ (x : Option Tally). unwrap_or x no_tally) found)

-- the row that is there is the tally
pub tally_found : (table : TallyTable) (o : ℕ) (tally : Tally) → lookup (λ id. o == id.0) table.rows ≡ Some tally → tally_at table o ≡ tally
tally_found table o tally is = rw is refl

-- and where none is, nothing is tallied
pub tally_missing : (table : TallyTable) (o : ℕ) → lookup (λ id. o == id.0) table.rows ≡ None → tally_at table o ≡ no_tally
tally_missing table o is = rw is refl

-- where no entry stands on the object, their numbers have the sum 0
none_stands : (o : ℕ) (es : List (ObjectId × ShadowRow)) → count_by (stands o) es ≡ 0 → sum_by (number o) es ≡ 0
none_stands o [] none = refl
none_stands o (e ∷ es) none = by (stands o e) refl (none_stands o es)
  where
    by : (b : Bool) → stands o e ≡ b → (count_by (stands o) es ≡ 0 → sum_by (number o) es ≡ 0) → sum_by (number o) (e ∷ es) ≡ 0
    by true is later = absurd (let step = sum_by-cons (one o) e es in let adds : one o e ≡ 1 = rw is refl in omega (arith, none, step, adds))
    by false is later =
        let step = sum_by-cons (one o) e es in
        let sums = sum_by-cons (number o) e es in
        let adds : number o e ≡ 0 = rw is refl in
        let rest = later (omega (arith, none, step)) in
        omega (arith, sums, adds, rest)

-- a number that no key has isn't found
absent : (n : ℕ) (es : List (ObjectId × ShadowRow)) → AllByRecursion (λ (id : ObjectId). (n == id.0) ≡ false) (keys_of es) → lookup (λ id. n == id.0) es ≡ None
absent n [] apart = refl
absent n (e ∷ es) apart = rw apart.0 (absent n es apart.1)

-- what is found behind the first entry has another number
apart_from_first : (e : ObjectId × ShadowRow) (es : List (ObjectId × ShadowRow)) (o : ℕ) (row : ShadowRow) → IsDistinct same_object (keys_of (e ∷ es))
    → lookup (λ id. o == id.0) es ≡ Some row → (o == e.0.0) ≡ false
apart_from_first e es o row unique found = by (o == e.0.0) refl
  where
    by : (b : Bool) → (o == e.0.0) ≡ b → b ≡ false
    by false is = refl
    by true is =
        let same : o ≡ e.0.0 = grind (arith, nat_tests) in
        let none : lookup (λ id. e.0.0 == id.0) es ≡ None = absent e.0.0 es (IsDistinct-head same_object e.0 (keys_of es) unique) in
        let bad : None ≡ Some row = sym none ∙ subst (λ (n : ℕ). lookup (λ id. n == id.0) es ≡ Some row) same found in
        absurd (cc)

-- so it is found in all
pub later : (e : ObjectId × ShadowRow) (es : List (ObjectId × ShadowRow)) (o : ℕ) (row : ShadowRow) → IsDistinct same_object (keys_of (e ∷ es))
    → lookup (λ id. o == id.0) es ≡ Some row → lookup (λ id. o == id.0) (e ∷ es) ≡ Some row
later e es o row unique found = let apart = apart_from_first e es o row unique found in rw apart found

-- a shadow that stands on the object
record Stands (o : ℕ) (es : List (ObjectId × ShadowRow)) : Type 0 where
  pub shadow : ℕ
  pub row : ShadowRow
  pub found : lookup (λ id. shadow == id.0) es ≡ Some row
  pub under : row.under.0 ≡ o

first_stands : (o : ℕ) (e : ObjectId × ShadowRow) (es : List (ObjectId × ShadowRow)) → stands o e ≡ true → Stands o (e ∷ es)
first_stands o e es is =
    let head : (e.0.0 == e.0.0) ≡ true = grind (arith, nat_tests) in
    record { shadow = e.0.0; row = e.1; found = rw head refl; under = grind (arith, nat_tests, is) }

later_stands : (o : ℕ) (e : ObjectId × ShadowRow) (es : List (ObjectId × ShadowRow)) → IsDistinct same_object (keys_of (e ∷ es)) → Stands o es
    → Stands o (e ∷ es)
later_stands o e es unique s = record { shadow = s.shadow; row = s.row; found = later e es s.shadow s.row unique s.found; under = s.under }

-- where some are counted one is found
some_stands : (o : ℕ) (es : List (ObjectId × ShadowRow)) → IsDistinct same_object (keys_of es) → 0 < count_by (stands o) es → Stands o es
some_stands o [] unique some = absurd (omega (arith, some))
some_stands o (e ∷ es) unique some = by (stands o e) refl (some_stands o es (IsDistinct-tail same_object e.0 (keys_of es) unique))
  where
    by : (b : Bool) → stands o e ≡ b → (0 < count_by (stands o) es → Stands o es) → Stands o (e ∷ es)
    by true is behind = first_stands o e es is
    by false is behind =
        let step = sum_by-cons (one o) e es in
        let adds : one o e ≡ 0 = rw is refl in
        later_stands o e es unique (behind (omega (arith, some, step, adds)))

-- and where several are, one with another number than this
other_stands : (o n : ℕ) (es : List (ObjectId × ShadowRow)) → IsDistinct same_object (keys_of es) → 1 < count_by (stands o) es
    → (s : Stands o es) × (s.shadow ≢ n)
unfolding later_stands first_stands
other_stands o n [] unique several = absurd (omega (arith, several))
other_stands o n (e ∷ es) unique several = by (stands o e) refl (other_stands o n es (IsDistinct-tail same_object e.0 (keys_of es) unique))
  where
    rest : IsDistinct same_object (keys_of es)
    rest = IsDistinct-tail same_object e.0 (keys_of es) unique

    step : count_by (stands o) (e ∷ es) ≡ one o e + count_by (stands o) es
    step = sum_by-cons (one o) e es

    by : (b : Bool) → stands o e ≡ b → (1 < count_by (stands o) es → (s : Stands o es) × (s.shadow ≢ n)) → (s : Stands o (e ∷ es)) × (s.shadow ≢ n)
    by true is behind = elim (ℕ_discrete e.0.0 n) [
      | yes same ↦
          let adds : one o e ≡ 1 = rw is refl in
          let s = some_stands o es rest (omega (arith, several, step, adds)) in
          let apart = apart_from_first e es s.shadow s.row unique s.found in
          (later_stands o e es unique s, λ also. let bad : s.shadow ≡ e.0.0 = also ∙ sym same in grind (arith, nat_tests, apart, bad))
      | no apart ↦ (first_stands o e es is, apart)
    ]
    by false is behind =
        let adds : one o e ≡ 0 = rw is refl in
        let s = behind (omega (arith, several, step, adds)) in
        (later_stands o e es unique s.0, s.1)

-- what the tallies tell of the shadows
module _ (tallies : ℕ → Tally) (shadows : List (ObjectId × ShadowRow)) (t : AreTallied tallies shadows) where
  pub count_told : (o : ℕ) → (tallies o).count ≡ count_by (stands o) shadows
  count_told o = ap (λ (z : Tally). z.count) (t.tally o)

  pub sum_told : (o : ℕ) → (tallies o).sum ≡ sum_by (number o) shadows
  sum_told o = ap (λ (z : Tally). z.sum) (t.tally o)

  -- a shadow is among those that are tallied under what it stands on
  pub has_number : (shadow : ObjectId) (row : ShadowRow) (o : ℕ) → lookup (same_object shadow) shadows ≡ Some row → row.under.0 ≡ o
      → HasNumber shadow.0 (tallies o)
  has_number shadow row o found under =
      let left = swap_remove_entry (same_object shadow) shadows in
      let is : stands o (shadow, row) ≡ true = grind (arith, nat_tests, under) in
      let adds : one o (shadow, row) ≡ 1 = rw is refl in
      let gives : number o (shadow, row) ≡ shadow.0 = rw is refl in
      let counts = weighed_dropped (one o) shadows left shadow row found refl in
      let sums = weighed_dropped (number o) shadows left shadow row found refl in
      record {
        some = omega (arith, count_told o, counts, adds);
        within = omega (arith, sum_told o, sums, gives);
        last = λ single.
            let rest = none_stands o left (omega (arith, single, count_told o, counts, adds)) in
            omega (arith, sum_told o, sums, gives, rest);
      }

  -- the sum is the number of the one shadow that stands on an object
  sole_number : (o : ℕ) (shadow : ℕ) (row : ShadowRow) → (tallies o).count ≡ 1 → lookup (λ id. shadow == id.0) shadows ≡ Some row → row.under.0 ≡ o
      → shadow ≡ (tallies o).sum
  sole_number o shadow row single found under = sym ((has_number (record { 0 = shadow }) row o found under).last single)

  -- where two shadows stand on it, more than one is counted
  pub two_stand : (o a b : ℕ) (row other : ShadowRow) → a ≢ b → lookup (λ id. a == id.0) shadows ≡ Some row → lookup (λ id. b == id.0) shadows ≡ Some other
      → row.under.0 ≡ o → other.under.0 ≡ o → 1 < (tallies o).count
  two_stand o a b row other apart found also under too =
      let has = has_number (record { 0 = a }) row o found under in
      elim (ℕ_discrete (tallies o).count 1) [
        | yes single ↦ absurd (apart (sole_number o a row single found under ∙ sym (sole_number o b other single also too)))
        | no several ↦ let some = has.some in omega (arith, some, several)
      ]

  -- where none does, none is counted
  pub none_over : (o : ℕ) → ((q : ℕ) (row : ShadowRow) → lookup (λ id. q == id.0) shadows ≡ Some row → row.under.0 ≢ o) → tallies o ≡ no_tally
  none_over o bare = elim (ℕ_discrete (count_by (stands o) shadows) 0) [
    | yes none ↦ tally_is (tallies o) 0 0 (count_told o ∙ none) (sum_told o ∙ none_stands o shadows none)
    | no some ↦ let s = some_stands o shadows t.unique (omega (arith, some)) in absurd (bare s.shadow s.row s.found s.under)
  ]

  sole_stands : (o : ℕ) → (tallies o).count ≡ 1 → Stands o shadows
  sole_stands o single = some_stands o shadows t.unique (omega (arith, single, count_told o))

  pub sole_small : (o : ℕ) → (tallies o).count ≡ 1 → (tallies o).sum < 2 ^ 32
  sole_small o single =
      let s = sole_stands o single in
      let is = sole_number o s.shadow s.row single s.found s.under in
      omega (arith, is, t.numbers s.shadow s.row s.found)

  module _ (table : ChainTable) (same : shadows ≡ table.shadows) where
    pub sole_alone : (o : ℕ) → (tallies o).count ≡ 1 → StandsAlone (tallies o).sum o table
    sole_alone o single =
        let s = sole_stands o single in
        let is = sole_number o s.shadow s.row single s.found s.under in
        let found : shadow_at table (tallies o).sum ≡ Some s.row = rw (← same, ← is) s.found in
        record {
          over = rw found s.under;
          others = λ q row there under. sole_number o q row single (rw same there) under;
        }

    pub several_stand : (o upper : ℕ) → (tallies o).count ≢ 1 → StandsAlone upper o table → ⊥
    several_stand o upper several alone = by (shadow_at table upper) refl alone.over
      where
        le_lt : (n : ℕ) → 0 < n → n ≢ 1 → 1 < n
        le_lt n some apart = elim (ℕ_discrete n 1) [
          | yes same ↦ absurd (apart same)
          | no other ↦ omega (arith, some, other)
        ]

        by : (x : Option ShadowRow) → shadow_at table upper ≡ x → IsSomeAnd x (λ row. row.under.0 ≡ o) → ⊥
        by None is none = none
        by (Some row) is under =
            let has = has_number (record { 0 = upper }) row o (rw same is) under in
            let more : 1 < (tallies o).count = le_lt (tallies o).count has.some several in
            let other = other_stands o upper shadows t.unique (omega (arith, more, count_told o)) in
            other.1 (alone.others other.0.shadow other.0.row (rw (← same) other.0.found) other.0.under)

    pub sole_told : (o : ℕ) (result : Option ObjectId) → result ≡ (if (tallies o).count == 1 then Some (record { 0 = (tallies o).sum }) else None)
        → IfSome result (λ upper. StandsAlone upper.0 o table) × IfNone result ((upper : ℕ) → StandsAlone upper o table → ⊥)
    sole_told o result is = by ((tallies o).count == 1) refl
      where
        by : (b : Bool) → ((tallies o).count == 1) ≡ b
            → IfSome result (λ upper. StandsAlone upper.0 o table) × IfNone result ((upper : ℕ) → StandsAlone upper o table → ⊥)
        by true one =
            let single : (tallies o).count ≡ 1 = grind (arith, nat_tests) in
            let found : result ≡ Some (record { 0 = (tallies o).sum }) = rw one at is in
            rw found (sole_alone o single, tt)
        by false other =
            let none : result ≡ None = rw other at is in
            rw none (tt, λ upper. several_stand o upper (λ same. grind (arith, nat_tests, other, same)))

  -- a shadow over an object is among those that are tallied there
  pub over_has : (upper lower : ObjectId) → IsSomeAnd (lookup (same_object upper) shadows) (λ row. row.under ≡ lower)
      → HasNumber upper.0 (tallies lower.0) × (upper.0 < 2 ^ 32)
  over_has upper lower over = by (lookup (same_object upper) shadows) refl over
    where
      by : (x : Option ShadowRow) → lookup (same_object upper) shadows ≡ x → IsSomeAnd x (λ row. row.under ≡ lower)
          → HasNumber upper.0 (tallies lower.0) × (upper.0 < 2 ^ 32)
      by None is none = absurd none
      by (Some row) is under = (has_number upper row lower.0 is (ap (λ (z : ObjectId). z.0) under), t.numbers upper.0 row is)

-- the tallies are those of the rows
pub same_tallies : (old new : TallyTable) → new.rows ≡ old.rows → tally_at new ≡ tally_at old
same_tallies old new same = ap (λ (rows : List (ObjectId × Tally)). λ (o : ℕ). unwrap_or (lookup (λ id. o == id.0) rows) no_tally) same

-- what an Ok promises
pub on_ok : {A E : Type 0} {P : Type 0} (r : Result A E) → IsOk r → OnOk r P → P
on_ok (Ok x) is told = told
on_ok (Err e) is told = absurd (let bad : false ≡ true = is in cc)
