-- An object with one reference, which a region or a shadow has: no other has it as its top, or stands on it.
use Rattle.std.proofs.Common.{◌≡◌, ◌∙◌, sym, ap, ℕ, ◌+◌, ◌<◌, ◌≤◌, ◌==◌, Bool, true, false, List, [], ◌∷◌, Some, None, IfSome, arith, refl, inl, inr}
use Rattle.std.proofs.lemmas.Bool.Decides.{eqb_tells, nat_tests}
use Rattle.std.proofs.lemmas.List.Sums.{sum_by-cons}
use Rattle.std.specs.List.{count_by}
use Rattle.std.specs.Map.{lookup, values_of}
use Rattle.std.specs.Prelude.{if◌then◌else◌}
use Rattle.vm_base.specs.declared.ids.ObjectId.{ObjectId}
use Rattle.vm_base.specs.declared.ids.RegionId.{RegionId}
use Rattle.vm_shadow.proofs.Tables.{row_told, same_row}
use Rattle.vm_shadow.specs.Chains.{BacksNone, ChainTable, IsOnlyShadow, IsOnlyTop, references_in, region_at, shadow_at}
use Rattle.vm_shadow.specs.declared.region_row.RegionRow.{RegionRow}
use Rattle.vm_shadow.specs.declared.shadow_row.ShadowRow.{ShadowRow}

-- what a row adds to the count of those that pass
abbrev adds : Bool → ℕ
adds true = 1
adds false = 0

counted : {X : Type 0} (passes : X → Bool) (row : X) (rows : List X) → count_by passes (row ∷ rows) ≡ adds (passes row) + count_by passes rows
counted passes row rows = sum_by-cons (λ x. if passes x then 1 else 0) row rows ∙ ap (λ (n : ℕ). n + count_by passes rows) (as_test (passes row))
  where
    as_test : (b : Bool) → ◌≡◌ {A = ℕ} (if b then 1 else 0) (adds b)
    as_test true = refl
    as_test false = refl

-- the row that is here passes
adds_one : {X : Type 0} (passes : X → Bool) (here row : X) → Some here ≡ Some row → passes row ≡ true → adds (passes here) ≡ 1
adds_one passes here row is passed = ap adds (ap passes (same_row (Some row) here row (sym is) refl) ∙ passed)

-- a row that is found and passes is counted
row_counted : {K X : Type 0} (test : K → Bool) (passes : X → Bool) (rows : List (K × X)) (row : X) → lookup test rows ≡ Some row → passes row ≡ true
    → 0 < count_by passes (values_of rows)
row_counted test passes [] row found passed = absurd (let bad : None ≡ Some row = found in cc)
row_counted test passes (e ∷ es) row found passed = by (test e.0) found (λ later. row_counted test passes es row later passed)
  where
    by : (b : Bool) → (if b then Some e.1 else lookup test es) ≡ Some row → (lookup test es ≡ Some row → 0 < count_by passes (values_of es))
        → 0 < count_by passes (values_of (e ∷ es))
    by true here later =
        let step = counted passes e.1 (values_of es) in
        let one = adds_one passes e.1 row here passed in
        omega (arith, step, one)
    by false there later =
        let step = counted passes e.1 (values_of es) in
        let more = later there in
        omega (arith, step, more)

-- two rows are, that are found by tests which no key passes both
rows_counted : {K X : Type 0} (first second : K → Bool) (passes : X → Bool) (rows : List (K × X)) (row other : X)
    → ((k : K) → first k ≡ true → second k ≡ true → ⊥) → lookup first rows ≡ Some row → lookup second rows ≡ Some other → passes row ≡ true
    → passes other ≡ true → 2 ≤ count_by passes (values_of rows)
rows_counted first second passes [] row other apart found also passed both = absurd (let bad : None ≡ Some row = found in cc)
rows_counted first second passes (e ∷ es) row other apart found also passed both =
    by (first e.0) (second e.0) refl refl found also (λ one two. rows_counted first second passes es row other apart one two passed both)
  where
    by : (a b : Bool) → first e.0 ≡ a → second e.0 ≡ b → (if a then Some e.1 else lookup first es) ≡ Some row
        → (if b then Some e.1 else lookup second es) ≡ Some other
        → (lookup first es ≡ Some row → lookup second es ≡ Some other → 2 ≤ count_by passes (values_of es))
        → 2 ≤ count_by passes (values_of (e ∷ es))
    by true true one two here there later = absurd (apart e.0 one two)
    by true false one two here there later =
        let step = counted passes e.1 (values_of es) in
        let own = adds_one passes e.1 row here passed in
        let more = row_counted second passes es other there both in
        omega (arith, step, own, more)
    by false true one two here there later =
        let step = counted passes e.1 (values_of es) in
        let own = adds_one passes e.1 other there both in
        let more = row_counted first passes es row here passed in
        omega (arith, step, own, more)
    by false false one two here there later =
        let step = counted passes e.1 (values_of es) in
        let more = later here there in
        omega (arith, step, more)

-- a region has the object as its top
abbrev tops : ℕ → RegionRow → Bool
tops object row = row.top.0 == object

-- a shadow stands on the object
abbrev stands : ℕ → ShadowRow → Bool
stands object row = row.under.0 == object

passes_test : (n m : ℕ) → n ≡ m → (n == m) ≡ true
passes_test n m same = grind (arith, nat_tests)

-- no number is two
apart_keys : (n m k : ℕ) → (n ≡ m → ⊥) → (n == k) ≡ true → (m == k) ≡ true → ⊥
apart_keys n m k apart one two =
    let first : n ≡ k = grind (arith, nat_tests) in
    let second : m ≡ k = grind (arith, nat_tests) in
    apart (first ∙ sym second)

-- where no reference to an object is counted, none stands on it
pub backs_none : (table : ChainTable) (object : ℕ) → references_in table object ≡ 0 → BacksNone object table
backs_none table object none = λ o shadow is also.
    let more = row_counted (λ (id : ObjectId). o == id.0) (stands object) table.shadows shadow is (passes_test shadow.under.0 object also) in
    omega (arith, none, more)

-- the region over an object of which one reference is counted is that reference
pub only_top : (table : ChainTable) (region object : ℕ) (row : RegionRow) → references_in table object ≡ 1 → region_at table region ≡ Some row
    → row.top.0 ≡ object → IsOnlyTop region object table
only_top table region object row single found top =
    record {
      tops = λ r other is also. elim (eqb_tells r region) [
        | inl same ↦ same.1
        | inr apart ↦
            let two = rows_counted (λ (id : RegionId). r == id.0) (λ (id : RegionId). region == id.0) (tops object) table.regions other row
            (λ id. apart_keys r region id.0 apart.1) is found (passes_test other.top.0 object also) (passes_test row.top.0 object top) in
            absurd (omega (arith, single, two))
      ];
      bare = λ o shadow is also.
          let one = row_counted (λ (id : RegionId). region == id.0) (tops object) table.regions row found (passes_test row.top.0 object top) in
          let more = row_counted (λ (id : ObjectId). o == id.0) (stands object) table.shadows shadow is (passes_test shadow.under.0 object also) in
          omega (arith, single, one, more);
    }

-- and so is the shadow
pub only_shadow : (table : ChainTable) (shadow object : ℕ) (row : ShadowRow) → references_in table object ≡ 1 → shadow_at table shadow ≡ Some row
    → row.under.0 ≡ object → IsOnlyShadow shadow object table
only_shadow table shadow object row single found under =
    record {
      bare = λ r region is top.
          let one = row_counted (λ (id : ObjectId). shadow == id.0) (stands object) table.shadows row found (passes_test row.under.0 object under) in
          let more = row_counted (λ (id : RegionId). r == id.0) (tops object) table.regions region is (passes_test region.top.0 object top) in
          omega (arith, single, one, more);
      shadows = λ o other is also. elim (eqb_tells o shadow) [
        | inl same ↦ same.1
        | inr apart ↦
            let two = rows_counted (λ (id : ObjectId). o == id.0) (λ (id : ObjectId). shadow == id.0) (stands object) table.shadows other row
            (λ id. apart_keys o shadow id.0 apart.1) is found (passes_test other.under.0 object also) (passes_test row.under.0 object under) in
            absurd (omega (arith, single, two))
      ];
    }

-- as whoever takes its mark needs it
pub region_alone : (table : ChainTable) (region : ℕ) (row : RegionRow) → references_in table row.top.0 ≡ 1 → region_at table region ≡ Some row
    → IfSome (region_at table region) (λ found. IsOnlyTop region found.top.0 table)
region_alone table region row single found =
    row_told (region_at table region) row (λ z. IsOnlyTop region z.top.0 table) found (only_top table region row.top.0 row single found refl)
