-- What refers to an object on a host: the regions over it and the shadows over it, and nothing else; and the numbers that these can have.
use Rattle.std.proofs.Common.{◌≡◌, ◌≤◌, ℕ, ◌<◌, ◌==◌, Bool, true, false, Option, Some, None, IsSome, ap, refl, sym, ◌∙◌, arith, inl, inr}
use Rattle.std.proofs.lemmas.Bool.Decides.{eqb_tells, nat_tests}
use Rattle.std.specs.Prelude.{nat_lt}
use Rattle.vm_fault.specs.Faults.{IsCounted, has_one}
use Rattle.vm_model.specs.Regions.{Backing, Region}
use Rattle.vm_objects.specs.Objects.{ObjectTable, object_at}
use Rattle.vm_objects.specs.declared.row.ObjectRow.{ObjectRow}
use Rattle.vm_parts.specs.Changes.{one}
use Rattle.vm_shadow.specs.Chains.{ChainTable, IsOnlyTop, ObjectsBelow, RegionsBelow, region_at, shadow_at}
use Rattle.vm_shadow.specs.declared.ids.Ids.{Ids}
use Rattle.vm_shadow.specs.declared.region_row.RegionRow.{RegionRow}
use Rattle.vm_shadow.specs.declared.shadow_row.ShadowRow.{ShadowRow}
use Rattle.vm_terminate.specs.Finishes.{IsReferred}
use Rattle.vm_state.specs.References.{is_backing, is_over, tally}
use Rattle.vm_state.specs.Stands.{HasRegions}
use Rattle.vm_state.proofs.Tallies.{tally_found, tally_none, tally_put, tally_some, tally_two}

-- the row that is there
pub row_of : {A : Type 0} (x : Option A) → IsSome x → (y : A) × (x ≡ Some y)
row_of None is = absurd (let bad : false ≡ true = is in cc)
row_of (Some y) is = (y, refl)

-- what is there has a number below those of which none is there
pub below_all : {A : Type 0} (at : ℕ → Option A) (made n : ℕ) (y : A) → ((m : ℕ) → made ≤ m → at m ≡ None) → at n ≡ Some y → n < made
below_all at made n y none found = by (nat_lt n made) refl
  where
    by : (b : Bool) → nat_lt n made ≡ b → n < made
    by true is = grind (arith, nat_tests)
    by false is =
        let gone = none n (grind (arith, nat_tests)) in
        absurd (let bad : None ≡ Some y = sym gone ∙ found in cc)

pub small_region : {chains : ChainTable} {objects : ObjectTable} {ids : Ids} {region_from : ℕ → Region} {backing_from : ℕ → Backing}
    {regions_made objects_made marked : ℕ} → HasRegions chains objects ids region_from backing_from regions_made objects_made marked → (r : ℕ) (row : RegionRow)
    → region_at chains r ≡ Some row → r < regions_made
small_region {chains = chains} {regions_made = regions_made} has r row found = below_all (region_at chains) regions_made r row has.unmade found

pub small_object : {chains : ChainTable} {objects : ObjectTable} {ids : Ids} {region_from : ℕ → Region} {backing_from : ℕ → Backing}
    {regions_made objects_made marked : ℕ} → HasRegions chains objects ids region_from backing_from regions_made objects_made marked
    → (o : ℕ) (known : ObjectRow) → object_at objects o ≡ Some known → o < objects_made
small_object {objects = objects} {objects_made = objects_made} has o known found = below_all (object_at objects) objects_made o known has.unknown found

pub small_shadow : {chains : ChainTable} {objects : ObjectTable} {ids : Ids} {region_from : ℕ → Region} {backing_from : ℕ → Backing}
    {regions_made objects_made marked : ℕ} → HasRegions chains objects ids region_from backing_from regions_made objects_made marked → (o : ℕ) (row : ShadowRow)
    → shadow_at chains o ≡ Some row → o < objects_made
small_shadow {objects = objects} has o row found =
    let known = row_of (object_at objects o) (has.unders o row found).0 in
    small_object has o known.0 known.1

-- what is under a shadow has such a number too
pub small_under : {chains : ChainTable} {objects : ObjectTable} {ids : Ids} {region_from : ℕ → Region} {backing_from : ℕ → Backing}
    {regions_made objects_made marked : ℕ} → HasRegions chains objects ids region_from backing_from regions_made objects_made marked → (o : ℕ) (row : ShadowRow)
    → shadow_at chains o ≡ Some row → row.under.0 < objects_made
small_under {objects = objects} has o row found =
    let known = row_of (object_at objects row.under.0) (has.unders o row found).1 in
    small_object has row.under.0 known.0 known.1

pub objects_below : {chains : ChainTable} {objects : ObjectTable} {ids : Ids} {region_from : ℕ → Region} {backing_from : ℕ → Backing}
    {regions_made objects_made marked : ℕ} → HasRegions chains objects ids region_from backing_from regions_made objects_made marked
    → ObjectsBelow objects_made chains
objects_below {objects = objects} has = record {
  tops = λ r row found. let known = row_of (object_at objects row.top.0) (has.tops r row found) in small_object has row.top.0 known.0 known.1;
  shadows = λ o row found. small_shadow has o row found;
  unders = λ o row found. small_under has o row found;
}

pub regions_below : {chains : ChainTable} {objects : ObjectTable} {ids : Ids} {region_from : ℕ → Region} {backing_from : ℕ → Backing}
    {regions_made objects_made marked : ℕ} → HasRegions chains objects ids region_from backing_from regions_made objects_made marked
    → RegionsBelow regions_made chains
regions_below has = has.unmade

-- a row over the object, and a shadow over it
over_is : (o : ℕ) (x : Option RegionRow) (row : RegionRow) → x ≡ Some row → row.top.0 ≡ o → is_over o x ≡ true
over_is o x row found top = ap (is_over o) found ∙ test
  where
    test : (row.top.0 == o) ≡ true
    test = grind (arith, nat_tests, top)

backing_is : (o : ℕ) (x : Option ShadowRow) (row : ShadowRow) → x ≡ Some row → row.under.0 ≡ o → is_backing o x ≡ true
backing_is o x row found under = ap (is_backing o) found ∙ test
  where
    test : (row.under.0 == o) ≡ true
    test = grind (arith, nat_tests, under)

over_found : (o : ℕ) (x : Option RegionRow) → is_over o x ≡ true → (row : RegionRow) × (x ≡ Some row) × (row.top.0 ≡ o)
over_found o None is = absurd (let bad : false ≡ true = is in cc)
over_found o (Some row) is = (row, refl, same)
  where
    same : row.top.0 ≡ o
    same = grind (arith, nat_tests, is)

backing_found : (o : ℕ) (x : Option ShadowRow) → is_backing o x ≡ true → (row : ShadowRow) × (x ≡ Some row) × (row.under.0 ≡ o)
backing_found o None is = absurd (let bad : false ≡ true = is in cc)
backing_found o (Some row) is = (row, refl, same)
  where
    same : row.under.0 ≡ o
    same = grind (arith, nat_tests, is)

some_over : {chains : ChainTable} {objects : ObjectTable} {ids : Ids} {region_from : ℕ → Region} {backing_from : ℕ → Backing}
    {regions_made objects_made marked : ℕ} → HasRegions chains objects ids region_from backing_from regions_made objects_made marked
    → (r : ℕ) (row : RegionRow) (o : ℕ) → region_at chains r ≡ Some row → row.top.0 ≡ o → 0 < tally (λ r. is_over o (region_at chains r)) regions_made
some_over {chains = chains} {regions_made = regions_made} has r row o found top =
    tally_some (λ r. is_over o (region_at chains r)) regions_made r (small_region has r row found) (over_is o (region_at chains r) row found top)

some_backing : {chains : ChainTable} {objects : ObjectTable} {ids : Ids} {region_from : ℕ → Region} {backing_from : ℕ → Backing}
    {regions_made objects_made marked : ℕ} → HasRegions chains objects ids region_from backing_from regions_made objects_made marked
    → (s : ℕ) (row : ShadowRow) (o : ℕ) → shadow_at chains s ≡ Some row → row.under.0 ≡ o → 0 < tally (λ s. is_backing o (shadow_at chains s)) objects_made
some_backing {chains = chains} {objects_made = objects_made} has s row o found under =
    tally_some (λ s. is_backing o (shadow_at chains s)) objects_made s (small_shadow has s row found) (backing_is o (shadow_at chains s) row found under)

pub refers_region : {chains : ChainTable} {objects : ObjectTable} {ids : Ids} {region_from : ℕ → Region} {backing_from : ℕ → Backing}
    {regions_made objects_made marked : ℕ} → HasRegions chains objects ids region_from backing_from regions_made objects_made marked → (r : ℕ) (row : RegionRow)
    → region_at chains r ≡ Some row → IsReferred objects row.top.0
refers_region {objects = objects} has r row found =
    let known = row_of (object_at objects row.top.0) (has.tops r row found) in
    let count = has.counts row.top.0 known.0 known.1 in
    let some = some_over has r row row.top.0 found refl in
    record { row = known.0; known = known.1; some = omega (arith, count, some) }

pub refers_shadow : {chains : ChainTable} {objects : ObjectTable} {ids : Ids} {region_from : ℕ → Region} {backing_from : ℕ → Backing}
    {regions_made objects_made marked : ℕ} → HasRegions chains objects ids region_from backing_from regions_made objects_made marked → (s : ℕ) (row : ShadowRow)
    → shadow_at chains s ≡ Some row → IsReferred objects row.under.0
refers_shadow {objects = objects} has s row found =
    let known = row_of (object_at objects row.under.0) (has.unders s row found).1 in
    let count = has.counts row.under.0 known.0 known.1 in
    let some = some_backing has s row row.under.0 found refl in
    record { row = known.0; known = known.1; some = omega (arith, count, some) }

-- a region over the object, or a shadow over it: such is what refers to an object that doesn't stay without
pub data Referrer (chains : ChainTable) (o : ℕ) : Type 0 where
  OfRegion : (r : ℕ) (row : RegionRow) → region_at chains r ≡ Some row → row.top.0 ≡ o → Referrer chains o
  OfShadow : (s : ℕ) (row : ShadowRow) → shadow_at chains s ≡ Some row → row.under.0 ≡ o → Referrer chains o

pub referrer_of : {chains : ChainTable} {objects : ObjectTable} {ids : Ids} {region_from : ℕ → Region} {backing_from : ℕ → Backing}
    {regions_made objects_made marked : ℕ} → HasRegions chains objects ids region_from backing_from regions_made objects_made marked → (o : ℕ)
    → (referred : IsReferred objects o) → referred.row.cache ≡ false → Referrer chains o
referrer_of {chains = chains} {regions_made = regions_made} {objects_made = objects_made} has o referred uncached =
    by (nat_lt 0 (tally overs regions_made)) refl
  where
    overs : ℕ → Bool
    overs r = is_over o (region_at chains r)

    backs : ℕ → Bool
    backs s = is_backing o (shadow_at chains s)

    by : (b : Bool) → nat_lt 0 (tally overs regions_made) ≡ b → Referrer chains o
    by true is =
        let found = tally_found overs regions_made (grind (arith, nat_tests)) in
        let row = over_found o (region_at chains found.0) found.2 in
        OfRegion found.0 row.0 row.1 row.2
    by false is =
        let count = has.counts o referred.row referred.known in
        let some = referred.some in
        let none : tally overs regions_made ≡ 0 = grind (arith, nat_tests) in
        let none_more : one referred.row.cache ≡ 0 = ap one uncached in
        let found = tally_found backs objects_made (omega (arith, count, some, none, none_more)) in
        let row = backing_found o (shadow_at chains found.0) found.2 in
        OfShadow found.0 row.0 row.1 row.2

-- an object without a reference doesn't stay
pub uncached_unreferred : {chains : ChainTable} {objects : ObjectTable} {ids : Ids} {region_from : ℕ → Region} {backing_from : ℕ → Backing}
    {regions_made objects_made marked : ℕ} → HasRegions chains objects ids region_from backing_from regions_made objects_made marked
    → (o : ℕ) (known : ObjectRow) → object_at objects o ≡ Some known → known.references ≡ 0 → known.cache ≡ false
uncached_unreferred has o known found none = by known.cache (let count = has.counts o known found in omega (arith, count, none))
  where
    by : (b : Bool) → one b ≡ 0 → b ≡ false
    by false is = refl
    by true is = let bad : 1 ≡ 0 = is in absurd (omega (arith, bad))

-- no region is over an object to which nothing refers, and no shadow
pub unreferred_region : {chains : ChainTable} {objects : ObjectTable} {ids : Ids} {region_from : ℕ → Region} {backing_from : ℕ → Backing}
    {regions_made objects_made marked : ℕ} → HasRegions chains objects ids region_from backing_from regions_made objects_made marked
    → (o : ℕ) (known : ObjectRow) → object_at objects o ≡ Some known → known.references ≡ 0 → (r : ℕ) (row : RegionRow) → region_at chains r ≡ Some row
    → row.top.0 ≡ o → ⊥
unreferred_region has o known is none r row found top =
    let count = has.counts o known is in
    let some = some_over has r row o found top in
    omega (arith, count, some, none)

pub unreferred_shadow : {chains : ChainTable} {objects : ObjectTable} {ids : Ids} {region_from : ℕ → Region} {backing_from : ℕ → Backing}
    {regions_made objects_made marked : ℕ} → HasRegions chains objects ids region_from backing_from regions_made objects_made marked
    → (o : ℕ) (known : ObjectRow) → object_at objects o ≡ Some known → known.references ≡ 0 → (s : ℕ) (row : ShadowRow) → shadow_at chains s ≡ Some row
    → row.under.0 ≡ o → ⊥
unreferred_shadow has o known is none s row found under =
    let count = has.counts o known is in
    let some = some_backing has s row o found under in
    omega (arith, count, some, none)

-- over an object with one reference, that a shadow has, stands no region
pub sole_region : {chains : ChainTable} {objects : ObjectTable} {ids : Ids} {region_from : ℕ → Region} {backing_from : ℕ → Backing}
    {regions_made objects_made marked : ℕ} → HasRegions chains objects ids region_from backing_from regions_made objects_made marked
    → (o : ℕ) (known : ObjectRow) → object_at objects o ≡ Some known → known.references ≡ 1 → (s : ℕ) (row : ShadowRow) → shadow_at chains s ≡ Some row
    → row.under.0 ≡ o
    → (r : ℕ) (row2 : RegionRow) → region_at chains r ≡ Some row2 → row2.top.0 ≡ o → ⊥
sole_region has o known is single s row found under r row2 found2 top =
    let count = has.counts o known is in
    let some = some_backing has s row o found under in
    let some2 = some_over has r row2 o found2 top in
    omega (arith, count, some, some2, single)

-- nor another shadow
pub sole_shadow : {chains : ChainTable} {objects : ObjectTable} {ids : Ids} {region_from : ℕ → Region} {backing_from : ℕ → Backing}
    {regions_made objects_made marked : ℕ} → HasRegions chains objects ids region_from backing_from regions_made objects_made marked
    → (o : ℕ) (known : ObjectRow) → object_at objects o ≡ Some known → known.references ≡ 1 → (s : ℕ) (row : ShadowRow) → shadow_at chains s ≡ Some row
    → row.under.0 ≡ o
    → (t : ℕ) (row2 : ShadowRow) → shadow_at chains t ≡ Some row2 → row2.under.0 ≡ o → t ≡ s
sole_shadow {chains = chains} {objects_made = objects_made} has o known is single s row found under t row2 found2 under2 = elim (eqb_tells t s) [
  | inl same ↦ same.1
  | inr apart ↦
      let count = has.counts o known is in
      let two = tally_two (λ s. is_backing o (shadow_at chains s)) objects_made t s (small_shadow has t row2 found2) (small_shadow has s row found) apart.1
      (backing_is o (shadow_at chains t) row2 found2 under2) (backing_is o (shadow_at chains s) row found under) in
      absurd (omega (arith, count, two, single))
]

-- the region over an object with one reference is that reference
pub only_top : {chains : ChainTable} {objects : ObjectTable} {ids : Ids} {region_from : ℕ → Region} {backing_from : ℕ → Backing}
    {regions_made objects_made marked : ℕ} → HasRegions chains objects ids region_from backing_from regions_made objects_made marked → (r : ℕ) (row : RegionRow)
    (known : ObjectRow) → region_at chains r ≡ Some row → object_at objects row.top.0 ≡ Some known → known.references ≡ 1 → IsOnlyTop r row.top.0 chains
only_top {chains = chains} {regions_made = regions_made} has r row known found is single =
    record {
      tops = λ q other found2 top. elim (eqb_tells q r) [
        | inl same ↦ same.1
        | inr apart ↦
            let count = has.counts row.top.0 known is in
            let two = tally_two (λ q. is_over row.top.0 (region_at chains q)) regions_made q r (small_region has q other found2) (small_region has r row found)
            apart.1 (over_is row.top.0 (region_at chains q) other found2 top) (over_is row.top.0 (region_at chains r) row found refl) in
            absurd (omega (arith, count, two, single))
      ];
      bare = λ s shadow found2 under. sole_region has row.top.0 known is single s shadow found2 under r row found refl;
    }

-- and the object of a region that is the one reference has one, where it doesn't stay without
pub only_one : {chains : ChainTable} {objects : ObjectTable} {ids : Ids} {region_from : ℕ → Region} {backing_from : ℕ → Backing}
    {regions_made objects_made marked : ℕ} → HasRegions chains objects ids region_from backing_from regions_made objects_made marked → (r : ℕ) (row : RegionRow)
    (known : ObjectRow) → region_at chains r ≡ Some row → object_at objects row.top.0 ≡ Some known → known.cache ≡ false → IsOnlyTop r row.top.0 chains
    → known.references ≡ 1
only_one {chains = chains} {regions_made = regions_made} {objects_made = objects_made} has r row known found is uncached only =
    let count = has.counts row.top.0 known is in
    let tops = tally_put (λ q. false) overs regions_made r (small_region has r row found) (λ q apart. other_region q apart (overs q) refl) in
    let none = tally_none (λ q. false) regions_made (λ q less. refl) in
    let own : one (overs r) ≡ 1 = ap one (over_is row.top.0 (region_at chains r) row found refl) in
    let unders = tally_none backs objects_made (λ s less. no_shadow s (backs s) refl) in
    let none_more : one known.cache ≡ 0 = ap one uncached in
    omega (arith, count, tops, none, own, unders, none_more)
  where
    overs : ℕ → Bool
    overs q = is_over row.top.0 (region_at chains q)

    backs : ℕ → Bool
    backs s = is_backing row.top.0 (shadow_at chains s)

    other_region : (q : ℕ) → (r ≡ q → ⊥) → (b : Bool) → overs q ≡ b → b ≡ false
    other_region q apart false fails = refl
    other_region q apart true passes =
        let other = over_found row.top.0 (region_at chains q) passes in absurd (apart (sym (only.tops q other.0 other.1 other.2)))

    no_shadow : (s : ℕ) → (b : Bool) → backs s ≡ b → b ≡ false
    no_shadow s false fails = refl
    no_shadow s true passes = let shadow = backing_found row.top.0 (shadow_at chains s) passes in absurd (only.bare s shadow.0 shadow.1 shadow.2)

-- as an access that stores needs it
pub top_counted : {chains : ChainTable} {objects : ObjectTable} {ids : Ids} {region_from : ℕ → Region} {backing_from : ℕ → Backing}
    {regions_made objects_made marked : ℕ} → HasRegions chains objects ids region_from backing_from regions_made objects_made marked → (r : ℕ) (row : RegionRow)
    → region_at chains r ≡ Some row → IsCounted r row objects chains
top_counted {chains = chains} {objects = objects} has r row found single =
    let known = row_of (object_at objects row.top.0) (has.tops r row found) in
    only_top has r row known.0 found known.1 (one_of known.0 (sym (ap has_one known.1) ∙ single))
  where
    one_of : (known : ObjectRow) → (known.references == 1) ≡ true → known.references ≡ 1
    one_of known is = grind (arith, nat_tests)

-- a region whose top has another reference, and doesn't stay without, is not the one
pub top_not_counted : {chains : ChainTable} {objects : ObjectTable} {ids : Ids} {region_from : ℕ → Region} {backing_from : ℕ → Backing}
    {regions_made objects_made marked : ℕ} → HasRegions chains objects ids region_from backing_from regions_made objects_made marked → (r : ℕ) (row : RegionRow)
    → region_at chains r ≡ Some row → ((known : ObjectRow) → object_at objects row.top.0 ≡ Some known → known.cache ≡ false)
    → has_one (object_at objects row.top.0) ≡ false → IsOnlyTop r row.top.0 chains → ⊥
top_not_counted {chains = chains} {objects = objects} has r row found uncached shared only =
    let known = row_of (object_at objects row.top.0) (has.tops r row found) in
    two_of known.0 (sym (ap has_one known.1) ∙ shared) (only_one has r row known.0 found known.1 (uncached known.0 known.1) only)
  where
    two_of : (known : ObjectRow) → (known.references == 1) ≡ false → known.references ≡ 1 → ⊥
    two_of known is single = grind (arith, nat_tests)
