-- Whether two objects can be merged: by the tables of their host, and by what they stand for.
use Rattle.std.proofs.Common.{[], ◌≡◌, ◌≤◌, ◌<◌, ◌∙◌, ℕ, zero, suc, Bool, true, false, List, Option, Some, None, ap, arith, refl, sym, subst, inl, inr}
use Rattle.std.specs.Prelude.{is_some}
use Rattle.vm_abroad.proofs.Regions.{kind_cases}
use Rattle.vm_abroad.specs.Home.{HaveHomes}
use Rattle.vm_copies.specs.Copies.{CopyRow, CopyTable, copy_at}
use Rattle.vm_legal.specs.Merges.{IsPair, Merges}
use Rattle.vm_legal.specs.Swept.{IsSwept}
use Rattle.vm_legal.specs.Used.{in_use}
use Rattle.vm_legal.specs.Walks.{Reach}
use Rattle.vm_model.specs.declared.event.Event.{Event}
use Rattle.vm_model.specs.declared.script.Header.{Header}
use Rattle.vm_model.specs.Controls.{last_control}
use Rattle.vm_model.specs.Homes.{object_home}
use Rattle.vm_model.specs.Named.{named}
use Rattle.vm_model.specs.Regions.{Backing, Region, backing_of, is_copy, region_of}
use Rattle.vm_objects.specs.Objects.{ObjectTable, object_at}
use Rattle.vm_objects.specs.declared.row.ObjectRow.{ObjectRow}
use Rattle.vm_parts.specs.Changes.{one}
use Rattle.vm_shadow.specs.Chains.{ChainTable, region_at, shadow_at}
use Rattle.vm_shadow.specs.declared.ids.Ids.{Ids}
use Rattle.vm_shadow.specs.declared.region_row.RegionRow.{RegionRow}
use Rattle.vm_shadow.specs.declared.shadow_row.ShadowRow.{ShadowRow}
use Rattle.vm_state.proofs.Declared.{shadow_temporary, uncached_temporary, whole_row}
use Rattle.vm_state.proofs.Fresh.{other_test}
use Rattle.vm_state.proofs.Merging.{lower_temporary}
use Rattle.vm_state.proofs.Passing.{same_of}
use Rattle.vm_state.proofs.Reaching.{temporary_down, temporary_up}
use Rattle.vm_state.proofs.Referring.{refers_shadow, sole_region, sole_shadow}
use Rattle.vm_state.proofs.Tallies.{tally_none}
use Rattle.vm_state.specs.Merging.{CanMerge, IsThin, IsThinBut}
use Rattle.vm_state.specs.Pagers.{last_in}
use Rattle.vm_state.specs.References.{AreShadowsReferred, is_backing, is_over, references_to, tally}
use Rattle.vm_state.specs.Stands.{HasKinds, HasRegions}
use Rattle.vm_terminate.specs.Finishes.{IsReferred}

-- nothing can be merged but none
pub thin_none : {copies : CopyTable} (chains : ChainTable) (objects : ObjectTable) → IsThinBut copies [] chains objects → IsThin copies chains objects
thin_none chains objects thin upper lower can = let none = thin upper lower can in let less : none.0 < 0 = none.1 in omega (arith, less)

-- what the tables of a host and its history have in common, as far as pairs are concerned
pub record KnowsPairs (header : Header) (h : ℕ) (chains : ChainTable) (table : CopyTable) (objects : ObjectTable) (ids : Ids)
    (regions_made objects_made marked : ℕ) (past : List Event) : Type 0 where
  pub regions : HasRegions chains objects ids (λ r. region_of header r past) (λ o. backing_of header o past) regions_made objects_made marked
  pub kinds : HasKinds header objects chains
  pub homes : HaveHomes header past
  pub last : (o : ℕ) → last_control h o past ≡ last_in (object_at objects o)
  pub shadows : AreShadowsReferred chains objects
  pub all : (r : ℕ) (row : RegionRow) → named header ≤ r → region_at chains r ≡ Some row → in_use header h r past ≡ true
  pub there : (r : ℕ) → named header ≤ r → in_use header h r past ≡ true → (row : RegionRow) × (region_at chains r ≡ Some row)
  pub copies : (o : ℕ) (row : ObjectRow) → object_at objects o ≡ Some row → 0 < row.references → is_copy o past ≡ is_some (copy_at table o)

-- at most one number passes a test that no two pass
tally_one : (test : ℕ → Bool) (n : ℕ) → ((a b : ℕ) → test a ≡ true → test b ≡ true → a ≡ b) → tally test n ≤ 1
tally_one test zero unique = omega arith
tally_one test (suc n) unique = by (test n) refl (tally_one test n unique)
  where
    others : test n ≡ true → (m : ℕ) → m < n → test m ≡ false
    others is m small = pick (test m) refl
      where
        pick : (b : Bool) → test m ≡ b → b ≡ false
        pick false e = refl
        pick true e = absurd (let same : m ≡ n = unique m n e is in omega (arith, same, small))

    by : (b : Bool) → test n ≡ b → tally test n ≤ 1 → tally test (suc n) ≤ 1
    by true is few =
        let rest : tally test n ≡ 0 = tally_none test n (others is) in
        let here : one (test n) ≡ 1 = ap one is in
        omega (arith, rest, here)
    by false is few = let here : one (test n) ≡ 0 = ap one is in omega (arith, few, here)

-- what is not a row is none
no_copy : (x : Option CopyRow) → is_some x ≡ false → x ≡ None
no_copy None bare = refl
no_copy (Some row) bad = absurd (let wrong : true ≡ false = bad in cc)

module _ {header : Header} {h : ℕ} {chains : ChainTable} {copies : CopyTable} {objects : ObjectTable} {ids : Ids} {regions_made objects_made marked : ℕ}
    {past : List Event} (knows : KnowsPairs header h chains copies objects ids regions_made objects_made marked past) where
  -- what is reached and temporary is referred to
  down : (o : ℕ) → named header ≤ o → Reach header h o past → IsReferred objects o
  down o least reach = temporary_down knows.regions knows.homes (λ r. in_use header h r past) knows.there o least reach

  -- what stands on something isn't declared
  backed_temporary : (o : ℕ) → (backing_of header o past).backed ≡ true → named header ≤ o
  backed_temporary o backed = elim (kind_cases header o) [
    | inl declared ↦ absurd (let bad : true ≡ false = sym backed ∙ knows.homes.bare o declared in cc)
    | inr least ↦ least
  ]

  -- what is reached and stands on something has a shadow's row over that
  link_of : (o : ℕ) → Reach header h o past → (backing_of header o past).backed ≡ true
      → (row : ShadowRow) × (shadow_at chains o ≡ Some row) × (row.under.0 ≡ (backing_of header o past).under)
  link_of o reach backed = by (shadow_at chains o) refl
    where
      by : (x : Option ShadowRow) → shadow_at chains o ≡ x
          → (row : ShadowRow) × (shadow_at chains o ≡ Some row) × (row.under.0 ≡ (backing_of header o past).under)
      by None none =
          absurd (let bad : true ≡ false = sym backed ∙ knows.regions.bottoms o (down o (backed_temporary o backed) reach) none in cc)
      by (Some row) found = (row, found, sym (ap (λ (z : Backing). z.under) (knows.regions.shadows o row found)))

  -- what can be merged by the tables is a pair
  pub pair_of : (upper lower : ℕ) → CanMerge copies chains objects upper lower → IsPair header h upper lower past
  pair_of upper lower can =
      let link = knows.regions.shadows upper can.link can.over in
      record {
        temporary = lower_temporary knows.kinds can;
        plain = knows.copies lower can.lower_row can.lower_known (let sole = can.sole in omega (arith, sole)) ∙ ap is_some can.plain;
        reached =
            temporary_up knows.regions knows.kinds knows.homes knows.shadows (λ r. in_use header h r past) knows.all upper
            (shadow_temporary knows.regions knows.homes upper can.link can.over)
            (knows.shadows upper can.link can.over);
        backed = ap (λ (z : Backing). z.backed) link;
        under = ap (λ (z : Backing). z.under) link ∙ can.under;
        no_top = λ r least is top.
            let row = knows.there r least is in
            sole_region knows.regions lower can.lower_row can.lower_known can.sole upper can.link can.over can.under r row.0 row.1
            (sym (ap (λ (z : Region). z.top) (knows.regions.rows r row.0 row.1)) ∙ top);
        sole = λ other reach backed under.
            let row = link_of other reach backed in
            sole_shadow knows.regions lower can.lower_row can.lower_known can.sole upper can.link can.over can.under other row.0 row.1 (row.2 ∙ under);
        upper_never = knows.last upper ∙ (ap last_in can.upper_known ∙ can.upper_never);
        lower_never = knows.last lower ∙ (ap last_in can.lower_known ∙ can.lower_never);
      }

  no_region : (upper lower : ℕ) → IsPair header h upper lower past → (r : ℕ) → is_over lower (region_at chains r) ≡ false
  no_region upper lower pair r = by (region_at chains r) refl
    where
      by : (x : Option RegionRow) → region_at chains r ≡ x → is_over lower x ≡ false
      by None found = refl
      by (Some row) found = other_test row.top.0 lower (λ top. elim (kind_cases header r) [
        | inl declared ↦
            let own = (whole_row knows.regions knows.homes r row declared found).top in
            let least = pair.temporary in
            omega (arith, own, top, least, declared)
        | inr least ↦ pair.no_top r least (knows.all r row least found) (ap (λ (z : Region). z.top) (knows.regions.rows r row found) ∙ top)
      ])

  one_shadow : (upper lower : ℕ) → IsPair header h upper lower past → (s : ℕ) → is_backing lower (shadow_at chains s) ≡ true → s ≡ upper
  one_shadow upper lower pair s is = by (shadow_at chains s) refl is
    where
      by : (x : Option ShadowRow) → shadow_at chains s ≡ x → is_backing lower x ≡ true → s ≡ upper
      by None found bad = absurd (let wrong : false ≡ true = bad in cc)
      by (Some row) found same =
          let e : row.under.0 ≡ lower = same_of row.under.0 lower same in
          let link = knows.regions.shadows s row found in
          pair.sole s (temporary_up knows.regions knows.kinds knows.homes knows.shadows (λ r. in_use header h r past) knows.all s
          (shadow_temporary knows.regions knows.homes s row found)
          (knows.shadows s row found)) (ap (λ (z : Backing). z.backed) link) (ap (λ (z : Backing). z.under) link ∙ e)

  few : (upper lower : ℕ) → IsPair header h upper lower past → references_to chains regions_made objects_made lower ≤ 1
  few upper lower pair =
      let regions : tally (λ r. is_over lower (region_at chains r)) regions_made ≡ 0 = tally_none (λ r. is_over lower (region_at chains r)) regions_made
      (λ r less. no_region upper lower pair r) in
      let shadows : tally (λ s. is_backing lower (shadow_at chains s)) objects_made ≤ 1 = tally_one (λ s. is_backing lower (shadow_at chains s)) objects_made
      (λ a b first second. one_shadow upper lower pair a first ∙ sym (one_shadow upper lower pair b second)) in
      omega (arith, regions, shadows)

  -- and a pair can be merged
  pub pair_can : (upper lower : ℕ) → IsPair header h upper lower past → CanMerge copies chains objects upper lower
  pair_can upper lower pair =
      let above : IsReferred objects upper = down upper (backed_temporary upper pair.backed) pair.reached in
      let row = link_of upper pair.reached pair.backed in
      let under : row.0.under.0 ≡ lower = row.2 ∙ pair.under in
      let below : IsReferred objects lower = subst (λ (z : ℕ). IsReferred objects z) under (refers_shadow knows.regions upper row.0 row.1) in
      let count = knows.regions.counts lower below.row below.known in
      let most = few upper lower pair in
      let some = below.some in
      let none_more : one below.row.cache ≡ 0 = ap one (uncached_temporary knows.kinds lower below.row pair.temporary below.known) in
      record {
        link = row.0;
        over = row.1;
        under = under;
        upper_row = above.row;
        upper_known = above.known;
        lower_row = below.row;
        lower_known = below.known;
        sole = omega (arith, count, most, some, none_more);
        upper_never = sym (ap last_in above.known) ∙ (sym (knows.last upper) ∙ pair.upper_never);
        lower_never = sym (ap last_in below.known) ∙ (sym (knows.last lower) ∙ pair.lower_never);
        plain = no_copy (copy_at copies lower) (sym (knows.copies lower below.row below.known below.some) ∙ pair.plain);
      }

  -- so where nothing can be merged there is no pair
  pub thin_told : IsThin copies chains objects → (upper lower : ℕ) → IsPair header h upper lower past → ⊥
  thin_told thin upper lower pair = thin upper lower (pair_can upper lower pair)

  -- and the least of the lower objects that can be is the least of all pairs
  pub least_told : (lower : ℕ) → ((u l : ℕ) → CanMerge copies chains objects u l → lower ≤ l) → (u l : ℕ) → IsPair header h u l past → lower ≤ l
  least_told lower least u l pair = least u l (pair_can u l pair)

  -- a merge of the least pair of the upper's home, when nothing is left there that was to end
  pub merges_told : ((o : ℕ) (row : ObjectRow) → named header ≤ o → object_at objects o ≡ Some row → object_home o past ≡ Some h) → IsSwept header h past
      → (upper lower : ℕ) → CanMerge copies chains objects upper lower → ((u l : ℕ) → CanMerge copies chains objects u l → lower ≤ l)
      → Merges header upper lower past
  merges_told homes swept upper lower can least = record {
    host = h;
    home = homes upper can.upper_row (shadow_temporary knows.regions knows.homes upper can.link can.over) can.upper_known;
    pair = pair_of upper lower can;
    least = least_told lower least;
    swept = swept;
  }
