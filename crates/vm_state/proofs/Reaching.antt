-- The objects to which something refers are those in the chains of regions.
use Rattle.std.proofs.Common.{◌≡◌, ◌≤◌, ◌<◌, ◌||◌, ℕ, zero, suc, ◌+◌, Bool, true, false, Option, Some, None, length, ap, refl, sym, ◌∙◌, subst, arith, inl, inr}
use Rattle.std.proofs.lemmas.Bool.Decides.{nat_tests}
use Rattle.std.specs.Prelude.{nat_lt}
use Rattle.vm_abroad.proofs.Regions.{kind_cases}
use Rattle.vm_abroad.specs.Home.{AreHomes}
use Rattle.vm_legal.specs.Walks.{Below, Reaches}
use Rattle.vm_model.specs.declared.script.Header.{Header}
use Rattle.vm_model.specs.Named.{named}
use Rattle.vm_model.specs.Regions.{Backing, Region}
use Rattle.vm_model.specs.Waiting.{Target}
use Rattle.vm_objects.specs.Objects.{ObjectTable}
use Rattle.vm_shadow.proofs.Ranks.{height_falls, height_most}
use Rattle.vm_shadow.specs.Chains.{ChainTable, IsRanked, height, region_at, shadow_at}
use Rattle.vm_shadow.specs.declared.ids.Ids.{Ids}
use Rattle.vm_shadow.specs.declared.region_row.RegionRow.{RegionRow}
use Rattle.vm_shadow.specs.declared.shadow_row.ShadowRow.{ShadowRow}
use Rattle.vm_terminate.specs.Finishes.{IsReferred}
use Rattle.vm_state.proofs.Declared.{shadow_temporary, shadow_undeclared, uncached_temporary}
use Rattle.vm_state.specs.Stands.{HasKinds, HasRegions, IsUnderKind}
use Rattle.vm_state.proofs.Referring.{OfRegion, OfShadow, Referrer, referrer_of, refers_region, refers_shadow}

-- one further down at the end of a chain
pub below_more : (backings : ℕ → Backing) (n o u v : ℕ) → Below backings n o u → (backings u).backed ≡ true → (backings u).under ≡ v
    → Below backings (suc n) o v
below_more backings zero o u v is backed under =
    (subst (λ (k : ℕ). (backings k).backed ≡ true) (sym is) backed, ap (λ (k : ℕ). (backings k).under) is ∙ under)
below_more backings (suc n) o u v is backed under = (is.0, below_more backings n (backings o).under u v is.1 backed under)

-- what refers to a temporary object: it doesn't stay without
referrer : {header : Header} {chains : ChainTable} {objects : ObjectTable} {ids : Ids} {region_from : ℕ → Region} {backing_from : ℕ → Backing}
    {regions_made objects_made marked : ℕ}
    → HasRegions chains objects ids region_from backing_from regions_made objects_made marked → HasKinds header objects chains
    → (o : ℕ) → named header ≤ o → IsReferred objects o → Referrer chains o
referrer has kinds o least referred = referrer_of has o referred (uncached_temporary kinds o referred.row least referred.known)

up : {header : Header} {chains : ChainTable} {objects : ObjectTable} {ids : Ids} {region_from : ℕ → Region} {backing_from : ℕ → Backing}
    {regions_made objects_made marked : ℕ}
    → HasRegions chains objects ids region_from backing_from regions_made objects_made marked → HasKinds header objects chains
    → ((o : ℕ) → o < named header → (backing_from o).backed ≡ false) → IsRanked chains
    → ((s : ℕ) (row : ShadowRow) → shadow_at chains s ≡ Some row → IsReferred objects s) → (used : ℕ → Bool)
    → ((r : ℕ) (row : RegionRow) → region_at chains r ≡ Some row → used r ≡ true)
    → (more o : ℕ) → length chains.shadows ≤ height chains o + more → named header ≤ o → IsReferred objects o → Reaches used region_from backing_from o
up {chains = chains} has kinds bare ranked shadows used all zero o enough least referred = elim (referrer has kinds o least referred) [
  | OfRegion r row found top ↦ (r, 0, all r row found, ap (λ (z : Region). z.top) (has.rows r row found) ∙ top)
  | OfShadow s row found under ↦
      let falls = height_falls chains ranked s row found in
      let most = height_most (shadow_at chains) (length chains.shadows) s in
      let here = ap (height chains) under in
      absurd (omega (arith, falls, most, here, enough))
]
up {header = header} {chains = chains} {backing_from = backing_from} has kinds bare ranked shadows used all (suc more) o enough least referred =
    elim (referrer has kinds o least referred) [
      | OfRegion r row found top ↦ (r, 0, all r row found, ap (λ (z : Region). z.top) (has.rows r row found) ∙ top)
      | OfShadow s row found under ↦
          let falls = height_falls chains ranked s row found in
          let here = ap (height chains) under in
          let above = up has kinds bare ranked shadows used all more s (omega (arith, falls, here, enough)) (shadow_undeclared header has bare s row found)
          (shadows s row found) in
          let link = has.shadows s row found in (
            above.0,
            suc above.1,
            above.2,
            below_more backing_from above.1 _ s o above.3 (ap (λ (z : Backing). z.backed) link)
                (ap (λ (z : Backing). z.under) link ∙ under),
          )
    ]

-- a temporary object that is referred to is in the chain of a region, where each shadow is referred to, and nothing that is declared stands on anything
pub reach_up : {header : Header} {chains : ChainTable} {objects : ObjectTable} {ids : Ids} {region_from : ℕ → Region} {backing_from : ℕ → Backing}
    {regions_made objects_made marked : ℕ}
    → HasRegions chains objects ids region_from backing_from regions_made objects_made marked → HasKinds header objects chains
    → ((o : ℕ) → o < named header → (backing_from o).backed ≡ false) → IsRanked chains
    → ((s : ℕ) (row : ShadowRow) → shadow_at chains s ≡ Some row → IsReferred objects s) → (used : ℕ → Bool)
    → ((r : ℕ) (row : RegionRow) → region_at chains r ≡ Some row → used r ≡ true)
    → (o : ℕ) → named header ≤ o → IsReferred objects o → Reaches used region_from backing_from o
reach_up {chains = chains} has kinds bare ranked shadows used all o least referred =
    up has kinds bare ranked shadows used all (length chains.shadows) o (omega arith) least referred

-- a chain from an object to which something refers leads to such objects only
pub chain_referred : {chains : ChainTable} {objects : ObjectTable} {ids : Ids} {region_from : ℕ → Region} {backing_from : ℕ → Backing}
    {regions_made objects_made marked : ℕ} → HasRegions chains objects ids region_from backing_from regions_made objects_made marked → (n o u : ℕ)
    → IsReferred objects o → Below backing_from n o u → IsReferred objects u
chain_referred {objects = objects} has zero o u referred below = subst (λ (k : ℕ). IsReferred objects k) below referred
chain_referred {chains = chains} {objects = objects} {backing_from = backing_from} has (suc n) o u referred below =
    chain_referred has n (backing_from o).under u (next (shadow_at chains o) refl) below.1
  where
    next : (x : Option ShadowRow) → shadow_at chains o ≡ x → IsReferred objects (backing_from o).under
    next None none = absurd (let bad : true ≡ false = sym below.0 ∙ has.bottoms o referred none in cc)
    next (Some row) found =
        subst (λ (k : ℕ). IsReferred objects k) (sym (ap (λ (z : Backing). z.under) (has.shadows o row found))) (refers_shadow has o row found)

pub chain_known : {chains : ChainTable} {objects : ObjectTable} {ids : Ids} {region_from : ℕ → Region} {backing_from : ℕ → Backing}
    {regions_made objects_made marked : ℕ} → HasRegions chains objects ids region_from backing_from regions_made objects_made marked → (r : ℕ) (row : RegionRow)
    → region_at chains r ≡ Some row → (n u : ℕ) → Below backing_from n (region_from r).top u → IsReferred objects u
chain_known {objects = objects} {region_from = region_from} has r row found n u below =
    chain_referred has n (region_from r).top u (subst (λ (k : ℕ). IsReferred objects k) (sym (ap (λ (z : Region). z.top) (has.rows r row found)))
    (refers_region has r row found)) below

-- below an object that is temporary, or a file's, there are only such
pub chain_kind : {header : Header} {chains : ChainTable} {objects : ObjectTable} {ids : Ids} {region_from : ℕ → Region} {backing_from : ℕ → Backing}
    {regions_made objects_made marked : ℕ} → HasRegions chains objects ids region_from backing_from regions_made objects_made marked
    → HasKinds header objects chains → (n o u : ℕ) → IsUnderKind header o → IsReferred objects o → Below backing_from n o u → IsUnderKind header u
chain_kind {header = header} has kinds zero o u kind referred below = subst (λ (k : ℕ). IsUnderKind header k) below kind
chain_kind {header = header} {chains = chains} {objects = objects} {backing_from = backing_from} has kinds (suc n) o u kind referred below =
    let it = next (shadow_at chains o) refl in
    chain_kind has kinds n (backing_from o).under u it.0 it.1 below.1
  where
    next : (x : Option ShadowRow) → shadow_at chains o ≡ x → IsUnderKind header (backing_from o).under × IsReferred objects (backing_from o).under
    next None none = absurd (let bad : true ≡ false = sym below.0 ∙ has.bottoms o referred none in cc)
    next (Some row) found =
        let under : row.under.0 ≡ (backing_from o).under = sym (ap (λ (z : Backing). z.under) (has.shadows o row found)) in (
          subst (λ (k : ℕ). IsUnderKind header k) under (kinds.unders o row found),
          subst (λ (k : ℕ). IsReferred objects k) under (refers_shadow has o row found),
        )

-- so are all in the chain of a region that isn't declared
pub region_kind : {header : Header} {chains : ChainTable} {objects : ObjectTable} {ids : Ids} {region_from : ℕ → Region} {backing_from : ℕ → Backing}
    {regions_made objects_made marked : ℕ} → HasRegions chains objects ids region_from backing_from regions_made objects_made marked
    → HasKinds header objects chains → (r : ℕ) (row : RegionRow) → named header ≤ r → region_at chains r ≡ Some row → (n u : ℕ)
    → Below backing_from n (region_from r).top u → IsUnderKind header u
region_kind {header = header} {objects = objects} {region_from = region_from} has kinds r row least found n u below =
    let top : row.top.0 ≡ (region_from r).top = sym (ap (λ (z : Region). z.top) (has.rows r row found)) in
    chain_kind has kinds n (region_from r).top u (inl (subst (λ (k : ℕ). named header ≤ k) top (kinds.tops r row least found)))
    (subst (λ (k : ℕ). IsReferred objects k) top (refers_region has r row found)) below

-- what is in the chain of a region in use is referred to
pub reach_down : {chains : ChainTable} {objects : ObjectTable} {ids : Ids} {region_from : ℕ → Region} {backing_from : ℕ → Backing}
    {regions_made objects_made marked : ℕ} → HasRegions chains objects ids region_from backing_from regions_made objects_made marked → (used : ℕ → Bool)
    → ((r : ℕ) → used r ≡ true → (row : RegionRow) × (region_at chains r ≡ Some row)) → (o : ℕ) → Reaches used region_from backing_from o → IsReferred objects o
reach_down has used known o reach =
    let row = known reach.0 reach.2 in
    chain_known has reach.0 row.0 row.1 reach.1 o reach.3

-- the chain of a declared region is of its own object alone
pub chain_declared : {header : Header} {n m : ℕ} {home_from made_for : ℕ → Option ℕ} {used_at : ℕ → ℕ → Bool} {region_from : ℕ → Region}
    {backing_from : ℕ → Backing} {target_from : ℕ → Option Target}
    {newest_from : ℕ → Option ℕ} {copy_from : ℕ → Bool}
    → AreHomes header n m home_from made_for used_at region_from backing_from target_from newest_from copy_from
    → (r steps u : ℕ) → r < named header → Below backing_from steps (region_from r).top u → r ≡ u
chain_declared {backing_from = backing_from} homes r steps u declared below =
    by_steps steps (subst (λ (z : ℕ). Below backing_from steps z u) (ap (λ (z : Region). z.top) (homes.whole r declared)) below)
  where
    by_steps : (n : ℕ) → Below backing_from n r u → r ≡ u
    by_steps zero is = is
    by_steps (suc n) is = absurd (let bad : true ≡ false = sym is.0 ∙ homes.bare r declared in cc)

-- a temporary object that is referred to is in the chain of a temporary region
pub temporary_up : {header : Header} {chains : ChainTable} {objects : ObjectTable} {ids : Ids} {region_from : ℕ → Region} {backing_from : ℕ → Backing}
    {n m : ℕ} {home_from made_for : ℕ → Option ℕ} {used_at : ℕ → ℕ → Bool} {target_from : ℕ → Option Target}
    {newest_from : ℕ → Option ℕ} {copy_from : ℕ → Bool} {regions_made objects_made marked : ℕ}
    → HasRegions chains objects ids region_from backing_from regions_made objects_made marked → HasKinds header objects chains
    → AreHomes header n m home_from made_for used_at region_from backing_from target_from newest_from copy_from
    → ((s : ℕ) (row : ShadowRow) → shadow_at chains s ≡ Some row → IsReferred objects s) → (used : ℕ → Bool)
    → ((r : ℕ) (row : RegionRow) → named header ≤ r → region_at chains r ≡ Some row → used r ≡ true) → (o : ℕ) → named header ≤ o → IsReferred objects o
    → Reaches used region_from backing_from o
temporary_up {header = header} {chains = chains} {region_from = region_from} {backing_from = backing_from} has kinds homes shadows used all o least referred =
    elim (kind_cases header reach.0) [
      | inl declared ↦ let same = chain_declared homes reach.0 reach.1 o declared reach.3 in absurd (omega (arith, same, declared, least))
      | inr temporary ↦ (
        reach.0,
        reach.1,
        sym (of_declared reach.0 false (let test : nat_lt reach.0 (named header) ≡ false = grind (arith, nat_tests) in test)) ∙ reach.2,
        reach.3,
      )
    ]
  where
    -- a declared region counts as used here
    used_too : ℕ → Bool
    used_too r = nat_lt r (named header) || used r

    of_declared : (r : ℕ) (b : Bool) → nat_lt r (named header) ≡ b → used_too r ≡ (b || used r)
    of_declared r b test = ap (λ z. z || used r) test

    each : (r : ℕ) (row : RegionRow) → region_at chains r ≡ Some row → used_too r ≡ true
    each r row found = elim (kind_cases header r) [
      | inl declared ↦ of_declared r true (let test : nat_lt r (named header) ≡ true = grind (arith, nat_tests) in test)
      | inr temporary ↦
          of_declared r false (let test : nat_lt r (named header) ≡ false = grind (arith, nat_tests) in test) ∙ all r row temporary found
    ]

    reach : Reaches used_too region_from backing_from o
    reach = reach_up has kinds homes.bare has.ranked shadows used_too each o least referred

-- what is under a shadow is in the chain of a temporary region in use, a file too
pub under_up : {header : Header} {chains : ChainTable} {objects : ObjectTable} {ids : Ids} {region_from : ℕ → Region} {backing_from : ℕ → Backing}
    {n m : ℕ} {home_from made_for : ℕ → Option ℕ} {used_at : ℕ → ℕ → Bool} {target_from : ℕ → Option Target}
    {newest_from : ℕ → Option ℕ} {copy_from : ℕ → Bool} {regions_made objects_made marked : ℕ}
    → HasRegions chains objects ids region_from backing_from regions_made objects_made marked → HasKinds header objects chains
    → AreHomes header n m home_from made_for used_at region_from backing_from target_from newest_from copy_from
    → ((s : ℕ) (row : ShadowRow) → shadow_at chains s ≡ Some row → IsReferred objects s) → (used : ℕ → Bool)
    → ((r : ℕ) (row : RegionRow) → named header ≤ r → region_at chains r ≡ Some row → used r ≡ true) → (s : ℕ) (row : ShadowRow)
    → shadow_at chains s ≡ Some row
    → (r : ℕ) × (depth : ℕ) × (named header ≤ r) × (used r ≡ true) × Below backing_from depth (region_from r).top row.under.0
under_up {header = header} {region_from = region_from} {backing_from = backing_from} has kinds homes shadows used all s row found = (
  reach.0,
  suc reach.1,
  temporary,
  reach.2,
  below_more backing_from reach.1 (region_from reach.0).top s row.under.0 reach.3
      (ap (λ (z : Backing). z.backed) link) (ap (λ (z : Backing). z.under) link),
)
  where
    least : named header ≤ s
    least = shadow_temporary has homes s row found

    link : backing_from s ≡ record { backed = true; under = row.under.0; shift = row.shift }
    link = has.shadows s row found

    reach : Reaches used region_from backing_from s
    reach = temporary_up has kinds homes shadows used all s least (shadows s row found)

    temporary : named header ≤ reach.0
    temporary = elim (kind_cases header reach.0) [
      | inl declared ↦ let same = chain_declared homes reach.0 reach.1 s declared reach.3 in absurd (omega (arith, same, declared, least))
      | inr more ↦ more
    ]

-- and what is in the chain of a temporary region in use is referred to, a file too
pub region_down : (header : Header) {chains : ChainTable} {objects : ObjectTable} {ids : Ids} {region_from : ℕ → Region} {backing_from : ℕ → Backing}
    {regions_made objects_made marked : ℕ} → HasRegions chains objects ids region_from backing_from regions_made objects_made marked → (used : ℕ → Bool)
    → ((r : ℕ) → named header ≤ r → used r ≡ true → (row : RegionRow) × (region_at chains r ≡ Some row)) → (r depth o : ℕ) → named header ≤ r
    → used r ≡ true → Below backing_from depth (region_from r).top o → IsReferred objects o
region_down header has used known r depth o temporary is below = let row = known r temporary is in chain_known has r row.0 row.1 depth o below

-- so is what is temporary and in the chain of any region in use
pub temporary_down : {header : Header} {chains : ChainTable} {objects : ObjectTable} {ids : Ids} {region_from : ℕ → Region} {backing_from : ℕ → Backing}
    {n m : ℕ} {home_from made_for : ℕ → Option ℕ} {used_at : ℕ → ℕ → Bool} {target_from : ℕ → Option Target}
    {newest_from : ℕ → Option ℕ} {copy_from : ℕ → Bool} {regions_made objects_made marked : ℕ}
    → HasRegions chains objects ids region_from backing_from regions_made objects_made marked
    → AreHomes header n m home_from made_for used_at region_from backing_from target_from newest_from copy_from → (used : ℕ → Bool)
    → ((r : ℕ) → named header ≤ r → used r ≡ true → (row : RegionRow) × (region_at chains r ≡ Some row)) → (o : ℕ) → named header ≤ o
    → Reaches used region_from backing_from o → IsReferred objects o
temporary_down {header = header} has homes used known o least reach = elim (kind_cases header reach.0) [
  | inl declared ↦ let same = chain_declared homes reach.0 reach.1 o declared reach.3 in absurd (omega (arith, same, declared, least))
  | inr temporary ↦ region_down header has used known reach.0 reach.1 o temporary reach.2 reach.3
]
