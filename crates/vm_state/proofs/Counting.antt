-- How often an object is referred to, where regions and shadows change.
use Rattle.std.proofs.Common.{◌≡◌, ℕ, suc, ◌+◌, ◌<◌, ◌==◌, Bool, true, false, refl, ap, sym, ◌∙◌, arith, Some, None, inl, inr}
use Rattle.std.proofs.lemmas.Bool.Decides.{eqb_tells}
use Rattle.std.specs.Prelude.{if◌then◌else◌}
use Rattle.vm_base.specs.declared.ids.ObjectId.{ObjectId}
use Rattle.vm_parts.proofs.Rows.{if_true, one_case}
use Rattle.vm_parts.specs.Changes.{one}
use Rattle.vm_shadow.specs.Chains.{ChainTable, CopiesRegion, DropsShadow, PutsRegion, Rebases, ShadowsRegion, copy_of, region_at, shadow_at}
use Rattle.vm_shadow.specs.declared.region_row.RegionRow.{RegionRow}
use Rattle.vm_shadow.specs.declared.shadow_row.ShadowRow.{ShadowRow}
use Rattle.vm_state.specs.References.{is_backing, is_over, references_to, tally}
use Rattle.vm_state.proofs.Tallies.{tally_none, tally_put, tally_same, tally_some}

tally_next : (test : ℕ → Bool) (n : ℕ) → tally test (n + 1) ≡ one (test n) + tally test n
tally_next test n = ap (tally test) next
  where
    next : n + 1 ≡ suc n
    next = omega arith

-- what stands at another number than the one that was put
pub elsewhere : {A : Type 0} (f g : ℕ) (x y z : A) → z ≡ (if f == g then x else y) → (f ≡ g → ⊥) → z ≡ y
elsewhere f g x y z is apart = elim (one_case f g x y z is) [ inl same ↦ absurd (apart same.0) | inr other ↦ other.1 ]

-- regions and shadows are over the same objects
pub references_same : (cs cs2 : ChainTable) (rm om x : ℕ) → ((r : ℕ) → is_over x (region_at cs2 r) ≡ is_over x (region_at cs r))
    → ((o : ℕ) → is_backing x (shadow_at cs2 o) ≡ is_backing x (shadow_at cs o))
    → references_to cs2 rm om x ≡ references_to cs rm om x
references_same cs cs2 rm om x regions shadows =
    let tops = tally_same (λ r. is_over x (region_at cs r)) (λ r. is_over x (region_at cs2 r)) rm (λ r less. regions r) in
    let unders = tally_same (λ o. is_backing x (shadow_at cs o)) (λ o. is_backing x (shadow_at cs2 o)) om (λ o less. shadows o) in
    omega (arith, tops, unders)

-- the top of a region is referred to
pub references_some : (cs : ChainTable) (rm om r : ℕ) (row : RegionRow) → region_at cs r ≡ Some row → r < rm → 0 < references_to cs rm om row.top.0
references_some cs rm om r row there less =
    let its : is_over row.top.0 (region_at cs r) ≡ true = ap (is_over row.top.0) there ∙ own row.top.0 in
    let some = tally_some (λ q. is_over row.top.0 (region_at cs q)) rm r less its in
    omega (arith, some)
  where
    own : (n : ℕ) → (n == n) ≡ true
    own n = elim (eqb_tells n n) [ inl same ↦ same.0 | inr apart ↦ absurd (apart.1 refl) ]

-- a region goes
pub references_gone : (cs cs2 : ChainTable) (rm om r : ℕ) (row : RegionRow) → region_at cs r ≡ Some row → r < rm → PutsRegion r None cs cs2 → (x : ℕ)
    → references_to cs2 rm om x + one (row.top.0 == x) ≡ references_to cs rm om x
references_gone cs cs2 rm om r row there less put x =
    let tops = tally_put (λ q. is_over x (region_at cs q)) (λ q. is_over x (region_at cs2 q)) rm r less
    (λ q apart. ap (is_over x) (elsewhere r q None (region_at cs q) (region_at cs2 q) (put.at q) apart)) in
    let unders = tally_same (λ o. is_backing x (shadow_at cs o)) (λ o. is_backing x (shadow_at cs2 o)) om
    (λ o below. ap (λ f. is_backing x (f o)) put.shadows) in
    let was : one (is_over x (region_at cs r)) ≡ one (row.top.0 == x) = ap (λ z. one (is_over x z)) there in
    let now : one (is_over x (region_at cs2 r)) ≡ 0 = ap (λ z. one (is_over x z)) (if_true r None (region_at cs r) (region_at cs2 r) (put.at r)) in
    omega (arith, tops, unders, was, now)

-- what stood under an object goes
pub references_dropped : (cs cs2 : ChainTable) (rm om o : ℕ) (row : ShadowRow) → shadow_at cs o ≡ Some row → o < om → DropsShadow o cs cs2 → (x : ℕ)
    → references_to cs2 rm om x + one (row.under.0 == x) ≡ references_to cs rm om x
references_dropped cs cs2 rm om o row there less drop x =
    let unders = tally_put (λ q. is_backing x (shadow_at cs q)) (λ q. is_backing x (shadow_at cs2 q)) om o less
    (λ q apart. ap (is_backing x) (elsewhere o q None (shadow_at cs q) (shadow_at cs2 q) (drop.at q) apart)) in
    let tops = tally_same (λ r. is_over x (region_at cs r)) (λ r. is_over x (region_at cs2 r)) rm (λ r below. ap (λ f. is_over x (f r)) drop.regions) in
    let was : one (is_backing x (shadow_at cs o)) ≡ one (row.under.0 == x) = ap (λ z. one (is_backing x z)) there in
    let now : one (is_backing x (shadow_at cs2 o)) ≡ 0 = ap (λ z. one (is_backing x z)) (if_true o None (shadow_at cs o) (shadow_at cs2 o) (drop.at o)) in
    omega (arith, tops, unders, was, now)

-- a region is made
pub references_made : (cs cs2 : ChainTable) (rm om : ℕ) (row : RegionRow) → shadow_at cs om ≡ None → PutsRegion rm (Some row) cs cs2 → (x : ℕ)
    → references_to cs2 (rm + 1) (om + 1) x ≡ references_to cs rm om x + one (row.top.0 == x)
references_made cs cs2 rm om row bare put x =
    let tops = tally_same (λ r. is_over x (region_at cs r)) (λ r. is_over x (region_at cs2 r)) rm
    (λ r below. ap (is_over x) (elsewhere rm r (Some row) (region_at cs r) (region_at cs2 r) (put.at r) (λ e. omega (arith, e, below)))) in
    let top = tally_next (λ r. is_over x (region_at cs2 r)) rm in
    let unders = tally_same (λ o. is_backing x (shadow_at cs o)) (λ o. is_backing x (shadow_at cs2 o)) om
    (λ o below. ap (λ f. is_backing x (f o)) put.shadows) in
    let under = tally_next (λ o. is_backing x (shadow_at cs2 o)) om in
    let now : one (is_over x (region_at cs2 rm)) ≡ one (row.top.0 == x) = ap (λ z. one (is_over x z))
    (if_true rm (Some row) (region_at cs rm) (region_at cs2 rm) (put.at rm)) in
    let none : one (is_backing x (shadow_at cs2 om)) ≡ 0 = ap (λ f. one (is_backing x (f om))) put.shadows ∙ ap (λ z. one (is_backing x z)) bare in
    omega (arith, tops, top, unders, under, now, none)

-- a region is copied
pub references_copied : (cs cs2 : ChainTable) (rm om source offset pages : ℕ) (row : RegionRow) → region_at cs source ≡ Some row
    → CopiesRegion source rm offset pages row cs cs2 → (x : ℕ)
    → references_to cs2 (rm + 1) om x ≡ references_to cs rm om x + one (row.top.0 == x)
references_copied cs cs2 rm om source offset pages row there copies x =
    let tops = tally_same (λ r. is_over x (region_at cs r)) (λ r. is_over x (region_at cs2 r)) rm (λ r below. before r (λ e. omega (arith, e, below))) in
    let top = tally_next (λ r. is_over x (region_at cs2 r)) rm in
    let unders = tally_same (λ o. is_backing x (shadow_at cs o)) (λ o. is_backing x (shadow_at cs2 o)) om
    (λ o below. ap (λ f. is_backing x (f o)) copies.shadows) in
    let now : one (is_over x (region_at cs2 rm)) ≡ one (row.top.0 == x) = ap (λ z. one (is_over x z))
    (if_true rm (Some (copy_of row offset pages)) (if source == rm then Some (record row { marked = true }) else region_at cs rm) (region_at cs2 rm)
    (copies.at rm)) in
    omega (arith, tops, top, unders, now)
  where
    before : (r : ℕ) → (rm ≡ r → ⊥) → is_over x (region_at cs2 r) ≡ is_over x (region_at cs r)
    before r apart =
        let second = elsewhere rm r (Some (copy_of row offset pages)) (if source == r then Some (record row { marked = true }) else region_at cs r)
        (region_at cs2 r) (copies.at r) apart in
        elim (one_case source r (Some (record row { marked = true })) (region_at cs r) (region_at cs2 r) second) [
          | inl this ↦ ap (is_over x) this.1 ∙ sym (ap (λ z. is_over x (region_at cs z)) (sym this.0) ∙ ap (is_over x) there)
          | inr other ↦ ap (is_over x) other.1
        ]

-- a region gets an object of its own
pub references_shadowed : (cs cs2 : ChainTable) (rm om region : ℕ) (object : ObjectId) (row : RegionRow) → region_at cs region ≡ Some row → region < rm
    → object.0 ≡ om → ShadowsRegion region object row cs cs2 → (x : ℕ)
    → references_to cs2 rm (om + 1) x ≡ references_to cs rm om x + one (om == x)
references_shadowed cs cs2 rm om region object row there less next shadows x =
    let new : RegionRow = record row { top = object; shift = 0; marked = false } in
    let tops = tally_put (λ r. is_over x (region_at cs r)) (λ r. is_over x (region_at cs2 r)) rm region less
    (λ r apart. ap (is_over x) (elsewhere region r (Some new) (region_at cs r) (region_at cs2 r) (shadows.at r) apart)) in
    let was : one (is_over x (region_at cs region)) ≡ one (row.top.0 == x) = ap (λ z. one (is_over x z)) there in
    let now : one (is_over x (region_at cs2 region)) ≡ one (om == x) = ap (λ z. one (is_over x z))
    (if_true region (Some new) (region_at cs region) (region_at cs2 region) (shadows.at region)) ∙ ap (λ z. one (z == x)) next in
    let unders = tally_same (λ o. is_backing x (shadow_at cs o)) (λ o. is_backing x (shadow_at cs2 o)) om
    (λ o below. ap (is_backing x) (elsewhere object.0 o (Some (record { under = row.top; shift = row.shift })) (shadow_at cs o) (shadow_at cs2 o)
    (shadows.under o) (λ e. omega (arith, e, below, next)))) in
    let under = tally_next (λ o. is_backing x (shadow_at cs2 o)) om in
    let backing : one (is_backing x (shadow_at cs2 om)) ≡ one (row.top.0 == x) = ap (λ z. one (is_backing x (shadow_at cs2 z))) (sym next)
    ∙ ap (λ z. one (is_backing x z)) (if_true object.0 (Some (record { under = row.top; shift = row.shift })) (shadow_at cs object.0)
    (shadow_at cs2 object.0) (shadows.under object.0)) in
    omega (arith, tops, was, now, unders, under, backing)

-- a region is made over an object that was made before
pub references_over : (cs cs2 : ChainTable) (rm om : ℕ) (row : RegionRow) → PutsRegion rm (Some row) cs cs2 → (x : ℕ)
    → references_to cs2 (rm + 1) om x ≡ references_to cs rm om x + one (row.top.0 == x)
references_over cs cs2 rm om row put x =
    let tops = tally_same (λ r. is_over x (region_at cs r)) (λ r. is_over x (region_at cs2 r)) rm
    (λ r below. ap (is_over x) (elsewhere rm r (Some row) (region_at cs r) (region_at cs2 r) (put.at r) (λ e. omega (arith, e, below)))) in
    let top = tally_next (λ r. is_over x (region_at cs2 r)) rm in
    let unders = tally_same (λ o. is_backing x (shadow_at cs o)) (λ o. is_backing x (shadow_at cs2 o)) om
    (λ o below. ap (λ f. is_backing x (f o)) put.shadows) in
    let now : one (is_over x (region_at cs2 rm)) ≡ one (row.top.0 == x) = ap (λ z. one (is_over x z))
    (if_true rm (Some row) (region_at cs rm) (region_at cs2 rm) (put.at rm)) in
    omega (arith, tops, top, unders, now)

-- a new object stands on another
pub references_stood : (cs cs2 : ChainTable) (rm om : ℕ) (under : ObjectId) → Rebases om under cs cs2 → (x : ℕ)
    → references_to cs2 rm (om + 1) x ≡ references_to cs rm om x + one (under.0 == x)
references_stood cs cs2 rm om under stands x =
    let row : ShadowRow = record { under = under; shift = 0 } in
    let tops = tally_same (λ r. is_over x (region_at cs r)) (λ r. is_over x (region_at cs2 r)) rm (λ r below. ap (λ f. is_over x (f r)) stands.regions) in
    let unders = tally_same (λ o. is_backing x (shadow_at cs o)) (λ o. is_backing x (shadow_at cs2 o)) om
    (λ o below. ap (is_backing x) (elsewhere om o (Some row) (shadow_at cs o) (shadow_at cs2 o) (stands.at o) (λ e. omega (arith, e, below)))) in
    let next = tally_next (λ o. is_backing x (shadow_at cs2 o)) om in
    let now : one (is_backing x (shadow_at cs2 om)) ≡ one (under.0 == x) = ap (λ z. one (is_backing x z))
    (if_true om (Some row) (shadow_at cs om) (shadow_at cs2 om) (stands.at om)) in
    omega (arith, tops, unders, next, now)

-- an object stands on another than before
pub references_rebased : (cs cs2 : ChainTable) (rm om o : ℕ) (was : ShadowRow) (under : ObjectId) → shadow_at cs o ≡ Some was → o < om
    → Rebases o under cs cs2 → (x : ℕ) → references_to cs2 rm om x + one (was.under.0 == x) ≡ references_to cs rm om x + one (under.0 == x)
references_rebased cs cs2 rm om o was under there less stands x =
    let row : ShadowRow = record { under = under; shift = 0 } in
    let tops = tally_same (λ r. is_over x (region_at cs r)) (λ r. is_over x (region_at cs2 r)) rm (λ r below. ap (λ f. is_over x (f r)) stands.regions) in
    let unders = tally_put (λ q. is_backing x (shadow_at cs q)) (λ q. is_backing x (shadow_at cs2 q)) om o less
    (λ q apart. ap (is_backing x) (elsewhere o q (Some row) (shadow_at cs q) (shadow_at cs2 q) (stands.at q) apart)) in
    let before : one (is_backing x (shadow_at cs o)) ≡ one (was.under.0 == x) = ap (λ z. one (is_backing x z)) there in
    let now : one (is_backing x (shadow_at cs2 o)) ≡ one (under.0 == x) = ap (λ z. one (is_backing x z))
    (if_true o (Some row) (shadow_at cs o) (shadow_at cs2 o) (stands.at o)) in
    omega (arith, tops, unders, before, now)

-- an object that nothing is over
pub references_none : (cs : ChainTable) (rm om x : ℕ) → ((r : ℕ) → is_over x (region_at cs r) ≡ false) → ((o : ℕ) → is_backing x (shadow_at cs o) ≡ false)
    → references_to cs rm om x ≡ 0
references_none cs rm om x regions shadows =
    let tops = tally_none (λ r. is_over x (region_at cs r)) rm (λ r less. regions r) in
    let unders = tally_none (λ o. is_backing x (shadow_at cs o)) om (λ o less. shadows o) in
    omega (arith, tops, unders)
