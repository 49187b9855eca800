-- How the regions and objects of a host go on, where an object is merged into the shadow over it that is its one reference.
use Rattle.std.proofs.Common.{◌≡◌, ◌∙◌, ℕ, ◌+◌, ◌<◌, ◌≤◌, ◌==◌, Bool, true, false, List, ◌∷◌, Option, Some, None, ap, arith, refl, sym, subst, inl, inr}
use Rattle.std.proofs.lemmas.Bool.Decides.{eqb_tells}
use Rattle.std.specs.Prelude.{◌-◌, ◌^◌, if◌then◌else◌, is_some}
use Rattle.vm_abroad.proofs.Regions.{kind_cases}
use Rattle.vm_base.specs.declared.ids.ObjectId.{ObjectId}
use Rattle.vm_copies.specs.Copies.{CopyTable}
use Rattle.vm_fault.specs.Walks.{ChainsFit}
use Rattle.vm_model.specs.declared.event.Event.{Event}
use Rattle.vm_model.specs.declared.event.Event.TheVariants as event
use Rattle.vm_model.specs.declared.script.Header.{Header}
use Rattle.vm_model.specs.Named.{named}
use Rattle.vm_model.specs.Regions.{Backing, backing_of, joined as joins, region_of}
use Rattle.vm_objects.specs.Objects.{ObjectTable, object_at}
use Rattle.vm_objects.specs.declared.row.ObjectRow.{ObjectRow}
use Rattle.vm_parts.proofs.Fitting.{same_pages}
use Rattle.vm_parts.proofs.Rows.{one_case, some_is}
use Rattle.vm_parts.specs.Changes.{one}
use Rattle.vm_parts.specs.Fits.{object_pages}
use Rattle.vm_shadow.proofs.Ranks.{ranked_fewer, ranked_merged}
use Rattle.vm_shadow.specs.Chains.{ChainTable, IsRanked, MergesShadow, joined, region_at, shadow_at}
use Rattle.vm_shadow.specs.declared.ids.Ids.{Ids}
use Rattle.vm_shadow.specs.declared.shadow_row.ShadowRow.{ShadowRow}
use Rattle.vm_state.proofs.Declared.{kind_referred, kinds_put}
use Rattle.vm_state.proofs.Files.{files_put}
use Rattle.vm_state.proofs.Fresh.{other_test, same_test}
use Rattle.vm_state.proofs.Going.{one_other, one_own}
use Rattle.vm_state.proofs.Knowing.{counts_still, fits_still, known_apart, known_cases, known_still, referred_before, unknown_still}
use Rattle.vm_state.proofs.KnownPages.{sizes_put}
use Rattle.vm_state.proofs.Referring.{below_all, small_shadow}
use Rattle.vm_state.proofs.Tallies.{tally_put, tally_same}
use Rattle.vm_state.specs.Merging.{CanMerge, MergesObjects}
use Rattle.vm_state.specs.Pagers.{has_pager, last_in, live_in, ready_in}
use Rattle.vm_state.specs.References.{is_backing, is_over, references_to}
use Rattle.vm_state.specs.Stands.{HasControls, HasHomes, HasKinds, HasRegions, IsOfKind, IsUnderKind, KnowsFiles, KnowsPages}
use Rattle.vm_terminate.specs.Finishes.{IsReferred}

-- what stands under an object behind the merge
pub data StandsNow (upper lower : ℕ) (up : ShadowRow) (cs cs2 : ChainTable) (o : ℕ) : Type 0 where
  IsUpper : upper ≡ o → shadow_at cs2 o ≡ joined up (shadow_at cs lower) → StandsNow upper lower up cs cs2 o
  IsLower : (upper ≡ o → ⊥) → lower ≡ o → shadow_at cs2 o ≡ None → StandsNow upper lower up cs cs2 o
  IsOther : (upper ≡ o → ⊥) → (lower ≡ o → ⊥) → shadow_at cs2 o ≡ shadow_at cs o → StandsNow upper lower up cs cs2 o

pub stands_now : {upper lower : ℕ} {up : ShadowRow} {cs cs2 : ChainTable} → MergesShadow upper lower up cs cs2 → (o : ℕ)
    → StandsNow upper lower up cs cs2 o
stands_now {upper = upper} {lower = lower} {up = up} {cs = cs} {cs2 = cs2} merges o =
    elim (one_case upper o (joined up (shadow_at cs lower)) (if lower == o then None else shadow_at cs o) (shadow_at cs2 o) (merges.at o)) [
      | inl this ↦ IsUpper this.0 this.1
      | inr apart ↦ elim (one_case lower o None (shadow_at cs o) (shadow_at cs2 o) apart.1) [
        | inl this ↦ IsLower apart.0 this.0 this.1
        | inr other ↦ IsOther apart.0 other.0 other.1
      ]
    ]

-- the upper stands on what the lower stood on
pub upper_joined : {upper lower : ℕ} {up : ShadowRow} {cs cs2 : ChainTable} (o : ℕ) → StandsNow upper lower up cs cs2 o → upper ≡ o
    → shadow_at cs2 o ≡ joined up (shadow_at cs lower)
upper_joined o (IsUpper same is) upper_it = is
upper_joined o (IsLower above same is) upper_it = absurd (above upper_it)
upper_joined o (IsOther above below is) upper_it = absurd (above upper_it)

-- an object that is neither of the two stands on what it stood on
pub others_stand : {upper lower : ℕ} {up : ShadowRow} {cs cs2 : ChainTable} (o : ℕ) → StandsNow upper lower up cs cs2 o → (upper ≡ o → ⊥) → (lower ≡ o → ⊥)
    → shadow_at cs2 o ≡ shadow_at cs o
others_stand o (IsUpper same is) not_upper not_lower = absurd (not_upper same)
others_stand o (IsLower above same is) not_upper not_lower = absurd (not_lower same)
others_stand o (IsOther above below is) not_upper not_lower = is

-- what the upper stands on then, the lower stood on
pub record IsJoined (up row : ShadowRow) (found : Option ShadowRow) : Type 0 where
  pub low : ShadowRow
  pub below : found ≡ Some low
  pub is : row ≡ record { under = low.under; shift = up.shift + low.shift }

pub joined_some : (up row : ShadowRow) (found : Option ShadowRow) → joined up found ≡ Some row → IsJoined up row found
joined_some up row None is = absurd (let bad : None ≡ Some row = is in cc)
joined_some up row (Some low) is =
    record { low = low; below = refl; is = sym (some_row (record { under = low.under; shift = up.shift + low.shift }) row is) }
  where
    some_row : (a b : ShadowRow) → Some a ≡ Some b → a ≡ b
    some_row a b same = cc

pub joined_none : (up : ShadowRow) (found : Option ShadowRow) → joined up found ≡ None → found ≡ None
joined_none up None is = refl
joined_none up (Some low) is = absurd (let bad : Some (record { under = low.under; shift = up.shift + low.shift }) ≡ None = is in cc)

-- the two are not one
pub merged_apart : {copies : CopyTable} {cs : ChainTable} {os : ObjectTable} {upper lower : ℕ} → IsRanked cs → CanMerge copies cs os upper lower
    → upper ≡ lower → ⊥
merged_apart {upper = upper} {lower = lower} ranked can same =
    let falls = ranked.under upper can.link can.over in
    let low : ranked.rank can.link.under.0 ≡ ranked.rank lower = ap ranked.rank can.under in
    let high : ranked.rank upper ≡ ranked.rank lower = ap ranked.rank same in
    omega (arith, falls, low, high)

-- the lower loses its reference; what stood under it keeps its own
references_merged : {copies : CopyTable} (cs cs2 : ChainTable) (os : ObjectTable) (rm om upper lower : ℕ) (can : CanMerge copies cs os upper lower)
    → MergesShadow upper lower can.link cs cs2 → (upper ≡ lower → ⊥) → upper < om → lower < om → (x : ℕ)
    → references_to cs2 rm om x + one (lower == x) ≡ references_to cs rm om x
references_merged cs cs2 os rm om upper lower can merges apart upper_less lower_less x =
    let tops = tally_same (λ r. is_over x (region_at cs r)) (λ r. is_over x (region_at cs2 r)) rm (λ r less. ap (λ f. is_over x (f r)) merges.regions) in
    let first = tally_put (λ o. is_backing x (shadow_at cs o)) (λ o. without o (lower == o)) om lower lower_less
    (λ o other. ap (without o) (other_test lower o other)) in
    let second = tally_put (λ o. without o (lower == o)) (λ o. is_backing x (shadow_at cs2 o)) om upper upper_less
    (λ o other. still o other (stands_now merges o)) in
    let gone : one (without lower (lower == lower)) ≡ 0 = ap (λ b. one (without lower b)) (same_test lower lower refl) in
    let was : one (without upper (lower == upper)) ≡ one (lower == x) = ap (λ b. one (without upper b)) (other_test lower upper (λ e. apart (sym e)))
    ∙ (ap (λ z. one (is_backing x z)) can.over ∙ ap (λ n. one (n == x)) can.under) in
    let now : one (is_backing x (shadow_at cs2 upper)) ≡ one (is_backing x (shadow_at cs lower)) = ap one
    (ap (is_backing x) (upper_joined upper (stands_now merges upper) refl) ∙ of_joined (shadow_at cs lower)) in
    omega (arith, tops, first, second, gone, was, now)
  where
    without : ℕ → Bool → Bool
    without o true = false
    without o false = is_backing x (shadow_at cs o)

    still : (o : ℕ) → (upper ≡ o → ⊥) → StandsNow upper lower can.link cs cs2 o → is_backing x (shadow_at cs2 o) ≡ without o (lower == o)
    still o other (IsUpper same is) = absurd (other same)
    still o other (IsLower above same is) = ap (is_backing x) is ∙ sym (ap (without o) (same_test lower o same))
    still o other (IsOther above below is) = ap (is_backing x) is ∙ sym (ap (without o) (other_test lower o below))

    of_joined : (found : Option ShadowRow) → is_backing x (joined can.link found) ≡ is_backing x found
    of_joined None = refl
    of_joined (Some low) = refl

-- the upper's link is the lower's, further on
joined_seen : (up low row : ShadowRow) (above below : Backing) → above ≡ record { backed = true; under = up.under.0; shift = up.shift }
    → below ≡ record { backed = true; under = low.under.0; shift = low.shift } → row ≡ record { under = low.under; shift = up.shift + low.shift }
    → joins true below above ≡ record { backed = true; under = row.under.0; shift = row.shift }
joined_seen up low row above below over under is =
    ap (λ (z : Backing). record { backed = z.backed; under = z.under; shift = z.shift + above.shift }) under
    ∙ (ap (λ (z : Backing). record { backed = true; under = low.under.0; shift = low.shift + z.shift }) over
    ∙ (ap (λ n. record { backed = true; under = low.under.0; shift = n }) sums
    ∙ sym (ap (λ (z : ShadowRow). record { backed = true; under = z.under.0; shift = z.shift }) is)))
  where
    sums : low.shift + up.shift ≡ up.shift + low.shift
    sums = omega arith

-- the upper object is known, and what stands under the two
upper_known : {copies : CopyTable} {cs : ChainTable} {os : ObjectTable} {upper lower : ℕ} (can : CanMerge copies cs os upper lower)
    → is_some (object_at os upper) ≡ true
upper_known can = ap is_some can.upper_known

-- what is referred to behind the merge was so before
referred_was : {copies : CopyTable} {upper lower : ℕ} {cs cs2 : ChainTable} {os os2 : ObjectTable} → MergesObjects upper lower cs cs2 copies os os2
    → (o : ℕ) → IsReferred os2 o
    → IsReferred os o
referred_was {lower = lower} {os = os} {os2 = os2} merges o referred =
    referred_before lower (record merges.can.lower_row { references = 0 }) os os2 merges.object
    (λ some. absurd (let bad : 0 < 0 = some in omega (arith, bad))) o referred

-- and the lower isn't
lower_unreferred : {copies : CopyTable} {upper lower : ℕ} {cs cs2 : ChainTable} {os os2 : ObjectTable} → MergesObjects upper lower cs cs2 copies os os2
    → (o : ℕ) → lower ≡ o
    → IsReferred os2 o → ⊥
lower_unreferred {lower = lower} {os = os} {os2 = os2} merges o same referred =
    elim (known_cases lower (record merges.can.lower_row { references = 0 }) os os2 merges.object o) [
      | inl this ↦
          let row = some_is (record merges.can.lower_row { references = 0 }) referred.row (sym this.1 ∙ referred.known) in
          let none : 0 ≡ referred.row.references = ap (λ z. z.references) row in
          let some = referred.some in
          omega (arith, none, some)
      | inr other ↦ other.0 same
    ]

-- the lower is referred to before
lower_referred : {copies : CopyTable} {cs : ChainTable} {os : ObjectTable} {upper lower : ℕ} (can : CanMerge copies cs os upper lower) → IsReferred os lower
lower_referred can = record { row = can.lower_row; known = can.lower_known; some = let one_is = can.sole in omega (arith, one_is) }

-- what stands on the upper's page fits, as on the lower's
fits_merged : {copies : CopyTable} {upper lower : ℕ} {cs cs2 : ChainTable} {os os2 : ObjectTable} → MergesObjects upper lower cs cs2 copies os os2
    → ChainsFit cs os → ChainsFit cs2 os2
fits_merged {upper = upper} {lower = lower} {cs = cs} {cs2 = cs2} {os = os} {os2 = os2} merges fits =
    fits_still cs2 os os2
    (same_pages os os2 lower merges.can.lower_row (record merges.can.lower_row { references = 0 }) merges.can.lower_known refl merges.object) (record {
      tops = λ r row found. fits.tops r row (sym (ap (λ f. f r) merges.chain.regions) ∙ found);
      unders = λ o row found. by o row found (stands_now merges.chain o);
    })
  where
    by : (o : ℕ) (row : ShadowRow) → shadow_at cs2 o ≡ Some row → StandsNow upper lower merges.can.link cs cs2 o
        → row.shift + object_pages os o ≤ object_pages os row.under.0
    by o row found (IsUpper same is) =
        let join = joined_some merges.can.link row (shadow_at cs lower) (sym is ∙ found) in
        let first = fits.unders upper merges.can.link merges.can.over in
        let second = fits.unders lower join.low join.below in
        let shift : row.shift ≡ merges.can.link.shift + join.low.shift = ap (λ (z : ShadowRow). z.shift) join.is in
        let under : object_pages os row.under.0 ≡ object_pages os join.low.under.0 = ap (λ (z : ShadowRow). object_pages os z.under.0) join.is in
        let middle : object_pages os merges.can.link.under.0 ≡ object_pages os lower = ap (object_pages os) merges.can.under in
        let top : object_pages os upper ≡ object_pages os o = ap (object_pages os) same in
        omega (arith, first, second, shift, under, middle, top)
    by o row found (IsLower above same is) = absurd (let bad : None ≡ Some row = sym is ∙ found in cc)
    by o row found (IsOther above below is) = fits.unders o row (sym is ∙ found)

-- a rank falls still
ranks_merged : {copies : CopyTable} {upper lower : ℕ} {cs cs2 : ChainTable} {os os2 : ObjectTable} → MergesObjects upper lower cs cs2 copies os os2
    → IsRanked cs → IsRanked cs2
ranks_merged {upper = upper} {lower = lower} {cs = cs} {cs2 = cs2} merges ranked = by (shadow_at cs lower) refl
  where
    others : (o : ℕ) (row : ShadowRow) → (upper ≡ o → ⊥) → shadow_at cs2 o ≡ Some row → shadow_at cs o ≡ Some row
    others o row other found = go (stands_now merges.chain o)
      where
        go : StandsNow upper lower merges.can.link cs cs2 o → shadow_at cs o ≡ Some row
        go (IsUpper same is) = absurd (other same)
        go (IsLower above same is) = absurd (let bad : None ≡ Some row = sym is ∙ found in cc)
        go (IsOther above below is) = sym is ∙ found

    here : shadow_at cs2 upper ≡ joined merges.can.link (shadow_at cs lower)
    here = upper_joined upper (stands_now merges.chain upper) refl

    by : (x : Option ShadowRow) → shadow_at cs lower ≡ x → IsRanked cs2
    by None none = ranked_fewer cs cs2 (λ o row found. elim (eqb_tells upper o) [
      | inl same ↦
          absurd (let bad : None ≡ Some row = sym (here ∙ ap (joined merges.can.link) none) ∙ (ap (shadow_at cs2) same.1 ∙ found) in cc)
      | inr other ↦ others o row other.1 found
    ]) ranked
    by (Some low) found =
        ranked_merged cs cs2 upper merges.can.link low (record { under = low.under; shift = merges.can.link.shift + low.shift }) merges.can.over
        (ap (shadow_at cs) merges.can.under ∙ found) refl (here ∙ ap (joined merges.can.link) found) others ranked

-- the lower has no reference any more, and what stood under it keeps that one
pub regions_merged : {copies : CopyTable} (header : Header) (past : List Event) (upper lower : ObjectId) (cs cs2 : ChainTable) (os os2 : ObjectTable)
    (ids : Ids) (rm om marked : ℕ)
    → MergesObjects upper.0 lower.0 cs cs2 copies os os2 → HasRegions cs os ids (λ q. region_of header q past) (λ q. backing_of header q past) rm om marked
    → HasRegions cs2 os2 ids (λ q. region_of header q (event.Merged upper lower ∷ past)) (λ q. backing_of header q (event.Merged upper lower ∷ past)) rm om
    marked
regions_merged {copies = copies} header past upper lower cs cs2 os os2 ids rm om marked merges has =
    record {
      region = has.region;
      object = has.object;
      marks = has.marks;
      few = has.few;
      rows = λ q row found. has.rows q row (region_was q ∙ found);
      shadows = λ o row found. shadows_now o row found (stands_now merges.chain o);
      bottoms = λ o referred none. bottoms_now o referred none (stands_now merges.chain o);
      unmade = λ q le. sym (region_was q) ∙ has.unmade q le;
      unknown = λ o le. unknown_still lower.0 new os os2 merges.object o (known_apart lower.0 o can.lower_row os can.lower_known (has.unknown o le))
          (has.unknown o le);
      tops = λ q row found. known_still lower.0 new os os2 merges.object row.top.0 (has.tops q row (region_was q ∙ found));
      unders =
          λ o row found. let both = unders_now o row found (stands_now merges.chain o) in
          (known_still lower.0 new os os2 merges.object o both.0, known_still lower.0 new os os2 merges.object row.under.0 both.1);
      ranked = ranks_merged merges has.ranked;
      fits = fits_merged merges has.fits;
      counts = counts_still lower.0 new os os2 (references_to cs rm om) (references_to cs2 rm om) merges.object its others has.counts;
    }
  where
    can : CanMerge copies cs os upper.0 lower.0
    can = merges.can

    new : ObjectRow
    new = record merges.can.lower_row { references = 0 }

    region_was : (q : ℕ) → region_at cs q ≡ region_at cs2 q
    region_was q = sym (ap (λ f. f q) merges.chain.regions)

    shadows_now : (o : ℕ) (row : ShadowRow) → shadow_at cs2 o ≡ Some row → StandsNow upper.0 lower.0 merges.can.link cs cs2 o
        → joins (o == upper.0) (backing_of header lower.0 past) (backing_of header o past) ≡ record { backed = true; under = row.under.0; shift = row.shift }
    shadows_now o row found (IsUpper same is) =
        let join = joined_some merges.can.link row (shadow_at cs lower.0) (sym is ∙ found) in
        ap (λ b. joins b (backing_of header lower.0 past) (backing_of header o past)) (same_test o upper.0 (sym same))
        ∙ joined_seen merges.can.link join.low row (backing_of header o past) (backing_of header lower.0 past)
        (has.shadows o merges.can.link (ap (shadow_at cs) (sym same) ∙ merges.can.over)) (has.shadows lower.0 join.low join.below) join.is
    shadows_now o row found (IsLower above same is) = absurd (let bad : None ≡ Some row = sym is ∙ found in cc)
    shadows_now o row found (IsOther above below is) =
        ap (λ b. joins b (backing_of header lower.0 past) (backing_of header o past)) (other_test o upper.0 (λ e. above (sym e)))
        ∙ has.shadows o row (sym is ∙ found)

    bottoms_now : (o : ℕ) → IsReferred os2 o → shadow_at cs2 o ≡ None → StandsNow upper.0 lower.0 merges.can.link cs cs2 o
        → (joins (o == upper.0) (backing_of header lower.0 past) (backing_of header o past)).backed ≡ false
    bottoms_now o referred none (IsUpper same is) =
        ap (λ b. (joins b (backing_of header lower.0 past) (backing_of header o past)).backed) (same_test o upper.0 (sym same))
        ∙ has.bottoms lower.0 (lower_referred merges.can) (joined_none merges.can.link (shadow_at cs lower.0) (sym is ∙ none))
    bottoms_now o referred none (IsLower above same is) = absurd (lower_unreferred merges o same referred)
    bottoms_now o referred none (IsOther above below is) =
        ap (λ b. (joins b (backing_of header lower.0 past) (backing_of header o past)).backed) (other_test o upper.0 (λ e. above (sym e)))
        ∙ has.bottoms o (referred_was merges o referred) (sym is ∙ none)

    unders_now : (o : ℕ) (row : ShadowRow) → shadow_at cs2 o ≡ Some row → StandsNow upper.0 lower.0 merges.can.link cs cs2 o
        → (is_some (object_at os o) ≡ true) × (is_some (object_at os row.under.0) ≡ true)
    unders_now o row found (IsUpper same is) =
        let join = joined_some merges.can.link row (shadow_at cs lower.0) (sym is ∙ found) in (
          ap (λ z. is_some (object_at os z)) (sym same) ∙ upper_known merges.can,
          ap (λ (z : ShadowRow). is_some (object_at os z.under.0)) join.is ∙ (has.unders lower.0 join.low join.below).1,
        )
    unders_now o row found (IsLower above same is) = absurd (let bad : None ≡ Some row = sym is ∙ found in cc)
    unders_now o row found (IsOther above below is) = has.unders o row (sym is ∙ found)

    fewer : (x : ℕ) → references_to cs2 rm om x + one (lower.0 == x) ≡ references_to cs rm om x
    fewer x =
        references_merged cs cs2 os rm om upper.0 lower.0 merges.can merges.chain (merged_apart has.ranked merges.can)
        (small_shadow has upper.0 merges.can.link merges.can.over)
        (below_all (object_at os) om lower.0 merges.can.lower_row has.unknown merges.can.lower_known) x

    its : 0 ≡ references_to cs2 rm om lower.0 + one merges.can.lower_row.cache
    its =
        let before = has.counts lower.0 merges.can.lower_row merges.can.lower_known in
        let now = fewer lower.0 in
        let own = one_own lower.0 in
        let sole = merges.can.sole in
        omega (arith, before, now, own, sole)

    others : (x : ℕ) → (lower.0 ≡ x → ⊥) → references_to cs2 rm om x ≡ references_to cs rm om x
    others x apart = let now = fewer x in let none = one_other lower.0 x apart in omega (arith, now, none)

-- the kinds of objects are as they were
pub kinds_merged : {copies : CopyTable} (header : Header) (upper lower : ℕ) (cs cs2 : ChainTable) (os os2 : ObjectTable)
    → MergesObjects upper lower cs cs2 copies os os2
    → HasKinds header os cs → HasKinds header os2 cs2
kinds_merged header upper lower cs cs2 os os2 merges has =
    record {
      kinds = put.kinds;
      present = put.present;
      tops = λ r row least found. has.tops r row least (sym (ap (λ f. f r) merges.chain.regions) ∙ found);
      unders = λ o row found. by o row found (stands_now merges.chain o);
    }
  where
    some : 0 < merges.can.lower_row.references
    some = let is = merges.can.sole in omega (arith, is)

    put : HasKinds header os2 cs
    put =
        kinds_put header lower (record merges.can.lower_row { references = 0 }) os os2 cs merges.object merges.marks
        (kind_referred header lower merges.can.lower_row 0 some (has.kinds lower merges.can.lower_row merges.can.lower_known)) has

    by : (o : ℕ) (row : ShadowRow) → shadow_at cs2 o ≡ Some row → StandsNow upper lower merges.can.link cs cs2 o → IsUnderKind header row.under.0
    by o row found (IsUpper same is) =
        let join = joined_some merges.can.link row (shadow_at cs lower) (sym is ∙ found) in
        subst (λ (z : ShadowRow). IsUnderKind header z.under.0) (sym join.is) (has.unders lower join.low join.below)
    by o row found (IsLower above same is) = absurd (let bad : None ≡ Some row = sym is ∙ found in cc)
    by o row found (IsOther above below is) = has.unders o row (sym is ∙ found)

-- an object that is referred to and never had a control has no pager
pub never_told : (header : Header) (o : ℕ) (known : ObjectRow) → named header ≤ o → IsOfKind header o known → 0 < known.references → known.control ≡ 0
    → has_pager known.state ≡ false
never_told header o known least is some never = by (has_pager known.state) refl
  where
    by : (b : Bool) → has_pager known.state ≡ b → b ≡ false
    by false told = refl
    by true told =
        let number = (is.temporary least).number some in
        absurd (let bad : 0 ≡ 1 = sym never ∙ (number ∙ ap (λ z. if z then 1 else 0) told) in omega (arith, bad))

-- the lower is temporary: a declared object had a control
pub lower_temporary : {copies : CopyTable} {header : Header} {cs : ChainTable} {os : ObjectTable} {upper lower : ℕ} → HasKinds header os cs
    → CanMerge copies cs os upper lower → named header ≤ lower
lower_temporary {header = header} {lower = lower} has can = elim (kind_cases header lower) [
  | inl less ↦
      let number = ((has.kinds lower can.lower_row can.lower_known).declared less).number in
      let never = can.lower_never in
      absurd (omega (arith, number, never))
  | inr least ↦ least
]

-- so no control of the lower lives, nor is a pager of it ready
pub lower_quiet : {copies : CopyTable} {header : Header} {cs : ChainTable} {os : ObjectTable} {upper lower : ℕ} → HasKinds header os cs
    → (can : CanMerge copies cs os upper lower)
    → has_pager can.lower_row.state ≡ false
lower_quiet {header = header} {lower = lower} has can =
    never_told header lower can.lower_row (lower_temporary has can)
    (has.kinds lower can.lower_row can.lower_known) (let one_is = can.sole in omega (arith, one_is)) can.lower_never

-- nor of the upper
pub upper_quiet : {copies : CopyTable} {header : Header} {cs : ChainTable} {os : ObjectTable} {upper lower : ℕ} → HasKinds header os cs → named header ≤ upper
    → IsReferred os upper → (can : CanMerge copies cs os upper lower) → has_pager can.upper_row.state ≡ false
upper_quiet {header = header} {os = os} {upper = upper} has least referred can =
    never_told header upper can.upper_row least (has.kinds upper can.upper_row can.upper_known)
    (subst (λ (z : ObjectRow). 0 < z.references) (some_is referred.row can.upper_row (sym referred.known ∙ can.upper_known)) referred.some)
    can.upper_never

-- controls are what they were
pub controls_merged : {copies : CopyTable} {declared h : ℕ} {last_at : ℕ → ℕ} {live_at : ℕ → Option ℕ} {ready_at : ℕ → Bool} {home_at : ℕ → Option ℕ}
    (upper lower : ℕ)
    (cs cs2 : ChainTable) (os os2 : ObjectTable) → MergesObjects upper lower cs cs2 copies os os2 → HasControls declared h os last_at live_at ready_at home_at
    → HasControls declared h os2 last_at live_at ready_at home_at
controls_merged {declared = declared} upper lower cs cs2 os os2 merges has =
    record {
      last = λ o. has.last o ∙ sym (known_same last_in (λ row. refl) o);
      live = λ o. has.live o ∙ sym (known_same live_in (λ row. refl) o);
      ready = λ o control lives. has.ready o control lives ∙ sym (known_same ready_in (λ row. refl) o);
      all_live = record {
        at = λ o row found told. let was = row_was o row found in (ap (λ z. z.live) was.2) ∙ has.all_live.at o was.0 was.1
            (λ without. told (ap (λ z. z.state) was.2 ∙ without));
      };
      numbers = record {
        at = λ o row found. let was = row_was o row found in subst (λ (z : ℕ). z < 2 ^ 32 - 1) (sym (ap (λ z. z.control) was.2))
            (has.numbers.at o was.0 was.1);
      };
      ended = λ o row found lives without. let was = row_was o row found in
          has.ended o was.0 was.1 (sym (ap (λ z. z.live) was.2) ∙ lives) (sym (ap (λ z. z.state) was.2) ∙ without);
      home = λ o row least found. let was = row_was o row found in has.home o was.0 least was.1;
    }
  where
    known_same : {A : Type 0} (f : Option ObjectRow → A)
        → ((row : ObjectRow) → f (Some (record row { references = 0 })) ≡ f (Some row)) → (o : ℕ) → f (object_at os2 o) ≡ f (object_at os o)
    known_same f same o = elim (known_cases lower (record merges.can.lower_row { references = 0 }) os os2 merges.object o) [
      | inl this ↦ ap f this.1 ∙ (same merges.can.lower_row ∙ sym (ap f (ap (object_at os) (sym this.0) ∙ merges.can.lower_known)))
      | inr other ↦ ap f other.1
    ]

    row_was : (o : ℕ) (row : ObjectRow) → object_at os2 o ≡ Some row
        → (was : ObjectRow) × (object_at os o ≡ Some was) × (row ≡ record was { references = row.references })
    row_was o row found = elim (known_cases lower (record merges.can.lower_row { references = 0 }) os os2 merges.object o) [
      | inl this ↦
          let its : record merges.can.lower_row { references = 0 } ≡ row = some_is _ row (sym this.1 ∙ found) in (
            merges.can.lower_row,
            ap (object_at os) (sym this.0) ∙ merges.can.lower_known,
            subst (λ (z : ObjectRow). z ≡ record merges.can.lower_row { references = z.references }) its refl,
          )
      | inr other ↦ (row, sym other.1 ∙ found, refl)
    ]

-- regions are on their hosts still
pub homes_merged : {copies : CopyTable} (header : Header) (h upper lower : ℕ) (cs cs2 : ChainTable) (os os2 : ObjectTable) (home_from : ℕ → Option ℕ)
    → MergesObjects upper lower cs cs2 copies os os2 → HasHomes header h cs home_from → HasHomes header h cs2 home_from
homes_merged header h upper lower cs cs2 os os2 home_from merges homes r row paged found = homes r row paged (sym (ap (λ f. f r) merges.chain.regions) ∙ found)

-- the same files are known
pub files_merged : {copies : CopyTable} (header : Header) (h upper lower : ℕ) (cs cs2 : ChainTable) (os os2 : ObjectTable) (home_from : ℕ → Option ℕ)
    → MergesObjects upper lower cs cs2 copies os os2 → KnowsFiles header h os home_from → KnowsFiles header h os2 home_from
files_merged header h upper lower cs cs2 os os2 home_from merges files =
    files_put header h lower merges.can.lower_row (record merges.can.lower_row { references = 0 }) os os2 home_from merges.can.lower_known merges.object files

-- objects have as many pages
pub pages_merged : {copies : CopyTable} (least upper lower : ℕ) (cs cs2 : ChainTable) (os os2 : ObjectTable) (pages_from : ℕ → ℕ)
    → MergesObjects upper lower cs cs2 copies os os2
    → KnowsPages least os pages_from → KnowsPages least os2 pages_from
pages_merged least upper lower cs cs2 os os2 pages_from merges has =
    sizes_put least lower merges.can.lower_row (record merges.can.lower_row { references = 0 }) os os2 pages_from merges.can.lower_known refl merges.object has

-- What can be merged behind it could be before, into another object it may be, and isn't the lower, which has no reference any more.
pub record CouldMerge (chains : ChainTable) (copies : CopyTable) (objects : ObjectTable) (gone lower : ℕ) : Type 0 where
  pub upper : ℕ
  pub can : CanMerge copies chains objects upper lower
  pub other : gone ≡ lower → ⊥

pub could_merge : {copies : CopyTable} {upper lower : ℕ} {cs cs2 : ChainTable} {os os2 : ObjectTable} → MergesObjects upper lower cs cs2 copies os os2
    → (u l : ℕ) → CanMerge copies cs2 os2 u l → CouldMerge cs copies os lower l
could_merge {copies = copies} {upper = upper} {lower = lower} {cs = cs} {cs2 = cs2} {os = os} {os2 = os2} merges u l can = by (stands_now merges.chain u)
  where
    apart : lower ≡ l → ⊥
    apart same = elim (known_cases lower (record merges.can.lower_row { references = 0 }) os os2 merges.object l) [
      | inl this ↦
          let none : 0 ≡ can.lower_row.references = ap (λ (z : ObjectRow). z.references)
          (some_is (record merges.can.lower_row { references = 0 }) can.lower_row (sym this.1 ∙ can.lower_known)) in
          let sole = can.sole in
          omega (arith, none, sole)
      | inr other ↦ other.0 same
    ]

    was : (o : ℕ) (row : ObjectRow) → (lower ≡ o → ⊥) → object_at os2 o ≡ Some row → object_at os o ≡ Some row
    was o row other found = elim (known_cases lower (record merges.can.lower_row { references = 0 }) os os2 merges.object o) [
      | inl this ↦ absurd (other this.0)
      | inr that ↦ sym that.1 ∙ found
    ]

    by : StandsNow upper lower merges.can.link cs cs2 u → CouldMerge cs copies os lower l
    by (IsUpper same is) =
        let join = joined_some merges.can.link can.link (shadow_at cs lower) (sym is ∙ can.over) in
        record {
          upper = lower;
          can = record {
            link = join.low;
            over = join.below;
            under = sym (ap (λ (z : ShadowRow). z.under.0) join.is) ∙ can.under;
            upper_row = merges.can.lower_row;
            upper_known = merges.can.lower_known;
            lower_row = can.lower_row;
            lower_known = was l can.lower_row apart can.lower_known;
            sole = can.sole;
            upper_never = merges.can.lower_never;
            lower_never = can.lower_never;
            plain = can.plain;
          };
          other = apart;
        }
    by (IsLower above same is) = absurd (let bad : None ≡ Some can.link = sym is ∙ can.over in cc)
    by (IsOther above below is) = record {
      upper = u;
      can = record {
        link = can.link;
        over = sym is ∙ can.over;
        under = can.under;
        upper_row = can.upper_row;
        upper_known = was u can.upper_row below can.upper_known;
        lower_row = can.lower_row;
        lower_known = was l can.lower_row apart can.lower_known;
        sole = can.sole;
        upper_never = can.upper_never;
        lower_never = can.lower_never;
        plain = can.plain;
      };
      other = apart;
    }
