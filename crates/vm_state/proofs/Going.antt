-- How the regions and objects of a host go on, where a region goes, or what stood under an object: what it was over has one reference less.
use Rattle.std.proofs.Common.{◌≡◌, ℕ, ◌+◌, ◌<◌, ◌==◌, refl, ap, sym, ◌∙◌, arith, Some, None, inl, inr}
use Rattle.std.proofs.lemmas.Bool.Decides.{eqb_tells}
use Rattle.vm_model.specs.Regions.{Backing, Region}
use Rattle.vm_objects.specs.Objects.{ObjectTable, PutsObject, object_at}
use Rattle.vm_objects.specs.declared.row.ObjectRow.{ObjectRow}
use Rattle.vm_parts.proofs.Fitting.{same_pages}
use Rattle.vm_parts.proofs.Rows.{one_case, some_is}
use Rattle.vm_parts.specs.Changes.{one}
use Rattle.vm_shadow.proofs.Ranks.{ranked_dropped, ranked_same}
use Rattle.vm_shadow.specs.Chains.{ChainTable, DropsShadow, PutsRegion, region_at, shadow_at}
use Rattle.vm_shadow.specs.declared.ids.Ids.{Ids}
use Rattle.vm_shadow.specs.declared.region_row.RegionRow.{RegionRow}
use Rattle.vm_shadow.specs.declared.shadow_row.ShadowRow.{ShadowRow}
use Rattle.vm_state.proofs.Knowing.{counts_still, fits_still, known_apart, known_still, referred_before, unknown_still}
use Rattle.vm_state.proofs.Referring.{below_all}
use Rattle.vm_state.proofs.Counting.{references_dropped, references_gone}
use Rattle.vm_state.specs.References.{references_to}
use Rattle.vm_state.specs.Stands.{HasRegions}
use Rattle.vm_terminate.specs.Finishes.{IsReferred}

pub one_own : (n : ℕ) → one (n == n) ≡ 1
one_own n = elim (eqb_tells n n) [ inl same ↦ ap one same.0 | inr apart ↦ absurd (apart.1 refl) ]

pub one_other : (n m : ℕ) → (n ≡ m → ⊥) → one (n == m) ≡ 0
one_other n m apart = elim (eqb_tells n m) [ inl same ↦ absurd (apart same.1) | inr other ↦ ap one other.0 ]

-- the row of another region than the one that went
region_before : (r : ℕ) (cs cs2 : ChainTable) → PutsRegion r None cs cs2 → (q : ℕ) (row : RegionRow) → region_at cs2 q ≡ Some row → region_at cs q ≡ Some row
region_before r cs cs2 put q row found = elim (one_case r q None (region_at cs q) (region_at cs2 q) (put.at q)) [
  | inl this ↦ absurd (let bad : None ≡ Some row = sym this.1 ∙ found in cc)
  | inr other ↦ sym other.1 ∙ found
]

-- the row of another shadow than the one that went
shadow_before : (o : ℕ) (cs cs2 : ChainTable) → DropsShadow o cs cs2 → (q : ℕ) (row : ShadowRow) → shadow_at cs2 q ≡ Some row → shadow_at cs q ≡ Some row
shadow_before o cs cs2 drop q row found = elim (one_case o q None (shadow_at cs q) (shadow_at cs2 q) (drop.at q)) [
  | inl this ↦ absurd (let bad : None ≡ Some row = sym this.1 ∙ found in cc)
  | inr other ↦ sym other.1 ∙ found
]

-- a region goes, and its top has one reference less
pub regions_gone : (r left : ℕ) (row : RegionRow) (known : ObjectRow) (cs cs2 : ChainTable) (os os2 : ObjectTable) (ids : Ids) (region_from : ℕ → Region)
    (backing_from : ℕ → Backing) (rm om marked : ℕ)
    → region_at cs r ≡ Some row → PutsRegion r None cs cs2 → object_at os row.top.0 ≡ Some known → left + 1 ≡ known.references
    → PutsObject row.top.0 (Some (record known { references = left })) os os2
    → HasRegions cs os ids region_from backing_from rm om marked → HasRegions cs2 os2 ids region_from backing_from rm om marked
regions_gone r left row known cs cs2 os os2 ids region_from backing_from rm om marked there put found less putting has =
    record {
      region = has.region;
      object = has.object;
      marks = has.marks;
      few = has.few;
      rows = λ q region is. has.rows q region (region_before r cs cs2 put q region is);
      shadows = λ o shadow is. has.shadows o shadow (still o ∙ is);
      ranked = ranked_same cs cs2 (λ o. sym (still o)) has.ranked;
      bottoms = λ o referred none. has.bottoms o (referred_before top new os os2 putting was o referred) (still o ∙ none);
      unmade = λ q le. elim (one_case r q None (region_at cs q) (region_at cs2 q) (put.at q)) [ inl this ↦ this.1 | inr other ↦ other.1 ∙ has.unmade q le ];
      unknown = λ o le. unknown_still top new os os2 putting o (known_apart top o known os found (has.unknown o le)) (has.unknown o le);
      tops = λ q region is. known_still top new os os2 putting region.top.0 (has.tops q region (region_before r cs cs2 put q region is));
      unders =
          λ o shadow is. let both = has.unders o shadow (still o ∙ is) in (
            known_still top new os os2 putting o both.0,
            known_still top new os os2 putting shadow.under.0 both.1,
          );
      fits = fits_still cs2 os os2 (same_pages os os2 top known new found refl putting) (record {
        tops = λ q region is. has.fits.tops q region (region_before r cs cs2 put q region is);
        unders = λ o shadow is. has.fits.unders o shadow (still o ∙ is);
      });
      counts = counts_still top new os os2 (references_to cs rm om) (references_to cs2 rm om) putting its others has.counts;
    }
  where
    top : ℕ
    top = row.top.0

    new : ObjectRow
    new = record known { references = left }

    some : 0 < known.references
    some = omega (arith, less)

    was : 0 < new.references → IsReferred os row.top.0
    was more = record { row = known; known = found; some = some }

    still : (o : ℕ) → shadow_at cs o ≡ shadow_at cs2 o
    still o = sym (ap (λ f. f o) put.shadows)

    fewer : (x : ℕ) → references_to cs2 rm om x + one (row.top.0 == x) ≡ references_to cs rm om x
    fewer x = references_gone cs cs2 rm om r row there (below_all (region_at cs) rm r row has.unmade there) put x

    its : left ≡ references_to cs2 rm om row.top.0 + one known.cache
    its = let before = has.counts row.top.0 known found in let now = fewer row.top.0 in let own = one_own row.top.0 in omega (arith, before, now, own, less)

    others : (x : ℕ) → (row.top.0 ≡ x → ⊥) → references_to cs2 rm om x ≡ references_to cs rm om x
    others x apart = let now = fewer x in let none = one_other row.top.0 x apart in omega (arith, now, none)

-- what stood under an object to which nothing refers goes, and has one reference less
pub regions_dropped : (o left : ℕ) (row : ShadowRow) (known0 known : ObjectRow) (cs cs2 : ChainTable) (os os2 : ObjectTable) (ids : Ids)
    (region_from : ℕ → Region) (backing_from : ℕ → Backing) (rm om marked : ℕ)
    → shadow_at cs o ≡ Some row → object_at os o ≡ Some known0 → known0.references ≡ 0 → DropsShadow o cs cs2 → object_at os row.under.0 ≡ Some known
    → left + 1 ≡ known.references
    → PutsObject row.under.0 (Some (record known { references = left })) os os2
    → HasRegions cs os ids region_from backing_from rm om marked → HasRegions cs2 os2 ids region_from backing_from rm om marked
regions_dropped o left row known0 known cs cs2 os os2 ids region_from backing_from rm om marked there own none drop found less putting has =
    record {
      region = has.region;
      object = has.object;
      marks = has.marks;
      few = has.few;
      rows = λ q region is. has.rows q region (still q ∙ is);
      shadows = λ x shadow is. has.shadows x shadow (shadow_before o cs cs2 drop x shadow is);
      ranked = ranked_dropped cs cs2 o drop.at has.ranked;
      bottoms =
          λ x referred bare. let before = referred_before under new os os2 putting was x referred in elim
          (one_case o x None (shadow_at cs x) (shadow_at cs2 x) (drop.at x)) [
            | inl this ↦ absurd (unreferred x this.0 before)
            | inr other ↦ has.bottoms x before (sym other.1 ∙ bare)
          ];
      unmade = λ q le. sym (still q) ∙ has.unmade q le;
      unknown = λ x le. unknown_still under new os os2 putting x (known_apart under x known os found (has.unknown x le)) (has.unknown x le);
      tops = λ q region is. known_still under new os os2 putting region.top.0 (has.tops q region (still q ∙ is));
      unders =
          λ x shadow is. let both = has.unders x shadow (shadow_before o cs cs2 drop x shadow is) in (
            known_still under new os os2 putting x both.0,
            known_still under new os os2 putting shadow.under.0 both.1,
          );
      fits = fits_still cs2 os os2 (same_pages os os2 under known new found refl putting) (record {
        tops = λ q region is. has.fits.tops q region (still q ∙ is);
        unders = λ x shadow is. has.fits.unders x shadow (shadow_before o cs cs2 drop x shadow is);
      });
      counts = counts_still under new os os2 (references_to cs rm om) (references_to cs2 rm om) putting its others has.counts;
    }
  where
    under : ℕ
    under = row.under.0

    new : ObjectRow
    new = record known { references = left }

    some : 0 < known.references
    some = omega (arith, less)

    was : 0 < new.references → IsReferred os row.under.0
    was more = record { row = known; known = found; some = some }

    still : (q : ℕ) → region_at cs q ≡ region_at cs2 q
    still q = sym (ap (λ f. f q) drop.regions)

    unreferred : (x : ℕ) → o ≡ x → IsReferred os x → ⊥
    unreferred x same is =
        let its : known0 ≡ is.row = some_is known0 is.row (sym own ∙ (ap (object_at os) same ∙ is.known)) in
        let more = is.some in
        let zero_now : is.row.references ≡ 0 = ap (λ z. z.references) (sym its) ∙ none in
        omega (arith, more, zero_now)

    fewer : (x : ℕ) → references_to cs2 rm om x + one (row.under.0 == x) ≡ references_to cs rm om x
    fewer x = references_dropped cs cs2 rm om o row there (below_all (object_at os) om o known0 has.unknown own) drop x

    its : left ≡ references_to cs2 rm om row.under.0 + one known.cache
    its =
        let before = has.counts row.under.0 known found in let now = fewer row.under.0 in let mine = one_own row.under.0 in omega
        (arith, before, now, mine, less)

    others : (x : ℕ) → (row.under.0 ≡ x → ⊥) → references_to cs2 rm om x ≡ references_to cs rm om x
    others x apart = let now = fewer x in let no = one_other row.under.0 x apart in omega (arith, now, no)
