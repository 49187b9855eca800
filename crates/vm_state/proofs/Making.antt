-- How the regions and objects of a host go on, where a region is made over a new object.
use Rattle.std.proofs.Common.{◌≡◌, ℕ, ◌+◌, ◌<◌, ◌≤◌, ◌==◌, true, false, ap, sym, ◌∙◌, subst, arith, Some, None, List, ◌∷◌, inl, inr}
use Rattle.std.specs.Prelude.{◌⊎◌, is_some}
use Rattle.vm_base.specs.declared.ids.ObjectId.{ObjectId}
use Rattle.vm_base.specs.declared.ids.ObjectKind.TheVariants.{Temp}
use Rattle.vm_base.specs.declared.ids.RegionId.{RegionId}
use Rattle.vm_base.specs.Limits.{most_objects}
use Rattle.vm_model.specs.Regions.{backing_of, made, region_of}
use Rattle.vm_model.specs.declared.event.Event.{Event}
use Rattle.vm_model.specs.declared.event.Event.TheVariants as event
use Rattle.vm_model.specs.declared.script.Header.{Header}
use Rattle.vm_objects.specs.Objects.{ObjectTable, PutsObject, object_at}
use Rattle.vm_objects.specs.declared.row.ObjectRow.{ObjectRow}
use Rattle.vm_objects.specs.declared.row.PagerState.TheVariants.{Without}
use Rattle.vm_parts.proofs.Rows.{one_case, some_is}
use Rattle.vm_parts.specs.Changes.{one}
use Rattle.vm_parts.specs.Fits.{object_pages}
use Rattle.vm_shadow.proofs.Ranks.{ranked_same}
use Rattle.vm_shadow.specs.Chains.{ChainTable, PutsRegion, region_at, shadow_at}
use Rattle.vm_shadow.specs.declared.ids.Ids.{Ids}
use Rattle.vm_shadow.specs.declared.region_row.RegionRow.{RegionRow}
use Rattle.vm_state.proofs.Fresh.{other_test, pages_known, pages_put, same_test, seen, unreferenced, unshadowed}
use Rattle.vm_state.proofs.Going.{one_other, one_own}
use Rattle.vm_state.proofs.Knowing.{counts_still, known_cases, known_put, known_still, referred_other, unknown_still}
use Rattle.vm_state.proofs.Counting.{references_made}
use Rattle.vm_state.specs.References.{references_to}
use Rattle.vm_state.specs.Stands.{HasRegions}

-- a region is made over a new object; the history has nothing under that yet
pub regions_made : (header : Header) (past : List Event) (r : RegionId) (o : ObjectId) (row : RegionRow) (known : ObjectRow) (pages : ℕ) (cs cs2 : ChainTable)
    (os os2 : ObjectTable) (ids : Ids) (rm om marked : ℕ)
    → r.0 ≡ rm → o.0 ≡ om → om + marked < most_objects → (backing_of header om past).backed ≡ false
    → row ≡ record { top = o; shift = 0; pages = pages; marked = false; entries = 1 }
    → known ≡ record { kind = Temp; pages = pages; state = Without; control = 0; live = false; cache = false; references = 1 }
    → PutsRegion r.0 (Some row) cs cs2 → PutsObject o.0 (Some known) os os2
    → HasRegions cs os ids (λ q. region_of header q past) (λ q. backing_of header q past) rm om marked
    → HasRegions cs2 os2 (record ids { next_region = ids.next_region + 1; next_object = ids.next_object + 1 })
    (λ q. region_of header q (event.RegionMade r o pages ∷ past)) (λ q. backing_of header q (event.RegionMade r o pages ∷ past)) (rm + 1) (om + 1) marked
regions_made header past r o row known pages cs cs2 os os2 ids rm om marked next next_too room fresh is_row is_known put putting has =
    record {
      region = ap (λ z. z + 1) has.region;
      object = ap (λ z. z + 1) has.object;
      marks = has.marks;
      few = omega (arith, room);
      rows = λ q region found. elim (cases q) [
        | inl this ↦
            let test : (q == r.0) ≡ true = same_test q r.0 (sym this.0) in
            let its : region ≡ record { top = o; shift = 0; pages = pages; marked = false; entries = 1 } = some_is region row (sym found ∙ this.1) ∙ is_row in
            ap (λ b. made b o.0 pages (region_of header q past)) test ∙ sym (ap seen its)
        | inr other ↦
            let test : (q == r.0) ≡ false = other_test q r.0 (λ e. other.0 (sym e)) in
            ap (λ b. made b o.0 pages (region_of header q past)) test ∙ has.rows q region (sym other.1 ∙ found)
      ];
      shadows = λ q shadow found. has.shadows q shadow (still q ∙ found);
      ranked = ranked_same cs cs2 (λ q. sym (still q)) has.ranked;
      bottoms = λ q referred none. elim (known_cases o.0 known os os2 putting q) [
        | inl this ↦ ap (λ z. (backing_of header z past).backed) (sym this.0 ∙ next_too) ∙ fresh
        | inr other ↦ has.bottoms q (referred_other o.0 known os os2 putting q other.0 referred) (still q ∙ none)
      ];
      unmade = λ q le. elim (cases q) [
        | inl this ↦ absurd (let a = this.0 in omega (arith, a, next, le))
        | inr other ↦ other.1 ∙ has.unmade q (omega (arith, le))
      ];
      unknown = λ q le. unknown_still o.0 known os os2 putting q (λ e. omega (arith, e, next_too, le)) (has.unknown q (omega (arith, le)));
      tops = λ q region found. elim (cases q) [
        | inl this ↦
            let its : region.top ≡ o = ap (λ z. z.top) (some_is region row (sym found ∙ this.1) ∙ is_row) in
            ap (λ z. is_some (object_at os2 z.0)) its ∙ ap is_some (known_put o.0 known os os2 putting)
        | inr other ↦ known_still o.0 known os os2 putting region.top.0 (has.tops q region (sym other.1 ∙ found))
      ];
      unders =
          λ q shadow found. let both = has.unders q shadow (still q ∙ found) in (
            known_still o.0 known os os2 putting q both.0,
            known_still o.0 known os os2 putting shadow.under.0 both.1,
          );
      fits = record {
        tops = λ q region found. elim (cases q) [
          | inl this ↦
              let its : region ≡ record { top = o; shift = 0; pages = pages; marked = false; entries = 1 } = some_is region row (sym found ∙ this.1) ∙ is_row in
              let all : object_pages os2 o.0 ≡ pages = pages_put o.0 known os os2 putting ∙ ap (λ z. z.pages) is_known in
              subst (λ (z : RegionRow). z.shift + z.pages ≤ object_pages os2 z.top.0) (sym its) (subst (λ (z : ℕ). 0 + pages ≤ z) (sym all) (omega arith))
          | inr other ↦
              let before : region_at cs q ≡ Some region = sym other.1 ∙ found in
              subst (λ (z : ℕ). region.shift + region.pages ≤ z) (sym (pages_known o.0 known os os2 putting none region.top.0 (has.tops q region before)))
              (has.fits.tops q region before)
        ];
        unders = λ q shadow found.
            let before : shadow_at cs q ≡ Some shadow = still q ∙ found in
            let both = has.unders q shadow before in
            let le = has.fits.unders q shadow before in
            let a = pages_known o.0 known os os2 putting none q both.0 in
            let b = pages_known o.0 known os os2 putting none shadow.under.0 both.1 in
            omega (arith, le, a, b);
      };
      counts = counts_still o.0 known os os2 (references_to cs rm om) (references_to cs2 (rm + 1) (om + 1)) putting its_own others has.counts;
    }
  where
    cases : (q : ℕ) → ((r.0 ≡ q) × (region_at cs2 q ≡ Some row)) ⊎ ((r.0 ≡ q → ⊥) × (region_at cs2 q ≡ region_at cs q))
    cases q = one_case r.0 q (Some row) (region_at cs q) (region_at cs2 q) (put.at q)

    still : (q : ℕ) → shadow_at cs q ≡ shadow_at cs2 q
    still q = sym (ap (λ f. f q) put.shadows)

    none_om : object_at os om ≡ None
    none_om = has.unknown om (omega arith)

    none : object_at os o.0 ≡ None
    none = ap (object_at os) next_too ∙ none_om

    more : (x : ℕ) → references_to cs2 (rm + 1) (om + 1) x ≡ references_to cs rm om x + one (row.top.0 == x)
    more x =
        references_made cs cs2 rm om row (unshadowed cs os ids _ _ rm om marked om has none_om) (subst (λ (z : ℕ). PutsRegion z (Some row) cs cs2) next put) x

    top_is : row.top.0 ≡ o.0
    top_is = ap (λ z. z.top.0) is_row

    its_own : known.references ≡ references_to cs2 (rm + 1) (om + 1) o.0 + one known.cache
    its_own =
        let now = more o.0 in
        let was = unreferenced cs os ids _ _ rm om marked o.0 has none in
        let own : one (row.top.0 == o.0) ≡ 1 = ap (λ z. one (z == o.0)) top_is ∙ one_own o.0 in
        let count : known.references ≡ 1 = ap (λ z. z.references) is_known in
        let none_more : one known.cache ≡ 0 = ap (λ z. one z.cache) is_known in
        omega (arith, now, was, own, count, none_more)

    others : (x : ℕ) → (o.0 ≡ x → ⊥) → references_to cs2 (rm + 1) (om + 1) x ≡ references_to cs rm om x
    others x apart = let now = more x in let no : one (row.top.0 == x) ≡ 0 = ap (λ z. one (z == x)) top_is ∙ one_other o.0 x apart in omega (arith, now, no)
