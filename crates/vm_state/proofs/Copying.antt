-- How the regions and objects of a host go on, where a region is copied.
use Rattle.std.proofs.Common.{◌≡◌, ℕ, ◌+◌, ◌<◌, ◌≤◌, ◌==◌, true, false, refl, ap, sym, ◌∙◌, subst, arith, Some, List, ◌∷◌, inl, inr}
use Rattle.std.proofs.lemmas.Bool.Decides.{eqb_tells}
use Rattle.std.specs.Prelude.{if◌then◌else◌, ◌⊎◌, IsSome}
use Rattle.vm_base.specs.declared.ids.ObjectId.{ObjectId}
use Rattle.vm_base.specs.declared.ids.RegionId.{RegionId}
use Rattle.vm_base.specs.Limits.{most_objects}
use Rattle.vm_model.specs.Regions.{backing_of, copied, region_of}
use Rattle.vm_model.specs.declared.event.Event.{Event}
use Rattle.vm_model.specs.declared.event.Event.TheVariants as event
use Rattle.vm_model.specs.declared.script.Header.{Header}
use Rattle.vm_objects.specs.Objects.{ObjectTable, PutsObject, object_at}
use Rattle.vm_objects.specs.declared.row.ObjectRow.{ObjectRow}
use Rattle.vm_parts.proofs.Fitting.{same_pages}
use Rattle.vm_parts.proofs.Rows.{if_true, one_case, some_is}
use Rattle.vm_parts.specs.Changes.{one}
use Rattle.vm_parts.specs.Fits.{object_pages}
use Rattle.vm_shadow.proofs.Ranks.{ranked_same}
use Rattle.vm_shadow.specs.Chains.{ChainTable, CopiesRegion, copy_of, region_at, shadow_at}
use Rattle.vm_shadow.specs.declared.ids.Ids.{Ids}
use Rattle.vm_shadow.specs.declared.region_row.RegionRow.{RegionRow}
use Rattle.vm_state.proofs.Fresh.{other_test, same_test, seen}
use Rattle.vm_state.proofs.Going.{one_other, one_own}
use Rattle.vm_state.proofs.Referring.{below_all}
use Rattle.vm_state.proofs.Knowing.{counts_still, fits_still, known_apart, known_still, referred_before, unknown_still}
use Rattle.vm_state.proofs.Counting.{elsewhere, references_copied, references_some}
use Rattle.vm_state.specs.References.{references_to}
use Rattle.vm_state.specs.Stands.{HasRegions}
use Rattle.vm_terminate.specs.Finishes.{IsReferred}

-- a region is over what another was over, and no more of it
record ComesFrom (cs : ChainTable) (region : RegionRow) : Type 0 where
  at : ℕ
  row : RegionRow
  found : region_at cs at ≡ Some row
  top : region.top ≡ row.top
  inside : region.shift + region.pages ≤ row.shift + row.pages

-- a region is copied: both have its top, which has one reference more
pub regions_copied : (header : Header) (past : List Event) (copy source : RegionId) (offset pages : ℕ) (row : RegionRow) (known : ObjectRow)
    (cs cs2 : ChainTable) (os os2 : ObjectTable) (ids ids2 : Ids) (rm om marked marked2 : ℕ)
    → region_at cs source.0 ≡ Some row → copy.0 ≡ rm → offset + pages ≤ row.pages → CopiesRegion source.0 copy.0 offset pages row cs cs2
    → object_at os row.top.0 ≡ Some known → PutsObject row.top.0 (Some (record known { references = known.references + 1 })) os os2
    → ids2.next_region ≡ ids.next_region + 1 → ids2.next_object ≡ ids.next_object → ids2.marks ≡ marked2 → om + marked2 ≤ most_objects
    → HasRegions cs os ids (λ q. region_of header q past) (λ q. backing_of header q past) rm om marked
    → HasRegions cs2 os2 ids2 (λ q. region_of header q (event.RegionCopied copy source offset pages ∷ past))
    (λ q. backing_of header q (event.RegionCopied copy source offset pages ∷ past)) (rm + 1) om marked2
regions_copied header past copy source offset pages row known cs cs2 os os2 ids ids2 rm om marked marked2 there next within copies found putting next2 same2
    marks2 few2 has =
    record {
      region = next2 ∙ ap (λ z. z + 1) has.region;
      object = same2 ∙ has.object;
      marks = marks2;
      few = few2;
      rows = λ q region is. elim (eqb_tells copy.0 q) [
        | inl this ↦
            let test : (q == copy.0) ≡ true = same_test q copy.0 (sym this.1) in
            let its : region ≡ copy_of row offset pages = some_is region (copy_of row offset pages) (sym is ∙ copy_row q this.1) in
            let from = has.rows source.0 row there in
            ap (λ b. copied b (q == source.0) offset pages (region_of header source.0 past) (region_of header q past)) test
            ∙ (ap (λ z. record { mark = true; top = z.top; shift = z.shift + offset; pages = pages }) from ∙ sym (ap seen its))
        | inr apart ↦
            let test : (q == copy.0) ≡ false = other_test q copy.0 (λ e. apart.1 (sym e)) in
            ap (λ b. copied b (q == source.0) offset pages (region_of header source.0 past) (region_of header q past)) test
            ∙ elim (rest q apart.1) [
              | inl this ↦
                  let also : (q == source.0) ≡ true = same_test q source.0 (sym this.0) in
                  let its : region ≡ record row { marked = true } = some_is region (record row { marked = true }) (sym is ∙ this.1) in
                  let from = has.rows q row (ap (region_at cs) (sym this.0) ∙ there) in
                  ap (λ b. copied false b offset pages (region_of header source.0 past) (region_of header q past)) also
                  ∙ (ap (λ z. record { mark = true; top = z.top; shift = z.shift; pages = z.pages }) from ∙ sym (ap seen its))
              | inr other ↦
                  let also : (q == source.0) ≡ false = other_test q source.0 (λ e. other.0 (sym e)) in
                  ap (λ b. copied false b offset pages (region_of header source.0 past) (region_of header q past)) also
                  ∙ has.rows q region (sym other.1 ∙ is)
            ]
      ];
      shadows = λ q shadow is. has.shadows q shadow (still q ∙ is);
      ranked = ranked_same cs cs2 (λ q. sym (still q)) has.ranked;
      bottoms = λ q referred none. has.bottoms q (referred_before top new os os2 putting was q referred) (still q ∙ none);
      unmade = λ q le. elim (rest q (λ e. omega (arith, e, next, le))) [
        | inl this ↦ absurd (let a = this.0 in omega (arith, a, below, le))
        | inr other ↦ other.1 ∙ has.unmade q (omega (arith, le))
      ];
      unknown = λ q le. unknown_still top new os os2 putting q (known_apart top q known os found (has.unknown q le)) (has.unknown q le);
      tops =
          λ q region is. let b = before q region is in known_still top new os os2 putting region.top.0
          (subst (λ (z : ObjectId). IsSome (object_at os z.0)) (sym b.top) (has.tops b.at b.row b.found));
      unders =
          λ q shadow is. let both = has.unders q shadow (still q ∙ is) in (
            known_still top new os os2 putting q both.0,
            known_still top new os os2 putting shadow.under.0 both.1,
          );
      fits = fits_still cs2 os os2 (same_pages os os2 top known new found refl putting) (record {
        tops = λ q region is.
            let b = before q region is in
            let le = has.fits.tops b.at b.row b.found in
            let inside = b.inside in
            subst (λ (z : ObjectId). region.shift + region.pages ≤ object_pages os z.0) (sym b.top) (omega (arith, le, inside));
        unders = λ q shadow is. has.fits.unders q shadow (still q ∙ is);
      });
      counts = counts_still top new os os2 (references_to cs rm om) (references_to cs2 (rm + 1) om) putting its others has.counts;
    }
  where
    top : ℕ
    top = row.top.0

    new : ObjectRow
    new = record known { references = known.references + 1 }

    below : source.0 < rm
    below = below_all (region_at cs) rm source.0 row has.unmade there

    some : 0 < known.references
    some = let count = has.counts row.top.0 known found in let has_one = references_some cs rm om source.0 row there below in omega (arith, count, has_one)

    was : 0 < new.references → IsReferred os row.top.0
    was more = record { row = known; known = found; some = some }

    still : (q : ℕ) → shadow_at cs q ≡ shadow_at cs2 q
    still q = sym (ap (λ f. f q) copies.shadows)

    copy_row : (q : ℕ) → copy.0 ≡ q → region_at cs2 q ≡ Some (copy_of row offset pages)
    copy_row q same =
        subst (λ (z : ℕ). region_at cs2 z ≡ Some (copy_of row offset pages)) same
        (if_true copy.0 (Some (copy_of row offset pages)) (if source.0 == copy.0 then Some (record row { marked = true }) else region_at cs copy.0)
        (region_at cs2 copy.0) (copies.at copy.0))

    rest : (q : ℕ) → (copy.0 ≡ q → ⊥) → ((source.0 ≡ q) × (region_at cs2 q ≡ Some (record row { marked = true })))
        ⊎ ((source.0 ≡ q → ⊥) × (region_at cs2 q ≡ region_at cs q))
    rest q apart = one_case source.0 q (Some (record row { marked = true })) (region_at cs q) (region_at cs2 q)
        (elsewhere copy.0 q (Some (copy_of row offset pages)) (if source.0 == q then Some (record row { marked = true }) else region_at cs q) (region_at cs2 q)
        (copies.at q) apart)

    before : (q : ℕ) (region : RegionRow) → region_at cs2 q ≡ Some region → ComesFrom cs region
    before q region is = elim (eqb_tells copy.0 q) [
      | inl this ↦ subst (λ (z : RegionRow). ComesFrom cs z) (some_is (copy_of row offset pages) region (sym (copy_row q this.1) ∙ is))
          (record { at = source.0; row = row; found = there; top = refl; inside = omega (arith, within) })
      | inr apart ↦ elim (rest q apart.1) [
        | inl this ↦ subst (λ (z : RegionRow). ComesFrom cs z) (some_is (record row { marked = true }) region (sym this.1 ∙ is))
            (record { at = source.0; row = row; found = there; top = refl; inside = omega arith })
        | inr other ↦ record { at = q; row = region; found = sym other.1 ∙ is; top = refl; inside = omega arith }
      ]
    ]

    more : (x : ℕ) → references_to cs2 (rm + 1) om x ≡ references_to cs rm om x + one (row.top.0 == x)
    more x = references_copied cs cs2 rm om source.0 offset pages row there (subst (λ (z : ℕ). CopiesRegion source.0 z offset pages row cs cs2) next copies) x

    its : known.references + 1 ≡ references_to cs2 (rm + 1) om row.top.0 + one known.cache
    its = let count = has.counts row.top.0 known found in let now = more row.top.0 in let own = one_own row.top.0 in omega (arith, count, now, own)

    others : (x : ℕ) → (row.top.0 ≡ x → ⊥) → references_to cs2 (rm + 1) om x ≡ references_to cs rm om x
    others x apart = let now = more x in let no = one_other row.top.0 x apart in omega (arith, now, no)
