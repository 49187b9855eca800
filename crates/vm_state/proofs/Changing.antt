-- How the regions and objects of a host go on, where regions count other entries, or an object has another control.
use Rattle.std.proofs.Common.{◌≡◌, ℕ, ◌+◌, ◌<◌, ◌≤◌, false, refl, ap, sym, ◌∙◌, subst, Some, None, Option, inl, inr}
use Rattle.std.specs.Prelude.{◌⊎◌, IsSome}
use Rattle.vm_model.specs.Regions.{Backing, Region}
use Rattle.vm_objects.specs.Objects.{ObjectTable, PutsObject, object_at}
use Rattle.vm_objects.specs.declared.row.ObjectRow.{ObjectRow}
use Rattle.vm_parts.proofs.Fitting.{same_pages}
use Rattle.vm_parts.proofs.Rows.{some_is}
use Rattle.vm_parts.specs.Changes.{one}
use Rattle.vm_parts.specs.Fits.{object_pages}
use Rattle.vm_shadow.proofs.Ranks.{ranked_same}
use Rattle.vm_shadow.specs.Chains.{ChainTable, region_at, shadow_at}
use Rattle.vm_shadow.specs.declared.ids.Ids.{Ids}
use Rattle.vm_shadow.specs.declared.region_row.RegionRow.{RegionRow}
use Rattle.vm_state.proofs.Knowing.{counts_still, fits_still, known_apart, known_cases, known_still, referred_other, unknown_still}
use Rattle.vm_state.proofs.Counting.{references_same}
use Rattle.vm_state.specs.Places.{with_entries}
use Rattle.vm_state.specs.References.{is_backing, is_over, references_to}
use Rattle.vm_state.specs.Stands.{HasRegions}
use Rattle.vm_terminate.specs.Finishes.{IsReferred}

-- each region counts so many entries now, and is as it was else; and so is what stands under objects
pub record Recounts (count : ℕ → ℕ) (old new : ChainTable) : Type 0 where
  pub at : (r : ℕ) → region_at new r ≡ with_entries (count r) (region_at old r)
  pub shadows : (o : ℕ) → shadow_at new o ≡ shadow_at old o

-- regions count other entries
pub record SameButEntries (old new : ChainTable) : Type 0 where
  pub count : ℕ → ℕ
  pub recounts : Recounts count old new

-- a region that has a row now had one, with another count
pub record Recounted (n : ℕ) (row : RegionRow) (before : Option RegionRow) : Type 0 where
  pub was : RegionRow
  pub found : before ≡ Some was
  pub is : row ≡ record was { entries = n }

pub row_before : (count : ℕ → ℕ) (old new : ChainTable) → Recounts count old new → (r : ℕ) (row : RegionRow) → region_at new r ≡ Some row
    → Recounted (count r) row (region_at old r)
row_before count old new is r row found = go (region_at old r) (sym (is.at r) ∙ found)
  where
    go : (x : Option RegionRow) → with_entries (count r) x ≡ Some row → Recounted (count r) row x
    go None none = absurd (let bad : None ≡ Some row = none in cc)
    go (Some was) same = record { was = was; found = refl; is = some_is row (record was { entries = count r }) (sym same) }

over_recounted : (x n : ℕ) (row : Option RegionRow) → is_over x (with_entries n row) ≡ is_over x row
over_recounted x n None = refl
over_recounted x n (Some row) = refl

pub regions_recounted : (old new : ChainTable) (os : ObjectTable) (ids : Ids) (region_from : ℕ → Region) (backing_from : ℕ → Backing) (rm om marked : ℕ)
    → SameButEntries old new
    → HasRegions old os ids region_from backing_from rm om marked → HasRegions new os ids region_from backing_from rm om marked
regions_recounted old new os ids region_from backing_from rm om marked same has =
    record {
      region = has.region;
      object = has.object;
      marks = has.marks;
      few = has.few;
      rows =
          λ r row found. let b = before r row found in subst (λ (z : RegionRow). region_from
          r ≡ record { mark = z.marked; top = z.top.0; shift = z.shift; pages = z.pages }) (sym b.is) (has.rows r b.was b.found);
      shadows = λ o row found. has.shadows o row (sym (same.recounts.shadows o) ∙ found);
      ranked = ranked_same old new same.recounts.shadows has.ranked;
      bottoms = λ o referred none. has.bottoms o referred (sym (same.recounts.shadows o) ∙ none);
      unmade = λ r le. same.recounts.at r ∙ ap (with_entries (same.count r)) (has.unmade r le);
      unknown = has.unknown;
      tops = λ r row found. let b = before r row found in subst (λ (z : RegionRow). IsSome (object_at os z.top.0)) (sym b.is) (has.tops r b.was b.found);
      unders = λ o row found. has.unders o row (sym (same.recounts.shadows o) ∙ found);
      fits = record {
        tops =
            λ r row found. let b = before r row found in subst (λ (z : RegionRow). z.shift + z.pages ≤ object_pages os z.top.0) (sym b.is)
            (has.fits.tops r b.was b.found);
        unders = λ o row found. has.fits.unders o row (sym (same.recounts.shadows o) ∙ found);
      };
      counts =
          λ o known found. has.counts o known found ∙ sym (ap (λ z. z + one known.cache) (references_same old new rm om o
          (λ r. ap (is_over o) (same.recounts.at r) ∙ over_recounted o (same.count r) (region_at old r)) (λ s. ap (is_backing o) (same.recounts.shadows s))));
    }
  where
    before : (r : ℕ) (row : RegionRow) → region_at new r ≡ Some row → Recounted (same.count r) row (region_at old r)
    before r row found = row_before same.count old new same.recounts r row found

-- one object is known otherwise, but for its pages, and is referred to by as much as it counts
pub regions_known : (o : ℕ) (row row2 : ObjectRow) (cs : ChainTable) (os os2 : ObjectTable) (ids : Ids) (region_from : ℕ → Region) (backing_from : ℕ → Backing)
    (rm om marked : ℕ)
    → object_at os o ≡ Some row → PutsObject o (Some row2) os os2 → row2.pages ≡ row.pages → row2.references ≡ references_to cs rm om o + one row2.cache
    → (0 < row2.references → shadow_at cs o ≡ None → (backing_from o).backed ≡ false)
    → HasRegions cs os ids region_from backing_from rm om marked → HasRegions cs os2 ids region_from backing_from rm om marked
regions_known o row row2 cs os os2 ids region_from backing_from rm om marked found put pages count bottom has =
    record {
      region = has.region;
      object = has.object;
      marks = has.marks;
      few = has.few;
      rows = has.rows;
      shadows = has.shadows;
      ranked = has.ranked;
      bottoms = λ x referred none. bottoms_now x referred none (known_cases o row2 os os2 put x);
      unmade = has.unmade;
      unknown = λ x le. unknown_still o row2 os os2 put x (known_apart o x row os found (has.unknown x le)) (has.unknown x le);
      tops = λ r region there. known_still o row2 os os2 put region.top.0 (has.tops r region there);
      unders =
          λ x shadow there. let both = has.unders x shadow there in (
            known_still o row2 os os2 put x both.0,
            known_still o row2 os os2 put shadow.under.0 both.1,
          );
      fits = fits_still cs os os2 (same_pages os os2 o row row2 found pages put) has.fits;
      counts = counts_still o row2 os os2 (references_to cs rm om) (references_to cs rm om) put count (λ x apart. refl) has.counts;
    }
  where
    bottoms_now : (x : ℕ) → IsReferred os2 x → shadow_at cs x ≡ None
        → ((o ≡ x) × (object_at os2 x ≡ Some row2)) ⊎ ((o ≡ x → ⊥) × (object_at os2 x ≡ object_at os x)) → (backing_from x).backed ≡ false
    bottoms_now x is none (inl this) =
        let some : 0 < row2.references = subst (λ (z : ObjectRow). 0 < z.references) (some_is is.row row2 (sym is.known ∙ this.1)) is.some in
        subst (λ (z : ℕ). (backing_from z).backed ≡ false) this.0 (bottom some (ap (shadow_at cs) this.0 ∙ none))
    bottoms_now x is none (inr other) = has.bottoms x (referred_other o row2 os os2 put x other.0 is) none

-- one object is known otherwise, but for its pages, how often it is referred to, and whether it stays without
pub regions_controlled : (o : ℕ) (row row2 : ObjectRow) (cs : ChainTable) (os os2 : ObjectTable) (ids : Ids) (region_from : ℕ → Region)
    (backing_from : ℕ → Backing) (rm om marked : ℕ)
    → object_at os o ≡ Some row → PutsObject o (Some row2) os os2 → row2.references ≡ row.references → row2.cache ≡ row.cache → row2.pages ≡ row.pages
    → HasRegions cs os ids region_from backing_from rm om marked → HasRegions cs os2 ids region_from backing_from rm om marked
regions_controlled o row row2 cs os os2 ids region_from backing_from rm om marked found put references cache pages has =
    regions_known o row row2 cs os os2 ids region_from backing_from rm om marked found put pages
    (references ∙ (has.counts o row found ∙ ap (λ z. references_to cs rm om o + one z) (sym cache)))
    (λ some none. has.bottoms o (record { row = row; known = found; some = subst (λ (z : ℕ). 0 < z) references some }) none) has
