-- How the regions and objects of a host go on, where a region loses its mark, and is as it was else.
use Rattle.std.proofs.Common.{◌≡◌, ℕ, ◌+◌, ◌≤◌, ◌==◌, Bool, Option, false, true, refl, ap, sym, ◌∙◌, arith, Some, None, List, ◌∷◌, inl, inr}
use Rattle.std.specs.Prelude.{◌⊎◌, is_some}
use Rattle.vm_base.specs.declared.ids.PageKey.{PageKey}
use Rattle.vm_base.specs.declared.ids.RegionId.{RegionId}
use Rattle.vm_fault.specs.Walks.{ChainsFit}
use Rattle.vm_maps.specs.Maps.{Mapped}
use Rattle.vm_model.specs.Regions.{Region, backing_of, region_of, unmarked}
use Rattle.vm_model.specs.Waiting.{Access}
use Rattle.vm_model.specs.declared.event.Event.{Event}
use Rattle.vm_model.specs.declared.event.Event.TheVariants as event
use Rattle.vm_model.specs.declared.script.Header.{Header}
use Rattle.vm_objects.specs.Objects.{ObjectTable, object_at}
use Rattle.vm_parts.proofs.Rows.{one_case, some_is}
use Rattle.vm_parts.specs.Changes.{one}
use Rattle.vm_resident.specs.Resident.{ResidentTable}
use Rattle.vm_shadow.proofs.Ranks.{ranked_same}
use Rattle.vm_shadow.specs.Chains.{ChainTable, PutsRegion, region_at, shadow_at}
use Rattle.vm_shadow.specs.declared.ids.Ids.{Ids}
use Rattle.vm_shadow.specs.declared.region_row.RegionRow.{RegionRow}
use Rattle.vm_state.proofs.Counting.{references_same}
use Rattle.vm_state.proofs.Declared.{kinds_region}
use Rattle.vm_state.proofs.Fresh.{other_test, same_test, seen}
use Rattle.vm_state.proofs.Places.{keeps_put}
use Rattle.vm_state.proofs.Referred.{referred_chains}
use Rattle.vm_state.proofs.Waited.{waits_kept}
use Rattle.vm_state.specs.References.{AllReferred, is_backing, is_over}
use Rattle.vm_state.specs.Stands.{HasKinds, HasRegions}
use Rattle.vm_copies.specs.Copies.{CopyTable}
use Rattle.vm_state.specs.Waiters.{HasWaiters}
use Rattle.vm_waits.specs.declared.waiting.On.{On}
use Rattle.vm_waits.specs.declared.waiting.Waiting.{Waiting}
use Rattle.vm_state.specs.Passed.{Unmet}

-- all references are as they were
pub regions_unmarked : (header : Header) (past : List Event) (region : RegionId) (row : RegionRow) (cs cs2 : ChainTable) (os : ObjectTable) (ids ids2 : Ids)
    (rm om marked marked2 : ℕ)
    → PutsRegion region.0 (Some (record row { marked = false })) cs cs2 → region_at cs region.0 ≡ Some row → ChainsFit cs2 os
    → ids2.next_region ≡ ids.next_region → ids2.next_object ≡ ids.next_object → ids2.marks ≡ marked2 → marked2 ≤ marked
    → HasRegions cs os ids (λ q. region_of header q past) (λ q. backing_of header q past) rm om marked
    → HasRegions cs2 os ids2 (λ q. region_of header q (event.Unmarked region ∷ past)) (λ q. backing_of header q (event.Unmarked region ∷ past)) rm om marked2
regions_unmarked header past region row cs cs2 os ids ids2 rm om marked marked2 put there fits region2 object2 marks2 fewer has =
    record {
      region = region2 ∙ has.region;
      object = object2 ∙ has.object;
      marks = marks2;
      few = let few = has.few in omega (arith, few, fewer);
      rows = λ q other is. elim (cases q) [
        | inl this ↦
            let test : (q == region.0) ≡ true = same_test q region.0 (sym this.0) in
            let its : other ≡ record row { marked = false } = some_is other (record row { marked = false }) (sym is ∙ this.1) in
            let was = has.rows q row (ap (region_at cs) (sym this.0) ∙ there) in
            ap (λ b. unmarked b (region_of header q past)) test ∙ (ap (λ (z : Region). record z { mark = false }) was ∙ sym (ap seen its))
        | inr apart ↦
            let test : (q == region.0) ≡ false = other_test q region.0 (λ e. apart.0 (sym e)) in
            ap (λ b. unmarked b (region_of header q past)) test ∙ has.rows q other (sym apart.1 ∙ is)
      ];
      shadows = λ q shadow is. has.shadows q shadow (sym (same q) ∙ is);
      bottoms = λ q referred bare. has.bottoms q referred (sym (same q) ∙ bare);
      unmade = λ q le. elim (cases q) [
        | inl this ↦ absurd (let bad : None ≡ Some row = sym (has.unmade q le) ∙ (ap (region_at cs) (sym this.0) ∙ there) in cc)
        | inr apart ↦ apart.1 ∙ has.unmade q le
      ];
      unknown = has.unknown;
      tops = λ q other is. elim (cases q) [
        | inl this ↦
            let its : other.top ≡ row.top = ap (λ z. z.top) (some_is other (record row { marked = false }) (sym is ∙ this.1)) in
            ap (λ z. is_some (object_at os z.0)) its ∙ has.tops region.0 row there
        | inr apart ↦ has.tops q other (sym apart.1 ∙ is)
      ];
      unders = λ q shadow is. has.unders q shadow (sym (same q) ∙ is);
      ranked = ranked_same cs cs2 same has.ranked;
      fits = fits;
      counts =
          λ o known is. has.counts o known is
          ∙ sym (ap (λ z. z + one known.cache) (references_same cs cs2 rm om o (over o) (λ q. ap (is_backing o) (same q))));
    }
  where
    cases : (q : ℕ) → ((region.0 ≡ q) × (region_at cs2 q ≡ Some (record row { marked = false }))) ⊎ ((region.0 ≡ q → ⊥) × (region_at cs2 q ≡ region_at cs q))
    cases q = one_case region.0 q (Some (record row { marked = false })) (region_at cs q) (region_at cs2 q) (put.at q)

    same : (q : ℕ) → shadow_at cs2 q ≡ shadow_at cs q
    same q = ap (λ f. f q) put.shadows

    over : (o q : ℕ) → is_over o (region_at cs2 q) ≡ is_over o (region_at cs q)
    over o q = elim (cases q) [
      | inl this ↦ ap (is_over o) this.1 ∙ sym (ap (λ z. is_over o (region_at cs z)) (sym this.0) ∙ ap (is_over o) there)
      | inr apart ↦ ap (is_over o) apart.1
    ]

-- what refers to objects does so still
pub referred_unmarked : (region : ℕ) (row : RegionRow) (cs cs2 : ChainTable) (os : ObjectTable) (rs : ResidentTable)
    → PutsRegion region (Some (record row { marked = false })) cs cs2 → AllReferred cs os rs → AllReferred cs2 os rs
referred_unmarked region row cs cs2 os rs put all =
    referred_chains cs cs2 os rs (λ o shadow found. inl (sym (ap (λ f. f o) put.shadows) ∙ found)) all

-- the kinds of objects are as they were
pub kinds_unmarked : (header : Header) (region : ℕ) (row : RegionRow) (os : ObjectTable) (cs cs2 : ChainTable)
    → PutsRegion region (Some (record row { marked = false })) cs cs2 → region_at cs region ≡ Some row → HasKinds header os cs → HasKinds header os cs2
kinds_unmarked header region row os cs cs2 put there has =
    kinds_region header region (record row { marked = false }) os cs cs2 put (λ least. has.tops region row least there) has

-- who waits does so still
pub waits_unmarked : {copies : CopyTable} {stays : PageKey → Type 0} {unmet : PageKey → Unmet} (maps : Mapped) (old new : ChainTable) (rs : ResidentTable)
    (os : ObjectTable)
    (rows : List Waiting) (who : On → Bool) (waiting_at : ℕ → Option Access) (region : ℕ) (row : RegionRow)
    → HasWaiters maps old copies rs os rows who waiting_at stays unmet → region_at old region ≡ Some row
    → PutsRegion region (Some (record row { marked = false })) old new → HasWaiters maps new copies rs os rows who waiting_at stays unmet
waits_unmarked maps old new rs os rows who waiting_at region row has there put =
    waits_kept maps maps old new rs os rows who waiting_at has (λ t w found. record { size = refl; entries = refl })
    (keeps_put old new region row (record row { marked = false }) there refl refl put) has.is
