-- Whether a region is the one reference of its top: by the tables of its host, and by what they stand for.
use Rattle.std.proofs.Common.{◌≡◌, ◌≤◌, ℕ, Bool, true, false, Option, Some, None, ap, refl, sym, ◌∙◌, arith, inl, inr}
use Rattle.vm_abroad.proofs.Regions.{kind_cases}
use Rattle.vm_abroad.specs.Home.{AreHomes}
use Rattle.vm_fault.specs.Faults.{has_one}
use Rattle.vm_legal.specs.Walks.{Reaches}
use Rattle.vm_model.specs.declared.script.Header.{Header}
use Rattle.vm_model.specs.Named.{named}
use Rattle.vm_model.specs.Regions.{Backing, Region}
use Rattle.vm_model.specs.Waiting.{Target}
use Rattle.vm_objects.specs.Objects.{ObjectTable, object_at}
use Rattle.vm_shadow.specs.Chains.{ChainTable, IsOnlyTop, region_at, shadow_at}
use Rattle.vm_shadow.specs.declared.ids.Ids.{Ids}
use Rattle.vm_shadow.specs.declared.region_row.RegionRow.{RegionRow}
use Rattle.vm_shadow.specs.declared.shadow_row.ShadowRow.{ShadowRow}
use Rattle.vm_state.proofs.Declared.{shadow_temporary, uncached_temporary, whole_row}
use Rattle.vm_state.proofs.Reaching.{temporary_down, temporary_up}
use Rattle.vm_state.proofs.Referring.{top_not_counted}
use Rattle.vm_state.specs.Stands.{HasKinds, HasRegions}
use Rattle.vm_terminate.specs.Finishes.{IsReferred}

-- no other temporary region in use has the object as its top, and no object that is reached stands on it
pub record IsSoleTop (least : ℕ) (used : ℕ → Bool) (region_from : ℕ → Region) (backing_from : ℕ → Backing) (region object : ℕ) : Type 0 where
  pub tops : (other : ℕ) → least ≤ other → used other ≡ true → (region_from other).top ≡ object → other ≡ region
  pub bare : (upper : ℕ) → Reaches used region_from backing_from upper → (backing_from upper).backed ≡ true → (backing_from upper).under ≡ object → ⊥

-- the one reference by the tables is the one
pub top_alone : {header : Header} {chains : ChainTable} {objects : ObjectTable} {ids : Ids} {region_from : ℕ → Region} {backing_from : ℕ → Backing}
    {n m : ℕ} {home_from made_for : ℕ → Option ℕ} {used_at : ℕ → ℕ → Bool} {target_from : ℕ → Option Target}
    {newest_from : ℕ → Option ℕ} {copy_from : ℕ → Bool} {regions_made objects_made marked : ℕ}
    → HasRegions chains objects ids region_from backing_from regions_made objects_made marked
    → AreHomes header n m home_from made_for used_at region_from backing_from target_from newest_from copy_from → (used : ℕ → Bool)
    → ((r : ℕ) → named header ≤ r → used r ≡ true → (row : RegionRow) × (region_at chains r ≡ Some row)) → (region object : ℕ)
    → IsOnlyTop region object chains → IsSoleTop (named header) used region_from backing_from region object
top_alone {header = header} {chains = chains} {objects = objects} {backing_from = backing_from} has homes used there region object only =
    record {
      tops = λ other least is top.
          let row = there other least is in only.tops other row.0 row.1 (sym (ap (λ (z : Region). z.top) (has.rows other row.0 row.1)) ∙ top);
      bare = λ upper reach backed under. elim (kind_cases header upper) [
        | inl declared ↦ let bad : true ≡ false = sym backed ∙ homes.bare upper declared in cc
        | inr least ↦ on_shadow upper (temporary_down has homes used there upper least reach) backed under (shadow_at chains upper) refl
      ];
    }
  where
    on_shadow : (upper : ℕ) → IsReferred objects upper → (backing_from upper).backed ≡ true → (backing_from upper).under ≡ object → (x : Option ShadowRow)
        → shadow_at chains upper ≡ x → ⊥
    on_shadow upper referred backed under None none = let bad : true ≡ false = sym backed ∙ has.bottoms upper referred none in cc
    on_shadow upper referred backed under (Some row) found =
        only.bare upper row found (sym (ap (λ (z : Backing). z.under) (has.shadows upper row found)) ∙ under)

-- a temporary region whose top has another reference is not
pub top_shared : {header : Header} {chains : ChainTable} {objects : ObjectTable} {ids : Ids} {region_from : ℕ → Region} {backing_from : ℕ → Backing}
    {n m : ℕ} {home_from made_for : ℕ → Option ℕ} {used_at : ℕ → ℕ → Bool} {target_from : ℕ → Option Target}
    {newest_from : ℕ → Option ℕ} {copy_from : ℕ → Bool} {regions_made objects_made marked : ℕ}
    → HasRegions chains objects ids region_from backing_from regions_made objects_made marked → HasKinds header objects chains
    → AreHomes header n m home_from made_for used_at region_from backing_from target_from newest_from copy_from
    → ((s : ℕ) (row : ShadowRow) → shadow_at chains s ≡ Some row → IsReferred objects s) → (used : ℕ → Bool)
    → ((r : ℕ) (row : RegionRow) → named header ≤ r → region_at chains r ≡ Some row → used r ≡ true) → (region : ℕ) (row : RegionRow)
    → named header ≤ region → region_at chains region ≡ Some row → has_one (object_at objects row.top.0) ≡ false
    → IsSoleTop (named header) used region_from backing_from region row.top.0 → ⊥
top_shared {header = header} has kinds homes shadows used all region row temporary found shared sole =
    top_not_counted has region row found (λ known is. uncached_temporary kinds row.top.0 known (kinds.tops region row temporary found) is) shared record {
      tops = λ r other is top. elim (kind_cases header r) [
        | inl declared ↦
            let own = (whole_row has homes r other declared is).top in
            let least = kinds.tops region row temporary found in
            absurd (omega (arith, own, top, least, declared))
        | inr least ↦ sole.tops r least (all r other least is) (ap (λ (z : Region). z.top) (has.rows r other is) ∙ top)
      ];
      bare = λ s shadow is under.
          let link = has.shadows s shadow is in
          sole.bare s (temporary_up has kinds homes shadows used all s (shadow_temporary has homes s shadow is) (shadows s shadow is))
          (ap (λ (z : Backing). z.backed) link) (ap (λ (z : Backing). z.under) link ∙ under);
    }
