-- References and chains, as the law of the crate says it.
use Rattle.std.specs.Prelude.{ℕ, Bool, false, true, Some, ◌<◌, ◌≡◌, ◌≤◌}
use Rattle.vm_legal.specs.Walks.{Reaches}
use Rattle.vm_model.specs.declared.script.Header.{Header}
use Rattle.vm_model.specs.Named.{named}
use Rattle.vm_model.specs.Regions.{Backing, Region}
use Rattle.vm_objects.specs.Objects.{ObjectTable}
use Rattle.vm_shadow.specs.Chains.{ChainTable, IsRanked, region_at, shadow_at}
use Rattle.vm_shadow.specs.declared.ids.Ids.{Ids}
use Rattle.vm_shadow.specs.declared.region_row.RegionRow.{RegionRow}
use Rattle.vm_shadow.specs.declared.shadow_row.ShadowRow.{ShadowRow}
use Rattle.vm_terminate.specs.Finishes.{IsReferred}
use Rattle.vm_state.specs.Stands.{HasKinds, HasRegions}
use Rattle.vm_state.proofs.Reaching.{reach_down, reach_up}

pub leads_up : (header : Header) (chains : ChainTable) (objects : ObjectTable) (ids : Ids) (region_from : ℕ → Region) (backing_from : ℕ → Backing)
    (regions_made objects_made marked : ℕ)
    → HasRegions chains objects ids region_from backing_from regions_made objects_made marked → HasKinds header objects chains
    → ((o : ℕ) → o < named header → (backing_from o).backed ≡ false) → IsRanked chains
    → ((s : ℕ) (row : ShadowRow) → shadow_at chains s ≡ Some row → IsReferred objects s) → (used : ℕ → Bool)
    → ((r : ℕ) (row : RegionRow) → region_at chains r ≡ Some row → used r ≡ true)
    → (o : ℕ) → named header ≤ o → IsReferred objects o → Reaches used region_from backing_from o
leads_up header chains objects ids region_from backing_from regions_made objects_made marked has kinds bare ranked shadows used all o least referred =
    reach_up has kinds bare ranked shadows used all o least referred

pub leads_down : (chains : ChainTable) (objects : ObjectTable) (ids : Ids) (region_from : ℕ → Region) (backing_from : ℕ → Backing)
    (regions_made objects_made marked : ℕ) → HasRegions chains objects ids region_from backing_from regions_made objects_made marked → (used : ℕ → Bool)
    → ((r : ℕ) → used r ≡ true → (row : RegionRow) × (region_at chains r ≡ Some row)) → (o : ℕ) → Reaches used region_from backing_from o → IsReferred objects o
leads_down chains objects ids region_from backing_from regions_made objects_made marked has used known o reach = reach_down has used known o reach
