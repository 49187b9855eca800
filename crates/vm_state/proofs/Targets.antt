-- What a slow copy fills is no shadow by the tables.
use Rattle.std.proofs.Common.{◌≡◌, ◌∙◌, ℕ, true, false, List, Option, Some, None, ap, refl, sym}
use Rattle.vm_abroad.specs.Home.{HaveHomes}
use Rattle.vm_model.specs.declared.event.Event.{Event}
use Rattle.vm_model.specs.declared.script.Header.{Header}
use Rattle.vm_model.specs.Regions.{Backing, backing_of, region_of}
use Rattle.vm_model.specs.Waiting.{Target, copy_target}
use Rattle.vm_objects.specs.Objects.{ObjectTable}
use Rattle.vm_shadow.specs.Chains.{ChainTable, shadow_at}
use Rattle.vm_shadow.specs.declared.ids.Ids.{Ids}
use Rattle.vm_shadow.specs.declared.shadow_row.ShadowRow.{ShadowRow}
use Rattle.vm_state.specs.Stands.{HasRegions}

pub target_unshadowed : {header : Header} (past : List Event) {chains : ChainTable} {objects : ObjectTable} {ids : Ids} {regions_made objects_made marked : ℕ}
    → HasRegions chains objects ids (λ r. region_of header r past) (λ o. backing_of header o past) regions_made objects_made marked
    → HaveHomes header past → (task : ℕ) (target : Target) → copy_target task past ≡ Some target → shadow_at chains target.object ≡ None
target_unshadowed past {chains = chains} has homes task target is = by (shadow_at chains target.object) refl
  where
    by : (x : Option ShadowRow) → shadow_at chains target.object ≡ x → x ≡ None
    by None none = refl
    by (Some row) found =
        absurd (let bad : true ≡ false = sym (ap (λ (z : Backing). z.backed) (has.shadows target.object row found)) ∙ homes.target_bare task target is in cc)
