-- Whether a region is the one reference of its top, as the history tells it.
use Rattle.vm_kernel.proofs.Common.{Event, Header, Ids, List, Matches, Parts, RegionRow, Some, Works, [], false, in_use, object_at, region_at, true, ℕ, ◌≡◌}
use Rattle.vm_fault.specs.Faults.{has_one}
use Rattle.vm_kernel.proofs.space.ObjectEnds.{used_there}
use Rattle.vm_kernel.proofs.space.RegionsFilled.{row_use}
use Rattle.vm_legal.specs.Licences.{IsTopAlone}
use Rattle.vm_shadow.specs.Chains.{IsOnlyTop}
use Rattle.vm_state.proofs.Alone.{top_alone, top_shared}
use Rattle.vm_state.proofs.Declared.{marked_temporary}
use Rattle.vm_supply.specs.declared.woken.Woken.{Woken}

-- where the tables say so
pub alone_told : (header : Header) (h : ℕ) (k : Parts) (ids : Ids) (who : Woken) (past : List Event) → Works header h k ids who past → (region object : ℕ)
    → IsOnlyTop region object k.chains → IsTopAlone header h region object past
alone_told header h k ids who past works region object only =
    let m : Matches header h k ids [] past = works.matches in
    let sole = top_alone m.core.objects.regions m.core.spaces.homes.1 (λ r. in_use header h r past)
    (λ r temporary used. used_there header h k ids [] past r m works.used.copies temporary used) region object only in
    record { tops = sole.tops; bare = sole.bare }

-- and where its top has another reference it is not
pub shared_told : (header : Header) (h : ℕ) (k : Parts) (ids : Ids) (who : Woken) (past : List Event) → Works header h k ids who past → (region : ℕ)
    (row : RegionRow) → region_at k.chains region ≡ Some row → row.marked ≡ true → has_one (object_at k.memory.objects row.top.0) ≡ false
    → IsTopAlone header h region row.top.0 past → ⊥
shared_told header h k ids who past works region row found marked shared alone =
    let m : Matches header h k ids [] past = works.matches in
    top_shared m.core.objects.regions m.core.objects.kinds m.core.spaces.homes.1 works.referred.shadows (λ r. in_use header h r past)
    (λ r other temporary is. (m.core.spaces.uses.used r temporary).is (row_use r other m.core.spaces.entries is works.used)) region row
    (marked_temporary m.core.objects.regions m.core.spaces.homes.1 region row found marked) found shared (record { tops = alone.tops; bare = alone.bare })
