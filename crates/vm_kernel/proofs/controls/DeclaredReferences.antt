-- What refers to a declared object: its own region, the copy objects that stand on it, and its flag.
use Rattle.vm_kernel.proofs.Common.{Bool, ChainTable, HasKinds, HasRegions, HaveHomes, Header, Ids, None, ObjectRow, ObjectTable, Option, RegionRow, Some, ap}
use Rattle.vm_kernel.proofs.Common.{arith}
use Rattle.vm_kernel.proofs.Common.{Event, List, backing_of, false, is_some, named, object_at, refl, region_at, region_of, shadow_at, sym, true, ℕ, ◌+◌, ◌<◌}
use Rattle.vm_kernel.proofs.Common.{◌^◌}
use Rattle.vm_kernel.proofs.Common.{suc, zero, ◌-◌, ◌∙◌, ◌≡◌, ◌≤◌}
use Rattle.std.specs.Prelude.{IsSome}
use Rattle.vm_kernel.proofs.controls.FlagsKept.{flag_few}
use Rattle.vm_model.specs.Regions.{Backing, Region}
use Rattle.vm_parts.specs.Changes.{one}
use Rattle.vm_shadow.specs.declared.shadow_row.ShadowRow.{ShadowRow}
use Rattle.vm_state.proofs.Declared.{over_declared}
use Rattle.vm_state.proofs.Fresh.{other_test}
use Rattle.vm_state.proofs.Tallies.{tally_none, tally_put}
use Rattle.vm_state.specs.Pagers.{cached_in}
use Rattle.vm_state.specs.References.{is_backing, is_over, references_to, tally}

-- how many references an object has that is known
abbrev pub references_of : Option ObjectRow → ℕ
references_of None = 0
references_of (Some row) = row.references

-- no more of the first numbers pass a test than there are
pub tally_most : (test : ℕ → Bool) (n : ℕ) → tally test n ≤ n
tally_most test zero = omega arith
tally_most test (suc n) = let here = flag_few (test n) in let below = tally_most test n in omega (arith, here, below)

-- of regions, its own alone is over a declared object
pub declared_references : (header : Header) (past : List Event) (cs : ChainTable) (os : ObjectTable) (ids : Ids) (rm om marked o : ℕ)
    → HasRegions cs os ids (λ r. region_of header r past) (λ q. backing_of header q past) rm om marked → HasKinds header os cs → HaveHomes header past
    → o < named header → o < rm
    → references_to cs rm om o ≡ one (is_over o (region_at cs o)) + tally (λ s. is_backing o (shadow_at cs s)) om
declared_references header past cs os ids rm om marked o has kinds homes declared less =
    let tops : tally (λ r. is_over o (region_at cs r)) rm + 0 ≡ tally (λ r. false) rm + one (is_over o (region_at cs o)) = tally_put (λ r. false)
    (λ r. is_over o (region_at cs r)) rm o less (λ r apart. not_over r (region_at cs r) refl apart) in
    let none = tally_none (λ r. false) rm (λ r small. refl) in
    omega (arith, tops, none)
  where
    not_over : (r : ℕ) (row : Option RegionRow) → region_at cs r ≡ row → (o ≡ r → ⊥) → is_over o row ≡ false
    not_over r None is apart = refl
    not_over r (Some row) is apart = other_test row.top.0 o (λ e. apart (sym e ∙ sym (over_declared has kinds homes r row is (omega (arith, e, declared)))))

-- nothing is over an object that isn't known, and each that is known counts what is
pub counts_known : {cs : ChainTable} {os : ObjectTable} {ids : Ids} {region_from : ℕ → Region} {backing_from : ℕ → Backing} {rm om marked : ℕ} (o : ℕ)
    → HasRegions cs os ids region_from backing_from rm om marked
    → references_of (object_at os o) ≡ references_to cs rm om o + one (cached_in (object_at os o))
counts_known {cs = cs} {os = os} {rm = rm} {om = om} o has = by (object_at os o) refl
  where
    not_known : object_at os o ≡ None → (x : ℕ) → IsSome (object_at os x) → x ≡ o → ⊥
    not_known none x some same = let bad : false ≡ true = sym (ap (λ (z : Option ObjectRow). is_some z) none)
        ∙ (ap (λ (z : ℕ). is_some (object_at os z)) (sym same) ∙ some) in cc

    not_over : object_at os o ≡ None → (r : ℕ) (row : Option RegionRow) → region_at cs r ≡ row → is_over o row ≡ false
    not_over none r None is = refl
    not_over none r (Some row) is = other_test row.top.0 o (not_known none row.top.0 (has.tops r row is))

    not_under : object_at os o ≡ None → (s : ℕ) (row : Option ShadowRow) → shadow_at cs s ≡ row → is_backing o row ≡ false
    not_under none s None is = refl
    not_under none s (Some row) is = other_test row.under.0 o (not_known none row.under.0 (has.unders s row is).1)

    by : (x : Option ObjectRow) → object_at os o ≡ x → references_of x ≡ references_to cs rm om o + one (cached_in x)
    by None none =
        let tops = tally_none (λ r. is_over o (region_at cs r)) rm (λ r small. not_over none r (region_at cs r) refl) in
        let unders = tally_none (λ s. is_backing o (shadow_at cs s)) om (λ s small. not_under none s (shadow_at cs s) refl) in
        omega (arith, tops, unders)
    by (Some row) found = has.counts o row found

-- a declared object has far fewer references than may be counted
pub declared_refer : (header : Header) (past : List Event) (cs : ChainTable) (os : ObjectTable) (ids : Ids) (rm om marked o : ℕ) (row : ObjectRow)
    → HasRegions cs os ids (λ r. region_of header r past) (λ q. backing_of header q past) rm om marked → HasKinds header os cs → HaveHomes header past
    → o < named header → o < rm → object_at os o ≡ Some row → row.references < 2 ^ 32 - 1
declared_refer header past cs os ids rm om marked o row has kinds homes declared less found =
    let count = has.counts o row found in
    let own = declared_references header past cs os ids rm om marked o has kinds homes declared less in
    let single = flag_few (is_over o (region_at cs o)) in
    let flag = flag_few row.cache in
    let unders = tally_most (λ s. is_backing o (shadow_at cs s)) om in
    let all = has.few in
    omega (arith, count, own, single, flag, unders, all)
