-- A declared object stays without a reference from now on, or doesn't any more: the flag is one reference.
use Rattle.std.proofs.Common.{Bool, Some, arith, false, refl, true, ℕ, ◌+◌, ◌<◌, ◌≡◌}
use Rattle.vm_legal.specs.Outside.{is_wild}
use Rattle.vm_model.specs.declared.script.Header.{Header}
use Rattle.vm_model.specs.Named.{named}
use Rattle.vm_model.specs.Regions.{Backing, Region}
use Rattle.vm_objects.specs.Objects.{ObjectTable, PutsObject, SameMarks, object_at}
use Rattle.vm_objects.specs.declared.row.ObjectRow.{ObjectRow}
use Rattle.vm_parts.specs.Changes.{one}
use Rattle.vm_resident.specs.Resident.{ResidentTable}
use Rattle.vm_shadow.specs.Chains.{ChainTable}
use Rattle.vm_shadow.specs.declared.ids.Ids.{Ids}
use Rattle.vm_state.proofs.Changing.{regions_known}
use Rattle.vm_state.proofs.Declared.{kinds_put}
use Rattle.vm_state.proofs.Referred.{all_but, but_known, referred_known, stays_served}
use Rattle.vm_state.specs.References.{AllReferred, AllReferredBut, references_to}
use Rattle.vm_state.specs.Stands.{HasKinds, HasRegions}

pub regions_flagged : (o n : ℕ) (flag : Bool) (row : ObjectRow) (cs : ChainTable) (os os2 : ObjectTable) (ids : Ids) (region_from : ℕ → Region)
    (backing_from : ℕ → Backing) (rm om marked : ℕ)
    → object_at os o ≡ Some row → PutsObject o (Some (record row { cache = flag; references = n })) os os2 → n ≡ references_to cs rm om o + one flag
    → (backing_from o).backed ≡ false
    → HasRegions cs os ids region_from backing_from rm om marked → HasRegions cs os2 ids region_from backing_from rm om marked
regions_flagged o n flag row cs os os2 ids region_from backing_from rm om marked found put count bare has =
    regions_known o row (record row { cache = flag; references = n }) cs os os2 ids region_from backing_from rm om marked found put refl count
    (λ some none. bare) has

pub kinds_flagged : (header : Header) (o n : ℕ) (flag : Bool) (row : ObjectRow) (os os2 : ObjectTable) (cs : ChainTable) → o < named header
    → object_at os o ≡ Some row → PutsObject o (Some (record row { cache = flag; references = n })) os os2 → SameMarks os os2
    → (is_wild header o ≡ false → 0 < n → row.live ≡ true)
    → HasKinds header os cs → HasKinds header os2 cs
kinds_flagged header o n flag row os os2 cs declared found put marks told has =
    let is = has.kinds o row found in
    let its = is.declared declared in
    kinds_put header o (record row { cache = flag; references = n }) os os2 cs put marks (record {
      lives = is.lives;
      temporary = λ least. absurd (omega (arith, declared, least));
      declared = λ less. record { kind = its.kind; pages = its.pages; told = told; number = its.number };
    }) has

-- something refers to it still
pub referred_flagged : (o n : ℕ) (flag : Bool) (row : ObjectRow) (cs : ChainTable) (os os2 : ObjectTable) (rs : ResidentTable) → object_at os o ≡ Some row
    → PutsObject o (Some (record row { cache = flag; references = n })) os os2 → 0 < n → AllReferred cs os rs → AllReferred cs os2 rs
referred_flagged o n flag row cs os os2 rs found put some all =
    referred_known o (record row { cache = flag; references = n }) cs os os2 rs put (λ is. some) (λ live. some) (stays_served found refl refl) all

-- or nothing does, and it ends
pub but_flagged : (o n : ℕ) (flag : Bool) (row : ObjectRow) (cs : ChainTable) (os os2 : ObjectTable) (rs : ResidentTable) → object_at os o ≡ Some row
    → PutsObject o (Some (record row { cache = flag; references = n })) os os2 → AllReferred cs os rs → AllReferredBut o cs os2 rs
but_flagged o n flag row cs os os2 rs found put all =
    but_known o (record row { cache = flag; references = n }) cs os os2 rs put (λ p page there. stays_served found refl refl) (all_but o cs os rs all)
