-- How often an object is referred to on a host: by the regions over it, and by the shadows over it.
use Rattle.std.specs.Prelude.{ℕ, zero, suc, ◌+◌, ◌<◌, ◌≡◌, ◌==◌, ◌⊎◌, Bool, true, false, Option, Some, None}
use Rattle.vm_base.specs.declared.ids.ObjectKind.{ObjectKind}
use Rattle.vm_base.specs.declared.ids.ObjectKind.TheVariants.{Temp, File, Shared, Wild}
use Rattle.vm_objects.specs.Objects.{ObjectTable, object_at}
use Rattle.vm_objects.specs.declared.row.ObjectRow.{ObjectRow}
use Rattle.vm_parts.specs.Changes.{one, unlocked}
use Rattle.vm_resident.specs.Resident.{ResidentTable, row_at}
use Rattle.vm_resident.specs.declared.page_row.PageRow.{PageRow}
use Rattle.vm_shadow.specs.Chains.{ChainTable, region_at, shadow_at}
use Rattle.vm_shadow.specs.declared.region_row.RegionRow.{RegionRow}
use Rattle.vm_shadow.specs.declared.shadow_row.ShadowRow.{ShadowRow}
use Rattle.vm_terminate.specs.Finishes.{IsReferred}

-- the region is over the object
abbrev pub is_over : ℕ → Option RegionRow → Bool
is_over o None = false
is_over o (Some row) = row.top.0 == o

-- the object is under the shadow
abbrev pub is_backing : ℕ → Option ShadowRow → Bool
is_backing o None = false
is_backing o (Some row) = row.under.0 == o

-- how many of the numbers below one pass a test
abbrev pub tally : (ℕ → Bool) → ℕ → ℕ
tally test zero = 0
tally test (suc n) = one (test n) + tally test n

-- how many of so many regions, and of the shadows among so many objects, are over an object
abbrev pub references_to : ChainTable → ℕ → ℕ → ℕ → ℕ
references_to chains regions objects o = tally (λ r. is_over o (region_at chains r)) regions + tally (λ s. is_backing o (shadow_at chains s)) objects

-- a control of the object lives, if the object is known
abbrev pub is_live_in : Option ObjectRow → Bool
is_live_in None = false
is_live_in (Some known) = known.live

abbrev pub is_temporary_kind : ObjectKind → Bool
is_temporary_kind Temp = true
is_temporary_kind File = false
is_temporary_kind Shared = false
is_temporary_kind Wild = false

-- the object is known, and temporary memory
abbrev pub is_temporary_in : Option ObjectRow → Bool
is_temporary_in None = false
is_temporary_in (Some known) = is_temporary_kind known.kind

-- the page is one of temporary memory, and isn't locked; or a control of its object lives
abbrev pub MayLock : ObjectTable → ℕ → PageRow → Type 0
MayLock objects o row = ((row.lock ≡ unlocked) × (is_temporary_in (object_at objects o) ≡ true)) ⊎ (is_live_in (object_at objects o) ≡ true)

-- no page is locked whose pager isn't told, and a declared object has pages only while a control of it lives
abbrev pub MayAllLock : ObjectTable → ResidentTable → Type 0
MayAllLock objects resident = (o p : ℕ) (row : PageRow) → row_at resident o p ≡ Some row → MayLock objects o row

-- something refers to each object that is a shadow
abbrev pub AreShadowsReferred : ChainTable → ObjectTable → Type 0
AreShadowsReferred chains objects = (o : ℕ) (row : ShadowRow) → shadow_at chains o ≡ Some row → IsReferred objects o

-- something refers to each object whose control lives, that has a page or whose page is asked, or that is a shadow; and no page is locked whose pager isn't
-- told, nor has a declared object pages then
pub record AllReferred (chains : ChainTable) (objects : ObjectTable) (resident : ResidentTable) : Type 0 where
  pub live : (o : ℕ) (known : ObjectRow) → object_at objects o ≡ Some known → known.live ≡ true → 0 < known.references
  pub pages : (o p : ℕ) (row : PageRow) → row_at resident o p ≡ Some row → IsReferred objects o
  pub locks : MayAllLock objects resident
  pub shadows : AreShadowsReferred chains objects

-- something refers to each object in use but one, which ends
pub record AllReferredBut (o : ℕ) (chains : ChainTable) (objects : ObjectTable) (resident : ResidentTable) : Type 0 where
  pub live : (x : ℕ) (known : ObjectRow) → (o ≡ x → ⊥) → object_at objects x ≡ Some known → known.live ≡ true → 0 < known.references
  pub pages : (x p : ℕ) (row : PageRow) → (o ≡ x → ⊥) → row_at resident x p ≡ Some row → IsReferred objects x
  pub locks : MayAllLock objects resident
  pub shadows : (x : ℕ) (row : ShadowRow) → (o ≡ x → ⊥) → shadow_at chains x ≡ Some row → IsReferred objects x
