-- An object of which nothing was known is known now, or a number is the next: what that leaves of what regions and shadows stand on.
use Rattle.std.proofs.Common.{◌≡◌, ℕ, ◌==◌, true, false, refl, ap, sym, ◌∙◌, Some, None, Option, inl, inr}
use Rattle.std.proofs.lemmas.Bool.Decides.{eqb_tells}
use Rattle.std.specs.Prelude.{is_some, IsSome}
use Rattle.vm_model.specs.Regions.{Backing, Region}
use Rattle.vm_objects.specs.Objects.{ObjectTable, PutsObject, object_at}
use Rattle.vm_objects.specs.declared.row.ObjectRow.{ObjectRow}
use Rattle.vm_parts.specs.Fits.{object_pages, pages_of_row}
use Rattle.vm_shadow.specs.Chains.{ChainTable, region_at, shadow_at}
use Rattle.vm_shadow.specs.declared.ids.Ids.{Ids}
use Rattle.vm_shadow.specs.declared.region_row.RegionRow.{RegionRow}
use Rattle.vm_shadow.specs.declared.shadow_row.ShadowRow.{ShadowRow}
use Rattle.vm_state.proofs.Knowing.{known_cases, known_put}
use Rattle.vm_state.proofs.Counting.{references_none}
use Rattle.vm_state.specs.References.{is_backing, is_over, references_to}
use Rattle.vm_state.specs.Stands.{HasRegions}

-- what a row says of its region
abbrev pub seen : RegionRow → Region
seen row = record { mark = row.marked; top = row.top.0; shift = row.shift; pages = row.pages }

pub same_test : (a b : ℕ) → a ≡ b → (a == b) ≡ true
same_test a b is = elim (eqb_tells a b) [ inl same ↦ same.0 | inr apart ↦ absurd (apart.1 is) ]

pub other_test : (a b : ℕ) → (a ≡ b → ⊥) → (a == b) ≡ false
other_test a b apart = elim (eqb_tells a b) [ inl same ↦ absurd (apart same.1) | inr other ↦ other.0 ]

-- an object that is known isn't one that is not
pub some_apart : (os : ObjectTable) (x y : ℕ) → IsSome (object_at os x) → object_at os y ≡ None → x ≡ y → ⊥
some_apart os x y known none same = let bad : true ≡ false = sym known ∙ (ap (λ z. is_some (object_at os z)) same ∙ ap is_some none) in cc

-- each object that was known has as many pages
pub pages_known : (o : ℕ) (new : ObjectRow) (os os2 : ObjectTable) → PutsObject o (Some new) os os2 → object_at os o ≡ None → (x : ℕ) → IsSome (object_at os x)
    → object_pages os2 x ≡ object_pages os x
pages_known o new os os2 put none x known = elim (known_cases o new os os2 put x) [
  | inl this ↦ absurd (some_apart os x o known none (sym this.0))
  | inr other ↦ ap pages_of_row other.1
]

pub pages_put : (o : ℕ) (new : ObjectRow) (os os2 : ObjectTable) → PutsObject o (Some new) os os2 → object_pages os2 o ≡ new.pages
pages_put o new os os2 put = ap pages_of_row (known_put o new os os2 put)

-- nothing is over an object that isn't known
pub unreferenced : (cs : ChainTable) (os : ObjectTable) (ids : Ids) (region_from : ℕ → Region) (backing_from : ℕ → Backing) (rm om marked x : ℕ)
    → HasRegions cs os ids region_from backing_from rm om marked
    → object_at os x ≡ None → references_to cs rm om x ≡ 0
unreferenced cs os ids region_from backing_from rm om marked x has none =
    references_none cs rm om x (λ r. tops r (region_at cs r) refl) (λ o. unders o (shadow_at cs o) refl)
  where
    tops : (r : ℕ) (row : Option RegionRow) → region_at cs r ≡ row → is_over x row ≡ false
    tops r None is = refl
    tops r (Some row) is = other_test row.top.0 x (some_apart os row.top.0 x (has.tops r row is) none)

    unders : (o : ℕ) (row : Option ShadowRow) → shadow_at cs o ≡ row → is_backing x row ≡ false
    unders o None is = refl
    unders o (Some row) is = other_test row.under.0 x (some_apart os row.under.0 x (has.unders o row is).1 none)

-- nothing stands under an object that isn't known
pub unshadowed : (cs : ChainTable) (os : ObjectTable) (ids : Ids) (region_from : ℕ → Region) (backing_from : ℕ → Backing) (rm om marked x : ℕ)
    → HasRegions cs os ids region_from backing_from rm om marked
    → object_at os x ≡ None → shadow_at cs x ≡ None
unshadowed cs os ids region_from backing_from rm om marked x has none = by (shadow_at cs x) refl
  where
    by : (row : Option ShadowRow) → shadow_at cs x ≡ row → row ≡ None
    by None is = refl
    by (Some row) is = absurd (some_apart os x x (has.unders x row is).0 none refl)
