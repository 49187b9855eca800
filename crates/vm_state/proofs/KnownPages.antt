-- The pages of objects, where objects come, go and are known otherwise.
use Rattle.std.proofs.Common.{◌≡◌, ◌∙◌, ℕ, ◌≤◌, List, ◌∷◌, None, Option, Some, ap, arith, refl, sym, subst, inl, inr}
use Rattle.std.specs.Prelude.{if◌then◌else◌}
use Rattle.vm_base.specs.Limits.{most_pages}
use Rattle.vm_base.specs.declared.ids.ObjectId.{ObjectId}
use Rattle.vm_base.specs.declared.ids.RegionId.{RegionId}
use Rattle.vm_model.specs.declared.event.Event.{Event}
use Rattle.vm_model.specs.declared.event.Event.TheVariants as event
use Rattle.vm_model.specs.declared.script.Header.{Header}
use Rattle.vm_model.specs.Regions.{object_pages, region_of}
use Rattle.vm_objects.specs.Objects.{ObjectTable, PutsObject, SameObjects, object_at}
use Rattle.vm_objects.specs.declared.row.ObjectRow.{ObjectRow}
use Rattle.vm_parts.proofs.Rows.{one_case, some_is}
use Rattle.vm_parts.specs.Fits.{pages_of_row}
use Rattle.vm_state.proofs.Fresh.{other_test, same_test}
use Rattle.vm_state.proofs.Knowing.{known_cases}
use Rattle.vm_state.specs.Stands.{KnowsPages}

-- all objects are known as they were
pub sizes_same : (least : ℕ) (os os2 : ObjectTable) (pages_from : ℕ → ℕ) → SameObjects os os2
    → KnowsPages least os pages_from → KnowsPages least os2 pages_from
sizes_same least os os2 pages_from same has =
    record {
      at = λ o known le found. has.at o known le (sym (same.at o) ∙ found);
      few = λ o known found. has.few o known (sym (same.at o) ∙ found);
    }

-- one object is known otherwise, and has as many pages
pub sizes_put : (least o : ℕ) (row new : ObjectRow) (os os2 : ObjectTable) (pages_from : ℕ → ℕ) → object_at os o ≡ Some row → new.pages ≡ row.pages
    → PutsObject o (Some new) os os2 → KnowsPages least os pages_from → KnowsPages least os2 pages_from
sizes_put least o row new os os2 pages_from found same put has = record {
  at = λ x known le is. elim (known_cases o new os os2 put x) [
    | inl this ↦
        sym (ap (λ (z : ObjectRow). z.pages) (some_is new known (sym this.1 ∙ is)))
        ∙ (same ∙ has.at x row le (ap (object_at os) (sym this.0) ∙ found))
    | inr other ↦ has.at x known le (sym other.1 ∙ is)
  ];
  few = λ x known is. elim (known_cases o new os os2 put x) [
    | inl this ↦
        let was = has.few o row found in
        let now = ap (λ (z : ObjectRow). z.pages) (some_is new known (sym this.1 ∙ is)) in
        omega (arith, was, now, same)
    | inr other ↦ has.few x known (sym other.1 ∙ is)
  ];
}

-- an object comes that has so many, or is none of these
pub sizes_new : (least o : ℕ) (new : ObjectRow) (os os2 : ObjectTable) (pages_from pages2 : ℕ → ℕ) → PutsObject o (Some new) os os2
    → new.pages ≤ most_pages → (least ≤ o → new.pages ≡ pages2 o) → ((x : ℕ) → (o ≡ x → ⊥) → pages2 x ≡ pages_from x) → KnowsPages least os pages_from
    → KnowsPages least os2 pages2
sizes_new least o new os os2 pages_from pages2 put most its others has = record {
  at = λ x known le is. elim (known_cases o new os os2 put x) [
    | inl this ↦
        sym (ap (λ (z : ObjectRow). z.pages) (some_is new known (sym this.1 ∙ is)))
        ∙ (its (subst (λ (z : ℕ). least ≤ z) (sym this.0) le) ∙ ap pages2 this.0)
    | inr other ↦ has.at x known le (sym other.1 ∙ is) ∙ sym (others x other.0)
  ];
  few = λ x known is. elim (known_cases o new os os2 put x) [
    | inl this ↦ let now = ap (λ (z : ObjectRow). z.pages) (some_is new known (sym this.1 ∙ is)) in omega (arith, most, now)
    | inr other ↦ has.few x known (sym other.1 ∙ is)
  ];
}

-- an object goes
pub sizes_gone : (least o : ℕ) (os os2 : ObjectTable) (pages_from : ℕ → ℕ) → PutsObject o None os os2 → KnowsPages least os pages_from
    → KnowsPages least os2 pages_from
sizes_gone least o os os2 pages_from put has = record {
  at = λ x known le is. elim (one_case o x None (object_at os x) (object_at os2 x) (put.at x)) [
    | inl this ↦ absurd (let bad : None ≡ Some known = sym this.1 ∙ is in cc)
    | inr other ↦ has.at x known le (sym other.1 ∙ is)
  ];
  few = λ x known is. elim (one_case o x None (object_at os x) (object_at os2 x) (put.at x)) [
    | inl this ↦ absurd (let bad : None ≡ Some known = sym this.1 ∙ is in cc)
    | inr other ↦ has.few x known (sym other.1 ∙ is)
  ];
}

-- a region is made over a new object
pub sizes_made : (header : Header) (past : List Event) (least : ℕ) (region : RegionId) (object : ObjectId) (pages : ℕ) (new : ObjectRow) (os os2 : ObjectTable)
    → PutsObject object.0 (Some new) os os2 → pages ≤ most_pages → new.pages ≡ pages → KnowsPages least os (λ o. object_pages header o past)
    → KnowsPages least os2 (λ o. object_pages header o (event.RegionMade region object pages ∷ past))
sizes_made header past least region object pages new os os2 put most is has =
    sizes_new least object.0 new os os2 (λ o. object_pages header o past) (λ o. object_pages header o (event.RegionMade region object pages ∷ past)) put
    (omega (arith, most, is)) (λ le. is ∙ sym (ap (λ b. if b then pages else object_pages header object.0 past) (same_test object.0 object.0 refl)))
    (λ x apart. ap (λ b. if b then pages else object_pages header x past) (other_test x object.0 (λ e. apart (sym e)))) has

-- a region gets a new object of its own over its old top
pub sizes_shadowed : (header : Header) (past : List Event) (least : ℕ) (region : RegionId) (object old : ObjectId) (new : ObjectRow) (os os2 : ObjectTable)
    → PutsObject object.0 (Some new) os os2 → new.pages ≤ most_pages → new.pages ≡ (region_of header region.0 past).pages
    → KnowsPages least os (λ o. object_pages header o past)
    → KnowsPages least os2 (λ o. object_pages header o (event.Shadowed region object old ∷ past))
sizes_shadowed header past least region object old new os os2 put most is has =
    sizes_new least object.0 new os os2 (λ o. object_pages header o past) (λ o. object_pages header o (event.Shadowed region object old ∷ past)) put
    most (λ le. is ∙ sym (ap (λ b. if b then (region_of header region.0 past).pages else object_pages header object.0 past) (same_test object.0 object.0 refl)))
    (λ x apart. ap (λ b. if b then (region_of header region.0 past).pages else object_pages header x past) (other_test x object.0 (λ e. apart (sym e)))) has

-- no object has more pages than one may have
pub object_few : {least : ℕ} {os : ObjectTable} {pages_from : ℕ → ℕ} → KnowsPages least os pages_from → (o : ℕ) → pages_of_row (object_at os o) ≤ most_pages
object_few {os = os} has o = by (object_at os o) refl
  where
    by : (x : Option ObjectRow) → object_at os o ≡ x → pages_of_row x ≤ most_pages
    by None none = omega arith
    by (Some row) found = has.few o row found
