-- Nothing can be merged where nothing could be: no shadow came, and objects have the references that they had.
use Rattle.std.proofs.Common.{◌==◌, ◌≡◌, ◌∙◌, ℕ, IsSome, List, None, Some, ap, arith, false, inl, inr, refl, subst, sym, true}
use Rattle.std.proofs.lemmas.Bool.Decides.{nat_tests}
use Rattle.std.specs.Prelude.{◌⊎◌}
use Rattle.vm_base.specs.declared.ids.ObjectId.{ObjectId}
use Rattle.vm_copies.specs.Copies.{CopyTable}
use Rattle.vm_fault.specs.Faults.{has_one}
use Rattle.vm_merge.specs.Merges.{IsThin, IsThinBut}
use Rattle.vm_objects.specs.Objects.{ObjectTable, PutsObject, SameObjects, object_at}
use Rattle.vm_objects.specs.declared.row.ObjectRow.{ObjectRow}
use Rattle.vm_parts.proofs.Rows.{one_case, some_is}
use Rattle.vm_shadow.specs.Chains.{ChainTable, ObjectsBelow, ShadowsRegion, region_at, shadow_at}
use Rattle.vm_shadow.specs.declared.region_row.RegionRow.{RegionRow}
use Rattle.vm_shadow.specs.declared.shadow_row.ShadowRow.{ShadowRow}

-- shadows may have gone, and each that is left has the row that it had
abbrev pub KeepsShadows : ChainTable → ChainTable → Type 0
KeepsShadows old new = (o : ℕ) (row : ShadowRow) → shadow_at new o ≡ Some row → shadow_at old o ≡ Some row

-- an object that is known now was known with as many references, and without a control where it has none
pub record WasReferred (old : ObjectTable) (o : ℕ) (row : ObjectRow) : Type 0 where
  pub was : ObjectRow
  pub known : object_at old o ≡ Some was
  pub same : row.references ≡ was.references
  pub never : row.control ≡ 0 → was.control ≡ 0

abbrev pub KeepReferences : ObjectTable → ObjectTable → Type 0
KeepReferences old new = (o : ℕ) (row : ObjectRow) → object_at new o ≡ Some row → WasReferred old o row

pub thin_kept : {copies : CopyTable} (cs cs2 : ChainTable) (os os2 : ObjectTable) → KeepsShadows cs cs2 → KeepReferences os os2 → IsThin copies cs os
    → IsThin copies cs2 os2
thin_kept cs cs2 os os2 shadows references thin u l can =
    let up = references u can.upper_row can.upper_known in
    let low = references l can.lower_row can.lower_known in
    thin u l (record {
      link = can.link;
      over = shadows u can.link can.over;
      under = can.under;
      upper_row = up.was;
      upper_known = up.known;
      lower_row = low.was;
      lower_known = low.known;
      sole = sym low.same ∙ can.sole;
      upper_never = up.never can.upper_never;
      lower_never = low.never can.lower_never;
      plain = can.plain;
    })

-- the chains with the same shadows
pub keeps_same : (cs cs2 : ChainTable) → ((o : ℕ) → shadow_at cs2 o ≡ shadow_at cs o) → KeepsShadows cs cs2
keeps_same cs cs2 same o row is = sym (same o) ∙ is

-- the same objects
pub references_same : (os os2 : ObjectTable) → ((o : ℕ) → object_at os2 o ≡ object_at os o) → KeepReferences os os2
references_same os os2 same o row is = record { was = row; known = sym (same o) ∙ is; same = refl; never = λ none. none }

-- one object is known otherwise, with the references that it had
pub references_put : (o : ℕ) (was now : ObjectRow) (os os2 : ObjectTable) → object_at os o ≡ Some was → now.references ≡ was.references
    → (now.control ≡ 0 → was.control ≡ 0) → PutsObject o (Some now) os os2 → KeepReferences os os2
references_put o was now os os2 known same never put x row is = by (one_case o x (Some now) (object_at os x) (object_at os2 x) (put.at x))
  where
    by : ((o ≡ x) × (object_at os2 x ≡ Some now)) ⊎ ((o ≡ x → ⊥) × (object_at os2 x ≡ object_at os x)) → WasReferred os x row
    by (inl this) =
        subst (λ (z : ObjectRow). WasReferred os x z) (some_is now row (sym this.1 ∙ is))
        (record { was = was; known = sym (ap (object_at os) this.0) ∙ known; same = same; never = never })
    by (inr other) = record { was = row; known = sym other.1 ∙ is; same = refl; never = λ none. none }

-- the chains alone have changed
pub thin_chains : {copies : CopyTable} (cs cs2 : ChainTable) (os : ObjectTable) → ((o : ℕ) → shadow_at cs2 o ≡ shadow_at cs o) → IsThin copies cs os
    → IsThin copies cs2 os
thin_chains cs cs2 os same thin = thin_kept cs cs2 os os (keeps_same cs cs2 same) (references_same os os (λ o. refl)) thin

-- also where some can be merged
pub thin_but_chains : {copies : CopyTable} (losers : List ObjectId) (cs cs2 : ChainTable) (os : ObjectTable) → ((o : ℕ) → shadow_at cs2 o ≡ shadow_at cs o)
    → IsThinBut copies losers cs os
    → IsThinBut copies losers cs2 os
thin_but_chains losers cs cs2 os same thin u l can =
    thin u l (record {
      link = can.link;
      over = sym (same u) ∙ can.over;
      under = can.under;
      upper_row = can.upper_row;
      upper_known = can.upper_known;
      lower_row = can.lower_row;
      lower_known = can.lower_known;
      sole = can.sole;
      upper_never = can.upper_never;
      lower_never = can.lower_never;
      plain = can.plain;
    })

-- the objects alone have
pub thin_objects : {copies : CopyTable} (cs : ChainTable) (os os2 : ObjectTable) → KeepReferences os os2 → IsThin copies cs os → IsThin copies cs os2
thin_objects cs os os2 references thin = thin_kept cs cs os os2 (λ o row is. is) references thin

-- Objects that are new, or have more references than one.

-- an object has other references, and not one
pub thin_grown : {copies : CopyTable} (o : ℕ) (was now : ObjectRow) (cs cs2 : ChainTable) (os os2 : ObjectTable) → KeepsShadows cs cs2
    → object_at os o ≡ Some was
    → (now.control ≡ 0 → was.control ≡ 0) → (now.references ≡ 1 → ⊥) → PutsObject o (Some now) os os2 → IsThin copies cs os → IsThin copies cs2 os2
thin_grown o was now cs cs2 os os2 keeps known never many put thin u l can =
    by (one_case o l (Some now) (object_at os l) (object_at os2 l) (put.at l)) (one_case o u (Some now) (object_at os u) (object_at os2 u) (put.at u))
  where
    by : ((o ≡ l) × (object_at os2 l ≡ Some now)) ⊎ ((o ≡ l → ⊥) × (object_at os2 l ≡ object_at os l))
        → ((o ≡ u) × (object_at os2 u ≡ Some now)) ⊎ ((o ≡ u → ⊥) × (object_at os2 u ≡ object_at os u)) → ⊥
    by (inl low) up = many (ap (λ (z : ObjectRow). z.references) (some_is now can.lower_row (sym low.1 ∙ can.lower_known)) ∙ can.sole)
    by (inr low) (inl up) =
        thin u l (record {
          link = can.link;
          over = keeps u can.link can.over;
          under = can.under;
          upper_row = was;
          upper_known = ap (object_at os) (sym up.0) ∙ known;
          lower_row = can.lower_row;
          lower_known = sym low.1 ∙ can.lower_known;
          sole = can.sole;
          upper_never = never (ap (λ (z : ObjectRow). z.control) (some_is now can.upper_row (sym up.1 ∙ can.upper_known)) ∙ can.upper_never);
          lower_never = can.lower_never;
          plain = can.plain;
        })
    by (inr low) (inr up) =
        thin u l (record {
          link = can.link;
          over = keeps u can.link can.over;
          under = can.under;
          upper_row = can.upper_row;
          upper_known = sym up.1 ∙ can.upper_known;
          lower_row = can.lower_row;
          lower_known = sym low.1 ∙ can.lower_known;
          sole = can.sole;
          upper_never = can.upper_never;
          lower_never = can.lower_never;
          plain = can.plain;
        })

-- an object is new: it is no shadow, and no shadow is over it
pub thin_made : {copies : CopyTable} (n : ℕ) (now : ObjectRow) (cs cs2 : ChainTable) (os os2 : ObjectTable)
    → ((o : ℕ) (row : ShadowRow) → shadow_at cs o ≡ Some row → IsSome (object_at os o) × IsSome (object_at os row.under.0)) → KeepsShadows cs cs2
    → object_at os n ≡ None → PutsObject n (Some now) os os2 → IsThin copies cs os → IsThin copies cs2 os2
thin_made n now cs cs2 os os2 unders keeps unknown put thin u l can =
    let link = keeps u can.link can.over in
    let known = unders u can.link link in
    thin u l (record {
      link = can.link;
      over = link;
      under = can.under;
      upper_row = can.upper_row;
      upper_known = was u can.upper_row known.0 can.upper_known;
      lower_row = can.lower_row;
      lower_known = was l can.lower_row (subst (λ (z : ℕ). IsSome (object_at os z)) can.under known.1) can.lower_known;
      sole = can.sole;
      upper_never = can.upper_never;
      lower_never = can.lower_never;
      plain = can.plain;
    })
  where
    was : (x : ℕ) (row : ObjectRow) → IsSome (object_at os x) → object_at os2 x ≡ Some row → object_at os x ≡ Some row
    was x row some is = elim (one_case n x (Some now) (object_at os x) (object_at os2 x) (put.at x)) [
      | inl this ↦
          let none : object_at os x ≡ None = ap (object_at os) (sym this.0) ∙ unknown in
          absurd (let bad : false ≡ true = subst (λ z. IsSome z) none some in cc)
      | inr other ↦ sym other.1 ∙ is
    ]

-- more of the same, for pages, controls and new shadows

-- each object is known as it was
pub thin_same : {copies : CopyTable} (cs : ChainTable) (os os2 : ObjectTable) → SameObjects os os2 → IsThin copies cs os → IsThin copies cs os2
thin_same cs os os2 same thin = thin_objects cs os os2 (references_same os os2 same.at) thin

-- one object is known otherwise, and has a control
pub thin_paged : {copies : CopyTable} (o : ℕ) (now : ObjectRow) (cs cs2 : ChainTable) (os os2 : ObjectTable) → KeepsShadows cs cs2 → (now.control ≡ 0 → ⊥)
    → PutsObject o (Some now) os os2 → IsThin copies cs os → IsThin copies cs2 os2
thin_paged o now cs cs2 os os2 shadows paged put thin upper lower can =
    thin upper lower (record {
      link = can.link;
      over = shadows upper can.link can.over;
      under = can.under;
      upper_row = can.upper_row;
      upper_known = was upper can.upper_row can.upper_never can.upper_known;
      lower_row = can.lower_row;
      lower_known = was lower can.lower_row can.lower_never can.lower_known;
      sole = can.sole;
      upper_never = can.upper_never;
      lower_never = can.lower_never;
      plain = can.plain;
    })
  where
    was : (x : ℕ) (row : ObjectRow) → row.control ≡ 0 → object_at os2 x ≡ Some row → object_at os x ≡ Some row
    was x row never is = elim (one_case o x (Some now) (object_at os x) (object_at os2 x) (put.at x)) [
      | inl this ↦ absurd (paged (ap (λ (z : ObjectRow). z.control) (some_is now row (sym this.1 ∙ is)) ∙ never))
      | inr other ↦ sym other.1 ∙ is
    ]

-- a region gets an object of its own over its old top, which has another reference: that is none to merge, and nothing stands on the new object
pub thin_shadowed : {copies : CopyTable} (region : ℕ) (object : ObjectId) (row : RegionRow) (now : ObjectRow) (cs cs2 : ChainTable) (os os2 : ObjectTable)
    → region_at cs region ≡ Some row → ObjectsBelow object.0 cs → has_one (object_at os row.top.0) ≡ false → ShadowsRegion region object row cs cs2
    → PutsObject object.0 (Some now) os os2 → IsThin copies cs os → IsThin copies cs2 os2
thin_shadowed region object row now cs cs2 os os2 there below shared made put thin upper lower can =
    by (one_case object.0 upper (Some made_link) (shadow_at cs upper) (shadow_at cs2 upper) (made.under upper))
  where
    made_link : ShadowRow
    made_link = record { under = row.top; shift = row.shift }

    -- what is not the new object is known as before
    was : (x : ℕ) (known : ObjectRow) → (object.0 ≡ x → ⊥) → object_at os2 x ≡ Some known → object_at os x ≡ Some known
    was x known apart is = elim (one_case object.0 x (Some now) (object_at os x) (object_at os2 x) (put.at x)) [
      | inl this ↦ absurd (apart this.0)
      | inr other ↦ sym other.1 ∙ is
    ]

    single : (known : ObjectRow) → known.references ≡ 1 → (known.references == 1) ≡ true
    single known is = grind (arith, nat_tests, is)

    by : ((object.0 ≡ upper) × (shadow_at cs2 upper ≡ Some made_link)) ⊎ ((object.0 ≡ upper → ⊥) × (shadow_at cs2 upper ≡ shadow_at cs upper)) → ⊥
    by (inl this) =
        let low : row.top.0 ≡ lower = ap (λ (z : ShadowRow). z.under.0) (some_is made_link can.link (sym this.1 ∙ can.over)) ∙ can.under in
        let less = below.tops region row there in
        let known = was lower can.lower_row (λ e. omega (arith, e, low, less)) can.lower_known in
        let one : has_one (object_at os row.top.0) ≡ true = ap (λ z. has_one (object_at os z)) low ∙ (ap has_one known ∙ single can.lower_row can.sole) in
        let bad : false ≡ true = sym shared ∙ one in
        cc
    by (inr other) =
        let over : shadow_at cs upper ≡ Some can.link = sym other.1 ∙ can.over in
        let less = below.unders upper can.link over in
        let low = can.under in
        thin upper lower (record {
          link = can.link;
          over = over;
          under = can.under;
          upper_row = can.upper_row;
          upper_known = was upper can.upper_row other.0 can.upper_known;
          lower_row = can.lower_row;
          lower_known = was lower can.lower_row (λ e. omega (arith, e, low, less)) can.lower_known;
          sole = can.sole;
          upper_never = can.upper_never;
          lower_never = can.lower_never;
          plain = can.plain;
        })
