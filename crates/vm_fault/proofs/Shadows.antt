-- A region gets an object of its own, or loses its mark: what is known of objects then, and that all fits still.
use Rattle.std.proofs.Common.{◌≡◌, ℕ, ◌+◌, ◌≤◌, ◌&&◌, Bool, Option, Some, None, true, false, refl, ap, sym, ◌∙◌, subst, arith, inl, inr, Result, Ok, Err}
use Rattle.std.proofs.lemmas.Bool.Decides.{nat_tests}
use Rattle.std.specs.Prelude.{◌⊎◌, IfSome, OnOk}
use Rattle.vm_base.specs.declared.ids.ObjectId.{ObjectId}
use Rattle.vm_base.specs.declared.ids.RegionId.{RegionId}
use Rattle.vm_fault.specs.Faults.{FaultState, LosesMark, MakesShadow, Prepares}
use Rattle.vm_fault.specs.Walks.{ChainsFit, is_storing}
use Rattle.vm_objects.specs.Objects.{ObjectTable, PutsObject, SameMarks, absent_among, object_among, object_at}
use Rattle.vm_objects.specs.declared.row.ObjectRow.{ObjectRow}
use Rattle.vm_parts.specs.Fits.{Fit, object_pages, pages_of_row}
use Rattle.vm_parts.specs.declared.parts.HostParts.{HostParts}
use Rattle.vm_parts.proofs.Fitting.{fit_within}
use Rattle.vm_parts.proofs.Rows.{one_case}
use Rattle.vm_shadow.specs.Chains.{ChainTable, ObjectsBelow, PutsRegion, ShadowsRegion, region_at, shadow_at}
use Rattle.vm_shadow.specs.declared.region_row.RegionRow.{RegionRow}
use Rattle.vm_shadow.specs.declared.shadow_row.ShadowRow.{ShadowRow}
use Rattle.vm_waits.specs.declared.waiting.Want.{Want}

some_same : {A : Type 0} (x y : A) → Some x ≡ Some y → x ≡ y
some_same x y e = cc

-- what was told makes a shadow
pub told_makes : {E : Type 0} (result : Result (Unit {0}) E) (region : RegionId) (row : RegionRow) (old new : FaultState) (told : Type 0)
    → (told → MakesShadow region row old new) → OnOk result told → OnOk result (MakesShadow region row old new)
told_makes (Ok x) region row old new told makes is = makes is
told_makes (Err e) region row old new told makes is = tt

-- what was told behind a mark that went
pub told_loses : {E : Type 0} (result : Result (Unit {0}) E) (region : RegionId) (row : RegionRow) (old new : FaultState) (told : Type 0)
    → (told → LosesMark region row old new) → OnOk result told → OnOk result (LosesMark region row old new)
told_loses (Ok x) region row old new told loses is = loses is
told_loses (Err e) region row old new told loses is = tt

-- a store in a region with a mark does one of these
pub prepares_marked : {E : Type 0} (result : Result (Unit {0}) E) (what : Want) (region : RegionId) (row : RegionRow) (found : Option RegionRow)
    (old new : FaultState) (told : Type 0) → (told → MakesShadow region row old new ⊎ LosesMark region row old new) → found ≡ Some row
    → is_storing what ≡ true → row.marked ≡ true → OnOk result told
    → OnOk result (IfSome found (λ r. Prepares (is_storing what && r.marked) region r old new))
prepares_marked (Ok x) what region row found old new told does is stores marked holds =
    let both : (is_storing what && row.marked) ≡ true = rw (stores, marked) refl in
    subst (λ (z : Option RegionRow). IfSome z (λ r. Prepares (is_storing what && r.marked) region r old new)) (sym is)
    (subst (λ (b : Bool). Prepares b region row old new) (sym both) (does holds))
prepares_marked (Err e) what region row found old new told does is stores marked holds = tt

-- the chains fit the objects still, where a region has another mark
pub chains_unmarked : (chains new : ChainTable) (os : ObjectTable) (region : ℕ) (row : RegionRow) (mark : Bool) → ChainsFit chains os
    → region_at chains region ≡ Some row → PutsRegion region (Some (record row { marked = mark })) chains new → ChainsFit new os
chains_unmarked chains new os region row mark fits found put =
    record {
      tops = λ r other is. elim (one_case region r (Some now) (region_at chains r) (region_at new r) (put.at r)) [
        | inl this ↦
            subst (λ (z : RegionRow). z.shift + z.pages ≤ object_pages os z.top.0) (some_same now other (sym this.1 ∙ is)) (fits.tops region row found)
        | inr that ↦ fits.tops r other (sym that.1 ∙ is)
      ];
      unders = λ o under is. fits.unders o under (sym (ap (λ (z : ℕ → Option ShadowRow). z o) put.shadows) ∙ is);
    }
  where
    now : RegionRow
    now = record row { marked = mark }

-- an object is made where room was made first, and referred to
pub put_twice : (os roomier mid new : ObjectTable) (id : ℕ) (made row : ObjectRow) → roomier.entries ≡ os.entries → PutsObject id (Some made) roomier mid
    → PutsObject id (Some row) mid new → PutsObject id (Some row) os new
put_twice os roomier mid new id made row same first second =
    record {
      at = λ o. let as_it_was : object_at roomier o ≡ object_at os o = ap (object_among o) same in grind
          (arith, nat_tests, second.at o, first.at o, as_it_was);
    }

pub marks_twice : (os roomier mid new : ObjectTable) → roomier.absent ≡ os.absent → SameMarks roomier mid → SameMarks mid new → SameMarks os new
marks_twice os roomier mid new same first second = record { at = λ o p. second.at o p ∙ (first.at o p ∙ ap (absent_among o p) same) }

-- another object has its pages still
pub same_pages_else : (os new : ObjectTable) (id : ℕ) (row : ObjectRow) → PutsObject id (Some row) os new → (o : ℕ) → (id ≡ o → ⊥)
    → object_pages new o ≡ object_pages os o
same_pages_else os new id row put o apart = elim (one_case id o (Some row) (object_at os o) (object_at new o) (put.at o)) [
  | inl now ↦ absurd (apart now.0)
  | inr that ↦ ap pages_of_row that.1
]

-- no object has fewer pages, where one is made that wasn't there
pub no_fewer : (os new : ObjectTable) (id : ℕ) (row : ObjectRow) → object_at os id ≡ None → PutsObject id (Some row) os new → (o : ℕ)
    → object_pages os o ≤ object_pages new o
no_fewer os new id row none put o = elim (one_case id o (Some row) (object_at os o) (object_at new o) (put.at o)) [
  | inl now ↦ let before = ap pages_of_row (sym (ap (object_at os) now.0) ∙ none) in omega arith
  | inr that ↦ let same = ap pages_of_row that.1 in omega arith
]

-- the pages that are here are within their objects
pub fit_made : (parts : HostParts) (new : ObjectTable) (id : ℕ) (row : ObjectRow) → Fit parts → object_at parts.objects id ≡ None
    → PutsObject id (Some row) parts.objects new → Fit (record parts { objects = new })
fit_made parts new id row fit none put = fit_within parts new fit (λ o p r is. omega (arith, fit.inside o p r is, no_fewer parts.objects new id row none put o))

-- the chains fit the objects
pub chains_shadowed : (chains new : ChainTable) (os made : ObjectTable) (region : ℕ) (object : ObjectId) (row : RegionRow) (its : ObjectRow)
    → ChainsFit chains os → ObjectsBelow object.0 chains → object_at os object.0 ≡ None → its.pages ≡ row.pages
    → region_at chains region ≡ Some row → ShadowsRegion region object row chains new → PutsObject object.0 (Some its) os made → ChainsFit new made
chains_shadowed chains new os made region object row its fits below none pages found shadows put =
    record {
      tops = λ r other is. elim (one_case region r (Some over) (region_at chains r) (region_at new r) (shadows.at r)) [
        | inl now ↦
            let same = some_same over other (sym now.1 ∙ is) in
            subst (λ (z : RegionRow). z.shift + z.pages ≤ object_pages made z.top.0) same (omega (arith, mine))
        | inr that ↦ omega (arith, fits.tops r other (sym that.1 ∙ is), more other.top.0)
      ];
      unders = λ o other is. elim (one_case object.0 o (Some under) (shadow_at chains o) (shadow_at new o) (shadows.under o)) [
        | inl now ↦
            let same = some_same under other (sym now.1 ∙ is) in
            let here = ap (object_pages made) now.0 in
            subst (λ (z : ShadowRow). z.shift + object_pages made o ≤ object_pages made z.under.0) same
            (omega (arith, here, mine, fits.tops region row found, more row.top.0))
        | inr that ↦
            let was = sym that.1 ∙ is in
            let kept = same_pages_else os made object.0 its put o that.0 in
            omega (arith, kept, fits.unders o other was, more other.under.0)
      ];
    }
  where
    over : RegionRow
    over = record row { top = object; shift = 0; marked = false }

    under : ShadowRow
    under = record { under = row.top; shift = row.shift }

    more : (o : ℕ) → object_pages os o ≤ object_pages made o
    more o = no_fewer os made object.0 its none put o

    mine : object_pages made object.0 ≡ row.pages
    mine = elim (one_case object.0 object.0 (Some its) (object_at os object.0) (object_at made object.0) (put.at object.0)) [
      | inl now ↦ ap pages_of_row now.1 ∙ pages
      | inr that ↦ absurd (that.0 refl)
    ]
