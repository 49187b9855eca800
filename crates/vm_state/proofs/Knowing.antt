-- One object is known otherwise: what that leaves of what regions and shadows stand on.
use Rattle.std.proofs.Common.{◌≡◌, ℕ, ◌+◌, ◌<◌, ◌≤◌, ◌==◌, Option, false, true, ap, sym, ◌∙◌, subst, arith, Some, None, inl, inr}
use Rattle.std.specs.Prelude.{◌⊎◌, if◌then◌else◌, is_some, IsSome}
use Rattle.vm_fault.specs.Walks.{ChainsFit}
use Rattle.vm_objects.specs.Objects.{ObjectTable, PutsObject, object_at}
use Rattle.vm_objects.specs.declared.row.ObjectRow.{ObjectRow}
use Rattle.vm_parts.proofs.Rows.{if_true, one_case, some_is}
use Rattle.vm_parts.specs.Changes.{one}
use Rattle.vm_parts.specs.Fits.{object_pages}
use Rattle.vm_shadow.specs.Chains.{ChainTable}
use Rattle.vm_terminate.specs.Finishes.{IsReferred}

-- the object is the one that is known otherwise, or another
pub known_cases : (o : ℕ) (new : ObjectRow) (os os2 : ObjectTable) → PutsObject o (Some new) os os2 → (x : ℕ) → ((o ≡ x) × (object_at os2 x ≡ Some new))
    ⊎ ((o ≡ x → ⊥) × (object_at os2 x ≡ object_at os x))
known_cases o new os os2 put x = one_case o x (Some new) (object_at os x) (object_at os2 x) (put.at x)

pub known_put : (o : ℕ) (new : ObjectRow) (os os2 : ObjectTable) → PutsObject o (Some new) os os2 → object_at os2 o ≡ Some new
known_put o new os os2 put = if_true o (Some new) (object_at os o) (object_at os2 o) (put.at o)

-- one row is another, and the others are as they were
pub put_here : {o : ℕ} {row : Option ObjectRow} {os os2 : ObjectTable} → PutsObject o row os os2 → (k : ℕ) → (o == k) ≡ true → object_at os2 k ≡ row
put_here {row = row} {os = os} put k same = put.at k ∙ ap (λ b. if b then row else object_at os k) same

pub put_else : {o : ℕ} {row : Option ObjectRow} {os os2 : ObjectTable} → PutsObject o row os os2 → (k : ℕ) → (o == k) ≡ false
    → object_at os2 k ≡ object_at os k
put_else {row = row} {os = os} put k apart = put.at k ∙ ap (λ b. if b then row else object_at os k) apart

-- what was known is so still
pub known_still : (o : ℕ) (new : ObjectRow) (os os2 : ObjectTable) → PutsObject o (Some new) os os2 → (x : ℕ) → IsSome (object_at os x)
    → IsSome (object_at os2 x)
known_still o new os os2 put x known = elim (known_cases o new os os2 put x) [
  | inl this ↦ ap is_some this.1
  | inr other ↦ ap is_some other.1 ∙ known
]

-- what wasn't known isn't so now, but for this one
pub unknown_still : (o : ℕ) (new : ObjectRow) (os os2 : ObjectTable) → PutsObject o (Some new) os os2 → (x : ℕ) → (o ≡ x → ⊥) → object_at os x ≡ None
    → object_at os2 x ≡ None
unknown_still o new os os2 put x apart none = elim (known_cases o new os os2 put x) [
  | inl this ↦ absurd (apart this.0)
  | inr other ↦ other.1 ∙ none
]

-- and what isn't known now wasn't before
pub unknown_before : (o : ℕ) (new : ObjectRow) (os os2 : ObjectTable) → PutsObject o (Some new) os os2 → (x : ℕ) → object_at os2 x ≡ None
    → object_at os x ≡ None
unknown_before o new os os2 put x none = elim (known_cases o new os os2 put x) [
  | inl this ↦ absurd (let bad : None ≡ Some new = sym none ∙ this.1 in cc)
  | inr other ↦ sym other.1 ∙ none
]

-- an object that is known isn't one of which nothing is known
pub known_apart : (o x : ℕ) (row : ObjectRow) (os : ObjectTable) → object_at os o ≡ Some row → object_at os x ≡ None → o ≡ x → ⊥
known_apart o x row os found none same = let bad : None ≡ Some row = sym none ∙ (ap (object_at os) (sym same) ∙ found) in cc

-- what is referred to was so before, where the object was
pub referred_before : (o : ℕ) (new : ObjectRow) (os os2 : ObjectTable) → PutsObject o (Some new) os os2 → (0 < new.references → IsReferred os o) → (x : ℕ)
    → IsReferred os2 x → IsReferred os x
referred_before o new os os2 put before x is = elim (known_cases o new os os2 put x) [
  | inl this ↦
      let same : new ≡ is.row = some_is new is.row (sym this.1 ∙ is.known) in
      subst (λ (z : ℕ). IsReferred os z) this.0 (before (subst (λ (z : ObjectRow). 0 < z.references) (sym same) is.some))
  | inr other ↦ record { row = is.row; known = sym other.1 ∙ is.known; some = is.some }
]

-- another object that is referred to was so before
pub referred_other : (o : ℕ) (new : ObjectRow) (os os2 : ObjectTable) → PutsObject o (Some new) os os2 → (x : ℕ) → (o ≡ x → ⊥) → IsReferred os2 x
    → IsReferred os x
referred_other o new os os2 put x apart is = elim (known_cases o new os os2 put x) [
  | inl this ↦ absurd (apart this.0)
  | inr other ↦ record { row = is.row; known = sym other.1 ∙ is.known; some = is.some }
]

-- what is referred to is so still, where the object is
pub referred_still : (o : ℕ) (new : ObjectRow) (os os2 : ObjectTable) → PutsObject o (Some new) os os2 → (x : ℕ) → (o ≡ x → 0 < new.references)
    → IsReferred os x → IsReferred os2 x
referred_still o new os os2 put x more is = elim (known_cases o new os os2 put x) [
  | inl this ↦ record { row = new; known = this.1; some = more this.0 }
  | inr other ↦ record { row = is.row; known = other.1 ∙ is.known; some = is.some }
]

-- all count their references still
pub counts_still : (o : ℕ) (new : ObjectRow) (os os2 : ObjectTable) (before after : ℕ → ℕ) → PutsObject o (Some new) os os2
    → new.references ≡ after o + one new.cache
    → ((x : ℕ) → (o ≡ x → ⊥) → after x ≡ before x)
    → ((x : ℕ) (known : ObjectRow) → object_at os x ≡ Some known → known.references ≡ before x + one known.cache) → (x : ℕ) (known : ObjectRow)
    → object_at os2 x ≡ Some known → known.references ≡ after x + one known.cache
counts_still o new os os2 before after put its same all x known found = elim (known_cases o new os os2 put x) [
  | inl this ↦ subst (λ (z : ObjectRow). z.references ≡ after x + one z.cache) (some_is new known (sym this.1 ∙ found))
      (its ∙ ap (λ z. after z + one new.cache) this.0)
  | inr other ↦ all x known (sym other.1 ∙ found) ∙ sym (ap (λ z. z + one known.cache) (same x other.0))
]

-- what stands on objects fits as many pages
pub fits_still : (cs : ChainTable) (os os2 : ObjectTable) → ((o : ℕ) → object_pages os2 o ≡ object_pages os o) → ChainsFit cs os → ChainsFit cs os2
fits_still cs os os2 same fits =
    record {
      tops = λ r row found. subst (λ (z : ℕ). row.shift + row.pages ≤ z) (sym (same row.top.0)) (fits.tops r row found);
      unders = λ o row found. let le = fits.unders o row found in let a = same o in let b = same row.under.0 in omega (arith, le, a, b);
    }
