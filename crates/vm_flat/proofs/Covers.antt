-- From which file the pages of an object come, and of which objects the outside tells what they hold.
use Rattle.std.proofs.Common.{ℕ, ◌≡◌, ◌<◌, ◌≤◌, List, [], ◌∷◌, Bool, true, false, Option, Some, None, refl, sym, subst, arith, if◌then◌else◌}
use Rattle.std.proofs.lemmas.Bool.Decides.{nat_tests}
use Rattle.std.specs.Prelude.{◌==◌, ◌&&◌, ◌||◌, nat_lt, not}
use native.Mathlib.Decide.{ℕ_discrete}
use Rattle.vm_model.specs.declared.event.Event.{Event}
use Rattle.vm_model.specs.declared.event.Event.TheVariants as event
use Rattle.vm_model.specs.declared.script.Header.{Header}
use Rattle.vm_model.specs.Named.{declared, named}
use Rattle.vm_model.specs.Regions.{region_of}
use Rattle.vm_legal.specs.Outside.{Outside, is_file, is_file_kept, is_from_told, is_private_from}
use Rattle.vm_flat.proofs.Regions.{if_no}

-- the file from which an object's pages come, by way of the objects under it
abbrev pub stem : Header → ℕ → List Event → Option ℕ
stem header o [] = None
stem header o (event.Delayed region source offset pages copy ∷ past) = if o == copy.0 then Some source.0 else stem header o past
stem header o (event.Shadowed region new old ∷ past) = if o == new.0 then stem header (region_of header region.0 past).top past else stem header o past
stem header o (e ∷ past) = stem header o past

-- a file, or a temporary object of which the outside tells what it holds
abbrev pub is_covered : Header → Outside → ℕ → List Event → Bool
is_covered header outside o past = is_private_from header outside o (stem header o past)

-- an object that comes from a file was held without that file too
pub covered_less : (header : Header) (outside : Outside) (o n : ℕ) (x y : Option ℕ) → (o ≡ n → y ≡ None)
    → is_private_from header outside o (if o == n then x else y) ≡ true → is_private_from header outside o y ≡ true
covered_less header outside o n x y fresh ours = elim (ℕ_discrete o n) [
  | yes e ↦ subst (λ (z : Option ℕ). is_private_from header outside o z ≡ true) (sym (fresh e))
      (freed (nat_lt o (named header)) (is_file_kept (declared header o)) outside.paging (is_from_told header outside (if o == n then x else y)) ours)
  | no apart ↦ subst (λ (z : Option ℕ). is_private_from header outside o z ≡ true) (if_no o n x y apart) ours
]
  where
    freed : (below kept paging told : Bool) → ((not below && (paging && told)) || (below && kept)) ≡ true
        → ((not below && (paging && true)) || (below && kept)) ≡ true
    freed true kept paging told is = is
    freed false kept true told is = refl
    freed false kept false told is = is

-- a declared object is covered where it is a file
pub declared_covered : (header : Header) (outside : Outside) (o : ℕ) (from : Option ℕ) → is_private_from header outside o from ≡ true → o < named header
    → is_file header o ≡ true
declared_covered header outside o from ours below = let x : nat_lt o (named header) ≡ true = grind (arith, nat_tests) in grind arith

pub file_covered : (header : Header) (outside : Outside) (o : ℕ) (from : Option ℕ) → is_file header o ≡ true → is_private_from header outside o from ≡ true
file_covered header outside o from file =
    by (nat_lt o (named header)) (is_file_kept (declared header o)) (outside.paging && is_from_told header outside from) file
  where
    by : (below kept told : Bool) → (below && kept) ≡ true → ((not below && told) || (below && kept)) ≡ true
    by true kept told is = is
    by false kept told is = absurd (let bad : false ≡ true = is in cc)

-- temporary objects and regions that come from one file are all alike
pub later_alike : (header : Header) (outside : Outside) (a b : ℕ) (from also : Option ℕ) → named header ≤ a → named header ≤ b → from ≡ also
    → is_private_from header outside a from ≡ is_private_from header outside b also
later_alike header outside a b from also above there same =
    let x : nat_lt a (named header) ≡ false = grind (arith, nat_tests) in
    let y : nat_lt b (named header) ≡ false = grind (arith, nat_tests) in
    rw (x, y, same) refl

-- declared ones whatever they come from
pub declared_alike : (header : Header) (outside : Outside) (o : ℕ) (from also : Option ℕ) → o < named header
    → is_private_from header outside o from ≡ is_private_from header outside o also
declared_alike header outside o from also below = let x : nat_lt o (named header) ≡ true = grind (arith, nat_tests) in rw x refl

pub told_private : (header : Header) (outside : Outside) (r : ℕ) (from : Option ℕ) → named header ≤ r → outside.paging ≡ true
    → is_from_told header outside from ≡ true → is_private_from header outside r from ≡ true
told_private header outside r from above paging told = let x : nat_lt r (named header) ≡ false = grind (arith, nat_tests) in rw (x, paging, told) refl

pub later_both : (header : Header) (outside : Outside) (r : ℕ) (from : Option ℕ) → named header ≤ r → is_private_from header outside r from ≡ true
    → (outside.paging ≡ true) × (is_from_told header outside from ≡ true)
later_both header outside r from above private = by (nat_lt r (named header)) (is_file_kept (declared header r)) outside.paging
    (is_from_told header outside from) (grind (arith, nat_tests)) private
  where
    by : (below kept paging told : Bool) → below ≡ false → ((not below && (paging && told)) || (below && kept)) ≡ true → (paging ≡ true) × (told ≡ true)
    by false kept true true low is = (refl, refl)
    by false kept true false low is = absurd (let bad : false ≡ true = is in cc)
    by false kept false told low is = absurd (let bad : false ≡ true = is in cc)
    by true kept paging told low is = absurd (let bad : true ≡ false = low in cc)

pub later_told : (header : Header) (outside : Outside) (r : ℕ) (from : Option ℕ) → named header ≤ r → is_private_from header outside r from ≡ true
    → outside.paging ≡ true
later_told header outside r from above private = (later_both header outside r from above private).0

pub later_from : (header : Header) (outside : Outside) (r : ℕ) (from : Option ℕ) → named header ≤ r → is_private_from header outside r from ≡ true
    → is_from_told header outside from ≡ true
later_from header outside r from above private = (later_both header outside r from above private).1
