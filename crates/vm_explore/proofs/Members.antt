-- What stands in a list, and lists in which nothing stands twice.
use Rattle.std.proofs.Common.{suc, ◌≡◌, ◌≢◌, arith, Bool, true, false, cond, List, [], ◌∷◌, ◌++◌, map, ⊎_elim, ◌⊎◌, inl, inr, refl, sym, ap, subst, ◌∙◌}
use Rattle.std.specs.List.{All, AllPairs, Any, filter, flat_map}
use Rattle.std.proofs.lemmas.Bool.{false≢true}
use Rattle.std.proofs.lemmas.List.Elements.{All-cons, All-nil}
use Rattle.std.proofs.lemmas.List.Kept.{AllPairs-cons}

abbrev pub IsIn : {A : Type 0} → A → List A → Type 0
IsIn x [] = ⊥
IsIn x (y ∷ ys) = (y ≡ x) ⊎ IsIn x ys

-- nothing stands there twice
abbrev pub Apart : {A : Type 0} → List A → Type 0
Apart [] = Unit {0}
Apart (x ∷ xs) = (IsIn x xs → ⊥) × Apart xs

pub IsIn-append_left : {A : Type 0} (x : A) (xs ys : List A) → IsIn x xs → IsIn x (xs ++ ys)
IsIn-append_left x [] ys there = absurd there
IsIn-append_left x (z ∷ zs) ys there = ⊎_elim (λ (here : z ≡ x). inl here) (λ (later : IsIn x zs). inr (IsIn-append_left x zs ys later)) there

pub IsIn-append_right : {A : Type 0} (x : A) (xs ys : List A) → IsIn x ys → IsIn x (xs ++ ys)
IsIn-append_right x [] ys there = there
IsIn-append_right x (z ∷ zs) ys there = inr (IsIn-append_right x zs ys there)

pub IsIn-append_cases : {A : Type 0} (x : A) (xs ys : List A) → IsIn x (xs ++ ys) → IsIn x xs ⊎ IsIn x ys
IsIn-append_cases x [] ys there = inr there
IsIn-append_cases x (z ∷ zs) ys there =
    ⊎_elim
    (λ (here : z ≡ x). inl (inl here))
    (λ (later : IsIn x (zs ++ ys)). ⊎_elim (λ (left : IsIn x zs). inl (inr left)) (λ (right : IsIn x ys). inr right) (IsIn-append_cases x zs ys later))
    there

pub IsIn-map : {A B : Type 0} (f : A → B) (x : A) (xs : List A) → IsIn x xs → IsIn (f x) (map f xs)
IsIn-map f x [] there = absurd there
IsIn-map f x (z ∷ zs) there = ⊎_elim (λ (here : z ≡ x). inl (ap f here)) (λ (later : IsIn x zs). inr (IsIn-map f x zs later)) there

pub IsIn-from_map : {A B : Type 0} (f : A → B) (y : B) (xs : List A) → IsIn y (map f xs) → (x : A) × IsIn x xs × (f x ≡ y)
IsIn-from_map f y [] there = absurd there
IsIn-from_map f y (z ∷ zs) there =
    ⊎_elim
    (λ (here : f z ≡ y). (z, inl refl, here))
    (λ (later : IsIn y (map f zs)). let w = IsIn-from_map f y zs later in (w.0, inr w.1, w.2))
    there

-- the elements of a filter's list whose first was tested
kept : {A : Type 0} (b : Bool) (x z : A) (zs : List A) → b ≡ true → z ≡ x → IsIn x (cond b (z ∷ zs) zs)
kept true x z zs passes here = inl here
kept false x z zs passes here = absurd (false≢true passes)

kept_behind : {A : Type 0} (b : Bool) (x z : A) (zs : List A) → IsIn x zs → IsIn x (cond b (z ∷ zs) zs)
kept_behind true x z zs later = inr later
kept_behind false x z zs later = later

from_kept : {A : Type 0} (b : Bool) (x z : A) (zs : List A) → IsIn x (cond b (z ∷ zs) zs) → ((b ≡ true) × (z ≡ x)) ⊎ IsIn x zs
from_kept true x z zs there = ⊎_elim (λ (here : z ≡ x). inl (refl, here)) (λ (later : IsIn x zs). inr later) there
from_kept false x z zs there = inr there

pub IsIn-filter : {A : Type 0} (p : A → Bool) (x : A) (xs : List A) → p x ≡ true → IsIn x xs → IsIn x (filter p xs)
IsIn-filter p x [] passes there = absurd there
IsIn-filter p x (z ∷ zs) passes there =
    ⊎_elim
    (λ (here : z ≡ x). kept (p z) x z (filter p zs) (ap p here ∙ passes) here)
    (λ (later : IsIn x zs). kept_behind (p z) x z (filter p zs) (IsIn-filter p x zs passes later))
    there

pub IsIn-from_filter : {A : Type 0} (p : A → Bool) (x : A) (xs : List A) → IsIn x (filter p xs) → (p x ≡ true) × IsIn x xs
IsIn-from_filter p x [] there = absurd there
IsIn-from_filter p x (z ∷ zs) there =
    ⊎_elim
    (λ (here : (p z ≡ true) × (z ≡ x)). (sym (ap p here.1) ∙ here.0, inl here.1))
    (λ (later : IsIn x (filter p zs)). let w = IsIn-from_filter p x zs later in (w.0, inr w.1))
    (from_kept (p z) x z (filter p zs) there)

pub IsIn-flat_map : {A B : Type 0} (f : A → List B) (x : A) (y : B) (xs : List A) → IsIn x xs → IsIn y (f x) → IsIn y (flat_map f xs)
IsIn-flat_map f x y [] there has = absurd there
IsIn-flat_map {A = A} f x y (z ∷ zs) there has =
    ⊎_elim
    (λ (here : z ≡ x). IsIn-append_left y (f z) (flat_map f zs) (let P : A → Type 0 = λ v. IsIn y (f v) in subst P (sym here) has))
    (λ (later : IsIn x zs). IsIn-append_right y (f z) (flat_map f zs) (IsIn-flat_map f x y zs later has))
    there

pub IsIn-from_flat_map : {A B : Type 0} (f : A → List B) (y : B) (xs : List A) → IsIn y (flat_map f xs) → (x : A) × IsIn x xs × IsIn y (f x)
IsIn-from_flat_map f y [] there = absurd there
IsIn-from_flat_map f y (z ∷ zs) there =
    ⊎_elim
    (λ (here : IsIn y (f z)). (z, inl refl, here))
    (λ (later : IsIn y (flat_map f zs)). let w = IsIn-from_flat_map f y zs later in (w.0, inr w.1, w.2))
    (IsIn-append_cases y (f z) (flat_map f zs) there)

pub Apart-append : {A : Type 0} (xs ys : List A) → Apart xs → Apart ys → ((x : A) → IsIn x xs → IsIn x ys → ⊥) → Apart (xs ++ ys)
Apart-append [] ys apart others none = others
Apart-append (z ∷ zs) ys apart others none = (
  λ there. ⊎_elim (λ (left : IsIn z zs). apart.0 left) (λ (right : IsIn z ys). none z (inl refl) right) (IsIn-append_cases z zs ys there),
  Apart-append zs ys apart.1 others (λ x left right. none x (inr left) right),
)

pub Apart-map : {A B : Type 0} (f : A → B) (xs : List A) → ((x y : A) → f x ≡ f y → x ≡ y) → Apart xs → Apart (map f xs)
Apart-map f [] same apart = tt
Apart-map {A = A} f (z ∷ zs) same apart = (
  λ there. let w = IsIn-from_map f (f z) zs there in apart.0 (let P : A → Type 0 = λ v. IsIn v zs in subst P (same w.0 z w.2) w.1),
  Apart-map f zs same apart.1,
)

kept_apart : {A : Type 0} (b : Bool) (z : A) (zs : List A) → (IsIn z zs → ⊥) → Apart zs → Apart (cond b (z ∷ zs) zs)
kept_apart true z zs none apart = (none, apart)
kept_apart false z zs none apart = apart

pub Apart-filter : {A : Type 0} (p : A → Bool) (xs : List A) → Apart xs → Apart (filter p xs)
Apart-filter p [] apart = tt
Apart-filter p (z ∷ zs) apart =
    kept_apart (p z) z (filter p zs) (λ there. apart.0 (IsIn-from_filter p z zs there).1) (Apart-filter p zs apart.1)

pub Apart-flat_map : {A B : Type 0} (f : A → List B) (xs : List A) → Apart xs → ((x : A) → Apart (f x))
    → ((x y : A) (z : B) → IsIn z (f x) → IsIn z (f y) → x ≡ y) → Apart (flat_map f xs)
Apart-flat_map f [] apart each same = tt
Apart-flat_map {A = A} f (x ∷ xs) apart each same =
    Apart-append (f x) (flat_map f xs) (each x) (Apart-flat_map f xs apart.1 each same)
    (λ z left right. let w = IsIn-from_flat_map f z xs right in apart.0 (let P : A → Type 0 = λ v. IsIn v xs in subst P (same w.0 x z w.2 left) w.1))

pub All-from_IsIn : {A : Type 0} (P : A → Type 0) (xs : List A) → ((x : A) → IsIn x xs → P x) → All P xs
All-from_IsIn P [] each = All-nil P
All-from_IsIn P (x ∷ xs) each = All-cons P x xs (each x (inl refl)) (All-from_IsIn P xs (λ y there. each y (inr there)))

-- each element of a list and each later one have different images
pub AllPairs-from_apart : {A B : Type 0} (f : A → B) (xs : List A) → Apart (map f xs) → AllPairs (λ x y. f x ≢ f y) xs
AllPairs-from_apart f [] apart = λ i j d before within. absurd (omega arith)
AllPairs-from_apart {B = B} f (x ∷ xs) apart =
    AllPairs-cons (λ v w. f v ≢ f w) x xs
    (All-from_IsIn (λ y. f x ≢ f y) xs (λ y there same. apart.0 (let P : B → Type 0 = λ v. IsIn v (map f xs) in subst P (sym same) (IsIn-map f y xs there))))
    (AllPairs-from_apart f xs apart.1)

pub Any-from_IsIn : {A B : Type 0} (f : A → B) (y : B) (xs : List A) → IsIn y (map f xs) → Any (λ x. f x ≡ y) xs
Any-from_IsIn f y [] there = absurd there
Any-from_IsIn f y (x ∷ xs) there =
    ⊎_elim
    (λ (here : f x ≡ y). (0, x, omega arith, refl, here))
    (λ (later : IsIn y (map f xs)). let w = Any-from_IsIn f y xs later in (suc w.0, w.1, omega (arith, w.2), w.3, w.4))
    there

pub Any-of_IsIn : {A : Type 0} (P : A → Type 0) (y : A) (xs : List A) → IsIn y xs → P y → Any P xs
Any-of_IsIn P y [] there holds = absurd there
Any-of_IsIn {A = A} P y (x ∷ xs) there holds =
    ⊎_elim
    (λ (here : x ≡ y). (0, x, omega arith, refl, subst P (sym here) holds))
    (λ (later : IsIn y xs). let w = Any-of_IsIn P y xs later holds in (suc w.0, w.1, omega (arith, w.2), w.3, w.4))
    there
