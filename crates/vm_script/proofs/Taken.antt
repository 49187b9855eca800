-- One item more is gone through.
use Rattle.std.proofs.Common.{◌≡◌, ℕ, ◌+◌, List, [], ◌∷◌, ◌++◌, take, Some, refl, ap, ◌∙◌}
use Rattle.std.proofs.lemmas.Grind.{flat_map-append}
use Rattle.std.proofs.lemmas.List.{take_more}
use Rattle.std.proofs.lemmas.Option.{slice_get_within, get_or_from_slice_get}
use Rattle.std.specs.List.{flat_map, slice_get}

append_nil : {A : Type 0} → (xs : List A) → xs ++ [] ≡ xs
append_nil [] = refl
append_nil (x ∷ xs) = ap (λ z. x ∷ z) (append_nil xs)

pub flat_map_more : {X A : Type 0} (f : X → List A) (xs : List X) (i : ℕ) (x : X) → slice_get xs i ≡ Some x
    → flat_map f (take (i + 1) xs) ≡ flat_map f (take i xs) ++ f x
flat_map_more f xs i x is =
    ap (flat_map f) (take_more xs i x (slice_get_within xs i x is) ∙ ap (λ z. take i xs ++ z ∷ []) (get_or_from_slice_get xs i x x is))
    ∙ (flat_map-append f (take i xs) (x ∷ []) ∙ ap (λ z. flat_map f (take i xs) ++ z) (append_nil (f x)))
