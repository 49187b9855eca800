-- Lists in the other order, and the oldest part of a list that has the newest first.
use Rattle.std.proofs.Common.{◌≡◌, ℕ, suc, ◌+◌, ◌-◌, ◌<◌, ◌≤◌, List, ◌∷◌, length, drop, get_or, reverse, ap, sym, ◌∙◌, arith, slice_get, Some}
use Rattle.std.proofs.Math.Seq.{drop-cons}
use Rattle.std.proofs.lemmas.List.{get_or-reverse, length-reverse}
use Rattle.std.proofs.lemmas.Option.{slice_get_within, get_or_from_slice_get}
use Rattle.std.specs.List.{All}

-- what holds of each holds of each in the other order
pub all_reversed : {A : Type 0} (P : A → Type 0) (items : List A) → All P items → All P (reverse items)
all_reversed P items all = λ k d less.
    let within : k < length items = omega (arith, less, length-reverse items) in
    rw (get_or-reverse items k d within) (all (length items - 1 - k) d (omega arith))

-- the oldest part grows by one item at a time
pub oldest_step : {A : Type 0} (items : List A) (i : ℕ) (x : A) → slice_get (reverse items) i ≡ Some x
    → drop (length items - (i + 1)) items ≡ x ∷ drop (length items - i) items
oldest_step items i x found =
    let inside = slice_get_within (reverse items) i x found in
    let below : i < length items = omega (arith, length-reverse items) in
    let here : get_or (reverse items) i x ≡ x = get_or_from_slice_get (reverse items) i x x found in
    let there : get_or items (length items - 1 - i) x ≡ x = sym (get_or-reverse items i x below) ∙ here in
    let one : length items - (i + 1) ≡ length items - 1 - i = omega arith in
    let two : suc (length items - 1 - i) ≡ length items - i = omega arith in
    ap (λ z. drop z items) one ∙ drop-cons items (length items - 1 - i) x (omega arith)
    ∙ ap (λ z. z ∷ drop (suc (length items - 1 - i)) items) there ∙ ap (λ z. x ∷ drop z items) two

pub oldest_all : {A : Type 0} (items : List A) (n : ℕ) → length items ≤ n → drop (length items - n) items ≡ items
oldest_all items n all = let none : length items - n ≡ 0 = omega arith in ap (λ z. drop z items) none
