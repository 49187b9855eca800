-- Trimming from the end.
use Rattle.std.proofs.Common.{ℕ, ◌≡◌, ◌≢◌, ◌+◌, List, [], ◌∷◌, ◌++◌, refl, ap, sym, ◌∙◌, arith, false, ◌==◌, ◌-◌, ◌<◌, ◌≤◌, take, drop, length, get_or}
use Rattle.std.proofs.Common.{append_assoc, append-nil}
use Rattle.std.specs.Prelude.{fold, bit_or, slice_range}
use Rattle.std.proofs.Math.Seq.{take-add}
use Rattle.std.proofs.lemmas.Nat.{le_or_l, le_or_r}
use Rattle.std.proofs.lemmas.List.{take_more}
use Rattle.std.proofs.lemmas.Bool.Decides.{nat_tests}
use Rattle.vm_model.specs.Text.{trimmed}

pub trimmed_zero : (xs : List ℕ) → trimmed (xs ++ 0 ∷ []) ≡ trimmed xs
trimmed_zero [] = refl
trimmed_zero (x ∷ xs) = rw (trimmed_zero xs) refl

pub trimmed_whole : (xs : List ℕ) (x : ℕ) → (x == 0) ≡ false → trimmed (xs ++ x ∷ []) ≡ xs ++ x ∷ []
trimmed_whole [] x nonzero = rw nonzero refl
trimmed_whole (y ∷ []) x nonzero = rw (nonzero, trimmed) refl
trimmed_whole (y ∷ (z ∷ xs)) x nonzero = rw (trimmed_whole (z ∷ xs) x nonzero) refl

pub shorter : (xs : List ℕ) (n : ℕ) → 0 < n → n ≤ length xs → get_or xs (n - 1) 0 ≡ 0 → trimmed (take (n - 1) xs) ≡ trimmed (take n xs)
shorter xs n positive inside is_zero =
    let e : take n xs ≡ take (n - 1) xs ++ get_or xs (n - 1) 0 ∷ [] = ap (λ z. take z xs) (let q : n ≡ (n - 1) + 1 = omega arith in q)
    ∙ take_more xs (n - 1) 0 (omega arith) in
    sym (ap trimmed e ∙ ap (λ z. trimmed (take (n - 1) xs ++ z ∷ [])) is_zero ∙ trimmed_zero (take (n - 1) xs))

pub whole : (xs : List ℕ) (n : ℕ) → 0 < n → n ≤ length xs → get_or xs (n - 1) 0 ≢ 0 → trimmed (take n xs) ≡ take n xs
whole xs n positive inside nonzero =
    let e : take n xs ≡ take (n - 1) xs ++ get_or xs (n - 1) 0 ∷ [] = ap (λ z. take z xs) (let q : n ≡ (n - 1) + 1 = omega arith in q)
    ∙ take_more xs (n - 1) 0 (omega arith) in
    let b : (get_or xs (n - 1) 0 == 0) ≡ false = grind (arith, nat_tests) in
    ap trimmed e ∙ trimmed_whole (take (n - 1) xs) (get_or xs (n - 1) 0) b ∙ sym e

-- Bytes that have no bit are zeros, and no more is left of a list with them than without them.
pub none_before : (bits : ℕ) (bytes : List ℕ) → fold bit_or bits bytes ≡ 0 → bits ≡ 0
none_before bits [] none = none
none_before bits (x ∷ bytes) none = let more = none_before (bit_or bits x) bytes none in omega (arith, more, le_or_l bits x)

pub trimmed_zeros : (xs zeros : List ℕ) (bits : ℕ) → fold bit_or bits zeros ≡ 0 → trimmed (xs ++ zeros) ≡ trimmed xs
trimmed_zeros xs [] bits none = ap trimmed (append-nil xs)
trimmed_zeros xs (x ∷ zeros) bits none =
    let both = none_before (bit_or bits x) zeros none in
    let first : x ≡ 0 = omega (arith, both, le_or_r bits x) in
    ap trimmed (sym (append_assoc xs (x ∷ []) zeros)) ∙ trimmed_zeros (xs ++ x ∷ []) zeros (bit_or bits x) none
    ∙ ap (λ z. trimmed (xs ++ z ∷ [])) first ∙ trimmed_zero xs

pub block_shorter : (xs : List ℕ) (n block : ℕ) → block ≤ n → fold bit_or 0 (slice_range xs (n - block) n) ≡ 0
    → trimmed (take (n - block) xs) ≡ trimmed (take n xs)
block_shorter xs n block inside none =
    let width : n - (n - block) ≡ block = omega arith in
    let zeros : fold bit_or 0 (take block (drop (n - block) xs)) ≡ 0 = ap (λ z. fold bit_or 0 (take z (drop (n - block) xs))) (sym width) ∙ none in
    let e : take n xs ≡ take (n - block) xs ++ take block (drop (n - block) xs) =
    ap (λ z. take z xs) (let q : n ≡ (n - block) + block = omega arith in q) ∙ take-add (n - block) block xs in
    sym (ap trimmed e ∙ trimmed_zeros (take (n - block) xs) (take block (drop (n - block) xs)) 0 zeros)
