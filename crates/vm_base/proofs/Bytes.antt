-- The number that at most k little-endian bytes spell is below 256 to the power k.
use Rattle.std.proofs.Common.{◌≡◌, ℕ, zero, suc, ◌+◌, ◌-◌, ◌/◌, ◌%◌, ◌^◌, ◌<◌, ◌≤◌, List, [], ◌∷◌, ◌++◌, length, take, get_or, slice_set, ap, sym, ◌∙◌}
use Rattle.std.proofs.Common.{append_assoc, arith}
use Rattle.std.proofs.lemmas.List.{take_more_set}
use Rattle.std.proofs.Math.Nat.{pow-suc}
use Rattle.vm_base.specs.Pages.{little_endian, little_endian_bytes}

abbrev pub IsBytes : List ℕ → Type 0
IsBytes xs = (i : ℕ) → get_or xs i 0 < 256

pub bound : (k : ℕ) (xs : List ℕ) → length xs ≤ k → IsBytes xs → little_endian xs < 256 ^ k
bound zero [] le all = omega arith
bound zero (x ∷ xs) le all = omega arith
bound (suc k) [] le all = let h : 0 < 256 ^ k = bound k [] (omega arith) all in rw pow-suc (omega arith)
bound (suc k) (x ∷ xs) le all =
    let tail : IsBytes xs = λ i. all (suc i) in
    let h : little_endian xs < 256 ^ k = bound k xs (omega arith) tail in
    let first : x < 256 = all 0 in
    rw pow-suc (omega arith)

-- one byte more of a number that is spelled from the front
pub spelled_more : (n i value rest : ℕ) (bytes : List ℕ) → i < length bytes → length bytes ≡ n
    → little_endian_bytes n value ≡ take i bytes ++ little_endian_bytes (n - i) rest
    → little_endian_bytes n value ≡ take (i + 1) (slice_set bytes i (rest % 256)) ++ little_endian_bytes (n - (i + 1)) (rest / 256)
spelled_more n i value rest bytes inside whole spelled =
    let left : n - i ≡ suc (n - (i + 1)) = omega arith in
    let more : take (i + 1) (slice_set bytes i (rest % 256)) ≡ take i bytes ++ rest % 256 ∷ [] = take_more_set bytes i (rest % 256) inside in
    let split : little_endian_bytes (n - i) rest ≡ rest % 256 ∷ little_endian_bytes (n - (i + 1)) (rest / 256) = ap (λ z. little_endian_bytes z rest) left in
    spelled ∙ (ap (λ z. take i bytes ++ z) split ∙ (sym (append_assoc (take i bytes) (rest % 256 ∷ []) (little_endian_bytes (n - (i + 1)) (rest / 256)))
    ∙ ap (λ z. z ++ little_endian_bytes (n - (i + 1)) (rest / 256)) (sym more)))
