-- The tables of pairs of digits.
use Rattle.std.proofs.Common.{◌≡◌, ℕ, zero, suc, ◌+◌, ◌-◌, ◌*◌, ◌/◌, ◌%◌, ◌<◌, Bool, true, ◌&&◌, T, eqb, eqb→eq, List, get_or, inl, inr, arith, eq-zero-or-pos}
use Rattle.vm_model.specs.Text.{hex_digit}
use Rattle.vm_text.specs.declared.room.TheConstants.{PAIRS, HEX_PAIRS}
use lib.Ieee.Fits.{and_l, and_r}

-- the first pairs of a table are those of the numbers
abbrev are_pairs : List ℕ → (ℕ → ℕ) → (ℕ → ℕ) → ℕ → Bool
are_pairs table first second zero = true
are_pairs table first second (suc n) =
    (eqb (get_or table (n * 2) 0) (first n) && eqb (get_or table (n * 2 + 1) 0) (second n)) && are_pairs table first second n

pair_below : (table : List ℕ) (first second : ℕ → ℕ) (most n : ℕ) → T (are_pairs table first second most) → n < most
    → (get_or table (n * 2) 0 ≡ first n) × (get_or table (n * 2 + 1) 0 ≡ second n)
pair_below table first second zero n all below = absurd (omega arith)
pair_below table first second (suc most) n all below =
    elim (eq-zero-or-pos (most - n)) [
      | inl last ↦
          let e : n ≡ most = omega arith in
          let both = and_l _ (are_pairs table first second most) all in
          rw e (eqb→eq _ _ (and_l _ _ both), eqb→eq _ _ (and_r _ _ both))
      | inr more ↦ pair_below table first second most n (and_r _ (are_pairs table first second most) all) (omega arith)
    ]

pub pair_at : (n : ℕ) → n < 100 → (get_or PAIRS (n * 2) 0 ≡ 48 + n / 10) × (get_or PAIRS (n * 2 + 1) 0 ≡ 48 + n % 10)
pair_at n small = pair_below PAIRS (λ z. 48 + z / 10) (λ z. 48 + z % 10) 100 n tt small

pub hex_pair_at : (byte : ℕ) → byte < 256
    → (get_or HEX_PAIRS (byte * 2) 0 ≡ hex_digit (byte / 16)) × (get_or HEX_PAIRS (byte * 2 + 1) 0 ≡ hex_digit (byte % 16))
hex_pair_at byte small = pair_below HEX_PAIRS (λ z. hex_digit (z / 16)) (λ z. hex_digit (z % 16)) 256 byte tt small
