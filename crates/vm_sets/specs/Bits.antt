-- Words of 64 bits, each for a group of pages.
use Rattle.std.specs.Int.{bit_at}
use Rattle.std.specs.Prelude.{ℕ, ◌≡◌, ◌<◌, ◌==◌, ◌/◌, ◌%◌, Bool}

-- whether the bit of a page is set in the word of its group
abbrev pub in_bits : (ℕ → ℕ) → ℕ → Bool
in_bits word page = bit_at (word (page / 64)) (page % 64) == 1

-- the bits have this one so, and each other as it was
pub record WritesBit (slot : ℕ) (now : Bool) (old new : ℕ) : Type 0 where
  pub same : (bit_at new slot == 1) ≡ now
  pub other : (i : ℕ) → i < 64 → (i ≡ slot → ⊥) → bit_at new i ≡ bit_at old i
