-- Pairs of hexadecimal digits are twice as long as the bytes that they spell.
use Rattle.std.proofs.Common.{◌≡◌, ℕ, ◌*◌, ◌/◌, Bool, true, false, ◌&&◌, List, [], ◌∷◌, length, refl, arith}
use Rattle.vm_text.specs.Words.{is_hex, are_pairs, pair_bytes, SpellsBytes}

last_holds : (a b : Bool) → (a && b) ≡ true → b ≡ true
last_holds true b is = is
last_holds false b is = absurd (cc)

pub length_pairs : (word : List ℕ) → are_pairs word ≡ true → length word ≡ 2 * length (pair_bytes word)
length_pairs [] pairs = refl
length_pairs (high ∷ []) pairs = absurd (cc)
length_pairs (high ∷ low ∷ more) pairs = let h = length_pairs more (last_holds (is_hex high && is_hex low) (are_pairs more) pairs) in omega (arith, h)

pub spells : (word : List ℕ) → are_pairs word ≡ true → SpellsBytes word (length word / 2)
spells word pairs = let h = length_pairs word pairs in record { pairs = pairs; all = omega (arith, h); twice = omega (arith, h) }
