-- The text of a name is ASCII, and is kept whole.
use Rattle.std.proofs.Common.{◌≡◌, ℕ, zero, suc, ◌<◌, ◌≤◌, List, [], ◌∷◌, ◌++◌, Bool, true, false, ◌&&◌, slice_index, nat_lt, nat_le, length, take, drop}
use Rattle.std.proofs.Common.{replicate, refl, ap, sym, arith}
use Rattle.std.proofs.lemmas.Bool.Decides.{nat_tests}
use Rattle.std.proofs.lemmas.List.{drop-replicate}
use Rattle.std.proofs.Math.Seq.{take-append_seam}
use Rattle.std.specs.List.{list_all}
use Rattle.std.specs.Str.{IsAscii}
use Rattle.vm_model.specs.Name.{is_lower, is_name_byte, IsName, IsKept}

name_byte_is_low : (byte : ℕ) → is_name_byte byte ≡ true → byte < 128
name_byte_is_low byte is = grind (arith, nat_tests)

first_holds : (a b : Bool) → (a && b) ≡ true → a ≡ true
first_holds true b is = refl
first_holds false b is = is

second_holds : (a b : Bool) → (a && b) ≡ true → b ≡ true
second_holds true b is = is
second_holds false b is = absurd (cc)

all_low : (bytes : List ℕ) → list_all is_name_byte bytes ≡ true → IsAscii bytes
all_low [] is i = omega arith
all_low (byte ∷ bytes) is zero = name_byte_is_low byte (first_holds _ _ is)
all_low (byte ∷ bytes) is (suc i) = all_low bytes (second_holds _ _ is) i

-- what a name is, test by test
pub record NameParts (text : List ℕ) : Type 0 where
  pub some : 0 < length text
  pub short : length text ≤ 32
  pub all : list_all is_name_byte text ≡ true

and4 : (a b c d : Bool) → (a && (b && (c && d))) ≡ true → (a ≡ true) × (b ≡ true) × (d ≡ true)
and4 true true true true is = (refl, refl, refl)
and4 true true true false is = absurd (cc)
and4 true true false d is = absurd (cc)
and4 true false c d is = absurd (cc)
and4 false b c d is = absurd (cc)

parts_of : (text : List ℕ) → IsName text → NameParts text
parts_of text is =
    let parts = and4 (nat_lt 0 (length text)) (nat_le (length text) 32) (is_lower (slice_index text 0)) (list_all is_name_byte text) is in
    record { some = grind (arith, nat_tests, parts.0); short = grind (arith, nat_tests, parts.1); all = parts.2 }

pub name_is_ascii : (text : List ℕ) → IsName text → IsAscii text
name_is_ascii text is = all_low text (parts_of text is).all

pub kept_whole : (text front : List ℕ) → front ≡ text → IsName text → IsKept (front ++ drop (length text) (replicate 32 0)) (length text)
kept_whole text front same is =
    let begun : take (length text) (front ++ drop (length text) (replicate 32 0)) ≡ text = rw same (take-append_seam text _) in
    record {
      short = (parts_of text is).short;
      name = rw begun is;
      padded = rw (begun, same) (ap (λ z. text ++ z) (sym (drop-replicate {X = ℕ} (length text) 32 0)));
      whole = ap length begun;
    }
