-- The digits of a number spell it.
use Rattle.std.proofs.Common.{◌≡◌, ℕ, ◌+◌, ◌-◌, ◌*◌, ◌/◌, ◌%◌, ◌^◌, ◌<◌, ◌≤◌, Bool, true, false, ◌&&◌, nat_lt, nat_le, List, [], ◌∷◌, ◌++◌, length}
use Rattle.std.proofs.Common.{length-append, Ok, refl, ap, ◌∙◌, arith}
use Rattle.std.proofs.lemmas.Bool.Decides.{nat_tests}
use Rattle.std.proofs.lemmas.Fmt.{decimal_by_steps, length-decimal-le}
use Rattle.std.specs.Fmt.{decimal}
use Rattle.vm_model.specs.Name.{is_digit}
use Rattle.vm_script.proofs.Words.{IsBlack, IsWord, black_append}
use Rattle.vm_text.specs.Words.{digits_behind, number_of, number_between, number_below}

-- what digits are, where they spell a number
pub record Spells (number : ℕ) (digits : List ℕ) : Type 0 where
  pub read : number < 2 ^ 64 → digits_behind 0 digits ≡ Ok number
  pub black : IsBlack digits
  pub some : 0 < length digits

is_next : (front digit : ℕ) → digit < 10 → front * 10 + digit < 2 ^ 64
    → (is_digit (48 + digit) && nat_lt (front * 10 + (48 + digit - 48)) (2 ^ 64)) ≡ true
is_next front digit small fits = grind (arith, nat_tests)

next_digit : (front digit : ℕ) → digit < 10 → front * 10 + digit < 2 ^ 64 → digits_behind front ((48 + digit) ∷ []) ≡ Ok (front * 10 + digit)
next_digit front digit small fits =
    let same : front * 10 + (48 + digit - 48) ≡ front * 10 + digit = omega arith in
    rw (is_next front digit small fits) (ap Ok same)

behind_tested : (front digit : ℕ) (digits more : List ℕ) (number : ℕ) (t : Bool)
    → (is_digit digit && nat_lt (front * 10 + (digit - 48)) (2 ^ 64)) ≡ t
    → (digits_behind (front * 10 + (digit - 48)) digits ≡ Ok number
    → digits_behind (front * 10 + (digit - 48)) (digits ++ more) ≡ digits_behind number more)
    → digits_behind front (digit ∷ digits) ≡ Ok number → digits_behind front (digit ∷ (digits ++ more)) ≡ digits_behind number more
behind_tested front digit digits more number true test on is = rw test (on (rw test at is))
behind_tested front digit digits more number false test on is = let no = rw test at is in cc

behind_digits : (front : ℕ) (digits more : List ℕ) (number : ℕ) → digits_behind front digits ≡ Ok number
    → digits_behind front (digits ++ more) ≡ digits_behind number more
behind_digits front [] more number is = let same : front ≡ number = cc in rw same refl
behind_digits front (digit ∷ digits) more number is =
    behind_tested front digit digits more number _ refl (behind_digits (front * 10 + (digit - 48)) digits more number) is

one_digit : (number : ℕ) → number < 10 → Spells number ((48 + number) ∷ [])
one_digit number small =
    let same : 0 * 10 + number ≡ number = omega arith in
    record {
      read = λ _. next_digit 0 number small (omega (arith, small)) ∙ ap Ok same;
      black = (omega arith, tt);
      some = omega arith;
    }

more_digits : (number : ℕ) (digits : List ℕ) → 10 ≤ number → Spells (number / 10) digits → Spells number (digits ++ ((48 + number % 10) ∷ []))
more_digits number digits large front =
    let same : number / 10 * 10 + number % 10 ≡ number = omega arith in
    record {
      read = λ fits.
          behind_digits 0 digits ((48 + number % 10) ∷ []) (number / 10) (front.read (omega (arith, fits)))
          ∙ (next_digit (number / 10) (number % 10) (omega arith) (omega (arith, same, fits)) ∙ ap Ok same);
      black = black_append digits ((48 + number % 10) ∷ []) front.black (omega arith, tt);
      some = rw length-append (omega arith);
    }

spells : (number : ℕ) → number < 2 ^ 64 → Spells number (decimal number)
spells = decimal_by_steps Spells one_digit more_digits

of_some : (digits : List ℕ) → 0 < length digits → number_of digits ≡ digits_behind 0 digits
of_some [] some = absurd (omega (arith, some))
of_some (digit ∷ digits) some = refl

pub number_is : (number : ℕ) → number < 10 ^ 10 → number_of (decimal number) ≡ Ok number
number_is number small =
    let fits : number < 2 ^ 64 = omega (arith, small) in
    let spelled = spells number fits in
    of_some (decimal number) spelled.some ∙ spelled.read fits

pub word_is : (number : ℕ) → number < 10 ^ 10 → IsWord (decimal number)
word_is number small =
    let fits : number < 2 ^ 64 = omega (arith, small) in
    let spelled = spells number fits in
    record { black = spelled.black; some = spelled.some; short = length-decimal-le 10 number (omega arith) small fits }

pub between : (least most number : ℕ) → number < 10 ^ 10 → least ≤ number → number ≤ most
    → number_between least most (decimal number) ≡ Ok number
between least most number small above under =
    let inside : (nat_le least number && nat_le number most) ≡ true = grind (arith, nat_tests) in
    rw (number_is number small, inside) refl

pub below : (limit number : ℕ) → number < 10 ^ 10 → number < limit → number_below limit (decimal number) ≡ Ok number
below limit number small less =
    let inside : nat_lt number limit ≡ true = grind (arith, nat_tests) in
    rw (number_is number small, inside) refl
