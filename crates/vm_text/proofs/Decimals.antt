-- The digits of a number.
use Rattle.std.proofs.Common.{◌≡◌, ℕ, ◌/◌, ◌%◌, ◌^◌, ◌<◌, ◌≤◌, List, ◌++◌, append_assoc, length, ap, sym, ◌∙◌, arith}
use Rattle.itoa.proofs.Decimal.{pair, decimal_four}
use Rattle.std.proofs.lemmas.Fmt.{length-decimal-le}
use Rattle.std.specs.Fmt.{decimal}

pub at_most_twenty : (n : ℕ) → n < 2 ^ 64 → length (decimal n) ≤ 20
at_most_twenty n fits = length-decimal-le 20 n (omega arith) (omega arith) fits

pub four_behind : (front : List ℕ) (n : ℕ) → 10000 ≤ n → n < 2 ^ 64
    → ((front ++ decimal (n / 10000)) ++ pair (n % 10000 / 100)) ++ pair (n % 10000 % 100) ≡ front ++ decimal n
four_behind front n long fits =
    append_assoc (front ++ decimal (n / 10000)) (pair (n % 10000 / 100)) (pair (n % 10000 % 100))
    ∙ append_assoc front (decimal (n / 10000)) (pair (n % 10000 / 100) ++ pair (n % 10000 % 100))
    ∙ ap (λ z. front ++ z) (sym (decimal_four n long fits))
