-- The pages at hand all have the length of the page.
use Rattle.std.proofs.Common.{◌≡◌, ℕ, List, [], ◌∷◌, ◌++◌, ◌-◌, length, replicate, arith}
use Rattle.std.proofs.lemmas.List.{append-nil}
use Rattle.sms_pages.specs.Desk.{AllLong}

pub long_rest : (n : ℕ) (pages : List (List ℕ)) (page : List ℕ) → AllLong n (pages ++ page ∷ []) → AllLong n pages
long_rest n [] page long = tt
long_rest n (first ∷ pages) page long = (long.0, long_rest n pages page long.1)

pub long_last : (n : ℕ) (pages : List (List ℕ)) (page : List ℕ) → AllLong n (pages ++ page ∷ []) → length page ≡ n
long_last n [] page long = long.0
long_last n (first ∷ pages) page long = long_last n pages page long.1

pub filled : (page bytes : List ℕ) → length page ≡ length bytes → bytes ++ replicate (length page - length bytes) 0 ≡ bytes
filled page bytes same =
    let none : length page - length bytes ≡ 0 = omega arith in
    rw none (append-nil bytes)
