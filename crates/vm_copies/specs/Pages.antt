-- How the pages that a copy object has had are kept: a bit for each, in words of 64.
use Rattle.std.specs.Int.{bit_at}
use Rattle.std.specs.Prelude.{ℕ, ◌==◌, ◌/◌, ◌%◌, Bool, List, [], ◌∷◌, zero, suc, slice_index_or}

-- whether the bit of a page is set, false behind the last word
abbrev pub is_set : List ℕ → ℕ → Bool
is_set words p = bit_at (slice_index_or words (p / 64) 0) (p % 64) == 1

-- what a test gives of each number below one, the lowest first
abbrev pub each_below : ℕ → (ℕ → Bool) → List Bool
each_below zero test = []
each_below (suc n) test = test 0 ∷ each_below n (λ i. test (suc i))

-- which of so many pages have their bits set
abbrev pub pages_in : ℕ → List ℕ → List Bool
pages_in pages words = each_below pages (is_set words)
