-- The orders of some numbers, each with the oldest first, made by putting one number more behind shorter ones.
use Rattle.std.specs.Prelude.{ℕ, zero, suc, ◌≡◌, ◌≤◌, ◌*◌, ◌/◌, Bool, nat_lt, List, [], ◌∷◌, ◌++◌, length, map}
use Rattle.std.specs.List.{filter, flat_map}
use Rattle.std.specs.Global.{Vec}
use Rattle.vm_free.specs.Orders.{occurrences}

-- the lists of vectors
abbrev pub lists : List (Vec ℕ) → List (List ℕ)
lists vectors = map (λ it. it.items) vectors

-- the order has no number more often than it is to
abbrev pub IsWithin : List ℕ → List ℕ → Type 0
IsWithin tasks order = (t : ℕ) → occurrences t order ≤ occurrences t tasks

-- the order has each number as often as it is to
abbrev pub IsOrderOf : List ℕ → List ℕ → Type 0
IsOrderOf tasks order = (t : ℕ) → occurrences t order ≡ occurrences t tasks

-- whether a number is to stand in the order once more
abbrev pub is_left : List ℕ → List ℕ → ℕ → Bool
is_left tasks order t = nat_lt (occurrences t order) (occurrences t tasks)

-- an order with one number more behind it: each that is left, of some kinds
abbrev pub longer_by : List ℕ → List ℕ → List ℕ → List (List ℕ)
longer_by tasks kinds order = map (λ t. order ++ t ∷ []) (filter (is_left tasks order) kinds)

-- the orders of so many numbers
abbrev pub level : List ℕ → List ℕ → ℕ → List (List ℕ)
level tasks kinds zero = [] ∷ []
level tasks kinds (suc n) = flat_map (longer_by tasks kinds) (level tasks kinds n)

-- how many orders there are
abbrev pub orders_of : List ℕ → ℕ
orders_of [] = 1
orders_of (t ∷ more) = orders_of more * length (t ∷ more) / occurrences t (t ∷ more)
