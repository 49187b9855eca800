-- The oldest part of a list that has the newest first, and what stands behind it.
use Rattle.std.specs.Prelude.{ℕ, ◌-◌, List, length, take, drop}

-- the oldest so many
abbrev pub oldest_items : {A : Type 0} → ℕ → List A → List A
oldest_items n items = drop (length items - n) items

-- those behind the oldest so many
abbrev pub later_of : {A : Type 0} → ℕ → List A → List A
later_of from items = take (length items - from) items
