-- The table of outcomes.
use Rattle.std.specs.Prelude.{ℕ, ◌≡◌, ◌≢◌, ◌+◌, ◌⊎◌, nat_eq, List, [], ◌∷◌, if◌then◌else◌, map, Option, position, sum_by}
use Rattle.std.specs.Global.{Vec}
use Rattle.std.specs.List.{AllPairs}
use Rattle.std.specs.Cmp.Lexicographic.{pointwise}
use Rattle.vm_explore.specs.declared.counts.Row.{Row}

-- a row, as lists
pub record Line : Type 0 where
  pub values : List ℕ
  pub times : ℕ
  pub order : List ℕ

abbrev pub line_of : Row → Line
line_of row = record { values = row.values.items; times = row.times; order = row.order.items }

-- the outcomes that are known are those of the rows, and no outcome has two rows
pub record AreRows (known : List (Vec ℕ)) (rows : List Row) : Type 0 where
  pub same : map (λ it. it.items) known ≡ map (λ row. row.values.items) rows
  pub apart : AllPairs (λ one other. one ≢ other) (map (λ row. row.values.items) rows)

-- how many runs were counted
abbrev pub times_of : List Line → ℕ
times_of lines = sum_by (λ line. line.times) lines

abbrev pub once_more : Line → Line
once_more line = record { values = line.values; times = line.times + 1; order = line.order }

-- the place of an outcome's line
abbrev pub place : List ℕ → List Line → Option ℕ
place values lines = position (λ line. pointwise nat_eq values line.values) lines

-- the lines behind one run more: its outcome's line has it, or a new one with its order
abbrev pub counted : List ℕ → List ℕ → List Line → List Line
counted values order [] = record { values = values; times = 1; order = order } ∷ []
counted values order (line ∷ more) = if pointwise nat_eq values line.values then once_more line ∷ more else line ∷ counted values order more

-- a line as it was, or with one run more
pub record IsKept (old new : Line) : Type 0 where
  pub values : new.values ≡ old.values
  pub order : new.order ≡ old.order
  pub times : (new.times ≡ old.times) ⊎ (new.times ≡ old.times + 1)
