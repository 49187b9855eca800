-- A line, and numbers behind it.
use Rattle.std.specs.Prelude.{ℕ, List, [], ◌∷◌, ◌++◌}
use Rattle.vm_model.specs.Text.{field}

abbrev pub with_fields : List ℕ → List ℕ → List ℕ
with_fields line [] = line
with_fields line (number ∷ numbers) = with_fields (line ++ field number) numbers
