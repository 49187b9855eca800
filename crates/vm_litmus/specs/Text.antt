-- What is written of an exploration.
use Rattle.std.specs.Prelude.{ℕ, ◌++◌, Bool, List, [], ◌∷◌, codes, length, if◌then◌else◌}
use Rattle.vm_explore.specs.declared.counts.Row.{Row}
use Rattle.vm_model.specs.Text.{field}
use Rattle.vm_litmus.specs.Parts.{lines_of, loads_of}
use Rattle.vm_litmus.specs.declared.explored.Explored.{Explored}
use Rattle.vm_litmus.specs.declared.explored.Hindrance.{Hindrance}
use Rattle.vm_litmus.specs.declared.explored.Hindrance.TheVariants as hindrance
use Rattle.vm_litmus.specs.declared.parts.FreeAccess.{FreeAccess}

-- why a script isn't explored
abbrev pub hindrance_text : Hindrance → List ℕ
hindrance_text (hindrance.Line line) = codes "notexplored" ++ field line ++ codes "\n"
hindrance_text (hindrance.TooMany count) = codes "toomany" ++ field count ++ codes "\n"
hindrance_text (hindrance.Waits line) = codes "waits" ++ field line ++ codes "\n"
hindrance_text hindrance.EventLimit = codes "limit\n"

-- a load's line with what it gave
abbrev pub load_text : FreeAccess → ℕ → List ℕ
load_text load value = field load.line ++ codes " loaded" ++ field value

-- further loads, each behind a comma
abbrev pub others_text : List FreeAccess → List ℕ → List ℕ
others_text (load ∷ loads) (value ∷ values) = codes "," ++ load_text load value ++ others_text loads values
others_text loads values = []

-- each load's line with what it gave, commas between them
abbrev pub loads_text : List FreeAccess → List ℕ → List ℕ
loads_text (load ∷ loads) (value ∷ values) = load_text load value ++ others_text loads values
loads_text loads values = []

abbrev pub fields : List ℕ → List ℕ
fields [] = []
fields (n ∷ more) = field n ++ fields more

-- an outcome: how many orders give it, the value of each load, and the first order that gives it
abbrev pub row_text : List FreeAccess → Row → List ℕ
row_text accesses row =
    codes "outcome times" ++ field row.times ++ codes ":" ++ loads_text (loads_of accesses) row.values.items ++ codes "\n"
    ++ codes "order" ++ fields (lines_of accesses row.order.items) ++ codes "\n"

abbrev pub rows_text : List FreeAccess → List Row → List ℕ
rows_text accesses [] = []
rows_text accesses (row ∷ rows) = row_text accesses row ++ rows_text accesses rows

abbrev pub whole_text : Bool → List ℕ
whole_text whole = if whole then codes "whole\n" else []

-- the lines of an exploration
abbrev pub explored_text : Explored → List ℕ
explored_text found =
    codes "accesses" ++ field (length found.accesses.items) ++ codes "\n" ++ codes "interleavings" ++ field found.interleavings ++ codes "\n"
    ++ rows_text found.accesses.items found.rows.items ++ whole_text found.whole
