-- What the words ask for.
use Rattle.std.specs.Prelude.{ℕ, List, [], ◌∷◌, map, length, nat_le, Option, Some, None, Result, Ok, Err, if◌then◌else◌, string_bytes, String}
use Rattle.std.specs.declared.alloc.Global.{Global}
use Rattle.vm_model.specs.declared.fault.ScriptFault.{ScriptFault}
use Rattle.vm_model.specs.declared.fault.ScriptFault.TheVariants.{OutOfRange}
use Rattle.vm_text.specs.Words.{number_of, number_between}

-- at most so many digits
abbrev pub short : ℕ → List ℕ → Result ℕ ScriptFault → Result ℕ ScriptFault
short digits word number = if nat_le (length word) digits then number else Err OutOfRange

abbrev pub asked_of : Result ℕ ScriptFault → Result ℕ ScriptFault → Option (ℕ × ℕ)
asked_of (Ok number) (Ok lines) = Some (number, lines)
asked_of (Ok number) (Err fault) = None
asked_of (Err fault) other = None

-- the number of a script, and how many drawn lines it has; other words ask for none
abbrev pub asked : List (List ℕ) → Option (ℕ × ℕ)
asked (number ∷ lines ∷ []) = asked_of (short 20 number (number_of number)) (short 5 lines (number_between 1 10000 lines))
asked other = None

abbrev pub asked_by : List (String Global) → Option (ℕ × ℕ)
asked_by words = asked (map string_bytes words)
