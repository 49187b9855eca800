-- What the words ask the program to do.
use Rattle.std.specs.Prelude.{ℕ, List, [], ◌∷◌, codes, map, length, nat_le, Option, Some, None, Result, Ok, Err, if◌then◌else◌, string_bytes, String}
use Rattle.std.specs.Str.{bytes_eq}
use Rattle.std.specs.declared.alloc.Global.{Global}
use Rattle.vm_model.specs.Ranges.{IsBetween}
use Rattle.vm_model.specs.declared.fault.ScriptFault.{ScriptFault}
use Rattle.vm_model.specs.declared.fault.ScriptFault.TheVariants.{OutOfRange}
use Rattle.vm_text.specs.Words.{number_of, number_between, word_in}
use Rattle.vm_top.specs.declared.words.Job.{Job}
use Rattle.vm_top.specs.declared.words.Job.TheVariants.{Run, Generate}
use Rattle.vm_top.specs.declared.words.Report.TheVariants.{History, Summary}

-- one word that is a command
abbrev pub words_alone : List (List ℕ × Job)
words_alone = (codes "run", Run History) ∷ (codes "summary", Run Summary) ∷ []

-- at most so many digits
abbrev pub short : ℕ → List ℕ → Result ℕ ScriptFault → Result ℕ ScriptFault
short digits word number = if nat_le (length word) digits then number else Err OutOfRange

abbrev pub generate_of : Result ℕ ScriptFault → Result ℕ ScriptFault → Option Job
generate_of (Ok number) (Ok lines) = Some (Generate number lines)
generate_of (Ok number) (Err fault) = None
generate_of (Err fault) other = None

-- what the words ask for; other words are no command
abbrev pub asked : List (List ℕ) → Option Job
asked (word ∷ []) = word_in words_alone word
asked (word ∷ number ∷ lines ∷ []) =
    if bytes_eq word (codes "generate") then generate_of (short 20 number (number_of number)) (short 5 lines (number_between 1 10000 lines)) else None
asked other = None

abbrev pub asked_by : List (String Global) → Option Job
asked_by words = asked (map string_bytes words)

-- a script can be made with so many drawn lines
abbrev pub HasLines : Job → Type 0
HasLines (Generate number lines) = IsBetween 1 10000 lines
HasLines (Run report) = Unit {0}
