-- What the program writes.
use Rattle.std.specs.Prelude.{ℕ, ◌≡◌, List, take, codes, Option, Some, None, Result, Ok, Err}
use Rattle.std.specs.Io.KnownBytes.{Appends, Keeps}
use Rattle.made_script.specs.declared.printing.Status.{Status}
use Rattle.made_script.specs.declared.printing.Status.TheVariants.{Done, Usage, OutputFault, NoMemory}
use Rattle.vm_base.specs.declared.failure.WriteStop.{WriteStop}
use Rattle.vm_base.specs.declared.failure.WriteStop.TheVariants as stop
use Rattle.vm_gen.specs.Made.{IsMade}
use Rattle.vm_model.specs.declared.script.Script.{Script}
use Rattle.vm_text.specs.Script.{script_of, whole_script}

abbrev pub usage_text : List ℕ
usage_text = codes "usage: made_script NUMBER LINES\n"

-- the reader reads the script of the number, with so many drawn lines, from the text
pub record IsTextOf (number lines : ℕ) (text : List ℕ) : Type 0 where
  pub script : Script
  pub made : IsMade number lines script
  pub reads : script_of text ≡ Ok (whole_script script)

-- what is to be written
abbrev pub IsDue : Option (ℕ × ℕ) → List ℕ → Type 0
IsDue None text = text ≡ usage_text
IsDue (Some asked) text = IsTextOf asked.0 asked.1 text

-- what was written, where the call ended with this status
abbrev pub Prints : Option (ℕ × ℕ) → Option (List ℕ) → Option (List ℕ) → Status → Type 0
Prints (Some asked) before after Done = (text : List ℕ) × IsTextOf asked.0 asked.1 text × Appends before after text
Prints None before after Usage = Appends before after usage_text
Prints asked before after OutputFault = (text : List ℕ) × IsDue asked text × ((n : ℕ) × Appends before after (take n text))
Prints asked before after NoMemory = Keeps before after
Prints asked before after status = ⊥

abbrev pub status_number : Status → ℕ
status_number Done = 0
status_number Usage = 2
status_number OutputFault = 4
status_number NoMemory = 6

-- this status, unless the write failed
abbrev pub status_after : Result (Unit {0}) WriteStop → Status → Status
status_after (Ok done) status = status
status_after (Err stop.Failed) status = OutputFault
status_after (Err stop.NoMemory) status = NoMemory
