-- What `generate` gives: a script is made, and run as the word `summary` runs one that was read.
use Rattle.std.specs.Prelude.{ℕ, ◌≡◌, ◌⊎◌, List, Option}
use Rattle.vm_gen.specs.Made.{IsMade}
use Rattle.vm_legal.specs.Outside.{Outside}
use Rattle.vm_model.specs.declared.event.Event.{Event}
use Rattle.vm_model.specs.declared.script.Header.{Header}
use Rattle.vm_model.specs.declared.script.Script.{Script}
use Rattle.vm_top.specs.Ending.{RunHasEnded}
use Rattle.vm_top.specs.Top.{NothingDone}
use Rattle.vm_top.specs.declared.top.Status.{Status}
use Rattle.vm_top.specs.declared.top.Status.TheVariants as ends
use Rattle.vm_top.specs.declared.words.Report.TheVariants.{Summary}

-- the script of that number was made with so many drawn lines, and run for its summary
pub record MadeHasEnded (number lines : ℕ) (outside : Header → Outside) (script : Option Script) (history : List Event) (before after : Option (List ℕ))
    (status : Status) : Type 0 where
  pub run : Script
  pub made : IsMade number lines run
  pub ended : RunHasEnded Summary run (outside run.header) script history before after status

-- so it was, or memory ended before there was a script
abbrev pub Generates : ℕ → ℕ → (Header → Outside) → Option Script → List Event → Option (List ℕ) → Option (List ℕ) → Status → Type 0
Generates number lines outside script history before after status =
    MadeHasEnded number lines outside script history before after status
    ⊎ ((status ≡ ends.NoMemory) × NothingDone script history before after)
