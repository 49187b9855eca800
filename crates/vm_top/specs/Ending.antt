-- How the call ends.
use Rattle.std.specs.Prelude.{ℕ, ◌≡◌, ◌⊎◌, List, Option, Some, Result, Ok, Err}
use Rattle.std.specs.Io.KnownBytes.{Appends}
use Rattle.vm_base.specs.declared.failure.WriteStop.{WriteStop}
use Rattle.vm_base.specs.declared.failure.WriteStop.TheVariants as stop
use Rattle.vm_model.specs.declared.event.Event.{Event}
use Rattle.vm_model.specs.declared.script.Script.{Script}
use Rattle.vm_legal.specs.Legal.{CanonicalSoFar}
use Rattle.vm_legal.specs.Outside.{Outside}
use Rattle.vm_top.specs.Run.{IsOutOfEvents, IsWholeRun, report_text}
use Rattle.vm_top.specs.Top.{WroteFailed}
use Rattle.vm_top.specs.Writing.{WroteStart}
use Rattle.vm_top.specs.declared.top.Status.{Status}
use Rattle.vm_top.specs.declared.top.Status.TheVariants.{Done, OutputFault, EventLimit, NoMemory}
use Rattle.vm_top.specs.declared.words.Report.{Report}

-- this status, unless the write failed
abbrev pub status_after : Result (Unit {0}) WriteStop → Status → Status
status_after (Ok done) status = status
status_after (Err stop.Failed) status = OutputFault
status_after (Err stop.NoMemory) status = NoMemory

-- a text was written, and that is the status; or a first part of it was, and the status tells why
abbrev pub Tells : Status → List ℕ → Option (List ℕ) → Option (List ℕ) → Status → Type 0
Tells told text before after status =
    ((status ≡ told) × Appends before after text) ⊎ (((status ≡ OutputFault) ⊎ (status ≡ NoMemory)) × WroteStart before after text)

-- a script was run, and that is the status
abbrev pub EndsAs : Report → Script → Outside → List Event → Option (List ℕ) → Option (List ℕ) → Status → Type 0
EndsAs report run outside history before after Done =
    IsWholeRun run outside history × Appends before after (report_text report history)
EndsAs report run outside history before after EventLimit =
    IsOutOfEvents run outside history × Appends before after (report_text report history)
EndsAs report run outside history before after OutputFault = WroteFailed report run outside history before after
EndsAs report run outside history before after NoMemory =
    CanonicalSoFar run outside history × WroteStart before after (report_text report history)
EndsAs report run outside history before after other = ⊥

-- the script is held
pub record RunHasEnded (report : Report) (run : Script) (outside : Outside) (script : Option Script) (history : List Event) (before after : Option (List ℕ))
    (status : Status) : Type 0 where
  pub held : script ≡ Some run
  pub ends : EndsAs report run outside history before after status
