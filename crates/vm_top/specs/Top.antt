-- What the top call promises, status by status.
use Rattle.std.specs.Prelude.{ℕ, ◌<◌, ◌≡◌, ◌⊎◌, List, [], ◌++◌, codes, length, Option, Some, None, Ok, Err}
use Rattle.std.specs.Io.KnownBytes.{Appends, Keeps}
use Rattle.vm_model.specs.declared.command.Numbered.{Numbered}
use Rattle.vm_model.specs.declared.event.Device.{Device}
use Rattle.vm_model.specs.declared.event.Event.{Event}
use Rattle.vm_model.specs.declared.script.Header.{Header}
use Rattle.vm_model.specs.declared.fault.ScriptFault.{ScriptFault}
use Rattle.vm_model.specs.declared.fault.ScriptFault.TheVariants as fault
use Rattle.vm_model.specs.declared.script.Script.{Script}
use Rattle.vm_model.specs.Fault.{fault_number}
use Rattle.vm_legal.specs.Legal.{CanonicalSoFar}
use Rattle.vm_legal.specs.Outside.{Outside}
use Rattle.vm_model.specs.Text.{field}
use Rattle.vm_text.specs.Script.{script_of, whole_script}
use Rattle.vm_outside.specs.Areas.{SameAreas, Told}
use Rattle.vm_outside.specs.Arming.{Arming}
use Rattle.vm_system.specs.Keeping.{FilesCarry, PagingKeepsPages}
use Rattle.vm_top.specs.Arming.{BackingLeft, ran_of}
use Rattle.vm_top.specs.Run.{FailedIn, IsOutOfEvents, IsWholeRun, report_text}
use Rattle.vm_top.specs.Writing.{WroteStart}
use Rattle.vm_top.specs.declared.words.Report.{Report}
use Rattle.vm_top.specs.declared.words.Report.TheVariants.{History, Summary}

abbrev pub usage_text : List ℕ
usage_text = codes "usage: pagers run | summary | generate NUMBER LINES\n"

abbrev pub fault_name : ScriptFault → List ℕ
fault_name fault.TooLong = codes "TooLong"
fault_name fault.UnknownWord = codes "UnknownWord"
fault_name fault.BadNumber = codes "BadNumber"
fault_name fault.WrongCount = codes "WrongCount"
fault_name fault.OutOfRange = codes "OutOfRange"
fault_name fault.HeaderLate = codes "HeaderLate"
fault_name fault.NoHosts = codes "NoHosts"

abbrev pub bad_text : ℕ → ScriptFault → List ℕ
bad_text line kind = codes "bad" ++ field line ++ field (fault_number kind) ++ codes " " ++ fault_name kind ++ codes "\n"

-- P of the bytes that the source had, where it tells them
abbrev pub OfBytes : Option (List ℕ) → (List ℕ → Type 0) → Type 0
OfBytes told P = (bytes : List ℕ) → told ≡ Some bytes → P bytes

-- the source's bytes spell this script
abbrev pub IsReadFrom : Option (List ℕ) → Script → Type 0
IsReadFrom told script = OfBytes told (λ bytes. script_of bytes ≡ Ok (whole_script script))

-- this is their first fault
abbrev pub IsBadFrom : Option (List ℕ) → ℕ → ScriptFault → Type 0
IsBadFrom told line kind = OfBytes told (λ bytes. script_of bytes ≡ Err (line, kind))

-- no script was run
pub record NothingRun (script : Option Script) (history : List Event) : Type 0 where
  pub none : script ≡ None
  pub empty : history ≡ []

-- nothing was run or written
pub record NothingDone (script : Option Script) (history : List Event) (before after : Option (List ℕ)) : Type 0 where
  pub nothing : NothingRun script history
  pub written : Keeps before after

-- a script was read
pub record IsHeld (told : Option (List ℕ)) (run : Script) (script : Option Script) : Type 0 where
  pub held : script ≡ Some run
  pub read : IsReadFrom told run

-- the whole script was run: its history is legal, and its report was written and nothing else
pub record IsRunDone (told : Option (List ℕ)) (outside : Header → Outside) (report : Report) (script : Option Script) (history : List Event)
    (before after : Option (List ℕ)) : Type 0 where
  pub run : Script
  pub held : IsHeld told run script
  pub whole : IsWholeRun run (outside run.header) history
  pub written : Appends before after (report_text report history)

-- the history is full while a step is left: it is legal as far as it goes, and its report was written and nothing else
pub record IsEventLimit (told : Option (List ℕ)) (outside : Header → Outside) (report : Report) (script : Option Script) (history : List Event)
    (before after : Option (List ℕ)) : Type 0 where
  pub run : Script
  pub held : IsHeld told run script
  pub full : IsOutOfEvents run (outside run.header) history
  pub written : Appends before after (report_text report history)

-- the script has a fault: nothing was run, and its first fault was written
pub record IsBad (told : Option (List ℕ)) (line : ℕ) (kind : ScriptFault) (script : Option Script) (history : List Event) (before after : Option (List ℕ)) :
    Type 0 where
  pub nothing : NothingRun script history
  pub bad : IsBadFrom told line kind
  pub written : Appends before after (bad_text line kind)

-- a write of a run's report failed: of events, in the last step; of a summary, when the run had ended
abbrev pub WroteFailed : Report → Script → Outside → List Event → Option (List ℕ) → Option (List ℕ) → Type 0
WroteFailed History run outside history before after = FailedIn run outside history before after
WroteFailed Summary run outside history before after =
    CanonicalSoFar run outside history × WroteStart before after (report_text Summary history)

-- a script was run, and a write of its report failed
pub record IsFailed (told : Option (List ℕ)) (outside : Header → Outside) (report : Report) (script : Option Script) (history : List Event)
    (before after : Option (List ℕ)) : Type 0 where
  pub run : Script
  pub held : IsHeld told run script
  pub failed : WroteFailed report run (outside run.header) history before after

-- a script was run until memory ended: its history is legal as far as it goes
pub record IsStopped (told : Option (List ℕ)) (outside : Header → Outside) (script : Option Script) (history : List Event) : Type 0 where
  pub run : Script
  pub held : IsHeld told run script
  pub legal : CanonicalSoFar run (outside run.header) history

-- a first part of what tells the first fault
abbrev pub WroteBad : Option (List ℕ) → Option Script → List Event → Option (List ℕ) → Option (List ℕ) → Type 0
WroteBad told script history before after =
    NothingRun script history × (line : ℕ) × (kind : ScriptFault) × IsBadFrom told line kind
    × WroteStart before after (bad_text line kind)

-- a write failed: of the run's report, or of the script's fault
abbrev pub IsOutputFault : Option (List ℕ) → (Header → Outside) → Report → Option Script → List Event → Option (List ℕ)
    → Option (List ℕ) → Type 0
IsOutputFault told outside report script history before after =
    IsFailed told outside report script history before after ⊎ WroteBad told script history before after

-- memory ended: nothing was read, or a first part of one of these was written
abbrev pub IsNoMemory : Option (List ℕ) → (Header → Outside) → Report → Option Script → List Event → Option (List ℕ)
    → Option (List ℕ) → Type 0
IsNoMemory told outside report script history before after =
    NothingDone script history before after
    ⊎ ((IsStopped told outside script history × WroteStart before after (report_text report history)) ⊎ WroteBad told script history before after)

-- each host's paging area goes on telling, and each page that was returned and not lost stands at its slot
abbrev pub KeptAt : (Header → Outside) → (List ℕ → Told) → (List ℕ → Told) → Option Script → List Event → Type 0
KeptAt outside before after None history = SameAreas before after
KeptAt outside before after (Some script) history =
    (host : ℕ) → host < length script.header.frames.items → PagingKeepsPages script.header host (outside script.header) after history

-- each declared file that told has what was returned, and else what it had, and all else is as it was
abbrev pub FilesKeptAt : (List ℕ → Told) → (List ℕ → Told) → Option Script → List Event → Type 0
FilesKeptAt before after None history = SameAreas before after
FilesKeptAt before after (Some script) history = FilesCarry script.header before after history

-- the commands that were run
abbrev pub commands_run : Option Script → List Event → List Numbered
commands_run None history = []
commands_run (Some script) history = ran_of script history

-- how they leave a backing armed: where nothing was run, as it was
abbrev pub BackingEnds : {B : Type 0} → Device → Option Script → List Event → Arming B → Arming B → Type 0
BackingEnds who None history old new = (new.left ≡ 0) × (new.reached ≡ old.reached)
BackingEnds who (Some script) history old new = BackingLeft script.header who (ran_of script history) history old new
