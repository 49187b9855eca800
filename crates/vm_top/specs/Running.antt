-- What a run keeps between its steps, and how it stops.
use Rattle.std.specs.Prelude.{ℕ, ◌+◌, ◌≡◌, ◌≤◌, List, ◌∷◌, Option}
use Rattle.std.specs.Io.KnownBytes.{Appends}
use Rattle.vm_model.specs.declared.event.Device.{Device}
use Rattle.vm_model.specs.declared.event.Device.TheVariants as device
use Rattle.vm_model.specs.declared.event.Event.{Event}
use Rattle.vm_model.specs.declared.script.Header.{Header}
use Rattle.vm_model.specs.declared.command.Command.{Command}
use Rattle.vm_model.specs.declared.command.Numbered.{Numbered}
use Rattle.vm_model.specs.declared.script.Script.{Script}
use Rattle.vm_model.specs.Summary.{count_of, is_line}
use Rattle.vm_legal.specs.Legal.{CanonicalFor}
use Rattle.vm_legal.specs.Outside.{Outside}
use Rattle.vm_outside.specs.Arming.{Arming}
use Rattle.vm_outside.specs.Causes.{next_count}
use Rattle.vm_system.specs.Steps.{IsBelowLimit, IsNextCanonical, CanonicalOpen}
use Rattle.vm_top.specs.Arming.{BackingLeft, FailuresCounted, ran_of}
use Rattle.vm_top.specs.Run.{RanAs, text_so_far}
use Rattle.vm_top.specs.Writing.{oldest_items}
use Rattle.vm_top.specs.declared.run.RunEnd.{RunEnd}
use Rattle.vm_top.specs.declared.words.Report.{Report}

-- the counts of faults of both backings
pub record FaultCounts : Type 0 where
  pub files : ℕ
  pub paging : ℕ

abbrev pub counted : Device → FaultCounts → ℕ
counted device.Files faults = faults.files
counted device.Paging faults = faults.paging

-- the failures of each device that a history tells are counted
abbrev pub BothCounted : FaultCounts → FaultCounts → List Event → Type 0
BothCounted before now history = (who : Device) → FailuresCounted who (counted who before) (counted who now) history

-- what is told to a run: its script, what is told of the outside, and what stood in the sink and in the backings in
-- front of it
pub record Running (F P : Type 0) : Type 0 where
  pub script : Script
  pub outside : Outside
  pub start : Option (List ℕ)
  pub files : Arming F
  pub paging : Arming P
  pub faults : FaultCounts

-- the command in whose step messages are taken, too
pub record RunTaking (F P : Type 0) : Type 0 where
  pub running : Running F P
  pub command : Command

-- the command is the one behind those that have a line in the history
abbrev pub IsNextOf : Script → Numbered → List Event → Type 0
IsNextOf script numbered history =
    oldest_items (count_of is_line history + 1) script.commands.items
    ≡ numbered ∷ oldest_items (count_of is_line history) script.commands.items

-- the arming of a backing between two steps; its count of reached failures rose where one was reached
pub record BackingRuns {B : Type 0} (header : Header) (who : Device) (run : List Numbered) (history : List Event) (old new : Arming B) : Type 0 where
  pub left : BackingLeft header who run history old new
  pub rising : next_count old.reached ≤ next_count new.reached

-- how the backings are armed between two steps
pub record Arms {F P : Type 0} (given : Running F P) (history : List Event) (f : Arming F) (p : Arming P) : Type 0 where
  pub files : BackingRuns given.script.header device.Files (ran_of given.script history) history given.files f
  pub paging : BackingRuns given.script.header device.Paging (ran_of given.script history) history given.paging p

-- what holds between two steps, inside a settle too
pub record Keeps {F P : Type 0} (report : Report) (given : Running F P) (history : List Event) (now : Option (List ℕ)) (f : Arming F) (p : Arming P)
    (faults : FaultCounts) : Type 0 where
  pub below : IsBelowLimit history
  pub written : Appends given.start now (text_so_far report history)
  pub arms : Arms given history f p
  pub failed : BothCounted given.faults faults history

-- what holds between two commands
pub record IsBetweenCommands {F P : Type 0} (report : Report) (given : Running F P) (history : List Event) (now : Option (List ℕ)) (f : Arming F) (p : Arming P)
    (faults : FaultCounts) : Type 0 where
  pub keeps : Keeps report given history now f p faults
  pub legal : CanonicalFor given.script.header given.outside (ran_of given.script history) history

-- what holds behind the step of a command, which for a settle is its line alone
pub record Turned {F P : Type 0} (report : Report) (given : Running F P) (numbered : Numbered) (history : List Event) (now : Option (List ℕ)) (f : Arming F)
    (p : Arming P) (faults : FaultCounts) : Type 0 where
  pub keeps : Keeps report given history now f p faults
  pub run : List Numbered
  pub here : ran_of given.script history ≡ numbered ∷ run
  pub next : IsNextCanonical given.script.header given.outside numbered run history

-- what holds inside a settle
pub record Settles {F P : Type 0} (report : Report) (given : RunTaking F P) (history : List Event) (now : Option (List ℕ)) (f : Arming F) (p : Arming P)
    (faults : FaultCounts) : Type 0 where
  pub keeps : Keeps report given.running history now f p faults
  pub line : ℕ
  pub run : List Numbered
  pub here : ran_of given.running.script history ≡ record { line = line; command = given.command } ∷ run
  pub legal : CanonicalOpen given.running.script.header given.running.outside (record { line = line; command = given.command } ∷ run) history

-- how a run stops, and what it leaves
pub record RunStops {F P : Type 0} (report : Report) (given : Running F P) (history : List Event) (now : Option (List ℕ)) (f : Arming F) (p : Arming P)
    (faults : FaultCounts) (how : RunEnd) : Type 0 where
  pub ran : RanAs report given.script given.outside history how given.start now
  pub below : IsBelowLimit history
  pub arms : Arms given history f p
  pub failed : BothCounted given.faults faults history
