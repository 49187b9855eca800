-- What an exploration promises.
use Rattle.std.specs.Prelude.{Any, ℕ, ◌*◌, ◌++◌, ◌≡◌, Bool, true, List, [], map, Option, Some, reverse}
use Rattle.std.specs.List.{All}
use Rattle.vm_explore.specs.Outcomes.{values_of}
use Rattle.vm_explore.specs.Tables.{Line, line_of, times_of}
use Rattle.vm_free.specs.Free.{GoesOn, NobodyWaits}
use Rattle.vm_free.specs.Outcomes.{Agrees, AllShown, AreShown, Shows, Values, loaded}
use Rattle.vm_legal.specs.Legal.{LegalSoFar}
use Rattle.vm_legal.specs.Outside.{Outside, Told, is_shared}
use Rattle.vm_model.specs.declared.command.Numbered.{Numbered}
use Rattle.vm_model.specs.declared.event.Event.{Event}
use Rattle.vm_model.specs.declared.event.Event.TheVariants as event
use Rattle.vm_model.specs.declared.script.Header.{Header}
use Rattle.vm_model.specs.declared.script.Script.{Script}
use Rattle.vm_outside.specs.Areas.{read_at}
use Rattle.vm_seen.specs.Behind.{later_of, oldest_items}
use Rattle.vm_seen.specs.Headers.{SayTheSame}
use Rattle.vm_top.specs.Run.{IsWholeRun}
use Rattle.vm_litmus.specs.Parts.{EndsSetUp, accesses_in, loads_of, tasks_of}
use Rattle.vm_litmus.specs.declared.explored.Explored.{Explored}

-- files and paging areas that tell what they hold, and hold nothing at the start
abbrev pub fresh : Header → Outside
fresh header = record { files = Told (λ object page. read_at [] (page * header.size) header.size); paging = true }

-- what is told is that
pub record IsFresh (header : Header) (outside : Outside) : Type 0 where
  pub pages : ℕ → ℕ → List ℕ
  pub files : outside.files ≡ Told pages
  pub empty : (object page : ℕ) → pages object page ≡ read_at [] (page * header.size) header.size
  pub paging : outside.paging ≡ true

-- a script was run whole over such files and areas
pub record RanWhole (script : Option Script) (history : List Event) : Type 0 where
  pub run : Script
  pub held : script ≡ Some run
  pub outside : Outside
  pub told : IsFresh run.header outside
  pub whole : IsWholeRun run outside history

-- a legal run of a script whose header says the same had the history
pub record IsLegalRun (header : Header) (history : List Event) : Type 0 where
  pub run : Script
  pub same : SayTheSame run.header header
  pub outside : Outside
  pub told : IsFresh run.header outside
  pub whole : IsWholeRun run outside history

-- the set-up was run, whole, and this is its history; it leaves nobody waiting
pub record IsSetUpRun (script : Script) (setup : ℕ) (history : List Event) : Type 0 where
  pub ran : IsLegalRun script.header history
  pub commands : ran.run.commands.items ≡ oldest_items setup script.commands.items
  pub nobody : NobodyWaits history

-- the free part of a script: its commands behind the set-up
abbrev pub free_of : Script → ℕ → List Numbered
free_of script setup = later_of setup script.commands.items

-- the values of a line, task by task, the newest first
abbrev pub values_in : List Numbered → Line → Values
values_in free line t = reverse (values_of t (tasks_of (loads_of (reverse (accesses_in free)))) line.values)

-- the loads that ended gave these values, one for each load of the script, of these tasks
abbrev pub AreLoaded : List ℕ → List Event → List ℕ → Type 0
AreLoaded tasks later values = (t : ℕ) → reverse (values_of t tasks values) ≡ loaded t later

-- if a load or a store ended, its page is of a shared object
abbrev pub IsOnShared : Header → Event → Type 0
IsOnShared header (event.Loaded task object page value) = is_shared header object.0 ≡ true
IsOnShared header (event.Stored task object page at size value) = is_shared header object.0 ≡ true
IsOnShared header other = Unit {0}

-- The line's outcome is that of a legal run: behind the set-up's history the accesses ended in the line's order, and the loads gave its values; if
-- so it is told, on shared memory alone.
pub record IsShown (script : Script) (setup : ℕ) (start : List Event) (shared : Bool) (line : Line) : Type 0 where
  pub later : List Event
  pub ran : IsLegalRun script.header (later ++ start)
  pub shows : Shows script.header (fresh script.header) (free_of script setup) start (reverse line.order) (values_in (free_of script setup) line) later
  pub on_shared : shared ≡ true → All (IsOnShared script.header) later

-- an order of the accesses, the oldest first, gives the outcome of a line
abbrev pub Gives : Script → ℕ → List Event → List ℕ → Line → Type 0
Gives script setup start order line =
    AreShown script.header (fresh script.header) (free_of script setup) start (reverse order) (values_in (free_of script setup) line)

-- the outcomes of lines
abbrev pub outcomes_of : Script → ℕ → List Line → List Values
outcomes_of script setup lines = map (values_in (free_of script setup)) lines

-- Whatever legal history goes on from the set-up's with the accesses of the free part alone, each task's in their order, none failing, and any takings
-- between them: its loads that ended have the values of a line.
abbrev pub AreWhole : Script → ℕ → List Event → List Line → Type 0
AreWhole script setup start lines =
    (run : Script) → SayTheSame run.header script.header → (outside : Outside) → IsFresh run.header outside → (later : List Event)
    → LegalSoFar run outside (later ++ start)
    → GoesOn (free_of script setup) later → Any (λ values. Agrees values later) (outcomes_of script setup lines)

-- what was explored of a script
pub record IsExplored (script : Script) (found : Explored) : Type 0 where
  pub parts : EndsSetUp script.commands.items found.setup
  pub start : IsSetUpRun script found.setup found.start.items
  pub accesses : found.accesses.items ≡ reverse (accesses_in (free_of script found.setup))
  -- each line was shown, and each order gives one of them
  pub shown : All (IsShown script found.setup found.start.items found.whole) (map line_of found.rows.items)
  pub all : AllShown script.header (fresh script.header) (free_of script found.setup) found.start.items
      (outcomes_of script found.setup (map line_of found.rows.items))
  pub counted : found.interleavings ≡ times_of (map line_of found.rows.items)
  pub whole : found.whole ≡ true → AreWhole script found.setup found.start.items (map line_of found.rows.items)
