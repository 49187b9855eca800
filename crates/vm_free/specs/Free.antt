-- The free part of a script: loads and stores of several tasks, which may go in any order that keeps each task's own.
use Rattle.std.specs.Prelude.{ℕ, ◌≡◌, ◌==◌, ◌++◌, Bool, true, false, not, List, [], ◌∷◌, None, if◌then◌else◌}
use Rattle.std.specs.List.{All}
use Rattle.vm_model.specs.declared.command.Command.{Command}
use Rattle.vm_model.specs.declared.command.Command.TheVariants as command
use Rattle.vm_model.specs.declared.command.Numbered.{Numbered}
use Rattle.vm_model.specs.declared.event.Event.{Event}
use Rattle.vm_model.specs.declared.event.Event.TheVariants as event
use Rattle.vm_model.specs.Kinds.{About, about, Entries, Regions, Tasks}
use Rattle.vm_model.specs.Waiting.{Access, Loading, Storing, waiting}

-- the access that a command makes a task begin, if it does
abbrev pub made_to_begin : ℕ → Command → List Access
made_to_begin t (command.Load task address bytes) = if task.0 == t then Loading address bytes ∷ [] else []
made_to_begin t (command.Store task address bytes value) = if task.0 == t then Storing address bytes value ∷ [] else []
made_to_begin t other = []

-- a task's accesses among commands; both have the newest first
abbrev pub accesses_of : ℕ → List Numbered → List Access
accesses_of t [] = []
accesses_of t (numbered ∷ older) = made_to_begin t numbered.command ++ accesses_of t older

-- the access that an event begins for a task, if it does
abbrev pub begins : ℕ → Event → List Access
begins t (event.BegunLoad task address bytes) = if task.0 == t then Loading address bytes ∷ [] else []
begins t (event.BegunStore task address bytes value) = if task.0 == t then Storing address bytes value ∷ [] else []
begins t other = []

-- the accesses that a task began, the newest first
abbrev pub begun : ℕ → List Event → List Access
begun t [] = []
begun t (e ∷ older) = begins t e ++ begun t older

-- tasks, regions and entries are of the set-up
abbrev pub is_of_set_up : About → Bool
is_of_set_up Tasks = true
is_of_set_up Regions = true
is_of_set_up Entries = true
is_of_set_up other = false

-- the event makes or ends no task, no region and no entry, copies nothing, and is no access's failure
abbrev pub is_plain : Event → Bool
is_plain (event.BegunCopy task address bytes to) = false
is_plain (event.CopiedPage task page object object_page target) = false
is_plain (event.CopyEnded task) = false
is_plain (event.Failed task object page) = false
is_plain e = not (is_of_set_up (about e))

-- these are the older ones of a list that has the newest first
pub record AreOldest {A : Type 0} (part whole : List A) : Type 0 where
  pub newer : List A
  pub is : whole ≡ newer ++ part

-- What comes behind a set-up where nothing begins but accesses of the free part, each task's in their order, and none fails.
pub record GoesOn (free : List Numbered) (later : List Event) : Type 0 where
  pub plain : All (λ e. is_plain e ≡ true) later
  pub in_order : (t : ℕ) → AreOldest (begun t later) (accesses_of t free)

-- no task waits
abbrev pub NobodyWaits : List Event → Type 0
NobodyWaits history = (t : ℕ) → waiting t history ≡ None
