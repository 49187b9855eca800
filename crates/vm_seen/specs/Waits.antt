-- Tasks that wait, one event at a time.
use Rattle.std.specs.Prelude.{ℕ, ◌≡◌, ◌==◌, ◌||◌, Bool, true, false, List, [], ◌∷◌, if◌then◌else◌, is_some}
use Rattle.vm_model.specs.declared.event.Event.{Event}
use Rattle.vm_model.specs.Waiting.{waiting}
use Rattle.vm_seen.specs.declared.waits.Turn.{Turn}
use Rattle.vm_seen.specs.declared.waits.Turn.TheVariants as turn

-- a task stands among those
abbrev pub stands : ℕ → List ℕ → Bool
stands t [] = false
stands t (u ∷ more) = (u == t) || stands t more

-- the others
abbrev pub without : ℕ → List ℕ → List ℕ
without t [] = []
without t (u ∷ more) = if u == t then without t more else u ∷ without t more

-- the task waits
abbrev pub waits : ℕ → List Event → Bool
waits t history = is_some (waiting t history)

-- what an event is to those who wait
abbrev pub IsTurn : Event → Turn → Type 0
IsTurn e (turn.Begins task) = (t : ℕ) (past : List Event) → waits t (e ∷ past) ≡ (if task == t then true else waits t past)
IsTurn e (turn.Ends task) = (t : ℕ) (past : List Event) → waits t (e ∷ past) ≡ (if task == t then false else waits t past)
IsTurn e turn.Neither = (t : ℕ) (past : List Event) → waits t (e ∷ past) ≡ waits t past

-- these are the tasks that wait
abbrev pub AreWaiting : List ℕ → List Event → Type 0
AreWaiting tasks history = (t : ℕ) → waits t history ≡ stands t tasks
