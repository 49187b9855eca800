-- In which order the accesses of tasks end: a list of tasks, each as often as it has accesses.
use Rattle.std.specs.Prelude.{ℕ, ◌+◌, ◌≡◌, ◌==◌, List, [], ◌∷◌, length, if◌then◌else◌}
use Rattle.vm_model.specs.declared.command.Numbered.{Numbered}
use Rattle.vm_model.specs.declared.event.Event.{Event}
use Rattle.vm_model.specs.declared.event.Event.TheVariants as event
use Rattle.vm_free.specs.Free.{accesses_of}

-- the tasks whose loads and stores ended, the newest first
abbrev pub order_of : List Event → List ℕ
order_of [] = []
order_of (event.Loaded task object page value ∷ older) = task.0 ∷ order_of older
order_of (event.Stored task object page at bytes value ∷ older) = task.0 ∷ order_of older
order_of (e ∷ older) = order_of older

-- how often a number stands in a list
abbrev pub occurrences : ℕ → List ℕ → ℕ
occurrences t [] = 0
occurrences t (u ∷ more) = (if u == t then 1 else 0) + occurrences t more

-- an order of all accesses of the free part: each task stands there as often as it has accesses
abbrev pub IsOrder : List Numbered → List ℕ → Type 0
IsOrder free order = (t : ℕ) → occurrences t order ≡ length (accesses_of t free)
