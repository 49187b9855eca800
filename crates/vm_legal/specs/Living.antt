-- Where tasks live.
use Rattle.std.specs.Prelude.{ℕ, List, [], ◌∷◌, Bool}
use Rattle.vm_model.specs.declared.event.Event.{Event}
use Rattle.vm_model.specs.declared.event.Event.TheVariants as event
use Rattle.vm_model.specs.Local.{is_on}
use Rattle.vm_model.specs.Tasks.{host_of}

-- the task lives on the host
abbrev pub lives_on : ℕ → ℕ → List Event → Bool
lives_on host task past = is_on host (host_of task past)

-- all tasks that were ever made
abbrev pub tasks : List Event → List ℕ
tasks [] = []
tasks (event.TaskMade made host ∷ past) = made.0 ∷ tasks past
tasks (e ∷ past) = tasks past
