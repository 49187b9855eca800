-- Loads and stores that begin, one at a time.
use Rattle.std.specs.Prelude.{ℕ, ◌==◌, List, [], ◌∷◌, if◌then◌else◌, Option, Some, None}
use Rattle.vm_model.specs.Waiting.{Access, Loading, Storing}
use Rattle.vm_seen.specs.declared.begun.Begun.{Begun}

abbrev pub access_at : ℕ → ℕ → Option ℕ → Access
access_at address size None = Loading address size
access_at address size (Some value) = Storing address size value

-- the access that is meant
abbrev pub access_of : Begun → Access
access_of begun = access_at begun.address begun.size begun.value

-- the access of a task, if it is the task's
abbrev pub of_task : ℕ → Option Begun → List Access
of_task t None = []
of_task t (Some begun) = if begun.task == t then access_of begun ∷ [] else []
