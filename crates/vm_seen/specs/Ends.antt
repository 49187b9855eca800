-- Loads and stores that ended, one at a time.
use Rattle.std.specs.Prelude.{ℕ, ◌==◌, List, [], ◌∷◌, if◌then◌else◌, Option, Some, None}
use Rattle.vm_seen.specs.declared.ends.Loaded.{Loaded}

-- the order with the task whose access ended last, if one did
abbrev pub with_ended : Option ℕ → List ℕ → List ℕ
with_ended None order = order
with_ended (Some task) order = task ∷ order

-- a task's values among loads, in their order
abbrev pub values_of : ℕ → List Loaded → List ℕ
values_of t [] = []
values_of t (load ∷ more) = if load.task == t then load.value ∷ values_of t more else values_of t more

-- a task's values with that of the load that ended last, if one did
abbrev pub with_load : ℕ → Option Loaded → List ℕ → List ℕ
with_load t None values = values
with_load t (Some load) values = if load.task == t then load.value ∷ values else values
