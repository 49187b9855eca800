-- What the loads of a script's free part gave.
use Rattle.std.specs.Prelude.{ℕ, ◌≡◌, ◌≢◌, ◌==◌, List, [], ◌∷◌, length, if◌then◌else◌}
use Rattle.vm_seen.specs.declared.ends.Loaded.{Loaded}
use Rattle.vm_free.specs.Orders.{occurrences}

-- the values of a task's loads, the oldest first
abbrev pub loaded_by : ℕ → List Loaded → List ℕ
loaded_by t [] = []
loaded_by t (load ∷ more) = if load.task == t then load.value ∷ loaded_by t more else loaded_by t more

-- the values of a task's loads, of a value for each load of the script
abbrev pub values_of : ℕ → List ℕ → List ℕ → List ℕ
values_of t [] values = []
values_of t (task ∷ loads) [] = []
values_of t (task ∷ loads) (value ∷ values) = if task == t then value ∷ values_of t loads values else values_of t loads values

-- a value for each load of the script, in its order: each task's loads gave these
pub record AreValues (loads : List ℕ) (loaded : List Loaded) (values : List ℕ) : Type 0 where
  pub long : length values ≡ length loads
  pub gave : (t : ℕ) → values_of t loads values ≡ loaded_by t loaded

-- some task loaded more often or less often than the script has it do
abbrev pub AreOther : List ℕ → List Loaded → Type 0
AreOther loads loaded = (t : ℕ) × (length (loaded_by t loaded) ≢ occurrences t loads)
