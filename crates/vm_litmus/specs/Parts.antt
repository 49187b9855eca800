-- A script in two parts: its set-up, and the loads and stores behind that.
use Rattle.std.specs.Prelude.{ℕ, ◌==◌, Bool, true, false, List, [], ◌∷◌, slice_get, Option, Some, None, is_some, ◌≡◌, if◌then◌else◌}
use Rattle.std.specs.List.{All}
use Rattle.vm_model.specs.declared.command.Command.{Command}
use Rattle.vm_model.specs.declared.command.Command.TheVariants as command
use Rattle.vm_model.specs.declared.command.Numbered.{Numbered}
use Rattle.vm_litmus.specs.declared.parts.FreeAccess.{FreeAccess}
use Rattle.vm_free.specs.Orders.{occurrences}
use Rattle.vm_seen.specs.Behind.{later_of, oldest_items}

-- the access of a command, if it is one
abbrev pub access_of : Numbered → Option FreeAccess
access_of numbered = by numbered.line numbered.command
  where
    by : ℕ → Command → Option FreeAccess
    by line (command.Load task address size) = Some (record { line = line; task = task.0; loads = true })
    by line (command.Store task address size value) = Some (record { line = line; task = task.0; loads = false })
    by line other = None

-- the accesses among commands, the newest first
abbrev pub accesses_in : List Numbered → List FreeAccess
accesses_in [] = []
accesses_in (numbered ∷ older) = elim (access_of numbered) [ Some access ↦ access ∷ accesses_in older | None ↦ accesses_in older ]

abbrev pub tasks_of : List FreeAccess → List ℕ
tasks_of [] = []
tasks_of (access ∷ more) = access.task ∷ tasks_of more

abbrev pub loads_of : List FreeAccess → List FreeAccess
loads_of [] = []
loads_of (access ∷ more) = if access.loads then access ∷ loads_of more else loads_of more

abbrev pub accesses_by : ℕ → List FreeAccess → List FreeAccess
accesses_by t [] = []
accesses_by t (access ∷ more) = if access.task == t then access ∷ accesses_by t more else accesses_by t more

abbrev pub with_line : Option FreeAccess → List ℕ → List ℕ
with_line None lines = lines
with_line (Some access) lines = access.line ∷ lines

-- the lines of accesses that go in an order of tasks, where these went before, the newest first
abbrev pub lines_from : List FreeAccess → List ℕ → List ℕ → List ℕ
lines_from accesses gone [] = []
lines_from accesses gone (t ∷ order) = with_line (slice_get (accesses_by t accesses) (occurrences t gone)) (lines_from accesses (t ∷ gone) order)

-- the lines of accesses that go in an order of tasks; both have the oldest first
abbrev pub lines_of : List FreeAccess → List ℕ → List ℕ
lines_of accesses order = lines_from accesses [] order

abbrev pub is_access : Numbered → Bool
is_access numbered = is_some (access_of numbered)

abbrev pub is_settle : Command → Bool
is_settle (command.Settle count) = true
is_settle other = false

abbrev pub makes_fail : Command → Bool
makes_fail (command.FailFiles count) = true
makes_fail (command.FailPaging count) = true
makes_fail other = false

-- the line of the newest of these commands, and 0 where there is none
abbrev pub last_line : List Numbered → ℕ
last_line [] = 0
last_line (numbered ∷ older) = numbered.line

-- the newest of these commands is a settle
abbrev pub IsSettled : List Numbered → Type 0
IsSettled [] = Unit {0}
IsSettled (numbered ∷ older) = is_settle numbered.command ≡ true

-- a set-up of so many commands ends with a script's last settle, or there is none, and it is empty
pub record EndsSetUp (commands : List Numbered) (setup : ℕ) : Type 0 where
  pub last : IsSettled (oldest_items setup commands)
  pub none : All (λ numbered. is_settle numbered.command ≡ false) (later_of setup commands)
