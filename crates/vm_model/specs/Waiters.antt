-- The loads and stores of a host that wait for a place, and the slow copies that are still to read it.
use Rattle.std.specs.Prelude.{ℕ, ◌==◌, ◌||◌, not, List, [], ◌∷◌, ◌++◌, filter, replicate, Bool, true, false, if◌then◌else◌, Option, Some, None}
use Rattle.vm_model.specs.Words.{ActEffect, Begins, Loads, Stores, Fails, BeginsCopy, Copies, EndsCopy, Act, effect_on}

pub record Waiter : Type 0 where
  pub task : ℕ
  pub store : Bool
  -- the place in the page, and the bytes from there on
  pub at : ℕ
  pub size : ℕ
  -- what a store puts there, little-endian
  pub value : ℕ

abbrev pub without_task : ℕ → List Waiter → List Waiter
without_task task [] = []
without_task task (w ∷ ws) = if w.task == task then without_task task ws else w ∷ without_task task ws

abbrev pub waiters_after : ActEffect → List Waiter → List Waiter
waiters_after (Begins task store at size value) ws =
    record { task = task; store = store; at = at; size = size; value = value } ∷ ws
waiters_after (Loads task value) ws = without_task task ws
waiters_after (Stores task at size value) ws = without_task task ws
waiters_after (Fails task) ws = without_task task ws
waiters_after e ws = ws

-- the accesses of host h that began and have not ended, the newest first
abbrev pub waiters : ℕ → List Act → List Waiter
waiters h [] = []
waiters h (a ∷ past) = waiters_after (effect_on h a) (waiters h past)

abbrev pub waiter_of : ℕ → List Waiter → Option Waiter
waiter_of task [] = None
waiter_of task (w ∷ ws) = if w.task == task then Some w else waiter_of task ws

-- a store waits
abbrev pub any_store : List Waiter → Bool
any_store [] = false
any_store (w ∷ ws) = w.store || any_store ws

-- a load waits
abbrev pub any_load : List Waiter → Bool
any_load [] = false
any_load (w ∷ ws) = not w.store || any_load ws

abbrev pub without_once : ℕ → List ℕ → List ℕ
without_once task [] = []
without_once task (r ∷ rs) = if r == task then rs else r ∷ without_once task rs

abbrev pub readers_after : ActEffect → List ℕ → List ℕ
readers_after (BeginsCopy task times) rs = replicate times task ++ rs
readers_after (Copies task) rs = without_once task rs
readers_after (EndsCopy task) rs = filter (λ r. not (r == task)) rs
readers_after (Fails task) rs = filter (λ r. not (r == task)) rs
readers_after e rs = rs

-- the tasks of host h whose slow copies began over the place, have not copied it yet and have not ended; a task once
-- for each page of its copy that is the place
abbrev pub readers : ℕ → List Act → List ℕ
readers h [] = []
readers h (a ∷ past) = readers_after (effect_on h a) (readers h past)

-- a slow copy is still to read the place
abbrev pub any_reader : List ℕ → Bool
any_reader [] = false
any_reader (r ∷ rs) = true
