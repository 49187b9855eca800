-- How the rows are kept, and what the queue has to do with them.
use Rattle.std.specs.Map.{values_of}
use Rattle.std.specs.Prelude.{ℕ, ◌≡◌, ◌+◌, ◌^◌, ◌≤◌, ◌<◌, false, List, [], ◌∷◌, length, map}
use Rattle.vm_base.specs.declared.ids.TaskId.{TaskId}
use Rattle.vm_waits.specs.Waits.{EachOnce, entry, is_listed, queued, waits_for_frame}
use Rattle.vm_waits.specs.declared.waiting.Waiting.{Waiting}

-- a row, under its task
abbrev pub by_task : Waiting → TaskId × Waiting
by_task w = (w.task, w)

-- a change of a row, under its task
abbrev pub on_value : (Waiting → Waiting) → TaskId × Waiting → TaskId × Waiting
on_value f e = (e.0, f e.1)

-- each task is listed once
abbrev pub EachListedOnce : List TaskId → Type 0
EachListedOnce [] = Unit {0}
EachListedOnce (task ∷ tasks) = (is_listed task.0 tasks ≡ false) × EachListedOnce tasks

-- each row stands under its task, once
pub record AreKept (entries : List (TaskId × Waiting)) : Type 0 where
  pub named : entries ≡ map by_task (values_of entries)
  pub once : EachOnce (values_of entries)

-- the queue has the tasks that wait for a frame
pub record AreQueued (rows : List Waiting) (queue : List TaskId) : Type 0 where
  pub listed : (t : ℕ) → is_listed t queue ≡ waits_for_frame (entry rows t)
  pub once : EachListedOnce queue
  pub even : length queue ≡ queued rows

-- so many more rows fit into the table, with the others into the second one, and into the queue
pub record HasRoom (room len spare other lined : ℕ) : Type 0 where
  pub rows : room ≤ spare
  pub second : len + room ≤ other
  pub queue : len + room ≤ lined
  pub few : len + room < 2 ^ 32
