-- The waiting accesses of a host, as contracts see them.
use Rattle.std.specs.Prelude.{ℕ, ◌≡◌, ◌+◌, ◌==◌, ◌&&◌, ◌||◌, Bool, true, false, List, [], ◌∷◌, Option, Some, None, if◌then◌else◌}
use Rattle.vm_base.specs.declared.ids.PageKey.{PageKey}
use Rattle.vm_base.specs.declared.ids.TaskId.{TaskId}
use Rattle.vm_waits.specs.Wants.{is_copying}
use Rattle.vm_waits.specs.declared.waiting.On.{On}
use Rattle.vm_waits.specs.declared.waiting.On.TheVariants as on
use Rattle.vm_waits.specs.declared.waiting.Waiting.{Waiting}
use Rattle.vm_waits.specs.declared.waiting.Want.{Want}

-- the waiting accesses, the oldest first; the tasks that wait for a frame, the first of the queue first; how many
-- further accesses begin without memory
pub record WaitTable : Type 0 where
  pub rows : List Waiting
  pub queue : List TaskId
  pub room : ℕ

-- the waiting access of a task
abbrev pub entry : List Waiting → ℕ → Option Waiting
entry [] t = None
entry (w ∷ ws) t = if w.task.0 == t then Some w else entry ws t

-- one task has this now, or none, and each other task has what it had
pub record PutsEntry (task : ℕ) (row : Option Waiting) (old new : List Waiting) : Type 0 where
  pub at : (t : ℕ) → entry new t ≡ (if task == t then row else entry old t)

-- each task stands there once
abbrev pub EachOnce : List Waiting → Type 0
EachOnce [] = Unit {0}
EachOnce (w ∷ ws) = (entry ws w.task.0 ≡ None) × EachOnce ws

abbrev pub is_again : On → Bool
is_again on.Again = true
is_again (on.Ready object) = false
is_again (on.Page key) = false
is_again (on.Push key) = false
is_again on.Frame = false

abbrev pub is_frame : On → Bool
is_frame on.Again = false
is_frame (on.Ready object) = false
is_frame (on.Page key) = false
is_frame (on.Push key) = false
is_frame on.Frame = true

-- a row that waits for a frame
abbrev pub waits_for_frame : Option Waiting → Bool
waits_for_frame None = false
waits_for_frame (Some w) = is_frame w.on

-- it waits for this page to be its own
abbrev pub waits_page : PageKey → On → Bool
waits_page key on.Again = false
waits_page key (on.Ready object) = false
waits_page key (on.Page other) = other.object.0 == key.object.0 && other.page.0 == key.page.0
waits_page key (on.Push other) = false
waits_page key on.Frame = false

-- it waits for an answer about this page
abbrev pub woken_page : PageKey → On → Bool
woken_page key on.Again = false
woken_page key (on.Ready object) = false
woken_page key (on.Page other) = other.object.0 == key.object.0 && other.page.0 == key.page.0
woken_page key (on.Push other) = other.object.0 == key.object.0 && other.page.0 == key.page.0
woken_page key on.Frame = false

-- it waits for the pager of this object
abbrev pub woken_ready : ℕ → On → Bool
woken_ready object on.Again = false
woken_ready object (on.Ready other) = other.0 == object
woken_ready object (on.Page key) = false
woken_ready object (on.Push key) = false
woken_ready object on.Frame = false

abbrev pub one : Bool → ℕ
one true = 1
one false = 0

abbrev pub one_again : On → ℕ
one_again reason = one (is_again reason)

abbrev pub one_frame : On → ℕ
one_frame reason = one (is_frame reason)

-- how many rows' reasons pass a test
abbrev pub count_rows : (On → Bool) → List Waiting → ℕ
count_rows test [] = 0
count_rows test (w ∷ ws) = one (test w.on) + count_rows test ws

-- how many are to be run again
abbrev pub count_again : List Waiting → ℕ
count_again rows = count_rows is_again rows

-- how many wait for a frame
abbrev pub queued : List Waiting → ℕ
queued rows = count_rows is_frame rows

-- how many of the rows are slow copies
abbrev pub count_copies : List Waiting → ℕ
count_copies [] = 0
count_copies (w ∷ ws) = one (is_copying w.want) + count_copies ws

-- the oldest row whose reason passes a test
abbrev pub oldest_row : (On → Bool) → List Waiting → Option Waiting
oldest_row test [] = None
oldest_row test (w ∷ ws) = if test w.on then Some w else oldest_row test ws

-- the task that is first in the queue
abbrev pub first_in_queue : List TaskId → Option TaskId
first_in_queue [] = None
first_in_queue (task ∷ tasks) = Some task

abbrev pub is_listed : ℕ → List TaskId → Bool
is_listed t [] = false
is_listed t (task ∷ tasks) = task.0 == t || is_listed t tasks

-- the queue without a task
abbrev pub queue_without : ℕ → List TaskId → List TaskId
queue_without t [] = []
queue_without t (task ∷ tasks) = if task.0 == t then queue_without t tasks else task ∷ queue_without t tasks

-- the rows without a task's
abbrev pub rows_without : ℕ → List Waiting → List Waiting
rows_without t [] = []
rows_without t (w ∷ ws) = if w.task.0 == t then rows_without t ws else w ∷ rows_without t ws

abbrev pub with_on : Waiting → On → Waiting
with_on w reason = record w { on = reason }

abbrev pub with_want : Waiting → Want → Waiting
with_want w what = record w { want = what }

-- a task's row has another reason
abbrev pub turned : ℕ → On → Waiting → Waiting
turned t reason w = if w.task.0 == t then with_on w reason else w

-- a task's access is to do something else
abbrev pub rewanted : ℕ → Want → Waiting → Waiting
rewanted t what w = if w.task.0 == t then with_want w what else w

-- a row whose reason passes a test is to be run again
abbrev pub woken : (On → Bool) → Waiting → Waiting
woken test w = if test w.on then with_on w on.Again else w

-- where a task had a row, it has it still, to be run again if its reason passed the test
abbrev pub Waked : (On → Bool) → Option Waiting → Option Waiting → Type 0
Waked test None new = new ≡ None
Waked test (Some w) new = new ≡ Some (woken test w)
