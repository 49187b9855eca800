-- What each call leaves of the rows and the queue.
use Rattle.std.proofs.Common.{ℕ, ◌≡◌, ◌==◌, Bool, true, false, List, [], ◌∷◌, ◌++◌, map, Option, Some, None, MatchOption, refl, sym, ◌∙◌, ap, ⊎_elim, arith}
use Rattle.std.proofs.Common.{length-append}
use Rattle.std.proofs.lemmas.Bool.{cases_Bool, false≢true}
use Rattle.std.proofs.lemmas.Bool.Decides.{nat_tests}
use Rattle.std.proofs.lemmas.Option.{none-some, same_Some}
use Rattle.std.specs.Prelude.{IfSome, IsSome, IsSomeAnd, option_map, slice_get, if◌then◌else◌}
use Rattle.vm_base.specs.declared.ids.PageKey.{PageKey}
use Rattle.vm_base.specs.declared.ids.TaskId.{TaskId}
use Rattle.vm_waits.proofs.Lines.{length_others, listed_others, listed_push, once_others}
use Rattle.vm_waits.proofs.Lines as line
use Rattle.vm_waits.proofs.Rows.{Keeps, changed, changed_keeps, counted_push, counted_rewanted, counted_turned, counted_without, counted_woken, entry_map}
use Rattle.vm_waits.proofs.Rows.{entry_push, entry_task, entry_without, none_passes, oldest_none, oldest_some, rewanted_keeps, woken_keeps}
use Rattle.vm_waits.specs.Kept.{AreQueued}
use Rattle.vm_waits.specs.Waits.{EachOnce, PutsEntry, Waked, count_rows, entry, first_in_queue, is_again, is_frame, is_listed, oldest_row, one, queue_without}
use Rattle.vm_waits.specs.Waits.{queued, rewanted, rows_without, turned, waits_for_frame, with_on, with_want, woken, woken_page, woken_ready}
use Rattle.vm_waits.specs.declared.waiting.On.{On}
use Rattle.vm_waits.specs.declared.waiting.On.TheVariants as on
use Rattle.vm_waits.specs.declared.waiting.Waiting.{Waiting}
use Rattle.vm_waits.specs.declared.waiting.Want.{Want}

pub if_some : {A : Type 0} (o : Option A) (P : A → Type 0) → ((x : A) → o ≡ Some x → P x) → IfSome o P
if_some None P holds = tt
if_some (Some x) P holds = holds x refl

-- what there is
pub record There {A : Type 0} (o : Option A) : Type 0 where
  pub it : A
  pub is : o ≡ Some it

pub there : {A : Type 0} (o : Option A) → IsSome o → There o
there None some = absurd (false≢true some)
there (Some x) some = record { it = x; is = refl }

pub is_there : {A : Type 0} (o : Option A) (P : A → Type 0) → IsSomeAnd o P → IsSome o
is_there None P some = absurd some
is_there (Some x) P some = refl

-- an access begins
pub lined_begun : (rows : List Waiting) (queue : List TaskId) (w : Waiting) → AreQueued rows queue → entry rows w.task.0 ≡ None → is_frame w.on ≡ false
    → AreQueued (rows ++ w ∷ []) queue
lined_begun rows queue w kept absent other = record {
  listed = λ t. ⊎_elim
      (λ (here : (w.task.0 == t) ≡ true).
      let same : w.task.0 ≡ t = grind (arith, nat_tests) in
      let none : entry rows t ≡ None = ap (entry rows) (sym same) ∙ absent in
      rw (entry_push rows w t absent, here) (kept.listed t ∙ ap waits_for_frame none ∙ sym other))
      (λ (no : (w.task.0 == t) ≡ false). rw (entry_push rows w t absent, no) (kept.listed t))
      (cases_Bool (w.task.0 == t));
  once = kept.once;
  even = let more = counted_push is_frame rows w in let none = ap one other in omega (arith, more, none, kept.even);
}

-- a task's row is changed
changed_here : (t : ℕ) (f : Waiting → Waiting) (w : Waiting) → w.task.0 ≡ t → changed t f w ≡ f w
changed_here t f w same = let here : (w.task.0 == t) ≡ true = grind (arith, nat_tests) in rw here refl

changed_apart : (t u : ℕ) (f : Waiting → Waiting) (o : Option Waiting) → ((w : Waiting) → o ≡ Some w → w.task.0 ≡ u) → (t == u) ≡ false
    → option_map (changed t f) o ≡ o
changed_apart t u f None named apart = refl
changed_apart t u f (Some w) named apart =
    let is = named w refl in
    let no : (w.task.0 == t) ≡ false = grind (arith, nat_tests) in
    rw no refl

entry_changed : (t : ℕ) (f : Waiting → Waiting) (rows : List Waiting) (was : Waiting) (u : ℕ) → Keeps f → entry rows t ≡ Some was
    → entry (map (changed t f) rows) u ≡ (if t == u then Some (f was) else entry rows u)
entry_changed t f rows was u keeps is =
    rw (entry_map (changed t f) rows u (changed_keeps t f keeps))
    (⊎_elim
    (λ (here : (t == u) ≡ true).
    let same : t ≡ u = grind (arith, nat_tests) in
    let read : entry rows u ≡ Some was = ap (entry rows) (sym same) ∙ is in
    rw (here, read) (ap Some (changed_here t f was (entry_task rows t was is))))
    (λ (apart : (t == u) ≡ false). rw apart (changed_apart t u f (entry rows u) (entry_task rows u) apart))
    (cases_Bool (t == u)))

-- its row has another reason
entry_turned : (t : ℕ) (reason : On) (rows : List Waiting) (was : Waiting) (u : ℕ) → entry rows t ≡ Some was
    → entry (map (turned t reason) rows) u ≡ (if t == u then Some (with_on was reason) else entry rows u)
entry_turned t reason rows was u is = entry_changed t (λ w. with_on w reason) rows was u (λ w. refl) is

pub puts_turned : (t : ℕ) (reason : On) (rows : List Waiting) (was : Waiting) → entry rows t ≡ Some was
    → PutsEntry t (Some (with_on was reason)) rows (map (turned t reason) rows)
puts_turned t reason rows was is = record { at = λ u. entry_turned t reason rows was u is }

-- it is to do something else
pub puts_rewanted : (t : ℕ) (what : Want) (rows : List Waiting) (was : Waiting) → entry rows t ≡ Some was
    → PutsEntry t (Some (with_want was what)) rows (map (rewanted t what) rows)
puts_rewanted t what rows was is = record { at = λ u. entry_changed t (λ w. with_want w what) rows was u (λ w. refl) is }

rewanted_step : (test : Bool) (what : Want) (w : Waiting) → is_frame (if test then with_want w what else w).on ≡ is_frame w.on
rewanted_step true what w = refl
rewanted_step false what w = refl

waits_as_before : (t : ℕ) (what : Want) (o : Option Waiting) → waits_for_frame (option_map (rewanted t what) o) ≡ waits_for_frame o
waits_as_before t what None = refl
waits_as_before t what (Some w) = rewanted_step (w.task.0 == t) what w

pub lined_rewanted : (t : ℕ) (what : Want) (rows : List Waiting) (queue : List TaskId) → AreQueued rows queue → AreQueued (map (rewanted t what) rows) queue
lined_rewanted t what rows queue kept = record {
  listed = λ u. kept.listed u ∙ sym (ap waits_for_frame (entry_map (rewanted t what) rows u (rewanted_keeps t what)) ∙ waits_as_before t what (entry rows u));
  once = kept.once;
  even = kept.even ∙ sym (counted_rewanted is_frame t what rows);
}

pub lined_off : (t : ℕ) (reason : On) (rows : List Waiting) (queue : List TaskId) (was : Waiting) → AreQueued rows queue → EachOnce rows
    → entry rows t ≡ Some was → is_frame reason ≡ false
    → AreQueued (map (turned t reason) rows) (queue_without t queue)
lined_off t reason rows queue was kept once is other = record {
  listed = λ u. rw (listed_others t queue u, entry_turned t reason rows was u is)
      (⊎_elim
      (λ (here : (t == u) ≡ true). rw here (sym other))
      (λ (apart : (t == u) ≡ false). rw apart (kept.listed u))
      (cases_Bool (t == u)));
  once = once_others t queue kept.once;
  even =
      let gone = length_others t queue kept.once in
      let stood : one (is_listed t queue) ≡ one (is_frame was.on) = ap one (kept.listed t ∙ ap waits_for_frame is) in
      let count = counted_turned is_frame t reason rows was once is in
      let none = ap one other in
      omega (arith, gone, stood, count, none, kept.even);
}

pub lined_on : (task : TaskId) (rows : List Waiting) (queue : List TaskId) (was : Waiting) → AreQueued rows queue → EachOnce rows → entry rows task.0 ≡ Some was
    → is_frame was.on ≡ false
    → AreQueued (map (turned task.0 on.Frame) rows) (queue ++ task ∷ [])
lined_on task rows queue was kept once is other = record {
  listed = λ u. rw (listed_push queue task u, entry_turned task.0 on.Frame rows was u is)
      (⊎_elim
      (λ (here : (task.0 == u) ≡ true). rw here refl)
      (λ (apart : (task.0 == u) ≡ false). rw apart (kept.listed u))
      (cases_Bool (task.0 == u)));
  once = line.once_push queue task kept.once (kept.listed task.0 ∙ ap waits_for_frame is ∙ other);
  even =
      let more = length-append queue (task ∷ []) in
      let count = counted_turned is_frame task.0 on.Frame rows was once is in
      let none = ap one other in
      omega (arith, more, count, none, kept.even);
}

-- a row is taken out
pub lined_without : (t : ℕ) (rows : List Waiting) (queue : List TaskId) (was : Waiting) → AreQueued rows queue → EachOnce rows → entry rows t ≡ Some was
    → AreQueued (rows_without t rows) (queue_without t queue)
lined_without t rows queue was kept once is = record {
  listed = λ u. rw (listed_others t queue u, entry_without t rows u)
      (⊎_elim
      (λ (here : (t == u) ≡ true). rw here refl)
      (λ (apart : (t == u) ≡ false). rw apart (kept.listed u))
      (cases_Bool (t == u)));
  once = once_others t queue kept.once;
  even =
      let gone = length_others t queue kept.once in
      let stood : one (is_listed t queue) ≡ one (is_frame was.on) = ap one (kept.listed t ∙ ap waits_for_frame is) in
      let count = counted_without is_frame t rows was once is in
      omega (arith, gone, stood, count, kept.even);
}

-- rows are woken
woken_frame : (test : On → Bool) (o : Option Waiting) → ((reason : On) → test reason ≡ true → is_frame reason ≡ false)
    → waits_for_frame o ≡ waits_for_frame (option_map (woken test) o)
woken_frame test None apart = refl
woken_frame test (Some w) apart =
    ⊎_elim
    (λ (passes : test w.on ≡ true). rw passes (apart w.on passes))
    (λ (fails : test w.on ≡ false). rw fails refl)
    (cases_Bool (test w.on))

pub lined_woken : (test : On → Bool) (rows : List Waiting) (queue : List TaskId) → ((reason : On) → test reason ≡ true → is_frame reason ≡ false)
    → AreQueued rows queue → AreQueued (map (woken test) rows) queue
lined_woken test rows queue apart kept = record {
  listed = λ t. rw (entry_map (woken test) rows t (woken_keeps test)) (kept.listed t ∙ woken_frame test (entry rows t) apart);
  once = kept.once;
  even = let same = counted_woken test is_frame false rows apart refl in omega (arith, same, kept.even);
}

waked_by : (test : On → Bool) (o : Option Waiting) → Waked test o (option_map (woken test) o)
waked_by test None = refl
waked_by test (Some w) = refl

pub waked : (test : On → Bool) (rows : List Waiting) (t : ℕ) → Waked test (entry rows t) (entry (map (woken test) rows) t)
waked test rows t = rw (entry_map (woken test) rows t (woken_keeps test)) (waked_by test (entry rows t))

-- the oldest row that passes a test
pub matched : (test : On → Bool) (rows : List Waiting) (o : Option Waiting) → EachOnce rows → o ≡ oldest_row test rows
    → MatchOption o (count_rows test rows ≡ 0) (λ w. (entry rows w.task.0 ≡ Some w) × (test w.on ≡ true))
matched test rows None once is = oldest_none test rows (sym is)
matched test rows (Some w) once is = let row = oldest_some test rows w once (sym is) in (row.row, row.passes)

-- the rows that wait for a frame are those of the queue
framed : (o : Option Waiting) → waits_for_frame o ≡ true → IsSomeAnd o (λ w. is_frame w.on ≡ true)
framed None frame = absurd (false≢true frame)
framed (Some w) frame = frame

-- the first of the queue has a row
pub record IsFront (rows : List Waiting) (task : TaskId) : Type 0 where
  pub it : Waiting
  pub row : entry rows task.0 ≡ Some it
  pub frame : is_frame it.on ≡ true

first_of : (rows : List Waiting) (task : TaskId) (o : Option Waiting) → entry rows task.0 ≡ o → waits_for_frame o ≡ true → IsFront rows task
first_of rows task None is frame = absurd (false≢true frame)
first_of rows task (Some w) is frame = record { it = w; row = is; frame = frame }

pub front : (rows : List Waiting) (queue : List TaskId) (task : TaskId) → AreQueued rows queue → first_in_queue queue ≡ Some task → IsFront rows task
front rows [] task kept is = absurd (none-some task is)
front rows (x ∷ xs) task kept is =
    let same : x ≡ task = same_Some x task is in
    let listed : is_listed task.0 (x ∷ xs) ≡ true = let here : (x.0 == task.0) ≡ true = ap (λ (z : TaskId). z.0 == task.0) same ∙ itself task in rw here refl in
    first_of rows task (entry rows task.0) refl (sym (kept.listed task.0) ∙ listed)
  where
    itself : (task : TaskId) → (task.0 == task.0) ≡ true
    itself task = grind (arith, nat_tests)

-- what is got of the first task is the front of the queue
pub fronted : (rows : List Waiting) (queue : List TaskId) (task : TaskId) (o : Option Waiting) → AreQueued rows queue → first_in_queue queue ≡ Some task
    → o ≡ entry rows task.0
    → MatchOption o (queue ≡ []) (λ w. first_in_queue queue ≡ Some w.task)
    × MatchOption o (queued rows ≡ 0) (λ w. (entry rows w.task.0 ≡ Some w) × (is_frame w.on ≡ true))
fronted rows queue task None kept is got = let row = front rows queue task kept is in absurd (none-some row.it (got ∙ row.row))
fronted rows queue task (Some w) kept is got =
    let row = front rows queue task kept is in
    let same : w ≡ row.it = same_Some w row.it (got ∙ row.row) in
    let named : w.task.0 ≡ task.0 = entry_task rows task.0 w (sym got) in
    let tasks : task ≡ w.task = ap (λ (n : ℕ). record { 0 = n }) (sym named) in
    (is ∙ ap Some tasks, (ap (entry rows) named ∙ sym got, ap (λ (z : Waiting). is_frame z.on) same ∙ row.frame))

pub first_read : (queue : List TaskId) → slice_get queue 0 ≡ first_in_queue queue
first_read [] = refl
first_read (x ∷ xs) = refl

pub next_matched : (test : On → Bool) (rows : List Waiting) (o : Option Waiting) → EachOnce rows → o ≡ oldest_row test rows
    → MatchOption o ((t : ℕ) → IfSome (entry rows t) (λ w. test w.on ≡ false)) (λ w. (entry rows w.task.0 ≡ Some w) × (test w.on ≡ true))
next_matched test rows None once is =
    λ t. if_some (entry rows t) (λ w. test w.on ≡ false) (λ w row. none_passes test rows t w (oldest_none test rows (sym is)) row)
next_matched test rows (Some w) once is = let row = oldest_some test rows w once (sym is) in (row.row, row.passes)

-- who waits for a page or a pager waits for nothing else
pub page_frame : (key : PageKey) (reason : On) → woken_page key reason ≡ true → is_frame reason ≡ false
page_frame key on.Again is = refl
page_frame key (on.Ready object) is = refl
page_frame key (on.Page other) is = refl
page_frame key (on.Push other) is = refl
page_frame key on.Frame is = absurd (false≢true is)

pub page_again : (key : PageKey) (reason : On) → woken_page key reason ≡ true → is_again reason ≡ false
page_again key on.Again is = absurd (false≢true is)
page_again key (on.Ready object) is = refl
page_again key (on.Page other) is = refl
page_again key (on.Push other) is = refl
page_again key on.Frame is = refl

pub ready_frame : (object : ℕ) (reason : On) → woken_ready object reason ≡ true → is_frame reason ≡ false
ready_frame object on.Again is = refl
ready_frame object (on.Ready other) is = refl
ready_frame object (on.Page key) is = refl
ready_frame object (on.Push key) is = refl
ready_frame object on.Frame is = absurd (false≢true is)

pub ready_again : (object : ℕ) (reason : On) → woken_ready object reason ≡ true → is_again reason ≡ false
ready_again object on.Again is = absurd (false≢true is)
ready_again object (on.Ready other) is = refl
ready_again object (on.Page key) is = refl
ready_again object (on.Push key) is = refl
ready_again object on.Frame is = refl
