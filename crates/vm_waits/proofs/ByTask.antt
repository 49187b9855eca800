-- The rows in the table, each under its task.
use Rattle.std.proofs.Common.{ℕ, zero, suc, ◌≡◌, ◌+◌, ◌<◌, ◌==◌, ◌≢◌, true, false, List, [], ◌∷◌, ◌++◌, length, map, take, drop, get_or, length-append, Option}
use Rattle.std.proofs.Common.{Some, None, refl, sym, ◌∙◌, add-one, ap, ⊎_elim, arith}
use Rattle.std.proofs.lemmas.Bool.{cases_Bool}
use Rattle.std.proofs.lemmas.Bool.Decides.{nat_tests}
use Rattle.std.proofs.lemmas.List.{length-map, take_more}
use Rattle.std.proofs.lemmas.Option.{none-some, same_Some}
use Rattle.indexmap.specs.IndexMap.{insert_entry, set_value_at}
use Rattle.std.specs.Borrow.{MutBor}
use Rattle.std.specs.Option.{option_copied_mut}
use Rattle.std.specs.Prelude.{IsSome, slice_get, if◌then◌else◌}
use Rattle.std.specs.Map.{lookup, remove_entry, set_value, values_of}
use Rattle.vm_base.specs.declared.ids.TaskId.{TaskId}
use Rattle.vm_waits.proofs.Rows.{Keeps, absent_behind, changed, changed_keeps, entry_without, none_split, once_map, once_push, some_split, unchanged, unlisted}
use Rattle.vm_waits.specs.Kept.{AreKept, by_task, on_value}
use Rattle.vm_waits.specs.Waits.{EachOnce, entry, rows_without}
use Rattle.vm_waits.specs.declared.waiting.Waiting.{Waiting}

values_by : (rows : List Waiting) → values_of (map by_task rows) ≡ rows
values_by [] = refl
values_by (x ∷ xs) = ap (λ z. x ∷ z) (values_by xs)

lookup_by : (t : ℕ) (rows : List Waiting) → lookup (λ (id : TaskId). t == id.0) (map by_task rows) ≡ entry rows t
lookup_by t [] = refl
lookup_by t (x ∷ xs) = let rest = lookup_by t xs in grind (arith, nat_tests, rest)

-- the row of a task, looked up
pub looked_up : (t : ℕ) (entries : List (TaskId × Waiting)) → AreKept entries → lookup (λ (id : TaskId). t == id.0) entries ≡ entry (values_of entries) t
looked_up t entries kept = ap (lookup (λ (id : TaskId). t == id.0)) kept.named ∙ lookup_by t (values_of entries)

-- a task's row can be lent where there is one
lent : (o : Option (MutBor Waiting)) (row : Option Waiting) → option_copied_mut o ≡ row → IsSome row → IsSome o
lent None row is some = rw (← is) at some
lent (Some lend) row is some = refl

pub lendable : (t : ℕ) (entries : List (TaskId × Waiting)) (o : Option (MutBor Waiting)) → AreKept entries
    → option_copied_mut o ≡ lookup (λ (id : TaskId). t == id.0) entries → IsSome (entry (values_of entries) t) → IsSome o
lendable t entries o kept is some = lent o (entry (values_of entries) t) (is ∙ looked_up t entries kept) some

-- entries that are these rows
pub record Holds (entries : List (TaskId × Waiting)) (held : List Waiting) : Type 0 where
  pub rows : values_of entries ≡ held
  pub kept : AreKept entries

pub holds : (entries : List (TaskId × Waiting)) (rows : List Waiting) → entries ≡ map by_task rows → EachOnce rows → Holds entries rows
holds entries rows named once =
    let same = ap values_of named ∙ values_by rows in
    record { rows = same; kept = record { named = named ∙ ap (map by_task) (sym same); once = rw same once } }

mapped_by : (f : Waiting → Waiting) (rows : List Waiting) → Keeps f → map (on_value f) (map by_task rows) ≡ map by_task (map f rows)
mapped_by f [] keeps = refl
mapped_by f (x ∷ xs) keeps =
    let same : x.task ≡ (f x).task = ap (λ (n : ℕ). record { 0 = n }) (sym (keeps x)) in
    rw (mapped_by f xs keeps) (ap (λ (z : TaskId). (z, f x) ∷ map by_task (map f xs)) same)

pub mapped : (f : Waiting → Waiting) (entries new : List (TaskId × Waiting)) → Keeps f → AreKept entries → new ≡ map (on_value f) entries
    → Holds new (map f (values_of entries))
mapped f entries new keeps kept is =
    holds new (map f (values_of entries)) (is ∙ ap (map (on_value f)) kept.named ∙ mapped_by f (values_of entries) keeps)
    (once_map f (values_of entries) keeps kept.once)

insert_by : (rows : List Waiting) (w : Waiting) → entry rows w.task.0 ≡ None
    → insert_entry (λ (a b : TaskId). a.0 == b.0) (map by_task rows) w.task w ≡ map by_task (rows ++ w ∷ [])
insert_by [] w none = refl
insert_by (x ∷ xs) w none =
    let apart = none_split (x.task.0 == w.task.0) x (entry xs w.task.0) none in
    let no : (w.task.0 == x.task.0) ≡ false = let other = apart.0 in grind (arith, nat_tests, other) in
    rw no (ap (λ z. by_task x ∷ z) (insert_by xs w apart.1))

-- a row is put behind the others
pub pushed : (entries new : List (TaskId × Waiting)) (w : Waiting) → AreKept entries → entry (values_of entries) w.task.0 ≡ None
    → new ≡ insert_entry (λ (a b : TaskId). a.0 == b.0) entries w.task w → Holds new (values_of entries ++ w ∷ [])
pushed entries new w kept absent is = holds new (values_of entries ++ w ∷ [])
    (is ∙ ap (λ z. insert_entry (λ (a b : TaskId). a.0 == b.0) z w.task w) kept.named ∙ insert_by (values_of entries) w absent)
    (once_push (values_of entries) w kept.once absent)

set_by : (t : ℕ) (f : Waiting → Waiting) (rows : List Waiting) (was : Waiting) → Keeps f → EachOnce rows → entry rows t ≡ Some was
    → set_value (λ (id : TaskId). t == id.0) (map by_task rows) (f was) ≡ map by_task (map (changed t f) rows)
set_by t f [] was keeps once is = absurd (none-some was is)
set_by t f (x ∷ xs) was keeps once is =
    let same : (t == x.task.0) ≡ (x.task.0 == t) = grind (arith, nat_tests) in
    some_split (x.task.0 == t) x was (entry xs t) is
    (λ (yes : (x.task.0 == t) ≡ true) (here : x ≡ was).
    let named : x.task ≡ (f x).task = ap (λ (n : ℕ). record { 0 = n }) (sym (keeps x)) in
    rw (same, yes, ← here, unchanged t f xs (absent_behind x xs t yes once.0)) (ap (λ (z : TaskId). (z, f x) ∷ map by_task xs) named))
    (λ (no : (x.task.0 == t) ≡ false) (more : entry xs t ≡ Some was). rw (same, no) (ap (λ z. by_task x ∷ z) (set_by t f xs was keeps once.1 more)))

-- a task's row is written
pub written : (t : ℕ) (f : Waiting → Waiting) (entries new : List (TaskId × Waiting)) (was : Waiting) → Keeps f → AreKept entries
    → entry (values_of entries) t ≡ Some was
    → new ≡ set_value (λ (id : TaskId). t == id.0) entries (f was) → Holds new (map (changed t f) (values_of entries))
written t f entries new was keeps kept there is = holds new (map (changed t f) (values_of entries))
    (is ∙ ap (λ z. set_value (λ (id : TaskId). t == id.0) z (f was)) kept.named ∙ set_by t f (values_of entries) was keeps kept.once there)
    (once_map (changed t f) (values_of entries) (changed_keeps t f keeps) kept.once)

remove_by : (t : ℕ) (rows : List Waiting) → EachOnce rows → remove_entry (λ (id : TaskId). t == id.0) (map by_task rows) ≡ map by_task (rows_without t rows)
remove_by t [] once = refl
remove_by t (x ∷ xs) once =
    let same : (t == x.task.0) ≡ (x.task.0 == t) = grind (arith, nat_tests) in
    ⊎_elim
    (λ (yes : (x.task.0 == t) ≡ true). rw (same, yes, unlisted t xs (absent_behind x xs t yes once.0)) refl)
    (λ (no : (x.task.0 == t) ≡ false). rw (same, no) (ap (λ z. by_task x ∷ z) (remove_by t xs once.1)))
    (cases_Bool (x.task.0 == t))

-- a task's row is taken out
pub removed : (t : ℕ) (entries new : List (TaskId × Waiting)) → AreKept entries → new ≡ remove_entry (λ (id : TaskId). t == id.0) entries
    → new ≡ map by_task (rows_without t (values_of entries))
removed t entries new kept is = is ∙ ap (remove_entry (λ (id : TaskId). t == id.0)) kept.named ∙ remove_by t (values_of entries) kept.once

changed_more : (f : Waiting → Waiting) (entries : List (TaskId × Waiting)) (i : ℕ) (w : Waiting) → i < length entries
    → slice_get (values_of (map (on_value f) (take i entries) ++ drop i entries)) i ≡ Some w
    → set_value_at (map (on_value f) (take i entries) ++ drop i entries) i (f w) ≡ map (on_value f) (take (suc i) entries) ++ drop (suc i) entries
changed_more f [] i w within is = absurd (omega arith)
changed_more f (e ∷ es) zero w within is = ap (λ z. (e.0, f z) ∷ es) (sym (same_Some e.1 w is))
changed_more f (e ∷ es) (suc i) w within is = ap (λ z. on_value f e ∷ z) (changed_more f es i w (omega arith) is)

-- a loop has changed one row more
pub changed_step : (f : Waiting → Waiting) (entries now : List (TaskId × Waiting)) (i : ℕ) (w row : Waiting)
    → now ≡ map (on_value f) (take i entries) ++ drop i entries → i < length entries → slice_get (values_of now) i ≡ Some w → row ≡ f w
    → set_value_at now i row ≡ map (on_value f) (take (i + 1) entries) ++ drop (i + 1) entries
changed_step f entries now i w row so_far within is changed = rw (so_far, changed, add-one i) (changed_more f entries i w within (rw so_far at is))

-- the rows but a task's, put one by one
without_push : (t : ℕ) (rows : List Waiting) (w : Waiting)
    → rows_without t (rows ++ w ∷ []) ≡ (if w.task.0 == t then rows_without t rows else rows_without t rows ++ w ∷ [])
without_push t [] w = refl
without_push t (x ∷ xs) w = let more = without_push t xs w in grind (arith, nat_tests, more)

none_at : (t i : ℕ) (rows : List Waiting) (d : Waiting) → i < length rows → entry rows t ≡ None → ((get_or rows i d).task.0 == t) ≡ false
none_at t i [] d within none = absurd (omega arith)
none_at t zero (x ∷ xs) d within none = (none_split (x.task.0 == t) x (entry xs t) none).0
none_at t (suc i) (x ∷ xs) d within none = none_at t i xs d (omega arith) (none_split (x.task.0 == t) x (entry xs t) none).1

absent_before : (i : ℕ) (rows : List Waiting) (d : Waiting) → i < length rows → EachOnce rows → entry (take i rows) (get_or rows i d).task.0 ≡ None
absent_before i [] d within once = absurd (omega arith)
absent_before zero (x ∷ xs) d within once = refl
absent_before (suc i) (x ∷ xs) d within once =
    let other = none_at x.task.0 i xs d (omega arith) once.0 in
    let no : (x.task.0 == (get_or xs i d).task.0) ≡ false = grind (arith, nat_tests, other) in
    rw no (absent_before i xs d (omega arith) once.1)

-- a loop has left out the task's row, or put one more
pub left_out : (t i : ℕ) (rows : List Waiting) (d : Waiting) → i < length rows → (get_or rows i d).task.0 ≡ t
    → map by_task (rows_without t (take i rows)) ≡ map by_task (rows_without t (take (i + 1) rows))
left_out t i rows d within same =
    let here : ((get_or rows i d).task.0 == t) ≡ true = grind (arith, nat_tests) in
    rw (take_more rows i d within, without_push t (take i rows) (get_or rows i d), here) refl

pub record PutsMore (old new : List (TaskId × Waiting)) (held : List Waiting) : Type 0 where
  pub rows : new ≡ map by_task held
  pub more : length new ≡ length old + 1

pub put_more : (t i : ℕ) (rows : List Waiting) (d : Waiting) (old new : List (TaskId × Waiting)) → i < length rows → EachOnce rows
    → (get_or rows i d).task.0 ≢ t → old ≡ map by_task (rows_without t (take i rows))
    → new ≡ insert_entry (λ (a b : TaskId). a.0 == b.0) old (get_or rows i d).task (get_or rows i d) → PutsMore old new (rows_without t (take (i + 1) rows))
put_more t i rows d old new within once apart was is =
    let w = get_or rows i d in
    let before = rows_without t (take i rows) in
    let no : (w.task.0 == t) ≡ false = grind (arith, nat_tests) in
    let other : (t == w.task.0) ≡ false = grind (arith, nat_tests) in
    let absent : entry before w.task.0 ≡ None = entry_without t (take i rows) w.task.0 ∙ rw other (absent_before i rows d within once) in
    let now : new ≡ map by_task (before ++ w ∷ []) = is ∙ ap (λ z. insert_entry (λ (a b : TaskId). a.0 == b.0) z w.task w) was ∙ insert_by before w absent in
    let more : rows_without t (take (i + 1) rows) ≡ before ++ w ∷ [] = rw (take_more rows i d within, without_push t (take i rows) w, no) refl in
    record {
      rows = now ∙ ap (map by_task) (sym more);
      more = omega (arith, ap length now, ap length was, length-map (before ++ w ∷ []) by_task, length-map before by_task, length-append before (w ∷ []));
    }
