-- How many of the rows are slow copies, where one begins, goes, waits for something else or is to do something else.
use Rattle.std.proofs.Common.{ℕ, ◌≡◌, ◌+◌, ◌<◌, ◌≤◌, ◌==◌, Bool, true, false, List, [], ◌∷◌, ◌++◌, length, map, Some, None, refl, ⊎_elim, arith}
use Rattle.std.proofs.lemmas.Bool.{cases_Bool}
use Rattle.std.proofs.lemmas.Option.{none-some}
use Rattle.std.specs.Prelude.{if◌then◌else◌}
use Rattle.vm_waits.proofs.Rows.{absent_behind, some_split, unchanged, unlisted}
use Rattle.vm_waits.specs.Waits.{EachOnce, count_copies, entry, one, rewanted, rows_without, turned, with_on, with_want, woken}
use Rattle.vm_waits.specs.Wants.{is_copying}
use Rattle.vm_waits.specs.declared.waiting.On.{On}
use Rattle.vm_waits.specs.declared.waiting.On.TheVariants as on
use Rattle.vm_waits.specs.declared.waiting.Waiting.{Waiting}
use Rattle.vm_waits.specs.declared.waiting.Want.{Want}

one_few : (b : Bool) → one b ≤ 1
one_few true = omega arith
one_few false = omega arith

pub copies_few : (rows : List Waiting) → count_copies rows ≤ length rows
copies_few [] = omega arith
copies_few (x ∷ xs) = omega (arith, one_few (is_copying x.want), copies_few xs)

-- a change that leaves each row what it is to do
same_wants : (f : Waiting → Waiting) (rows : List Waiting) → ((w : Waiting) → (f w).want ≡ w.want) → count_copies (map f rows) ≡ count_copies rows
same_wants f [] keeps = refl
same_wants f (x ∷ xs) keeps = rw (keeps x, same_wants f xs keeps) refl

on_step : (test : Bool) (reason : On) (w : Waiting) → (if test then with_on w reason else w).want ≡ w.want
on_step true reason w = refl
on_step false reason w = refl

pub copies_turned : (t : ℕ) (reason : On) (rows : List Waiting) → count_copies (map (turned t reason) rows) ≡ count_copies rows
copies_turned t reason rows = same_wants (turned t reason) rows (λ w. on_step (w.task.0 == t) reason w)

pub copies_woken : (test : On → Bool) (rows : List Waiting) → count_copies (map (woken test) rows) ≡ count_copies rows
copies_woken test rows = same_wants (woken test) rows (λ w. on_step (test w.on) on.Again w)

-- a task's row is to do something else
other_wants : (t : ℕ) (what : Want) (rows : List Waiting) → entry rows t ≡ None → map (rewanted t what) rows ≡ rows
other_wants t what rows none = unchanged t (λ w. with_want w what) rows none

pub copies_rewanted : (t : ℕ) (what : Want) (rows : List Waiting) (was : Waiting) → EachOnce rows → entry rows t ≡ Some was
    → count_copies (map (rewanted t what) rows) + one (is_copying was.want) ≡ count_copies rows + one (is_copying what)
copies_rewanted t what [] was once is = absurd (none-some was is)
copies_rewanted t what (x ∷ xs) was once is =
    some_split (x.task.0 == t) x was (entry xs t) is
    (λ (yes : (x.task.0 == t) ≡ true) (same : x ≡ was). rw (yes, other_wants t what xs (absent_behind x xs t yes once.0), ← same) (omega arith))
    (λ (no : (x.task.0 == t) ≡ false) (more : entry xs t ≡ Some was). rw no (omega (arith, copies_rewanted t what xs was once.1 more)))

-- it goes
pub copies_without : (t : ℕ) (rows : List Waiting) (was : Waiting) → EachOnce rows → entry rows t ≡ Some was
    → count_copies (rows_without t rows) + one (is_copying was.want) ≡ count_copies rows
copies_without t [] was once is = absurd (none-some was is)
copies_without t (x ∷ xs) was once is =
    some_split (x.task.0 == t) x was (entry xs t) is
    (λ (yes : (x.task.0 == t) ≡ true) (same : x ≡ was). rw (yes, unlisted t xs (absent_behind x xs t yes once.0), ← same) (omega arith))
    (λ (no : (x.task.0 == t) ≡ false) (more : entry xs t ≡ Some was). rw no (omega (arith, copies_without t xs was once.1 more)))

pub copies_less : (t : ℕ) (rows : List Waiting) → count_copies (rows_without t rows) ≤ count_copies rows
copies_less t [] = omega arith
copies_less t (x ∷ xs) =
    let rest = copies_less t xs in
    ⊎_elim
    (λ (yes : (x.task.0 == t) ≡ true). rw yes (omega (arith, rest)))
    (λ (no : (x.task.0 == t) ≡ false). rw no (omega (arith, rest)))
    (cases_Bool (x.task.0 == t))

-- one begins
pub copies_begun : (rows : List Waiting) (w : Waiting) → count_copies (rows ++ w ∷ []) ≡ count_copies rows + one (is_copying w.want)
copies_begun [] w = omega arith
copies_begun (x ∷ xs) w = omega (arith, copies_begun xs w)

-- one is there
pub copies_some : (rows : List Waiting) (t : ℕ) (w : Waiting) → entry rows t ≡ Some w → is_copying w.want ≡ true → 0 < count_copies rows
copies_some [] t w is copies = absurd (none-some w is)
copies_some (x ∷ xs) t w is copies =
    some_split (x.task.0 == t) x w (entry xs t) is
    (λ (yes : (x.task.0 == t) ≡ true) (same : x ≡ w). let its : is_copying x.want ≡ true = rw same copies in rw its (omega arith))
    (λ (no : (x.task.0 == t) ≡ false) (more : entry xs t ≡ Some w). omega (arith, copies_some xs t w more copies))
