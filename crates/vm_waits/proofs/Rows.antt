-- The rows by their tasks: what a change of one, or of all, leaves of each.
use Rattle.std.proofs.Common.{ℕ, ◌≡◌, ◌+◌, ◌≤◌, ◌==◌, Bool, true, false, List, [], ◌∷◌, ◌++◌, length, map, Option, Some, None, refl, sym, ◌∙◌, ap, subst}
use Rattle.std.proofs.Common.{⊎_elim, arith}
use Rattle.std.proofs.lemmas.Bool.{cases_Bool}
use Rattle.std.proofs.lemmas.Bool.Decides.{nat_tests}
use Rattle.std.proofs.lemmas.Option.{none-some, same_Some}
use Rattle.std.specs.Prelude.{option_map, if◌then◌else◌}
use Rattle.vm_waits.specs.Waits.{EachOnce, count_rows, entry, oldest_row, one, rewanted, rows_without, turned, with_on, with_want, woken}
use Rattle.vm_waits.specs.declared.waiting.On.{On}
use Rattle.vm_waits.specs.declared.waiting.On.TheVariants as on
use Rattle.vm_waits.specs.declared.waiting.Waiting.{Waiting}
use Rattle.vm_waits.specs.declared.waiting.Want.{Want}

pub none_split : {A : Type 0} (b : Bool) (x : A) (o : Option A) → (if b then Some x else o) ≡ None → (b ≡ false) × (o ≡ None)
none_split true x o none = absurd (none-some x (sym none))
none_split false x o none = (refl, none)

-- where a test is passed, or what is left
pub some_split : {A : Type 0} {P : Type 0} (b : Bool) (x y : A) (o : Option A) → (if b then Some x else o) ≡ Some y → (b ≡ true → x ≡ y → P)
    → (b ≡ false → o ≡ Some y → P) → P
some_split true x y o some here later = here refl (same_Some x y some)
some_split false x y o some here later = later refl some

-- the row of a task names it
pub entry_task : (rows : List Waiting) (t : ℕ) (w : Waiting) → entry rows t ≡ Some w → w.task.0 ≡ t
entry_task [] t w is = absurd (none-some w is)
entry_task (x ∷ xs) t w is =
    some_split (x.task.0 == t) x w (entry xs t) is
    (λ (yes : (x.task.0 == t) ≡ true) (same : x ≡ w). let named : x.task.0 ≡ t = grind (arith, nat_tests) in ap (λ (z : Waiting). z.task.0) (sym same) ∙ named)
    (λ (no : (x.task.0 == t) ≡ false) (more : entry xs t ≡ Some w). entry_task xs t w more)

-- a row behind the others
pub entry_push : (rows : List Waiting) (w : Waiting) (t : ℕ) → entry rows w.task.0 ≡ None
    → entry (rows ++ w ∷ []) t ≡ (if w.task.0 == t then Some w else entry rows t)
entry_push [] w t none = refl
entry_push (x ∷ xs) w t none =
    let apart = none_split (x.task.0 == w.task.0) x (entry xs w.task.0) none in
    let other : (x.task.0 == w.task.0) ≡ false = apart.0 in
    let more = entry_push xs w t apart.1 in
    grind (arith, nat_tests, more)

pub once_push : (rows : List Waiting) (w : Waiting) → EachOnce rows → entry rows w.task.0 ≡ None → EachOnce (rows ++ w ∷ [])
once_push [] w once none = (refl, tt)
once_push (x ∷ xs) w once none =
    let apart = none_split (x.task.0 == w.task.0) x (entry xs w.task.0) none in
    let other : (x.task.0 == w.task.0) ≡ false = apart.0 in
    let no : (w.task.0 == x.task.0) ≡ false = grind (arith, nat_tests) in
    (rw (entry_push xs w x.task.0 apart.1, no) once.0, once_push xs w once.1 apart.1)

pub counted_push : (test : On → Bool) (rows : List Waiting) (w : Waiting) → count_rows test (rows ++ w ∷ []) ≡ count_rows test rows + one (test w.on)
counted_push test [] w = omega arith
counted_push test (x ∷ xs) w = omega (arith, counted_push test xs w)

-- a change that leaves each row its task
abbrev pub Keeps : (Waiting → Waiting) → Type 0
Keeps f = (w : Waiting) → (f w).task.0 ≡ w.task.0

pub entry_map : (f : Waiting → Waiting) (rows : List Waiting) (t : ℕ) → Keeps f → entry (map f rows) t ≡ option_map f (entry rows t)
entry_map f [] t keeps = refl
entry_map f (x ∷ xs) t keeps =
    let same : ((f x).task.0 == t) ≡ (x.task.0 == t) = ap (λ (n : ℕ). n == t) (keeps x) in
    ⊎_elim
    (λ (here : (x.task.0 == t) ≡ true). let now : ((f x).task.0 == t) ≡ true = same ∙ here in rw (now, here) refl)
    (λ (no : (x.task.0 == t) ≡ false). let now : ((f x).task.0 == t) ≡ false = same ∙ no in rw (now, no) (entry_map f xs t keeps))
    (cases_Bool (x.task.0 == t))

pub once_map : (f : Waiting → Waiting) (rows : List Waiting) → Keeps f → EachOnce rows → EachOnce (map f rows)
once_map f [] keeps once = tt
once_map f (x ∷ xs) keeps once = (rw (keeps x, entry_map f xs x.task.0 keeps, once.0) refl, once_map f xs keeps once.1)

-- a task's row is changed
abbrev pub changed : ℕ → (Waiting → Waiting) → Waiting → Waiting
changed t f w = if w.task.0 == t then f w else w

changed_step : (test : Bool) (f : Waiting → Waiting) (w : Waiting) → (f w).task.0 ≡ w.task.0 → (if test then f w else w).task.0 ≡ w.task.0
changed_step true f w same = same
changed_step false f w same = refl

pub changed_keeps : (t : ℕ) (f : Waiting → Waiting) → Keeps f → Keeps (changed t f)
changed_keeps t f keeps w = changed_step (w.task.0 == t) f w (keeps w)

pub woken_keeps : (test : On → Bool) → Keeps (woken test)
woken_keeps test w = changed_step (test w.on) (λ x. with_on x on.Again) w refl

pub unchanged : (t : ℕ) (f : Waiting → Waiting) (rows : List Waiting) → entry rows t ≡ None → map (changed t f) rows ≡ rows
unchanged t f [] none = refl
unchanged t f (x ∷ xs) none =
    let apart = none_split (x.task.0 == t) x (entry xs t) none in
    rw (apart.0) (ap (λ z. x ∷ z) (unchanged t f xs apart.1))

pub absent_behind : (x : Waiting) (xs : List Waiting) (t : ℕ) → (x.task.0 == t) ≡ true → entry xs x.task.0 ≡ None → entry xs t ≡ None
absent_behind x xs t here none = let same : x.task.0 ≡ t = grind (arith, nat_tests) in ap (entry xs) (sym same) ∙ none

-- its row has another reason
pub unturned : (t : ℕ) (reason : On) (rows : List Waiting) → entry rows t ≡ None → map (turned t reason) rows ≡ rows
unturned t reason rows none = unchanged t (λ x. with_on x reason) rows none

pub counted_turned : (test : On → Bool) (t : ℕ) (reason : On) (rows : List Waiting) (was : Waiting) → EachOnce rows → entry rows t ≡ Some was
    → count_rows test (map (turned t reason) rows) + one (test was.on) ≡ count_rows test rows + one (test reason)
counted_turned test t reason [] was once is = absurd (none-some was is)
counted_turned test t reason (x ∷ xs) was once is =
    some_split (x.task.0 == t) x was (entry xs t) is
    (λ (yes : (x.task.0 == t) ≡ true) (same : x ≡ was). rw (yes, unturned t reason xs (absent_behind x xs t yes once.0), ← same) (omega arith))
    (λ (no : (x.task.0 == t) ≡ false) (more : entry xs t ≡ Some was). rw no (omega (arith, counted_turned test t reason xs was once.1 more)))

-- it is to do something else
rewanted_step : (test : Bool) (what : Want) (w : Waiting) → (if test then with_want w what else w).on ≡ w.on
rewanted_step true what w = refl
rewanted_step false what w = refl

counted_same : (test : On → Bool) (f : Waiting → Waiting) (rows : List Waiting) → ((w : Waiting) → (f w).on ≡ w.on)
    → count_rows test (map f rows) ≡ count_rows test rows
counted_same test f [] keeps = refl
counted_same test f (x ∷ xs) keeps = rw (keeps x, counted_same test f xs keeps) refl

pub counted_rewanted : (test : On → Bool) (t : ℕ) (what : Want) (rows : List Waiting) → count_rows test (map (rewanted t what) rows) ≡ count_rows test rows
counted_rewanted test t what rows = counted_same test (rewanted t what) rows (λ w. rewanted_step (w.task.0 == t) what w)

pub rewanted_keeps : (t : ℕ) (what : Want) → Keeps (rewanted t what)
rewanted_keeps t what w = changed_keeps t (λ x. with_want x what) (λ x. refl) w

-- the rows without a task's
pub unlisted : (t : ℕ) (rows : List Waiting) → entry rows t ≡ None → rows_without t rows ≡ rows
unlisted t [] none = refl
unlisted t (x ∷ xs) none =
    let apart = none_split (x.task.0 == t) x (entry xs t) none in
    rw (apart.0) (ap (λ z. x ∷ z) (unlisted t xs apart.1))

pub entry_without : (t : ℕ) (rows : List Waiting) (u : ℕ) → entry (rows_without t rows) u ≡ (if t == u then None else entry rows u)
entry_without t [] u = grind (arith, nat_tests)
entry_without t (x ∷ xs) u =
    let more = entry_without t xs u in
    ⊎_elim
    (λ (yes : (x.task.0 == t) ≡ true). rw yes (grind (arith, nat_tests, more)))
    (λ (no : (x.task.0 == t) ≡ false). rw no (grind (arith, nat_tests, more)))
    (cases_Bool (x.task.0 == t))

pub once_without : (t : ℕ) (rows : List Waiting) → EachOnce rows → EachOnce (rows_without t rows)
once_without t [] once = tt
once_without t (x ∷ xs) once =
    ⊎_elim
    (λ (yes : (x.task.0 == t) ≡ true). rw yes (once_without t xs once.1))
    (λ (no : (x.task.0 == t) ≡ false).
    let other : (t == x.task.0) ≡ false = grind (arith, nat_tests) in
    rw no (rw (entry_without t xs x.task.0, other) once.0, once_without t xs once.1))
    (cases_Bool (x.task.0 == t))

pub counted_without : (test : On → Bool) (t : ℕ) (rows : List Waiting) (was : Waiting) → EachOnce rows → entry rows t ≡ Some was
    → count_rows test (rows_without t rows) + one (test was.on) ≡ count_rows test rows
counted_without test t [] was once is = absurd (none-some was is)
counted_without test t (x ∷ xs) was once is =
    some_split (x.task.0 == t) x was (entry xs t) is
    (λ (yes : (x.task.0 == t) ≡ true) (same : x ≡ was). rw (yes, unlisted t xs (absent_behind x xs t yes once.0), ← same) (omega arith))
    (λ (no : (x.task.0 == t) ≡ false) (more : entry xs t ≡ Some was). rw no (omega (arith, counted_without test t xs was once.1 more)))

-- rows that are woken
pub counted_woken : (test count : On → Bool) (n : Bool) (rows : List Waiting) → ((reason : On) → test reason ≡ true → count reason ≡ false) → count on.Again ≡ n
    → count_rows count (map (woken test) rows) ≡ count_rows count rows + (if n then count_rows test rows else 0)
counted_woken test count n [] apart is = grind (arith, nat_tests)
counted_woken test count n (x ∷ xs) apart is =
    let more = counted_woken test count n xs apart is in
    ⊎_elim
    (λ (yes : test x.on ≡ true). let other = apart x.on yes in rw (yes, is, other, more)
    (⊎_elim (λ (a : n ≡ true). rw a (omega arith)) (λ (a : n ≡ false). rw a (omega arith)) (cases_Bool n)))
    (λ (no : test x.on ≡ false). rw (no, more) (⊎_elim (λ (a : n ≡ true). rw a (omega arith)) (λ (a : n ≡ false). rw a (omega arith)) (cases_Bool n)))
    (cases_Bool (test x.on))

-- the oldest row that passes a test, and how many pass it
pub first_apart : (x : Waiting) (xs : List Waiting) (w : Waiting) → entry xs x.task.0 ≡ None → entry xs w.task.0 ≡ Some w → entry (x ∷ xs) w.task.0 ≡ Some w
first_apart x xs w none some =
    ⊎_elim
    (λ (here : (x.task.0 == w.task.0) ≡ true). absurd (none-some w (sym (absent_behind x xs w.task.0 here none) ∙ some)))
    (λ (no : (x.task.0 == w.task.0) ≡ false). rw no some)
    (cases_Bool (x.task.0 == w.task.0))

-- a row that passes a test
pub record Passes (test : On → Bool) (rows : List Waiting) (w : Waiting) : Type 0 where
  pub row : entry rows w.task.0 ≡ Some w
  pub passes : test w.on ≡ true

itself : (x : Waiting) (xs : List Waiting) → entry (x ∷ xs) x.task.0 ≡ Some x
itself x xs = let same : (x.task.0 == x.task.0) ≡ true = grind (arith, nat_tests) in rw same refl

pub oldest_some : (test : On → Bool) (rows : List Waiting) (w : Waiting) → EachOnce rows → oldest_row test rows ≡ Some w → Passes test rows w
oldest_some test [] w once is = absurd (none-some w is)
oldest_some test (x ∷ xs) w once is =
    some_split (test x.on) x w (oldest_row test xs) is
    (λ (passes : test x.on ≡ true) (same : x ≡ w). subst (Passes test (x ∷ xs)) same (record { row = itself x xs; passes = passes }))
    (λ (fails : test x.on ≡ false) (more : oldest_row test xs ≡ Some w).
    let rest = oldest_some test xs w once.1 more in
    record { row = first_apart x xs w once.0 rest.row; passes = rest.passes })

pub oldest_none : (test : On → Bool) (rows : List Waiting) → oldest_row test rows ≡ None → count_rows test rows ≡ 0
oldest_none test [] is = refl
oldest_none test (x ∷ xs) is =
    let fails = none_split (test x.on) x (oldest_row test xs) is in
    let rest = oldest_none test xs fails.1 in
    rw (fails.0) (omega (arith, rest))

pub none_passes : (test : On → Bool) (rows : List Waiting) (t : ℕ) (w : Waiting) → count_rows test rows ≡ 0 → entry rows t ≡ Some w → test w.on ≡ false
none_passes test [] t w none is = absurd (none-some w is)
none_passes test (x ∷ xs) t w none is =
    ⊎_elim
    (λ (passes : test x.on ≡ true). let one = rw passes at none in absurd (omega (arith, one)))
    (λ (fails : test x.on ≡ false).
    let rest = rw fails at none in
    some_split (x.task.0 == t) x w (entry xs t) is
    (λ (here : (x.task.0 == t) ≡ true) (same : x ≡ w). ap (λ (z : Waiting). test z.on) (sym same) ∙ fails)
    (λ (no : (x.task.0 == t) ≡ false) (more : entry xs t ≡ Some w). none_passes test xs t w (omega (arith, rest)) more))
    (cases_Bool (test x.on))

pub counted_within : (test : On → Bool) (rows : List Waiting) → count_rows test rows ≤ length rows
counted_within test [] = omega arith
counted_within test (x ∷ xs) =
    let rest = counted_within test xs in
    ⊎_elim
    (λ (passes : test x.on ≡ true). rw passes (omega (arith, rest)))
    (λ (fails : test x.on ≡ false). rw fails (omega (arith, rest)))
    (cases_Bool (test x.on))

pub length_without : (t : ℕ) (rows : List Waiting) (was : Waiting) → EachOnce rows → entry rows t ≡ Some was → length (rows_without t rows) + 1 ≡ length rows
length_without t [] was once is = absurd (none-some was is)
length_without t (x ∷ xs) was once is =
    some_split (x.task.0 == t) x was (entry xs t) is
    (λ (here : (x.task.0 == t) ≡ true) (same : x ≡ was). rw (here, unlisted t xs (absent_behind x xs t here once.0)) (omega arith))
    (λ (no : (x.task.0 == t) ≡ false) (more : entry xs t ≡ Some was). rw no (omega (arith, length_without t xs was once.1 more)))
