-- The queue: what joining and leaving it leave of each task's place in it.
use Rattle.std.proofs.Common.{ℕ, ◌≡◌, ◌+◌, ◌==◌, Bool, true, false, List, [], ◌∷◌, ◌++◌, length, refl, arith, ⊎_elim}
use Rattle.std.proofs.lemmas.Bool.{cases_Bool}
use Rattle.std.proofs.lemmas.Bool.Decides.{nat_tests}
use Rattle.std.specs.Prelude.{filter, not, if◌then◌else◌}
use Rattle.vm_base.specs.declared.ids.TaskId.{TaskId}
use Rattle.vm_waits.specs.Kept.{EachListedOnce}
use Rattle.vm_waits.specs.Waits.{is_listed, one, queue_without}

filter_step : (test : Bool) (t : ℕ) (x : TaskId) (xs : List TaskId) → (x.0 == t) ≡ test
    → filter (λ (other : TaskId). not (other.0 == t)) xs ≡ queue_without t xs
    → filter (λ (other : TaskId). not (other.0 == t)) (x ∷ xs) ≡ queue_without t (x ∷ xs)
filter_step true t x xs is rest = rw is rest
filter_step false t x xs is rest = rw (is, rest) refl

pub filtered : (t : ℕ) (queue : List TaskId) → filter (λ (other : TaskId). not (other.0 == t)) queue ≡ queue_without t queue
filtered t [] = refl
filtered t (x ∷ xs) = filter_step (x.0 == t) t x xs refl (filtered t xs)

pub listed_push : (queue : List TaskId) (task : TaskId) (t : ℕ) → is_listed t (queue ++ task ∷ []) ≡ (if task.0 == t then true else is_listed t queue)
listed_push [] task t = grind (arith, nat_tests)
listed_push (x ∷ xs) task t = let rest = listed_push xs task t in grind (arith, nat_tests, rest)

pub once_push : (queue : List TaskId) (task : TaskId) → EachListedOnce queue → is_listed task.0 queue ≡ false → EachListedOnce (queue ++ task ∷ [])
once_push [] task once absent = (refl, tt)
once_push (x ∷ xs) task once absent =
    let rest : is_listed task.0 xs ≡ false = grind (arith, nat_tests) in
    let no : (task.0 == x.0) ≡ false = grind (arith, nat_tests) in
    (rw (listed_push xs task x.0, no) once.0, once_push xs task once.1 rest)

pub listed_others : (t : ℕ) (queue : List TaskId) (u : ℕ) → is_listed u (queue_without t queue) ≡ (if t == u then false else is_listed u queue)
listed_others t [] u = grind (arith, nat_tests)
listed_others t (x ∷ xs) u =
    let rest = listed_others t xs u in
    ⊎_elim
    (λ (here : (x.0 == t) ≡ true). rw here (grind (arith, nat_tests, rest)))
    (λ (no : (x.0 == t) ≡ false). rw no (grind (arith, nat_tests, rest)))
    (cases_Bool (x.0 == t))

pub once_others : (t : ℕ) (queue : List TaskId) → EachListedOnce queue → EachListedOnce (queue_without t queue)
once_others t [] once = tt
once_others t (x ∷ xs) once =
    ⊎_elim
    (λ (here : (x.0 == t) ≡ true). rw here (once_others t xs once.1))
    (λ (no : (x.0 == t) ≡ false).
    let apart : (t == x.0) ≡ false = grind (arith, nat_tests) in
    rw no (rw (listed_others t xs x.0, apart) once.0, once_others t xs once.1))
    (cases_Bool (x.0 == t))

pub same_others : (t : ℕ) (queue : List TaskId) → is_listed t queue ≡ false → queue_without t queue ≡ queue
same_others t [] absent = refl
same_others t (x ∷ xs) absent =
    let no : (x.0 == t) ≡ false = grind (arith, nat_tests) in
    let more : is_listed t xs ≡ false = grind (arith, nat_tests) in
    let rest = same_others t xs more in
    rw (no, rest) refl

pub length_others : (t : ℕ) (queue : List TaskId) → EachListedOnce queue → length (queue_without t queue) + one (is_listed t queue) ≡ length queue
length_others t [] once = omega arith
length_others t (x ∷ xs) once =
    let rest = length_others t xs once.1 in
    ⊎_elim
    (λ (here : (x.0 == t) ≡ true).
    let absent : is_listed t xs ≡ false = listed_as t x xs here once.0 in
    rw (here, same_others t xs absent) (omega arith))
    (λ (no : (x.0 == t) ≡ false). rw no (omega (arith, rest)))
    (cases_Bool (x.0 == t))
  where
    listed_as : (t : ℕ) (x : TaskId) (xs : List TaskId) → (x.0 == t) ≡ true → is_listed x.0 xs ≡ false → is_listed t xs ≡ false
    listed_as t x xs here absent = let same : t ≡ x.0 = grind (arith, nat_tests) in rw same absent
