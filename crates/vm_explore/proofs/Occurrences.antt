-- How often a number stands in a list.
use Rattle.std.proofs.Common.{ℕ, ◌≡◌, ◌≢◌, ◌+◌, ◌≤◌, ◌<◌, ◌==◌, ◌∙◌, Bool, true, false, List, [], ◌∷◌, ◌++◌, length, count_by, if◌then◌else◌, ap, sym}
use Rattle.std.proofs.Common.{refl, arith, zero-add, min, ⊎_elim, subst}
use Rattle.std.proofs.lemmas.Bool.{cases_eq}
use Rattle.std.proofs.lemmas.Bool.Decides.{nat_tests}
use Rattle.std.proofs.lemmas.List.Recursion.{is_count_by}
use Rattle.vm_explore.specs.Levels.{IsOrderOf, IsWithin}
use Rattle.vm_free.specs.Orders.{occurrences}
use Rattle.vm_free.proofs.Orders.{occurrences-append}

cases : (b : Bool) (n : ℕ) → (if b then 1 else 0) + n ≡ (if b then 1 + n else n)
cases true n = refl
cases false n = zero-add n

pub occurrences_counted : (t : ℕ) (list : List ℕ) → count_by (λ u. u == t) list ≡ occurrences t list
occurrences_counted t list = sym (is_count_by (occurrences t) (λ u. u == t) refl (λ u more. cases (u == t) (occurrences t more)) list)

pub occurrences_here : (t : ℕ) (more : List ℕ) → occurrences t (t ∷ more) ≡ occurrences t more + 1
occurrences_here t more = grind (arith, nat_tests)

pub occurrences_there : (t u : ℕ) (more : List ℕ) → u ≢ t → occurrences t (u ∷ more) ≡ occurrences t more
occurrences_there t u more other = grind (arith, nat_tests)

pub occurrences-push : (t : ℕ) (list : List ℕ) (u : ℕ) → occurrences t (list ++ u ∷ []) ≡ occurrences t list + (if u == t then 1 else 0)
occurrences-push t list u = omega (arith, occurrences-append t list (u ∷ []))

pub occurrences-push_same : (t : ℕ) (list : List ℕ) → occurrences t (list ++ t ∷ []) ≡ occurrences t list + 1
occurrences-push_same t list = omega (arith, occurrences-append t list (t ∷ []), occurrences_here t [])

pub occurrences-push_other : (t : ℕ) (list : List ℕ) (u : ℕ) → u ≢ t → occurrences t (list ++ u ∷ []) ≡ occurrences t list
occurrences-push_other t list u other = omega (arith, occurrences-append t list (u ∷ []), occurrences_there t u [] other)

-- the list without the first of a number
pub record Left (t : ℕ) (list : List ℕ) : Type 0 where
  pub rest : List ℕ
  pub counts : (u : ℕ) → occurrences u list ≡ (if t == u then 1 else 0) + occurrences u rest
  pub long : length list ≡ length rest + 1

pub take_one : (t : ℕ) (list : List ℕ) → 0 < occurrences t list → Left t list
take_one t [] there = absurd (omega arith)
take_one t (u ∷ more) there =
    ⊎_elim
    (λ (same : u ≡ t). record { rest = more; counts = λ v. ap (λ n. (if n == v then 1 else 0) + occurrences v more) same; long = omega arith })
    (λ (other : u ≡ t → ⊥).
    let deeper : 0 < occurrences t more = omega (arith, there, occurrences_there t u more other) in
    let w = take_one t more deeper in
    record { rest = u ∷ w.rest; counts = λ v. omega (arith, w.counts v); long = omega (arith, w.long) })
    (cases_eq u t)

pub within_shorter : (order tasks : List ℕ) → IsWithin tasks order → length order ≤ length tasks
within_shorter [] tasks within = omega arith
within_shorter (t ∷ more) tasks within =
    let there : 0 < occurrences t tasks = omega (arith, within t, occurrences_here t more) in
    let w = take_one t tasks there in
    omega (arith, w.long, within_shorter more w.rest (λ u. omega (arith, within u, w.counts u)))

pub full_is_order : (order tasks : List ℕ) → IsWithin tasks order → length order ≡ length tasks → IsOrderOf tasks order
full_is_order [] [] within long = λ t. refl
full_is_order [] (t ∷ more) within long = absurd (omega arith)
full_is_order (t ∷ more) tasks within long =
    let there : 0 < occurrences t tasks = omega (arith, within t, occurrences_here t more) in
    let w = take_one t tasks there in
    let rest = full_is_order more w.rest (λ u. omega (arith, within u, w.counts u)) (omega (arith, w.long)) in
    λ u. omega (arith, rest u, w.counts u)

pub order_long : (order tasks : List ℕ) → IsOrderOf tasks order → length order ≡ length tasks
order_long order tasks is =
    omega (arith, within_shorter order tasks (λ t. omega (arith, is t)), within_shorter tasks order (λ t. omega (arith, is t)))

-- the numbers so far, each once, and one number more
pub kind_added : (kinds older : List ℕ) (task t : ℕ) → occurrences task kinds ≡ 0 → occurrences t kinds ≡ min 1 (occurrences t older)
    → occurrences t (kinds ++ task ∷ []) ≡ min 1 (occurrences t (older ++ task ∷ []))
kind_added kinds older task t none once =
    ⊎_elim
    (λ (same : t ≡ task).
    let P : ℕ → Type 0 = λ n. occurrences n (kinds ++ task ∷ []) ≡ min 1 (occurrences n (older ++ task ∷ [])) in
    subst P (sym same) (omega (arith, none, occurrences-push_same task kinds, occurrences-push_same task older)))
    (λ (other : t ≡ task → ⊥).
    let apart : task ≢ t = λ is. other (sym is) in
    omega (arith, once, occurrences-push_other t kinds task apart, occurrences-push_other t older task apart))
    (cases_eq t task)

pub kind_there : (kinds older : List ℕ) (task t : ℕ) → occurrences task kinds ≢ 0 → occurrences t kinds ≡ min 1 (occurrences t older)
    → occurrences t kinds ≡ min 1 (occurrences t (older ++ task ∷ []))
kind_there kinds older task t some once =
    ⊎_elim
    (λ (same : t ≡ task).
    let has : occurrences t kinds ≢ 0 = λ is. some (ap (λ n. occurrences n kinds) (sym same) ∙ is) in
    omega (arith, has, once, occurrences-append t older (task ∷ [])))
    (λ (other : t ≡ task → ⊥). let apart : task ≢ t = λ is. other (sym is) in omega (arith, once, occurrences-push_other t older task apart))
    (cases_eq t task)
