-- The values of a task's loads, and those of loads that are taken out in the script's order.
use Rattle.std.proofs.Common.{ℕ, ◌≡◌, ◌≢◌, ◌+◌, ◌<◌, ◌==◌, ◌∙◌, Bool, true, false, List, [], ◌∷◌, ◌++◌, length, if◌then◌else◌, take, drop, get_or, ap, sym}
use Rattle.std.proofs.Common.{refl, subst, append_assoc, add-one, suc, arith, ⊎_elim, length-append}
use Rattle.std.proofs.Math.Seq.{split_at}
use Rattle.std.proofs.lemmas.Bool.{cases_eq}
use Rattle.std.proofs.lemmas.Bool.Decides.{nat_tests}
use Rattle.std.proofs.lemmas.List.{append-nil}
use Rattle.vm_explore.specs.Outcomes.{AreOther, AreValues, loaded_by, values_of}
use Rattle.vm_seen.specs.declared.ends.Loaded.{Loaded}
use Rattle.vm_free.specs.Orders.{occurrences}
use Rattle.vm_free.proofs.Orders.{occurrences-append}
use Rattle.vm_explore.proofs.Occurrences.{occurrences_here}

append_if : (b : Bool) (x : ℕ) (xs ys : List ℕ) → (if b then x ∷ (xs ++ ys) else xs ++ ys) ≡ (if b then x ∷ xs else xs) ++ ys
append_if true x xs ys = refl
append_if false x xs ys = refl

pub loaded_by-append : (t : ℕ) (older newer : List Loaded) → loaded_by t (older ++ newer) ≡ loaded_by t older ++ loaded_by t newer
loaded_by-append t [] newer = refl
loaded_by-append t (load ∷ more) newer =
    ap (λ (z : List ℕ). if load.task == t then load.value ∷ z else z) (loaded_by-append t more newer)
    ∙ append_if (load.task == t) load.value (loaded_by t more) (loaded_by t newer)

pub loaded_here : (t : ℕ) (load : Loaded) (more : List Loaded) → load.task ≡ t → loaded_by t (load ∷ more) ≡ load.value ∷ loaded_by t more
loaded_here t load more same = let test : (load.task == t) ≡ true = grind (arith, nat_tests) in rw test refl

pub loaded_other : (t : ℕ) (load : Loaded) (more : List Loaded) → load.task ≢ t → loaded_by t (load ∷ more) ≡ loaded_by t more
loaded_other t load more other = let test : (load.task == t) ≡ false = grind (arith, nat_tests) in rw test refl

pub cut : {A : Type 0} (xs : List A) (i : ℕ) (x d : A) → i < length xs → x ≡ get_or xs i d → xs ≡ take i xs ++ x ∷ drop (i + 1) xs
cut {A = A} xs i x d within is = rw add-one (split_at xs i d within ∙ ap (λ (z : A). take i xs ++ z ∷ drop (suc i) xs) (sym is))

-- the first load of a task is taken out
pub first_taken : (task : ℕ) (older newer : List Loaded) (load : Loaded) → load.task ≡ task → loaded_by task older ≡ []
    → loaded_by task (older ++ load ∷ newer) ≡ load.value ∷ loaded_by task (older ++ newer)
first_taken task older newer load same none =
    loaded_by-append task older (load ∷ newer) ∙ ap (λ (z : List ℕ). z ++ loaded_by task (load ∷ newer)) none ∙ loaded_here task load newer same
    ∙ ap (λ (z : List ℕ). load.value ∷ z) (sym (loaded_by-append task older newer ∙ ap (λ (z : List ℕ). z ++ loaded_by task newer) none))

pub others_left : (t : ℕ) (older newer : List Loaded) (load : Loaded) → load.task ≢ t → loaded_by t (older ++ newer) ≡ loaded_by t (older ++ load ∷ newer)
others_left t older newer load other =
    loaded_by-append t older newer ∙ ap (λ (z : List ℕ). loaded_by t older ++ z) (sym (loaded_other t load newer other))
    ∙ sym (loaded_by-append t older (load ∷ newer))

pub not_yet : (task : ℕ) (older : List Loaded) (load : Loaded) → load.task ≢ task → loaded_by task older ≡ [] → loaded_by task (older ++ load ∷ []) ≡ []
not_yet task older load other none = loaded_by-append task older (load ∷ []) ∙ ap (λ (z : List ℕ). z ++ loaded_by task (load ∷ [])) none
    ∙ loaded_other task load [] other

long_if : (b : Bool) (x : ℕ) (xs : List ℕ) → length (if b then x ∷ xs else xs) ≡ (if b then 1 else 0) + length xs
long_if true x xs = omega arith
long_if false x xs = omega arith

-- as many values as the task has loads
pub values_long : (t : ℕ) (loads values : List ℕ) → length values ≡ length loads → length (values_of t loads values) ≡ occurrences t loads
values_long t [] values long = refl
values_long t (task ∷ loads) [] long = absurd (omega arith)
values_long t (task ∷ loads) (value ∷ values) long = omega (
  arith,
  long_if (task == t) value (values_of t loads values),
  values_long t loads values
      (omega arith),
)

-- one load more
pub values_more : (t : ℕ) (loads values : List ℕ) (task value : ℕ) → length values ≡ length loads
    → values_of t (loads ++ task ∷ []) (values ++ value ∷ []) ≡ values_of t loads values ++ (if task == t then value ∷ [] else [])
values_more t [] [] task value long = refl
values_more t [] (v ∷ values) task value long = absurd (omega arith)
values_more t (u ∷ loads) [] task value long = absurd (omega arith)
values_more t (u ∷ loads) (v ∷ values) task value long =
    ap (λ (z : List ℕ). if u == t then v ∷ z else z) (values_more t loads values task value (omega arith))
    ∙ append_if (u == t) v (values_of t loads values) (if task == t then value ∷ [] else [])

-- the loads of the script so far have their values, and the others are left
abbrev pub AreSoFar : List ℕ → List ℕ → List Loaded → List Loaded → Type 0
AreSoFar loads values left loaded = (t : ℕ) → values_of t loads values ++ loaded_by t left ≡ loaded_by t loaded

pub one_more : (loads values : List ℕ) (left others loaded : List Loaded) (task value : ℕ) → length values ≡ length loads
    → AreSoFar loads values left loaded → loaded_by task left ≡ value ∷ loaded_by task others
    → ((t : ℕ) → t ≢ task → loaded_by t others ≡ loaded_by t left) → AreSoFar (loads ++ task ∷ []) (values ++ value ∷ []) others loaded
one_more loads values left others loaded task value long so_far first rest = λ t.
    ap (λ (z : List ℕ). z ++ loaded_by t others) (values_more t loads values task value long)
    ∙ append_assoc (values_of t loads values) (if task == t then value ∷ [] else []) (loaded_by t others) ∙ ⊎_elim
    (λ (same : t ≡ task).
    let P : ℕ → Type 0 = λ n. values_of n loads values ++ ((if task == n then value ∷ [] else []) ++ loaded_by n others) ≡ loaded_by n loaded in
    let test : (task == task) ≡ true = grind (arith, nat_tests) in
    subst P (sym same) (rw test (ap (λ (z : List ℕ). values_of task loads values ++ z) (sym first) ∙ so_far task)))
    (λ (other : t ≡ task → ⊥).
    let test : (task == t) ≡ false = grind (arith, nat_tests) in
    rw test (ap (λ (z : List ℕ). values_of t loads values ++ z) (rest t other) ∙ so_far t))
    (cases_eq t task)

pub all_taken : (loads values : List ℕ) (loaded : List Loaded) → length values ≡ length loads → AreSoFar loads values [] loaded → AreValues loads loaded values
all_taken loads values loaded long so_far = record { long = long; gave = λ t. sym (append-nil (values_of t loads values)) ∙ so_far t }

-- a task has no load left where the script has one
pub too_few : (loads more values : List ℕ) (left loaded : List Loaded) (task : ℕ) → length values ≡ length loads → AreSoFar loads values left loaded
    → loaded_by task left ≡ [] → AreOther (loads ++ task ∷ more) loaded
too_few loads more values left loaded task long so_far none = (
  task,
  λ same. absurd (omega (
    arith,
    same,
    ap length (so_far task),
    length-append (values_of task loads values) (loaded_by task left),
    ap length none,
    values_long task loads values long,
    occurrences-append task loads (task ∷ more),
    occurrences_here task more,
  )),
)

-- a task has a load left where the script has none
pub too_many : (loads values : List ℕ) (left loaded : List Loaded) → length values ≡ length loads → AreSoFar loads values left loaded → left ≢ []
    → AreOther loads loaded
too_many loads values [] loaded long so_far some = absurd (some refl)
too_many loads values (load ∷ left) loaded long so_far some = (
  load.task,
  λ same. absurd (omega (
    arith,
    same,
    ap length (so_far load.task),
    length-append (values_of load.task loads values) (loaded_by load.task (load ∷ left)),
    ap length (loaded_here load.task load left refl),
    values_long load.task loads values long,
  )),
)
