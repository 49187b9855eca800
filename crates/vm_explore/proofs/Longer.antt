-- The orders of a level are those of so many numbers of the given ones, each once.
use Rattle.std.proofs.Common.{ℕ, zero, suc, ◌≡◌, ◌≢◌, ◌*◌, ◌^◌, ◌≤◌, ◌<◌, true, List, [], ◌∷◌, ◌++◌, length, take, get_or, min, ⊎_elim, inl, inr, refl, sym, ap}
use Rattle.std.proofs.Common.{subst, ◌∙◌, arith, length-append, lit<}
use Rattle.std.specs.Global.{Vec}
use Rattle.std.specs.List.{All, AllPairs, Any, filter}
use Rattle.std.specs.Vec.{vec_items}
use Rattle.std.proofs.Math.Nat.{div-le_self, pow-le-pow_right, pow-suc, mul-le-mul_left, mul-le-mul_right, le_trans}
use Rattle.std.proofs.Math.Seq.{take-suc}
use Rattle.std.proofs.lemmas.List.{length-take-le, take_all}
use Rattle.std.proofs.lemmas.Bool.{cases_eq}
use Rattle.std.proofs.lemmas.Bool.Decides.{nat_tests}
use Rattle.vm_explore.specs.Levels.{IsOrderOf, IsWithin, is_left, level, lists, longer_by, orders_of}
use Rattle.vm_free.specs.Orders.{occurrences}
use Rattle.vm_explore.proofs.Members.{All-from_IsIn, AllPairs-from_apart, Any-from_IsIn, Apart, Apart-filter, Apart-flat_map, Apart-map, IsIn, IsIn-filter}
use Rattle.vm_explore.proofs.Members.{IsIn-flat_map, IsIn-from_filter, IsIn-from_flat_map, IsIn-from_map, IsIn-map}
use Rattle.vm_explore.proofs.Occurrences.{full_is_order, occurrences-push, occurrences-push_same, occurrences-push_other, occurrences_here, occurrences_there}
use Rattle.vm_explore.proofs.Occurrences.{order_long}

-- each number that is to stand in an order is one of the kinds, once
abbrev pub AreKinds : List ℕ → List ℕ → Type 0
AreKinds tasks kinds = (t : ℕ) → occurrences t kinds ≡ min 1 (occurrences t tasks)

occurs_in : (t : ℕ) (list : List ℕ) → 0 < occurrences t list → IsIn t list
occurs_in t [] there = absurd (omega arith)
occurs_in t (u ∷ more) there =
    ⊎_elim
    (λ (same : u ≡ t). inl same)
    (λ (other : u ≡ t → ⊥). let deeper : 0 < occurrences t more = omega (arith, there, occurrences_there t u more other) in inr (occurs_in t more deeper))
    (cases_eq u t)

in_occurs : (t : ℕ) (list : List ℕ) → IsIn t list → 0 < occurrences t list
in_occurs t [] there = absurd there
in_occurs t (u ∷ more) there =
    ⊎_elim
    (λ (same : u ≡ t). let P : ℕ → Type 0 = λ n. 0 < occurrences n (u ∷ more) in subst P same (omega (arith, occurrences_here u more)))
    (λ (later : IsIn t more). omega (arith, in_occurs t more later))
    there

once_apart : (list : List ℕ) → ((t : ℕ) → occurrences t list ≤ 1) → Apart list
once_apart [] once = tt
once_apart (u ∷ more) once = (
  λ there. absurd (omega (arith, once u, occurrences_here u more, in_occurs u more there)),
  once_apart more (λ t. omega (arith, once t)),
)

pub kinds_apart : (tasks kinds : List ℕ) → AreKinds tasks kinds → Apart kinds
kinds_apart tasks kinds are = once_apart kinds (λ t. omega (arith, are t))

-- two lists with one element more each
push_same : (xs ys : List ℕ) (x y : ℕ) → xs ++ x ∷ [] ≡ ys ++ y ∷ [] → (xs ≡ ys) × (x ≡ y)
push_same [] [] x y same = (refl, cc)
push_same [] (b ∷ []) x y same = absurd (cc)
push_same [] (b ∷ (c ∷ more)) x y same = absurd (cc)
push_same (a ∷ []) [] x y same = absurd (cc)
push_same (a ∷ (c ∷ more)) [] x y same = absurd (cc)
push_same (a ∷ more) (b ∷ others) x y same =
    let rest = push_same more others x y (cc) in
    let first : a ≡ b = cc in
    (cc (rest.0, first), rest.1)

pub level_apart : (tasks kinds : List ℕ) (n : ℕ) → Apart kinds → Apart (level tasks kinds n)
level_apart tasks kinds zero apart = (λ there. there, tt)
level_apart tasks kinds (suc n) apart =
    Apart-flat_map (longer_by tasks kinds) (level tasks kinds n) (level_apart tasks kinds n apart)
    (λ order. Apart-map (λ t. order ++ t ∷ []) (filter (is_left tasks order) kinds) (λ x y same. (push_same order order x y same).1)
    (Apart-filter (is_left tasks order) kinds apart))
    (λ one other longer of_one of_other.
    let a = IsIn-from_map (λ t. one ++ t ∷ []) longer (filter (is_left tasks one) kinds) of_one in
    let b = IsIn-from_map (λ t. other ++ t ∷ []) longer (filter (is_left tasks other) kinds) of_other in
    (push_same one other a.0 b.0 (a.2 ∙ sym b.2)).0)

longer_within : (tasks order : List ℕ) (t : ℕ) → IsWithin tasks order → is_left tasks order t ≡ true → IsWithin tasks (order ++ t ∷ [])
longer_within tasks order t within left =
    let more : occurrences t order < occurrences t tasks = grind (arith, nat_tests) in
    λ u. ⊎_elim
    (λ (same : t ≡ u). let P : ℕ → Type 0 = λ v. occurrences v (order ++ t ∷ []) ≤ occurrences v tasks in
    subst P same (omega (arith, occurrences-push_same t order)))
    (λ (other : t ≡ u → ⊥). omega (arith, within u, occurrences-push_other u order t other))
    (cases_eq t u)

-- an order of a level has so many numbers, each at most as often as it is to stand there
pub level_only : (tasks kinds : List ℕ) (n : ℕ) (order : List ℕ) → IsIn order (level tasks kinds n) → (length order ≡ n) × IsWithin tasks order
level_only tasks kinds zero order there =
    ⊎_elim (λ (here : [] ≡ order). let P : List ℕ → Type 0 = λ v. (length v ≡ 0) × IsWithin tasks v in subst P here (refl, λ t. omega arith))
    (λ (none : ⊥). absurd none) there
level_only tasks kinds (suc n) order there =
    let w = IsIn-from_flat_map (longer_by tasks kinds) order (level tasks kinds n) there in
    let v = IsIn-from_map (λ t. w.0 ++ t ∷ []) order (filter (is_left tasks w.0) kinds) w.2 in
    let older = level_only tasks kinds n w.0 w.1 in
    let left = IsIn-from_filter (is_left tasks w.0) v.0 kinds v.1 in
    let P : List ℕ → Type 0 = λ z. (length z ≡ suc n) × IsWithin tasks z in
    subst P v.2 (omega (arith, length-append w.0 (v.0 ∷ []), older.0), longer_within tasks w.0 v.0 older.1 left.0)

-- and each such order stands there
pub level_all : (tasks kinds : List ℕ) (n : ℕ) (order : List ℕ) → AreKinds tasks kinds → length order ≡ n → IsWithin tasks order
    → IsIn order (level tasks kinds n)
level_all tasks kinds zero [] are long within = inl refl
level_all tasks kinds zero (t ∷ more) are long within = absurd (omega arith)
level_all tasks kinds (suc n) order are long within =
    let older = take n order in
    let t = get_or order n 0 in
    let is : order ≡ older ++ t ∷ [] = sym (take_all (suc n) order (omega arith)) ∙ take-suc order n 0 (omega arith) in
    let P : List ℕ → Type 0 = λ z. IsWithin tasks z in
    let fits : IsWithin tasks (older ++ t ∷ []) = subst P is within in
    let left : occurrences t older < occurrences t tasks = omega (arith, fits t, occurrences-push_same t older) in
    let test : is_left tasks older t ≡ true = grind (arith, nat_tests) in
    let there = level_all tasks kinds n older are (length-take-le n order (omega arith)) (λ u. omega (arith, fits u, occurrences-push u older t)) in
    let kind = occurs_in t kinds (omega (arith, are t)) in
    let has = IsIn-map (λ u. older ++ u ∷ []) t (filter (is_left tasks older) kinds) (IsIn-filter (is_left tasks older) t kinds test kind) in
    let Q : List ℕ → Type 0 = λ z. IsIn z (level tasks kinds (suc n)) in
    subst Q (sym is) (IsIn-flat_map (longer_by tasks kinds) older (older ++ t ∷ []) (level tasks kinds n) there has)

pub orders_all : (tasks kinds order : List ℕ) → AreKinds tasks kinds → IsOrderOf tasks order → IsIn order (level tasks kinds (length tasks))
orders_all tasks kinds order are is = level_all tasks kinds (length tasks) order are (order_long order tasks is) (λ t. omega (arith, is t))

pub orders_only : (tasks kinds order : List ℕ) → IsIn order (level tasks kinds (length tasks)) → IsOrderOf tasks order
orders_only tasks kinds order there =
    let w = level_only tasks kinds (length tasks) order there in
    full_is_order order tasks w.1 w.0

pub orders_apart : (tasks kinds : List ℕ) → AreKinds tasks kinds → Apart (level tasks kinds (length tasks))
orders_apart tasks kinds are = level_apart tasks kinds (length tasks) (kinds_apart tasks kinds are)

power : (tasks : List ℕ) → length tasks ≤ 12 → orders_of tasks ≤ 12 ^ length tasks
power [] short = omega arith
power (t ∷ more) short =
    let n = length more in
    let smaller = power more (omega arith) in
    let product : orders_of more * length (t ∷ more) ≤ 12 ^ n * 12 = le_trans (mul-le-mul_right (length (t ∷ more)) smaller) (mul-le-mul_left (12 ^ n) short) in
    let whole = div-le_self (orders_of more * length (t ∷ more)) (occurrences t (t ∷ more)) in
    omega (arith, product, whole, pow-suc 12 n)

-- of at most twelve numbers the orders are few
pub orders_few : (tasks : List ℕ) (orders more : ℕ) → orders ≡ orders_of tasks → length tasks ≤ 12 → more ≤ 12 → orders * more ≤ 12 ^ 13
orders_few tasks orders more is short few =
    let each : orders ≤ 12 ^ 12 = rw is (le_trans (power tasks short) (pow-le-pow_right (lit< tt) short)) in
    le_trans (mul-le-mul_right more each) (mul-le-mul_left (12 ^ 12) few)

-- the orders of some numbers, as vectors
pub record AllOrders (tasks : List ℕ) (found : List (Vec ℕ)) : Type 0 where
  pub all : (order : List ℕ) → IsOrderOf tasks order → Any (λ it. it.items ≡ order) found
  pub only : All (λ it. IsOrderOf tasks it.items) found
  pub apart : AllPairs (λ one other. one.items ≢ other.items) found

pub all_orders : (tasks kinds : List ℕ) (found : List (Vec ℕ)) (n : ℕ) → AreKinds tasks kinds → lists found ≡ level tasks kinds n → n ≡ length tasks
    → AllOrders tasks found
all_orders tasks kinds found n are levels long =
    let is : level tasks kinds (length tasks) ≡ lists found = sym (levels ∙ ap (level tasks kinds) long) in
    record {
      all = λ order of_tasks. Any-from_IsIn vec_items order found
          (let P : List (List ℕ) → Type 0 = λ z. IsIn order z in subst P is (orders_all tasks kinds order are of_tasks));
      only = All-from_IsIn (λ it. IsOrderOf tasks it.items) found
          (λ it there. orders_only tasks kinds it.items (let P : List (List ℕ) → Type 0 = λ z. IsIn it.items z in
          subst P (sym is) (IsIn-map vec_items it found there)));
      apart = AllPairs-from_apart vec_items found (let P : List (List ℕ) → Type 0 = λ z. Apart z in subst P is (orders_apart tasks kinds are));
    }
