-- The rows of the accesses that wait stand in the order in which these began.
use Rattle.vm_kernel.proofs.Common.{BeganInOrder, Bool, Event, List, None, On, Option, PutsEntry, Some, Waiting, [], ap, arith, begun_at, entry, eqb_tells}
use Rattle.vm_kernel.proofs.Common.{false, if◌then◌else◌, inl, inr, length, map, oldest_row, refl, rows_without, some_is, subst, suc, sym, true, turned}
use Rattle.vm_kernel.proofs.Common.{with_on, ℕ, ◌++◌, ◌<◌, ◌==◌, ◌∙◌, ◌∷◌, ◌≡◌, ◌≤◌}
use Rattle.vm_model.specs.declared.event.Event.TheVariants as event
use Rattle.vm_waits.specs.Waits.{rewanted, with_want, woken}
use Rattle.vm_waits.specs.declared.waiting.On.TheVariants as on
use Rattle.vm_base.specs.declared.ids.TaskId.{TaskId}
use Rattle.vm_waits.specs.declared.waiting.Want.{Want}

-- whatever order the rows had, they have it still
pub record KeepsOrder (old new : List Waiting) : Type 0 where
  pub keeps : (begun : ℕ → ℕ) (from : ℕ) → BeganInOrder begun from old → BeganInOrder begun from new

-- one task has another row now, or none, and the rows stand in their order
pub record PutsInOrder (task : ℕ) (row : Option Waiting) (old new : List Waiting) : Type 0 where
  pub entry : PutsEntry task row old new
  pub order : KeepsOrder old new

order_lower : (begun : ℕ → ℕ) (low from : ℕ) (rows : List Waiting) → low ≤ from → BeganInOrder begun from rows → BeganInOrder begun low rows
order_lower begun low from [] le is = tt
order_lower begun low from (w ∷ ws) le is = (omega arith, is.1)

-- an access is over

without_order : (begun : ℕ → ℕ) (from t : ℕ) (rows : List Waiting) → BeganInOrder begun from rows → BeganInOrder begun from (rows_without t rows)
without_order begun from t [] is = tt
without_order begun from t (w ∷ ws) is = elim (eqb_tells w.task.0 t) [
  | inl same ↦ rw same.0 (order_lower begun from (suc (begun w.task.0)) (rows_without t ws) (omega arith)
      (without_order begun (suc (begun w.task.0)) t ws is.1))
  | inr apart ↦ rw apart.0 (is.0, without_order begun (suc (begun w.task.0)) t ws is.1)
]

pub without_keeps : (t : ℕ) (rows new : List Waiting) → new ≡ rows_without t rows → KeepsOrder rows new
without_keeps t rows new is =
    subst (λ (z : List Waiting). KeepsOrder rows z) (sym is) (record { keeps = λ begun from order. without_order begun from t rows order })

-- an access waits for something else

pub map_order : (f : Waiting → Waiting) (begun : ℕ → ℕ) (from : ℕ) (rows : List Waiting) → ((w : Waiting) → (f w).task ≡ w.task) → BeganInOrder begun from rows
    → BeganInOrder begun from (map f rows)
map_order f begun from [] same is = tt
map_order f begun from (w ∷ ws) same is = rw (same w) (is.0, map_order f begun (suc (begun w.task.0)) ws same is.1)

turned_task : (b : Bool) (w : Waiting) (reason : On) → (if b then with_on w reason else w).task ≡ w.task
turned_task true w reason = refl
turned_task false w reason = refl

pub turned_keeps : (t : ℕ) (reason : On) (rows new : List Waiting) → new ≡ map (turned t reason) rows → KeepsOrder rows new
turned_keeps t reason rows new is =
    subst (λ (z : List Waiting). KeepsOrder rows z) (sym is)
    (record { keeps = λ begun from order. map_order (turned t reason) begun from rows (λ w. turned_task (w.task.0 == t) w reason) order })

pub woken_keeps : (test : On → Bool) (rows new : List Waiting) → new ≡ map (woken test) rows → KeepsOrder rows new
woken_keeps test rows new is =
    subst (λ (z : List Waiting). KeepsOrder rows z) (sym is)
    (record { keeps = λ begun from order. map_order (woken test) begun from rows (λ w. turned_task (test w.on) w on.Again) order })

-- a slow copy has made a page

rewanted_task : (b : Bool) (w : Waiting) (what : Want) → (if b then with_want w what else w).task ≡ w.task
rewanted_task true w what = refl
rewanted_task false w what = refl

pub rewanted_keeps : (t : ℕ) (what : Want) (rows new : List Waiting) → new ≡ map (rewanted t what) rows → KeepsOrder rows new
rewanted_keeps t what rows new is =
    subst (λ (z : List Waiting). KeepsOrder rows z) (sym is)
    (record { keeps = λ begun from order. map_order (rewanted t what) begun from rows (λ w. rewanted_task (w.task.0 == t) w what) order })

order_mapped : (f : Waiting → Waiting) (begun : ℕ → ℕ) (from : ℕ) (rows : List Waiting) → ((w : Waiting) → (f w).task ≡ w.task)
    → BeganInOrder begun from (map f rows) → BeganInOrder begun from rows
order_mapped f begun from [] same is = tt
order_mapped f begun from (w ∷ ws) same is =
    let head : from ≤ begun w.task.0 = subst (λ (z : TaskId). from ≤ begun z.0) (same w) is.0 in
    let rest : BeganInOrder begun (suc (begun w.task.0)) (map f ws) = subst (λ (z : TaskId). BeganInOrder begun (suc (begun z.0)) (map f ws)) (same w) is.1 in
    (head, order_mapped f begun (suc (begun w.task.0)) ws same rest)

pub rewanted_back : (t : ℕ) (what : Want) (rows : List Waiting) → KeepsOrder (map (rewanted t what) rows) rows
rewanted_back t what rows =
    record { keeps = λ begun from order. order_mapped (rewanted t what) begun from rows (λ w. rewanted_task (w.task.0 == t) w what) order }

-- a task's row changes twice

pub order_twice : (one two three : List Waiting) → KeepsOrder one two → KeepsOrder two three → KeepsOrder one three
order_twice one two three first second = record { keeps = λ begun from order. second.keeps begun from (first.keeps begun from order) }

pub puts_twice : (t : ℕ) (x y : Option Waiting) (one two three : List Waiting) → PutsInOrder t x one two → PutsInOrder t y two three → PutsInOrder t y one three
puts_twice t x y one two three first second =
    record {
      entry = record { at = λ u. second.entry.at u ∙ by (t == u) u (first.entry.at u) };
      order = order_twice one two three first.order second.order;
    }
  where
    by : (b : Bool) (u : ℕ) → entry two u ≡ (if b then x else entry one u) → (if b then y else entry two u) ≡ (if b then y else entry one u)
    by true u is = refl
    by false u is = is

-- what is put over a row that changed before is put over the changed one
pub puts_over : (t : ℕ) (x y : Option Waiting) (one two three : List Waiting) → PutsInOrder t x one two → KeepsOrder two one → PutsInOrder t y one three
    → PutsInOrder t y two three
puts_over t x y one two three first back both =
    record {
      entry = record { at = λ u. both.entry.at u ∙ by (t == u) u (first.entry.at u) };
      order = order_twice two one three back both.order;
    }
  where
    by : (b : Bool) (u : ℕ) → entry two u ≡ (if b then x else entry one u) → (if b then y else entry one u) ≡ (if b then y else entry two u)
    by true u is = refl
    by false u is = sym is

-- an access begins

one_of : (b : Bool) (n m : ℕ) → m ≤ n → (if b then n else m) < suc n
one_of true n m le = omega arith
one_of false n m le = omega arith

at_most : (t : ℕ) (past : List Event) → begun_at t past ≤ length past
at_most t [] = omega arith
at_most t (event.BegunLoad owner address bytes ∷ past) = let one = one_of (owner.0 == t) (length past) (begun_at t past) (at_most t past) in omega arith
at_most t (event.BegunStore owner address bytes value ∷ past) = let one = one_of (owner.0 == t) (length past) (begun_at t past) (at_most t past) in omega arith
at_most t (event.BegunCopy owner address bytes to ∷ past) = let one = one_of (owner.0 == t) (length past) (begun_at t past) (at_most t past) in omega arith
at_most t (e ∷ past) = let one = at_most t past in omega arith

pub begun_below : (t : ℕ) (e : Event) (past : List Event) → begun_at t (e ∷ past) < length (e ∷ past)
begun_below t (event.BegunLoad owner address bytes) past = one_of (owner.0 == t) (length past) (begun_at t past) (at_most t past)
begun_below t (event.BegunStore owner address bytes value) past = one_of (owner.0 == t) (length past) (begun_at t past) (at_most t past)
begun_below t (event.BegunCopy owner address bytes to) past = one_of (owner.0 == t) (length past) (begun_at t past) (at_most t past)
begun_below t e past = let one = at_most t past in omega arith

pub begun_order : (was now : ℕ → ℕ) (row : Waiting) (n from : ℕ) (rows : List Waiting) → entry rows row.task.0 ≡ None
    → ((t : ℕ) → now t ≡ (if row.task.0 == t then n else was t)) → ((t : ℕ) → was t < n) → from ≤ n
    → BeganInOrder was from rows → BeganInOrder now from (rows ++ row ∷ [])
begun_order was now row n from [] none is below le order = elim (eqb_tells row.task.0 row.task.0) [
  | inl same ↦
      let it : now row.task.0 ≡ n = is row.task.0 ∙ ap (λ b. if b then n else was row.task.0) same.0 in
      (omega arith, tt)
  | inr apart ↦ absurd (apart.1 refl)
]
begun_order was now row n from (w ∷ ws) none is below le order = elim (eqb_tells w.task.0 row.task.0) [
  | inl same ↦ absurd (let bad : Some w ≡ None = rw same.0 at none in cc)
  | inr apart ↦ elim (eqb_tells row.task.0 w.task.0) [
    | inl same ↦ absurd (apart.1 (sym same.1))
    | inr other ↦
        let it : now w.task.0 ≡ was w.task.0 = is w.task.0 ∙ ap (λ b. if b then n else was w.task.0) other.0 in
        let rest : entry ws row.task.0 ≡ None = rw apart.0 at none in
        let less : was w.task.0 < n = below w.task.0 in
        rw it (order.0, begun_order was now row n (suc (was w.task.0)) ws rest is below (omega arith) order.1)
  ]
]

-- the oldest that passes a test began in front of the others that do

later : (begun : ℕ → ℕ) (from t : ℕ) (rows : List Waiting) (v : Waiting) → BeganInOrder begun from rows → entry rows t ≡ Some v → from ≤ begun t
later begun from t [] v order is = absurd (let bad : None ≡ Some v = is in cc)
later begun from t (w ∷ ws) v order is = elim (eqb_tells w.task.0 t) [
  | inl same ↦ subst (λ (z : ℕ). from ≤ begun z) same.1 order.0
  | inr apart ↦
      let rest : entry ws t ≡ Some v = rw apart.0 at is in
      let on : suc (begun w.task.0) ≤ begun t = later begun (suc (begun w.task.0)) t ws v order.1 rest in
      let here : from ≤ begun w.task.0 = order.0 in
      omega arith
]

pub oldest_first : (begun : ℕ → ℕ) (test : On → Bool) (from t : ℕ) (rows : List Waiting) (w v : Waiting) → BeganInOrder begun from rows
    → oldest_row test rows ≡ Some w → entry rows t ≡ Some v → test v.on ≡ true → (w.task.0 ≡ t → ⊥)
    → begun w.task.0 < begun t
oldest_first begun test from t [] w v order first is passes apart = absurd (let bad : None ≡ Some v = is in cc)
oldest_first begun test from t (x ∷ xs) w v order first is passes apart =
    by (test x.on) refl first (λ now rest. oldest_first begun test (suc (begun x.task.0)) t xs w v order.1 now rest passes apart)
  where
    by : (b : Bool) → test x.on ≡ b → (if b then Some x else oldest_row test xs) ≡ Some w
        → (oldest_row test xs ≡ Some w → entry xs t ≡ Some v → begun w.task.0 < begun t) → begun w.task.0 < begun t
    by true tells now next =
        let it : x ≡ w = some_is x w now in
        let its : x.task.0 ≡ w.task.0 = ap (λ (z : Waiting). z.task.0) it in
        elim (eqb_tells x.task.0 t) [
          | inl same ↦ absurd (apart (sym its ∙ same.1))
          | inr other ↦
              let rest : entry xs t ≡ Some v = rw other.0 at is in
              let on : suc (begun x.task.0) ≤ begun t = later begun (suc (begun x.task.0)) t xs v order.1 rest in
              subst (λ (z : ℕ). begun z < begun t) its (omega arith)
        ]
    by false tells now next = elim (eqb_tells x.task.0 t) [
      | inl same ↦
          let it : x ≡ v = some_is x v (rw same.0 at is) in
          absurd (let bad : true ≡ false = sym passes ∙ (ap (λ (z : Waiting). test z.on) (sym it) ∙ tells) in cc)
      | inr other ↦ next now (rw other.0 at is)
    ]
