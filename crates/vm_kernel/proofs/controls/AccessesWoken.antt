-- The accesses on an object are woken, the oldest first.
use Rattle.vm_waits.proofs.Rows.{first_apart, none_split, some_split, unturned}
use Rattle.vm_kernel.proofs.Common.{Bool, List, None, On, Option, Some, TaskId, Waiting, [], ap, arith, eqb_tells, false, if◌then◌else◌, inl, inr, length, not}
use Rattle.vm_kernel.proofs.Common.{refl, subst, sym, true, ℕ, ◌&&◌, ◌+◌, ◌-◌, ◌<◌, ◌==◌, ◌||◌, ◌∙◌, ◌∷◌, ◌≡◌, ◌≤◌}
use Rattle.std.proofs.lemmas.List.{length-map}
use Rattle.std.proofs.lemmas.Option.{none-some}
use Rattle.std.specs.List.{filter}
use Rattle.std.specs.Prelude.{map, option_map}
use Rattle.vm_kernel.proofs.controls.WaitersWoken.{entry_woken}
use Rattle.vm_kernel.proofs.memory.PagesShown.{itself}
use Rattle.vm_kernel.specs.Destroying.{WakesOn, is_on, oldest_on, queue_but_on, stands_on, waits_on, woken_on}
use Rattle.vm_maps.specs.Maps.{Mapped}
use Rattle.vm_waits.specs.Waits.{EachOnce, WaitTable, count_again, entry, is_again, is_frame, is_listed, one, queue_without, turned, waits_for_frame, with_on}
use Rattle.vm_waits.specs.declared.waiting.On.TheVariants as on

again_few : (rows : List Waiting) → count_again rows ≤ length rows
again_few [] = omega arith
again_few (x ∷ xs) = omega (arith, few (is_again x.on), again_few xs)
  where
    few : (b : Bool) → one b ≤ 1
    few true = omega arith
    few false = omega arith

-- a row's access is on the object, and waits for something
pub record Stands (maps : Mapped) (object : ℕ) (rows : List Waiting) (w : Waiting) : Type 0 where
  pub is : entry rows w.task.0 ≡ Some w
  pub on : is_on maps object w ≡ true
  pub waits : is_again w.on ≡ false

both : (b c : Bool) → (not b && c) ≡ true → (b ≡ false) × (c ≡ true)
both true c is = absurd (let bad : false ≡ true = is in cc)
both false c is = (refl, is)

pub oldest_stands : (maps : Mapped) (object : ℕ) (rows : List Waiting) (w : Waiting) → EachOnce rows → oldest_on maps object rows ≡ Some w
    → Stands maps object rows w
oldest_stands maps object [] w once is = absurd (none-some w is)
oldest_stands maps object (x ∷ xs) w once is =
    some_split (stands_on maps object x) x w (oldest_on maps object xs) is
    (λ (yes : stands_on maps object x ≡ true) (same : x ≡ w).
    subst (λ (z : Waiting). Stands maps object (x ∷ xs) z) same
    (let parts = both (is_again x.on) (is_on maps object x) yes in
    record { is = rw (itself x.task.0) refl; on = parts.1; waits = parts.0 }))
    (λ (no : stands_on maps object x ≡ false) (later : oldest_on maps object xs ≡ Some w).
    let rest = oldest_stands maps object xs w once.1 later in
    record { is = first_apart x xs w once.0 rest.is; on = rest.on; waits = rest.waits })

-- whom it passes is woken anyway
map_turned : (maps : Mapped) (object : ℕ) (rows : List Waiting) (w : Waiting) → EachOnce rows → entry rows w.task.0 ≡ Some w → is_on maps object w ≡ true
    → map (woken_on maps object) (map (turned w.task.0 on.Again) rows) ≡ map (woken_on maps object) rows
map_turned maps object [] w once is on_it = refl
map_turned maps object (x ∷ xs) w once is on_it =
    some_split (x.task.0 == w.task.0) x w (entry xs w.task.0) is
    (λ (yes : (x.task.0 == w.task.0) ≡ true) (same : x ≡ w).
    let here : is_on maps object x ≡ true = ap (is_on maps object) same ∙ on_it in
    let rest = unturned w.task.0 on.Again xs (ap (λ (z : Waiting). entry xs z.task.0) (sym same) ∙ once.0) in
    rw (
      yes,
      here,
    ) (ap (λ (z : List Waiting). with_on x on.Again ∷ map (woken_on maps object) z) rest))
    (λ (no : (x.task.0 == w.task.0) ≡ false) (later : entry xs w.task.0 ≡ Some w).
    rw no (ap (λ (z : List Waiting). woken_on maps object x ∷ z) (map_turned maps object xs w once.1 later on_it)))

again_is : (reason : On) → is_again reason ≡ true → reason ≡ on.Again
again_is on.Again is = refl
again_is (on.Ready object) is = absurd (let bad : false ≡ true = is in cc)
again_is (on.Page key) is = absurd (let bad : false ≡ true = is in cc)
again_is (on.Push key) is = absurd (let bad : false ≡ true = is in cc)
again_is on.Frame is = absurd (let bad : false ≡ true = is in cc)

-- who doesn't stand on it is as if woken
unwoken : (maps : Mapped) (object : ℕ) (w : Waiting) → stands_on maps object w ≡ false → woken_on maps object w ≡ w
unwoken maps object w none = by (is_on maps object w) (is_again w.on) refl none
  where
    by : (b c : Bool) → is_again w.on ≡ c → (not c && b) ≡ false → (if b then with_on w on.Again else w) ≡ w
    by false c is off = refl
    by true true is off = ap (with_on w) (sym (again_is w.on is))
    by true false is off = absurd (let bad : true ≡ false = off in cc)

none_stands : (maps : Mapped) (object : ℕ) (rows : List Waiting) → oldest_on maps object rows ≡ None → map (woken_on maps object) rows ≡ rows
none_stands maps object [] none = refl
none_stands maps object (x ∷ xs) none =
    let split = none_split (stands_on maps object x) x (oldest_on maps object xs) none in
    ap (λ (z : Waiting). z ∷ map (woken_on maps object) xs) (unwoken maps object x split.0)
    ∙ ap (λ (z : List Waiting). x ∷ z) (none_stands maps object xs split.1)

none_there : (maps : Mapped) (object : ℕ) (rows : List Waiting) (t : ℕ) (w : Waiting) → oldest_on maps object rows ≡ None → entry rows t ≡ Some w
    → stands_on maps object w ≡ false
none_there maps object [] t w none is = absurd (none-some w is)
none_there maps object (x ∷ xs) t w none is =
    let split = none_split (stands_on maps object x) x (oldest_on maps object xs) none in
    some_split (x.task.0 == t) x w (entry xs t) is
    (λ (yes : (x.task.0 == t) ≡ true) (same : x ≡ w). ap (stands_on maps object) (sym same) ∙ split.0)
    (λ (no : (x.task.0 == t) ≡ false) (later : entry xs t ≡ Some w). none_there maps object xs t w split.1 later)

-- and doesn't queue
frame_waits : (reason : On) → is_frame reason ≡ true → is_again reason ≡ false
frame_waits on.Again is = absurd (let bad : false ≡ true = is in cc)
frame_waits (on.Ready object) is = refl
frame_waits (on.Page key) is = refl
frame_waits (on.Push key) is = refl
frame_waits on.Frame is = refl

queues_off : (maps : Mapped) (object : ℕ) (rows : List Waiting) (t : ℕ) → oldest_on maps object rows ≡ None → waits_for_frame (entry rows t) ≡ true
    → waits_on maps object (entry rows t) ≡ false
queues_off maps object rows t none waits = by (entry rows t) refl waits
  where
    by : (x : Option Waiting) → entry rows t ≡ x → waits_for_frame x ≡ true → waits_on maps object x ≡ false
    by None is frame = refl
    by (Some w) is frame =
        ap (λ (b : Bool). not b && is_on maps object w) (sym (frame_waits w.on frame)) ∙ none_there maps object rows t w none is

-- whoever is woken stays on the object
woken_waits : (maps : Mapped) (object : ℕ) (x : Option Waiting) → waits_on maps object (option_map (woken_on maps object) x) ≡ waits_on maps object x
woken_waits maps object None = refl
woken_waits maps object (Some w) = by (is_on maps object w)
  where
    by : (b : Bool) → is_on maps object (if b then with_on w on.Again else w) ≡ is_on maps object w
    by true = refl
    by false = refl

pub same_waits : (maps : Mapped) (object : ℕ) (old new : List Waiting) (t : ℕ) → map (woken_on maps object) new ≡ map (woken_on maps object) old
    → waits_on maps object (entry new t) ≡ waits_on maps object (entry old t)
same_waits maps object old new t same =
    let there : option_map (woken_on maps object) (entry new t) ≡ option_map (woken_on maps object) (entry old t) =
    sym (entry_woken maps object new t) ∙ (ap (λ (z : List Waiting). entry z t) same ∙ entry_woken maps object old t) in
    sym (woken_waits maps object (entry new t)) ∙ (ap (waits_on maps object) there ∙ woken_waits maps object (entry old t))

-- the queue without one that is filtered out, and of those who are not
filter_without : (test : TaskId → Bool) (t : ℕ) (queue : List TaskId) → ((task : TaskId) → task.0 ≡ t → test task ≡ false)
    → filter test (queue_without t queue) ≡ filter test queue
filter_without test t [] none = refl
filter_without test t (task ∷ tasks) none = elim (eqb_tells task.0 t) [
  | inl here ↦ rw (here.0, none task here.1) (filter_without test t tasks none)
  | inr other ↦ rw other.0 (by (filter_without test t tasks none) (test task))
]
  where
    by : filter test (queue_without t tasks) ≡ filter test tasks → (b : Bool)
        → (if b then task ∷ filter test (queue_without t tasks) else filter test (queue_without t tasks)) ≡ (if b then task ∷ filter test tasks
        else filter test tasks)
    by rest true = ap (λ (z : List TaskId). task ∷ z) rest
    by rest false = rest

filter_all : (test : TaskId → Bool) (queue : List TaskId) → ((task : TaskId) → is_listed task.0 queue ≡ true → test task ≡ true) → filter test queue ≡ queue
filter_all test [] all = refl
filter_all test (task ∷ tasks) all =
    let first : test task ≡ true = all task (rw (itself task.0) refl) in
    rw first (ap (λ (z : List TaskId). task ∷ z) (filter_all test tasks (λ other listed. all other (later other listed))))
  where
    later : (other : TaskId) → is_listed other.0 tasks ≡ true → (task.0 == other.0 || is_listed other.0 tasks) ≡ true
    later other listed = rw listed (by (task.0 == other.0))
      where
        by : (b : Bool) → (b || true) ≡ true
        by true = refl
        by false = refl

-- some are woken, who are on the object, and stand no more in the queue
pub record WakesSome (maps : Mapped) (object : ℕ) (old new : WaitTable) : Type 0 where
  pub rows : map (woken_on maps object) new.rows ≡ map (woken_on maps object) old.rows
  pub queue : queue_but_on maps object old.rows new.queue ≡ queue_but_on maps object old.rows old.queue
  pub room : new.room ≡ old.room

pub wakes_more : (maps : Mapped) (object : ℕ) (old mid new : WaitTable) (w : Waiting) → WakesSome maps object old mid → EachOnce mid.rows
    → oldest_on maps object mid.rows ≡ Some w → new.rows ≡ map (turned w.task.0 on.Again) mid.rows → new.queue ≡ queue_without w.task.0 mid.queue
    → new.room ≡ mid.room → WakesSome maps object old new
wakes_more maps object old mid new w some once oldest rows queue room =
    let stands = oldest_stands maps object mid.rows w once oldest in
    let test : TaskId → Bool = λ task. not (waits_on maps object (entry old.rows task.0)) in
    let out : (task : TaskId) → task.0 ≡ w.task.0 → test task ≡ false = λ task same.
    ap (λ (n : ℕ). not (waits_on maps object (entry old.rows n))) same
    ∙ ap not (sym (same_waits maps object old.rows mid.rows w.task.0 some.rows) ∙ (ap (waits_on maps object) stands.is ∙ stands.on)) in
    record {
      rows = ap (map (woken_on maps object)) rows ∙ (map_turned maps object mid.rows w once stands.is stands.on ∙ some.rows);
      queue = ap (queue_but_on maps object old.rows) queue ∙ (filter_without test w.task.0 mid.queue out ∙ some.queue);
      room = room ∙ some.room;
    }

pub wakes_all : (maps : Mapped) (object : ℕ) (old new : WaitTable) → WakesSome maps object old new → oldest_on maps object new.rows ≡ None
    → ((t : ℕ) → is_listed t new.queue ≡ waits_for_frame (entry new.rows t)) → WakesOn maps object old new
wakes_all maps object old new some none line =
    record {
      rows = sym (none_stands maps object new.rows none) ∙ some.rows;
      queue =
          sym (filter_all (λ (task : TaskId). not (waits_on maps object (entry old.rows task.0))) new.queue
          (λ task listed. ap not (sym (same_waits maps object old.rows new.rows task.0 some.rows)
          ∙ queues_off maps object new.rows task.0 none (sym (line task.0) ∙ listed))))
          ∙ some.queue;
      room = some.room;
    }

-- one more is to be run again, of as many
pub wakes_fewer : (rows : List Waiting) (w : Waiting) (new : List Waiting) → is_again w.on ≡ false → new ≡ map (turned w.task.0 on.Again) rows
    → count_again new + one (is_again w.on) ≡ count_again rows + 1 → length new - count_again new < length rows - count_again rows
wakes_fewer rows w new waits is counted =
    let same : length new ≡ length rows = ap length is ∙ length-map rows (turned w.task.0 on.Again) in
    let none : one (is_again w.on) ≡ 0 = ap one waits in
    let few = again_few new in
    omega (arith, same, none, few, counted)
