-- Stores that wait to push a page of a file are freed, one after another, where the file gets a newer copy object.
use Rattle.vm_kernel.proofs.Common.{Bool, Header, Ids, List, None, On, Option, PageKey, Parts, Some, Waiting, Works, [], ap, arith, entry, eqb_tells}
use Rattle.vm_kernel.proofs.Common.{false, if◌then◌else◌, inl, inr, is_woken, page_key, refl, some_is, subst, sym, true, turned, with_on, ℕ, ◌+◌, ◌<◌, ◌==◌}
use Rattle.vm_kernel.proofs.Common.{◌∙◌, ◌∷◌, ◌≡◌, ◌≤◌}
use Rattle.std.proofs.lemmas.List.{length-map}
use Rattle.std.specs.Prelude.{length, map}
use Rattle.vm_base.specs.declared.ids.ObjectId.{ObjectId}
use Rattle.vm_copies.specs.Copies.{CopyTable, newest_at}
use Rattle.vm_fault.specs.Pushes.{owed_at}
use Rattle.vm_kernel.proofs.memory.CoreChanges.{spaces_refilled}
use Rattle.vm_kernel.proofs.memory.PagesShown.{itself}
use Rattle.vm_kernel.proofs.steps.RowsInOrder.{woken_keeps}
use Rattle.vm_kernel.specs.Freeing.{FreesPushers, pushes_into}
use Rattle.vm_model.specs.declared.event.Event.{Event}
use Rattle.vm_state.proofs.CopyObjects.{owed_some}
use Rattle.vm_state.proofs.Filling.{fills_waked, used_waked}
use Rattle.vm_state.proofs.Pushing.{PushesNone}
use Rattle.vm_state.proofs.Waking.{waits_roused}
use Rattle.vm_supply.specs.declared.woken.Woken.TheVariants as woken
use Rattle.vm_waits.proofs.Copies.{copies_woken}
use Rattle.vm_waits.proofs.Entries.{waked_cases}
use Rattle.vm_waits.proofs.Tables.{waked}
use Rattle.vm_waits.specs.Waits.{EachOnce, Waked, WaitTable, count_copies, count_rows, oldest_row, one, woken}
use Rattle.vm_waits.specs.declared.waiting.On.TheVariants as on

-- each row of the task passes the test
abbrev EachPasses : (On → Bool) → ℕ → List Waiting → Type 0
EachPasses test t [] = Unit {0}
EachPasses test t (w ∷ ws) = (w.task.0 ≡ t → test w.on ≡ true) × EachPasses test t ws

not_here : (w : Waiting) (t : ℕ) (ws : List Waiting) → entry (w ∷ ws) t ≡ None → (w.task.0 ≡ t → ⊥) × (entry ws t ≡ None)
not_here w t ws none = elim (eqb_tells w.task.0 t) [
  | inl same ↦ absurd (let bad : Some w ≡ None = sym (ap (λ b. if b then Some w else entry ws t) same.0) ∙ none in cc)
  | inr other ↦ (other.1, sym (ap (λ b. if b then Some w else entry ws t) other.0) ∙ none)
]

absent_passes : (test : On → Bool) (t : ℕ) (rows : List Waiting) → entry rows t ≡ None → EachPasses test t rows
absent_passes test t [] none = tt
absent_passes test t (w ∷ ws) none =
    let away = not_here w t ws none in (λ same. absurd (away.0 same), absent_passes test t ws away.1)

-- the oldest that passes is there
oldest_there : (test : On → Bool) (rows : List Waiting) (w : Waiting) → oldest_row test rows ≡ Some w → entry rows w.task.0 ≡ None → ⊥
oldest_there test [] w is none = let bad : None ≡ Some w = is in cc
oldest_there test (x ∷ xs) w is none =
    let away = not_here x w.task.0 xs none in
    by (test x.on) is away.0 (λ later. oldest_there test xs w later away.1)
  where
    by : (b : Bool) → (if b then Some x else oldest_row test xs) ≡ Some w → (x.task.0 ≡ w.task.0 → ⊥) → (oldest_row test xs ≡ Some w → ⊥) → ⊥
    by true now apart rest = apart (ap (λ (z : Waiting). z.task.0) (some_is x w now))
    by false later apart rest = rest later

pub oldest_alone : (test : On → Bool) (rows : List Waiting) (w : Waiting) → EachOnce rows → oldest_row test rows ≡ Some w → EachPasses test w.task.0 rows
oldest_alone test [] w once is = tt
oldest_alone test (x ∷ xs) w once is = by (test x.on) refl is (λ later. oldest_alone test xs w once.1 later)
  where
    by : (b : Bool) → test x.on ≡ b → (if b then Some x else oldest_row test xs) ≡ Some w
        → (oldest_row test xs ≡ Some w → EachPasses test w.task.0 xs) → EachPasses test w.task.0 (x ∷ xs)
    by true passes now rest =
        (λ same. passes, absent_passes test w.task.0 xs (ap (λ (z : Waiting). entry xs z.task.0) (sym (some_is x w now)) ∙ once.0))
    by false fails later rest = (
      λ same. absurd (oldest_there test xs w later (ap (entry xs) (sym same) ∙ once.0)),
      rest later,
    )

-- whom it passes is woken anyway

woken_turned : (test : On → Bool) (t : ℕ) (w : Waiting) → test on.Again ≡ false → (w.task.0 ≡ t → test w.on ≡ true)
    → woken test (turned t on.Again w) ≡ woken test w
woken_turned test t w again passes = elim (eqb_tells w.task.0 t) [
  | inl same ↦
      ap (λ b. woken test (if b then with_on w on.Again else w)) same.0
      ∙ (ap (λ (b : Bool). if b then with_on w on.Again else with_on w on.Again) again
      ∙ sym (ap (λ (b : Bool). if b then with_on w on.Again else w) (passes same.1)))
  | inr other ↦ ap (λ b. woken test (if b then with_on w on.Again else w)) other.0
]

pub map_turned : (test : On → Bool) (t : ℕ) (rows : List Waiting) → test on.Again ≡ false → EachPasses test t rows
    → map (woken test) (map (turned t on.Again) rows) ≡ map (woken test) rows
map_turned test t [] again all = refl
map_turned test t (w ∷ ws) again all =
    ap (λ z. z ∷ map (woken test) (map (turned t on.Again) ws)) (woken_turned test t w again all.0)
    ∙ ap (λ z. woken test w ∷ z) (map_turned test t ws again all.1)

-- fewer pass it then

turned_less : (test : On → Bool) (t : ℕ) (w : Waiting) → test on.Again ≡ false → one (test (turned t on.Again w).on) ≤ one (test w.on)
turned_less test t w again = by (w.task.0 == t)
  where
    least : (b : Bool) → 0 ≤ one b
    least b = omega arith

    by : (b : Bool) → one (test (if b then with_on w on.Again else w).on) ≤ one (test w.on)
    by false = omega arith
    by true = let none : one (test on.Again) ≡ 0 = ap one again in omega (arith, none, least (test w.on))

turned_most : (test : On → Bool) (t : ℕ) (rows : List Waiting) → test on.Again ≡ false → count_rows test (map (turned t on.Again) rows) ≤ count_rows test rows
turned_most test t [] again = omega arith
turned_most test t (w ∷ ws) again =
    let first = turned_less test t w again in
    let rest = turned_most test t ws again in
    omega (arith, first, rest)

pub turned_fewer : (test : On → Bool) (rows : List Waiting) (w : Waiting) → test on.Again ≡ false → oldest_row test rows ≡ Some w
    → count_rows test (map (turned w.task.0 on.Again) rows) < count_rows test rows
turned_fewer test [] w again is = absurd (let bad : None ≡ Some w = is in cc)
turned_fewer test (x ∷ xs) w again is = by (test x.on) refl is (λ later. turned_fewer test xs w again later)
  where
    itself : x.task.0 ≡ w.task.0 → one (test (turned w.task.0 on.Again x).on) ≡ 0
    itself same = elim (eqb_tells x.task.0 w.task.0) [
      | inl it ↦ ap (λ b. one (test (if b then with_on x on.Again else x).on)) it.0 ∙ ap one again
      | inr other ↦ absurd (other.1 same)
    ]

    by : (b : Bool) → test x.on ≡ b → (if b then Some x else oldest_row test xs) ≡ Some w
        → (oldest_row test xs ≡ Some w → count_rows test (map (turned w.task.0 on.Again) xs) < count_rows test xs)
        → one (test (turned w.task.0 on.Again x).on) + count_rows test (map (turned w.task.0 on.Again) xs) < one (test x.on) + count_rows test xs
    by true passes now rest =
        let gone = itself (ap (λ (z : Waiting). z.task.0) (some_is x w now)) in
        let had : one (test x.on) ≡ 1 = ap one passes in
        let most = turned_most test w.task.0 xs again in
        omega (arith, gone, had, most)
    by false fails later rest =
        let first = turned_less test w.task.0 x again in
        let less = rest later in
        omega (arith, first, less)

-- nobody passes any more
pub none_turns : (test : On → Bool) (rows : List Waiting) → oldest_row test rows ≡ None → map (woken test) rows ≡ rows
none_turns test [] none = refl
none_turns test (x ∷ xs) none = by (test x.on) refl none (λ later. none_turns test xs later)
  where
    by : (b : Bool) → test x.on ≡ b → (if b then Some x else oldest_row test xs) ≡ None → (oldest_row test xs ≡ None → map (woken test) xs ≡ xs)
        → map (woken test) (x ∷ xs) ≡ x ∷ xs
    by true passes now rest = absurd (let bad : Some x ≡ None = now in cc)
    by false fails later rest = ap (λ (b : Bool). (if b then with_on x on.Again else x) ∷ map (woken test) xs) fails ∙ ap (λ z. x ∷ z) (rest later)

-- the oldest that passes is its task's row
pub oldest_entry : (test : On → Bool) (rows : List Waiting) (w : Waiting) → EachOnce rows → oldest_row test rows ≡ Some w
    → (entry rows w.task.0 ≡ Some w) × (test w.on ≡ true)
oldest_entry test [] w once is = absurd (let bad : None ≡ Some w = is in cc)
oldest_entry test (x ∷ xs) w once is = by (test x.on) refl is (λ later. oldest_entry test xs w once.1 later)
  where
    by : (b : Bool) → test x.on ≡ b → (if b then Some x else oldest_row test xs) ≡ Some w
        → (oldest_row test xs ≡ Some w → (entry xs w.task.0 ≡ Some w) × (test w.on ≡ true)) → (entry (x ∷ xs) w.task.0 ≡ Some w) × (test w.on ≡ true)
    by true passes now rest = elim (eqb_tells x.task.0 w.task.0) [
      | inl it ↦ (ap (λ b. if b then Some x else entry xs w.task.0) it.0 ∙ now, ap (λ (z : Waiting). test z.on) (sym (some_is x w now)) ∙ passes)
      | inr other ↦ absurd (other.1 (ap (λ (z : Waiting). z.task.0) (some_is x w now)))
    ]
    by false fails later rest = elim (eqb_tells x.task.0 w.task.0) [
      | inl it ↦ absurd (oldest_there test xs w later (ap (entry xs) (sym it.1) ∙ once.0))
      | inr other ↦ (ap (λ b. if b then Some x else entry xs w.task.0) other.0 ∙ (rest later).0, (rest later).1)
    ]

-- behind it the kernel stands for the same history, with those that are to be run again

freed_rows : (file : ℕ) (copies : CopyTable) (old new : WaitTable) → FreesPushers file copies old new
    → (t : ℕ) → Waked (pushes_into (newest_at copies file)) (entry old.rows t) (entry new.rows t)
freed_rows file copies old new frees t =
    let test = pushes_into (newest_at copies file) in
    subst (λ (z : List Waiting). Waked test (entry old.rows t) (entry z t)) (sym frees.rows) (waked test old.rows t)

-- as many wait, and as many of them are slow copies

pub freed_length : (file : ℕ) (copies : CopyTable) (old new : WaitTable) → FreesPushers file copies old new → length new.rows ≡ length old.rows
freed_length file copies old new frees = ap length frees.rows ∙ length-map old.rows (woken (pushes_into (newest_at copies file)))

pub freed_copies : (file : ℕ) (copies : CopyTable) (old new : WaitTable) → FreesPushers file copies old new
    → count_copies new.rows ≡ count_copies old.rows
freed_copies file copies old new frees = ap count_copies frees.rows ∙ copies_woken (pushes_into (newest_at copies file)) old.rows

-- nobody who is freed waits for an answer
page_apart : (copy : Option ObjectId) (key : PageKey) → pushes_into copy (on.Page key) ≡ false
page_apart None key = refl
page_apart (Some copy) key = refl

pub works_freed : {header : Header} {h : ℕ} {k : Parts} {ids : Ids} {past : List Event} (file : ℕ) (waits : WaitTable)
    → Works header h k ids woken.Nobody past → FreesPushers file k.copies k.waits waits → Works header h (record k { waits = waits }) ids woken.Nobody past
works_freed {k = k} file waits works frees =
    let test = pushes_into (newest_at k.copies file) in
    let wakes = freed_rows file k.copies k.waits waits frees in
    let core = works.matches.core in
    record {
      matches = record {
        core = record {
          setting = core.setting;
          fits = core.fits;
          spaces = spaces_refilled (fills_waked test k.waits.rows waits.rows wakes) core.spaces;
          objects = core.objects;
          copied = core.copied;
          controls = core.controls;
          flags = core.flags;
          calm = core.calm;
          pages = core.pages;
        };
        settled = works.matches.settled;
        replied = works.matches.replied;
      };
      used = used_waked test k.waits.rows waits.rows works.used wakes;
      referred = works.referred;
      thin = works.thin;
      waits = waits_roused k.maps k.chains k.memory.resident k.memory.objects k.waits.rows waits.rows test _ works.waits wakes
          (page_apart (newest_at k.copies file));
      order = (woken_keeps test k.waits.rows waits.rows frees.rows).keeps _ 0 works.order;
    }

pub freed_none : {header : Header} {h : ℕ} {k : Parts} {ids : Ids} {past : List Event} (file : ℕ) (waits : WaitTable)
    → Works header h k ids woken.Nobody past → FreesPushers file k.copies k.waits waits
    → (p : ℕ) → PushesNone k.copies waits.rows (is_woken woken.Nobody) file p
freed_none {k = k} file waits works frees p =
    record {
      at = λ t w key is asleep waits_on owed.
          waked_cases (pushes_into (newest_at k.copies file)) (entry k.waits.rows t) (entry waits.rows t) w (freed_rows file k.copies k.waits waits frees t) is
          (λ was off. absurd (let bad : true ≡ false = sym (passes key owed) ∙ (ap (pushes_into (newest_at k.copies file)) (sym waits_on) ∙ off) in cc))
          (λ was found on_it same. let bad : on.Again ≡ on.Push key = ap (λ (z : Waiting). z.on) same ∙ waits_on in cc);
    }
  where
    passes : (key : PageKey) → owed_at k.copies (page_key file p) ≡ Some key → pushes_into (newest_at k.copies file) (on.Push key) ≡ true
    passes key owed =
        ap (λ (z : Option ObjectId). pushes_into z (on.Push key)) (owed_some k.copies (page_key file p) key owed).0 ∙ itself key.object.0
