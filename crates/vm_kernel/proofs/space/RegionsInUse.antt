-- Which regions are in use.
use Rattle.vm_legal.proofs.Served.{later_paged as paged_temporary}
use Rattle.vm_kernel.proofs.Common.{Access, Bool, ChainTable, ChangesOnly, Entry, Event, HasCopies, HasUse, HasWaiters, Header, IsFilledIn, IsInUse, IsUsed}
use Rattle.vm_legal.proofs.Files.{file_paged}
use Rattle.vm_kernel.proofs.Common.{List, Mapped, None, ObjectTable, On, Option, ResidentTable, Some, Waiting, [], all_tasks, ap, arith, copy_target, count_by}
use Rattle.vm_kernel.proofs.Common.{count_on, entered, entries_in, entries_of, entry, eqb_tells, false, fills, fills_in, has_entry, holds, if◌then◌else◌, inl}
use Rattle.vm_kernel.proofs.Common.{inr, is_among, is_filled, is_held, is_kept, is_some, named, nat_lt, nat_tests, refl, rows_in, subst, suc, sym, tasks, true}
use Rattle.vm_kernel.proofs.Common.{unwrap_or, waiting, zero, ℕ, ◌&&◌, ◌+◌, ◌<◌, ◌==◌, ◌||◌, ◌∙◌, ◌∷◌, ◌≡◌, ◌≢◌, ◌≤◌, ◌⊎◌}
use Rattle.std.proofs.Common.{not}
use Rattle.vm_legal.specs.Licences.{is_paged}
use Rattle.vm_legal.specs.Outside.{is_file, is_file_kept}
use Rattle.vm_model.specs.Named.{declared}
use Rattle.vm_state.proofs.Filling.{fills_of_row}
use Rattle.vm_kernel.proofs.space.EntriesCounted.{by_changed, by_some, by_zero, on_entered, on_zero}
use Rattle.std.proofs.lemmas.Bool.{and_parts, or_parts, or_right}
use Rattle.vm_base.specs.declared.ids.PageKey.{PageKey}
use Rattle.vm_copies.specs.Copies.{CopyTable}
use Rattle.vm_state.specs.Passed.{Unmet}

either : (a b : Bool) → (a || b) ≡ true → (a ≡ true) ⊎ (b ≡ true)
either true b is = inl refl
either false b is = inr is

-- what accesses of tasks here fill by the history they fill by their rows
pub record FillsHere (maps : Mapped) (rows : List Waiting) (past : List Event) : Type 0 where
  pub is : (task r : ℕ) → is_some (entries_in task maps) ≡ true → fills r (waiting task past) (copy_target task past) ≡ fills_in r (entry rows task)
  pub lives : (task : ℕ) → is_some (entry rows task) ≡ true → is_some (entries_in task maps) ≡ true

pub fills_here : {copies : CopyTable} {stays : PageKey → Type 0} {unmet : PageKey → Unmet} {header : Header} {maps : Mapped} {cs : ChainTable}
    {rs : ResidentTable}
    {os : ObjectTable}
    {rows : List Waiting} {who : On → Bool} {next_at : ℕ → ℕ} {past : List Event} → HasWaiters maps cs copies rs os rows who (λ t. waiting t past) stays unmet
    → HasCopies header maps cs rs rows next_at (λ t. copy_target t past)
    → FillsHere maps rows past
fills_here {maps = maps} {rows = rows} {past = past} waits copies =
    record {
      is = λ task r here. ap (λ z. fills r z (copy_target task past)) (waits.is task here) ∙ fills_of_row copies maps.size task r;
      lives = λ task is. by task (entry rows task) refl is;
    }
  where
    by : (task : ℕ) (x : Option Waiting) → entry rows task ≡ x → is_some x ≡ true → is_some (entries_in task maps) ≡ true
    by task None found is = absurd (let bad : false ≡ true = is in cc)
    by task (Some w) found is = ap is_some (waits.allowed task w found).lives

-- an access fills a region that waits
pub waits_some : (r : ℕ) (x : Option Waiting) → fills_in r x ≡ true → is_some x ≡ true
waits_some r None is = is
waits_some r (Some w) is = refl

-- no task elsewhere holds the region
abbrev pub NoneElsewhere : ℕ → ℕ → Mapped → List Event → Type 0
NoneElsewhere size region maps past = (task : ℕ) → entries_in task maps ≡ None → holds size task region past ≡ false

unfilled_one : (size region task : ℕ) (maps : Mapped) (rows : List Waiting) (past : List Event) → FillsHere maps rows past
    → ((t : ℕ) → fills_in region (entry rows t) ≡ false) → NoneElsewhere size region maps past
    → fills region (waiting task past) (copy_target task past) ≡ false
unfilled_one size region task maps rows past here none apart = by_maps (entries_in task maps) refl
  where
    by_maps : (x : Option (List Entry)) → entries_in task maps ≡ x → fills region (waiting task past) (copy_target task past) ≡ false
    by_maps None is = (or_parts (has_entry region (entries_of size task past)) (fills region (waiting task past) (copy_target task past)) (apart task is)).1
    by_maps (Some own) is = here.is task region (ap is_some is) ∙ none task

pub unfilled : (size region : ℕ) (list : List ℕ) (maps : Mapped) (rows : List Waiting) (past : List Event) → FillsHere maps rows past
    → ((t : ℕ) → fills_in region (entry rows t) ≡ false) → NoneElsewhere size region maps past → is_filled region list past ≡ false
unfilled size region [] maps rows past here none apart = refl
unfilled size region (task ∷ others) maps rows past here none apart =
    rw (unfilled_one size region task maps rows past here none apart) (unfilled size region others maps rows past here none apart)

-- the history's entries of tasks here are these, and the regions that they fill
pub record Shows (size : ℕ) (maps : Mapped) (list : List Waiting) (past : List Event) : Type 0 where
  pub rows : (task : ℕ) → is_some (entries_in task maps) ≡ true → entries_of size task past ≡ rows_in task maps
  pub filled : FillsHere maps list past

-- a task with an entry lives
rows_some : (region : ℕ) (x : Option (List Entry)) → has_entry region (unwrap_or x []) ≡ true → (rows : List Entry) × (x ≡ Some rows)
rows_some region None has = absurd (let bad : false ≡ true = has in cc)
rows_some region (Some rows) has = (rows, refl)

some_rows : (x : Option (List Entry)) → is_some x ≡ true → (rows : List Entry) × (x ≡ Some rows)
some_rows None is = absurd (let bad : false ≡ true = is in cc)
some_rows (Some rows) is = (rows, refl)

-- a task with a number from there on has no entries
none_high : (region : ℕ) (maps : Mapped) → ((task : ℕ) → all_tasks ≤ task → entries_in task maps ≡ None) → count_by all_tasks region maps ≡ 0 → (task : ℕ)
    → has_entry region (rows_in task maps) ≡ false
none_high region maps most nothing task = by_test (nat_lt task all_tasks) refl
  where
    by_test : (b : Bool) → nat_lt task all_tasks ≡ b → has_entry region (rows_in task maps) ≡ false
    by_test true less = on_zero region (rows_in task maps) (by_zero all_tasks region task maps (grind (arith, nat_tests)) nothing)
    by_test false less = ap (λ z. has_entry region (unwrap_or z [])) (most task (grind (arith, nat_tests)))

-- an entry counts
pub entry_counts : (region task : ℕ) (maps : Mapped) → ((task : ℕ) → all_tasks ≤ task → entries_in task maps ≡ None)
    → has_entry region (rows_in task maps) ≡ true → 0 < count_by all_tasks region maps
entry_counts region task maps most has = by_count (count_by all_tasks region maps) refl
  where
    by_count : (n : ℕ) → count_by all_tasks region maps ≡ n → 0 < n
    by_count zero is = absurd (let bad : true ≡ false = sym has ∙ none_high region maps most is task in cc)
    by_count (suc n) is = omega arith

-- what a task holds is in use
held_use : (size region task : ℕ) (maps : Mapped) (list : List Waiting) (past : List Event) → Shows size maps list past → NoneElsewhere size region maps past
    → ((task : ℕ) → all_tasks ≤ task → entries_in task maps ≡ None) → holds size task region past ≡ true → IsInUse maps list region
held_use size region task maps list past shows apart most held = by_maps (entries_in task maps) refl
  where
    by_maps : (x : Option (List Entry)) → entries_in task maps ≡ x → IsInUse maps list region
    by_maps None is = absurd (let bad : true ≡ false = sym held ∙ apart task is in cc)
    by_maps (Some own) is = elim (either (has_entry region (entries_of size task past)) (fills region (waiting task past) (copy_target task past)) held) [
      | inl has ↦ inl (entry_counts region task maps most (ap (has_entry region) (sym (shows.rows task (ap is_some is))) ∙ has))
      | inr fills_it ↦ inr (record { task = task; fills = sym (shows.filled.is task region (ap is_some is)) ∙ fills_it })
    ]

some_use : (size region : ℕ) (tasks_now : List ℕ) (maps : Mapped) (list : List Waiting) (past : List Event) → Shows size maps list past
    → NoneElsewhere size region maps past → ((task : ℕ) → all_tasks ≤ task → entries_in task maps ≡ None) → is_held size region tasks_now past ≡ true
    → IsInUse maps list region
some_use size region [] maps list past shows apart most held = absurd (let bad : false ≡ true = held in cc)
some_use size region (task ∷ others) maps list past shows apart most held =
    elim (either (has_entry region (entries_of size task past) || fills region (waiting task past) (copy_target task past)) (is_held size region others past)
    held) [
      | inl one ↦ held_use size region task maps list past shows apart most one
      | inr more ↦ some_use size region others maps list past shows apart most more
    ]

held_among : (size region task : ℕ) (tasks_now : List ℕ) (past : List Event) → is_among task tasks_now ≡ true → holds size task region past ≡ true
    → is_held size region tasks_now past ≡ true
held_among size region task [] past among held = absurd (let bad : false ≡ true = among in cc)
held_among size region task (first ∷ others) past among held = elim (eqb_tells first task) [
  | inl same ↦ ap (λ b. b || is_held size region others past) (ap (λ z. holds size z region past) same.1 ∙ held)
  | inr other ↦ or_right (has_entry region (entries_of size first past) || fills region (waiting first past) (copy_target first past))
      (is_held size region others past) (held_among size region task others past (rw other.0 at among) held)
]

-- what is in use is held
use_held : (size region : ℕ) (tasks_now : List ℕ) (maps : Mapped) (list : List Waiting) (past : List Event) → Shows size maps list past
    → ((task : ℕ) (rows : List Entry) → entries_in task maps ≡ Some rows → is_among task tasks_now ≡ true) → IsInUse maps list region
    → is_held size region tasks_now past ≡ true
use_held size region tasks_now maps list past shows among needed = elim needed [
  | inl some ↦
      let task = by_some all_tasks region maps some in
      let rows = rows_some region (entries_in task.0 maps) task.1 in
      held_among size region task.0 tasks_now past (among task.0 rows.0 rows.1)
      (ap (λ b. b || fills region (waiting task.0 past) (copy_target task.0 past)) (ap (has_entry region) (shows.rows task.0 (ap is_some rows.1)) ∙ task.1))
  | inr filled ↦
      let here = shows.filled.lives filled.task (waits_some region (entry list filled.task) filled.fills) in
      let rows = some_rows (entries_in filled.task maps) here in
      held_among size region filled.task tasks_now past (among filled.task rows.0 rows.1)
      (or_right (has_entry region (entries_of size filled.task past)) (fills region (waiting filled.task past) (copy_target filled.task past))
      (shows.filled.is filled.task region here ∙ filled.fills))
]

pub kept_is : (header : Header) (region : ℕ) (maps : Mapped) (list : List Waiting) (past : List Event) → named header ≤ region
    → Shows header.size maps list past → NoneElsewhere header.size region maps past → ((task : ℕ) → all_tasks ≤ task → entries_in task maps ≡ None)
    → ((task : ℕ) (rows : List Entry) → entries_in task maps ≡ Some rows → is_among task (tasks past) ≡ true)
    → IsUsed maps list region (is_kept header region past)
kept_is header region maps list past temporary shows apart most among =
    let new : nat_lt region (named header) ≡ false = grind (arith, nat_tests) in
    record {
      why = λ kept. some_use header.size region (tasks past) maps list past shows apart most (rw new at kept);
      is = λ needed. rw new (use_held header.size region (tasks past) maps list past shows among needed);
    }

-- a file is declared, and so its region is kept always
pub file_declared : (header : Header) (r : ℕ) → is_file header r ≡ true → nat_lt r (named header) ≡ true
file_declared header r file = (and_parts (nat_lt r (named header)) (is_file_kept (declared header r)) file).0

-- over each change

-- a task elsewhere holds what it held
abbrev pub SameElsewhere : Mapped → (ℕ → ℕ → Bool) → (ℕ → ℕ → Bool) → Type 0
SameElsewhere maps old new = (task r : ℕ) → entries_in task maps ≡ None → new task r ≡ old task r

-- nothing that is in use here, or isn't made yet, is held elsewhere
abbrev pub ApartFrom : Mapped → (ℕ → Bool) → (ℕ → ℕ → Bool) → ℕ → Type 0
ApartFrom maps used_at held_at regions_made = (task r : ℕ) → entries_in task maps ≡ None → (used_at r ≡ true) ⊎ (regions_made ≤ r) → held_at task r ≡ false

-- one that isn't here is another than one that is
pub elsewhere : (maps : Mapped) (task t : ℕ) (rows : List Entry) → entries_in task maps ≡ Some rows → entries_in t maps ≡ None → task ≡ t → ⊥
elsewhere maps task t rows lives none same = let bad : None ≡ Some rows = sym none ∙ (ap (λ z. entries_in z maps) (sym same) ∙ lives) in cc

-- what a change of one task leaves of another
pub other_task : {A : Type 0} (maps : Mapped) (task t : ℕ) (rows : List Entry) (x y : A) → entries_in task maps ≡ Some rows → entries_in t maps ≡ None
    → (if task == t then x else y) ≡ y
other_task maps task t rows x y lives none =
    elim (eqb_tells task t) [ inl same ↦ absurd (elsewhere maps task t rows lives none same.1) | inr apart ↦ rw apart.0 refl ]

-- where a task here waits for something else, or has other entries, others hold what they held
pub holds_waits : (size task t r : ℕ) (maps : Mapped) (rows : List Entry) (past : List Event) (x : Option Access) → entries_in task maps ≡ Some rows
    → entries_in t maps ≡ None
    → (has_entry r (entries_of size t past) || fills r (if task == t then x else waiting t past) (copy_target t past)) ≡ holds size t r past
holds_waits size task t r maps rows past x lives none =
    ap (λ z. has_entry r (entries_of size t past) || fills r z (copy_target t past)) (other_task maps task t rows x (waiting t past) lives none)

pub holds_rows : (size task t r : ℕ) (maps : Mapped) (rows own : List Entry) (past : List Event) → entries_in task maps ≡ Some rows → entries_in t maps ≡ None
    → (has_entry r (if task == t then own else entries_of size t past) || fills r (waiting t past) (copy_target t past)) ≡ holds size t r past
holds_rows size task t r maps rows own past lives none =
    ap (λ z. has_entry r z || fills r (waiting t past) (copy_target t past)) (other_task maps task t rows own (entries_of size t past) lives none)

-- as many entries lead to the region, or at least some where some did
used_counted : (maps new : Mapped) {list : List Waiting} {r : ℕ} {used : Bool} → IsUsed maps list r used
    → (0 < count_by all_tasks r maps → 0 < count_by all_tasks r new) → (0 < count_by all_tasks r new → 0 < count_by all_tasks r maps) → IsUsed new list r used
used_counted maps new is one two =
    record {
      why = λ used. elim (is.why used) [ inl some ↦ inl (one some) | inr filled ↦ inr filled ];
      is = λ needed. elim needed [ inl some ↦ is.is (inl (two some)) | inr filled ↦ is.is (inr filled) ];
    }

-- nothing has changed here
pub uses_still : {list : List Waiting} (header : Header) (maps : Mapped) (used_at : ℕ → Bool) (made : List ℕ) (held_at held2 : ℕ → ℕ → Bool) (n : ℕ)
    → HasUse header maps list used_at made held_at n → SameElsewhere maps held_at held2 → HasUse header maps list used_at made held2 n
uses_still header maps used_at made held_at held2 n has same =
    record { used = has.used; files = has.files; among = has.among; apart = λ t r none why. same t r none ∙ has.apart t r none why }

pub uses_made : {list : List Waiting} (header : Header) (maps new : Mapped) (used_at : ℕ → Bool) (made : List ℕ) (held_at held2 : ℕ → ℕ → Bool) (n task : ℕ)
    → HasUse header maps list used_at made held_at n → ChangesOnly maps new task (Some []) → entries_in task maps ≡ None → task < all_tasks
    → ((t r : ℕ) → (task ≡ t → ⊥) → held2 t r ≡ held_at t r) → HasUse header new list used_at (task ∷ made) held2 n
uses_made header maps new used_at made held_at held2 n task has changes free below same =
    record {
      used =
          λ r temporary. used_counted maps new (has.used r temporary) (λ some. subst (λ (z : ℕ). 0 < z) (as_many r) some)
          (λ some. subst (λ (z : ℕ). 0 < z) (sym (as_many r)) some);
      files = λ r file some. has.files r file (subst (λ (z : ℕ). 0 < z) (sym (as_many r)) some);
      among = λ t rows is. elim (eqb_tells task t) [
        | inl same ↦ rw same.0 refl
        | inr apart ↦ rw apart.0 (has.among t rows (sym (changes.others t (λ e. apart.1 (sym e))) ∙ is))
      ];
      apart = λ t r none why.
          let other = elsewhere new task t [] changes.changed none in
          same t r other ∙ has.apart t r (sym (changes.others t (λ e. other (sym e))) ∙ none) why;
    }
  where
    as_many : (r : ℕ) → count_by all_tasks r maps ≡ count_by all_tasks r new
    as_many r = let moved = by_changed all_tasks r task maps new (Some []) below changes in let none = ap (λ z. count_on r (unwrap_or z [])) free in omega arith

among_kept : {list : List Waiting} (header : Header) (maps new : Mapped) (used_at : ℕ → Bool) (made : List ℕ) (held_at : ℕ → ℕ → Bool) (n task : ℕ)
    (made_rows : Option (List Entry)) → HasUse header maps list used_at made held_at n → ChangesOnly maps new task made_rows
    → entries_in task maps ≡ Some (rows_in task maps)
    → (t : ℕ) (rows : List Entry) → entries_in t new ≡ Some rows → is_among t made ≡ true
among_kept header maps new used_at made held_at n task made_rows has changes lives t rows is = elim (eqb_tells task t) [
  | inl same ↦ subst (λ (z : ℕ). is_among z made ≡ true) same.1 (has.among task (rows_in task maps) lives)
  | inr apart ↦ has.among t rows (sym (changes.others t (λ e. apart.1 (sym e))) ∙ is)
]

-- entries are others, but on the same regions
pub uses_same : {list : List Waiting} (header : Header) (maps new : Mapped) (used_at : ℕ → Bool) (made : List ℕ) (held_at held2 : ℕ → ℕ → Bool) (n task : ℕ)
    (rows : List Entry) → HasUse header maps list used_at made held_at n → ChangesOnly maps new task (Some rows)
    → entries_in task maps ≡ Some (rows_in task maps)
    → ((r : ℕ) → 0 < count_by all_tasks r maps → 0 < count_by all_tasks r new) → ((r : ℕ) → 0 < count_by all_tasks r new → 0 < count_by all_tasks r maps)
    → SameElsewhere maps held_at held2 → HasUse header new list used_at made held2 n
uses_same header maps new used_at made held_at held2 n task rows has changes lives one two same =
    record {
      used = λ r temporary. used_counted maps new (has.used r temporary) (one r) (two r);
      files = λ r file some. has.files r file (two r some);
      among = among_kept header maps new used_at made held_at n task (Some rows) has changes lives;
      apart = λ t r none why.
          let other = elsewhere new task t rows changes.changed none in
          let was = sym (changes.others t (λ e. other (sym e))) ∙ none in
          same t r was ∙ has.apart t r was why;
    }

-- in use is what is kept
kept_uses : (header : Header) (maps new : Mapped) (list list2 : List Waiting) (used_at : ℕ → Bool) (n : ℕ) (past : List Event)
    → ((r : ℕ) → named header ≤ r → IsUsed maps list r (used_at r)) → ((r : ℕ) → is_file header r ≡ true → 0 < count_by all_tasks r maps → used_at r ≡ true)
    → ((t : ℕ) (rows : List Entry) → entries_in t new ≡ Some rows → is_among t (tasks past) ≡ true)
    → ((r : ℕ) → 0 < count_by all_tasks r new → 0 < count_by all_tasks r maps) → ((r : ℕ) → IsFilledIn list2 r → IsFilledIn list r)
    → Shows header.size new list2 past
    → ((t : ℕ) → all_tasks ≤ t → entries_in t new ≡ None) → ApartFrom new used_at (λ t r. holds header.size t r past) n
    → HasUse header new list2 (λ r. is_kept header r past && used_at r) (tasks past) (λ t r. holds header.size t r past) n
kept_uses header maps new list list2 used_at n past used files among two back shows most others =
    record {
      used = λ r temporary. record {
        why = λ is. let both = and_parts (is_kept header r past) (used_at r) is in (kept r temporary both.1).why both.0;
        is = λ needed. let was = (used r temporary).is (before r needed) in rw (was, (kept r temporary was).is needed) refl;
      };
      files = λ r file some. ap (λ b. (b || is_held header.size r (tasks past) past) && used_at r) (file_declared header r file) ∙ files r file (two r some);
      among = among;
      apart = λ t r none why. others t r none (made_or r why);
    }
  where
    made_or : (r : ℕ) → ((is_kept header r past && used_at r) ≡ true) ⊎ (n ≤ r) → (used_at r ≡ true) ⊎ (n ≤ r)
    made_or r (inl is) = inl (and_parts (is_kept header r past) (used_at r) is).1
    made_or r (inr high) = inr high

    before : (r : ℕ) → IsInUse new list2 r → IsInUse maps list r
    before r (inl some) = inl (two r some)
    before r (inr filled) = inr (back r filled)

    kept : (r : ℕ) → named header ≤ r → used_at r ≡ true → IsUsed new list2 r (is_kept header r past)
    kept r temporary is = kept_is header r new list2 past temporary shows (λ t none. others t r none (inl is)) most among

-- entries have gone, and in use is what is kept
pub uses_cut : (header : Header) (maps new : Mapped) (list : List Waiting) (used_at : ℕ → Bool) (held_at : ℕ → ℕ → Bool) (n : ℕ) (past : List Event) (task : ℕ)
    (rows : Option (List Entry)) → HasUse header maps list used_at (tasks past) held_at n → ChangesOnly maps new task rows
    → entries_in task maps ≡ Some (rows_in task maps) → ((r : ℕ) → 0 < count_by all_tasks r new → 0 < count_by all_tasks r maps)
    → Shows header.size new list past → ((t : ℕ) → all_tasks ≤ t → entries_in t new ≡ None)
    → ApartFrom new used_at (λ t r. holds header.size t r past) n
    → HasUse header new list (λ r. is_kept header r past && used_at r) (tasks past) (λ t r. holds header.size t r past) n
uses_cut header maps new list used_at held_at n past task rows has changes lives two shows most others =
    kept_uses header maps new list list used_at n past has.used has.files (among_kept header maps new used_at (tasks past) held_at n task rows has changes
    lives) two (λ r filled. filled) shows most others

-- no entries have gone, and in use is what is kept
pub uses_none : (header : Header) (maps : Mapped) (list list2 : List Waiting) (used_at : ℕ → Bool) (held_at : ℕ → ℕ → Bool) (n : ℕ) (past : List Event)
    → HasUse header maps list used_at (tasks past) held_at n → ((r : ℕ) → IsFilledIn list2 r → IsFilledIn list r) → Shows header.size maps list2 past
    → ((t : ℕ) → all_tasks ≤ t → entries_in t maps ≡ None) → SameElsewhere maps held_at (λ t r. holds header.size t r past)
    → HasUse header maps list2 (λ r. is_kept header r past && used_at r) (tasks past) (λ t r. holds header.size t r past) n
uses_none header maps list list2 used_at held_at n past has back shows most same =
    kept_uses header maps maps list list2 used_at n past has.used has.files has.among (λ r some. some) back shows most
    (λ t r none why. same t r none ∙ has.apart t r none why)

-- a task has an entry more, on the host where its region is in use
pub uses_entered : {list : List Waiting} (header : Header) (maps new : Mapped) (used_at : ℕ → Bool) (made : List ℕ) (held2 : ℕ → ℕ → Bool) (n task : ℕ)
    (row : Entry) (here : Bool) → ((r : ℕ) → named header ≤ r → r ≢ row.region.0 → IsUsed maps list r (used_at r))
    → ((r : ℕ) → is_file header r ≡ true → r ≢ row.region.0 → 0 < count_by all_tasks r maps → used_at r ≡ true)
    → (is_paged header row.region.0 ≡ true → used_at row.region.0 ≡ true)
    → ((t : ℕ) (rows : List Entry) → entries_in t maps ≡ Some rows → is_among t made ≡ true)
    → ChangesOnly maps new task (Some (entered row (rows_in task maps))) → entries_in task maps ≡ Some (rows_in task maps) → task < all_tasks → here ≡ true
    → ApartFrom maps used_at held2 n → HasUse header new list (λ r. (not (r == row.region.0) || here) && used_at r) made held2 n
uses_entered {list = list} header maps new used_at made held2 n task row here others files own among changes lives below is apart =
    record {
      used = λ r temporary. subst (λ (b : Bool). IsUsed new list r b) (sym (simple (r == row.region.0) (used_at r))) (elim (eqb_tells r row.region.0) [
        | inl same ↦
            let one : count_on r (row ∷ rows_in task maps) ≡ 1 + count_on r (rows_in task maps) = subst
            (λ (z : ℕ). count_on z (row ∷ rows_in task maps) ≡ 1 + count_on z (rows_in task maps)) (sym same.1) (self row.region.0) in
            let moved = by_changed all_tasks r task maps new (Some (entered row (rows_in task maps))) below changes in
            let enters = on_entered r row (rows_in task maps) in
            let some : 0 < count_by all_tasks r new = omega arith in
            let used : used_at r ≡ true = ap used_at same.1
            ∙ own (paged_temporary header row.region.0 (let is_it = same.1 in omega (arith, is_it, temporary))) in
            record { why = λ is. inl some; is = λ needed. used }
        | inr apart ↦
            used_counted maps new (others r temporary apart.1) (λ some. subst (λ (z : ℕ). 0 < z) (as_many r apart.1) some)
            (λ some. subst (λ (z : ℕ). 0 < z) (sym (as_many r apart.1)) some)
      ]);
      files = λ r file some. simple (r == row.region.0) (used_at r) ∙ elim (eqb_tells r row.region.0) [
        | inl same ↦ ap used_at same.1 ∙ own (file_paged header row.region.0 (subst (λ (z : ℕ). is_file header z ≡ true) same.1 file))
        | inr apart ↦ files r file apart.1 (subst (λ (z : ℕ). 0 < z) (sym (as_many r apart.1)) some)
      ];
      among = λ t rows found. elim (eqb_tells task t) [
        | inl same ↦ subst (λ (z : ℕ). is_among z made ≡ true) same.1 (among task (rows_in task maps) lives)
        | inr other ↦ among t rows (sym (changes.others t (λ e. other.1 (sym e))) ∙ found)
      ];
      apart = λ t r none why.
          let other = elsewhere new task t _ changes.changed none in
          apart t r (sym (changes.others t (λ e. other (sym e))) ∙ none) (made_or r why);
    }
  where
    other : (r : ℕ) → (row.region.0 ≡ r → ⊥) → (if row.region.0 == r then 1 else 0) + count_on r (rows_in task maps) ≡ 0 + count_on r (rows_in task maps)
    other r apart = elim (eqb_tells row.region.0 r) [ inl same ↦ absurd (apart same.1) | inr is ↦ rw is.0 refl ]

    as_many : (r : ℕ) → r ≢ row.region.0 → count_by all_tasks r maps ≡ count_by all_tasks r new
    as_many r apart =
        let none : count_on r (row ∷ rows_in task maps) ≡ 0 + count_on r (rows_in task maps) = other r (λ e. apart (sym e)) in
        let moved = by_changed all_tasks r task maps new (Some (entered row (rows_in task maps))) below changes in
        let enters = on_entered r row (rows_in task maps) in
        omega arith

    simple : (b used : Bool) → ((not b || here) && used) ≡ used
    simple true used = rw is refl
    simple false used = refl

    made_or : (r : ℕ) → (((not (r == row.region.0) || here) && used_at r) ≡ true) ⊎ (n ≤ r) → (used_at r ≡ true) ⊎ (n ≤ r)
    made_or r (inl used) = inl (sym (simple (r == row.region.0) (used_at r)) ∙ used)
    made_or r (inr high) = inr high

    self : (n : ℕ) → (if n == n then 1 else 0) + count_on n (rows_in task maps) ≡ 1 + count_on n (rows_in task maps)
    self n = elim (eqb_tells n n) [ inl same ↦ rw same.0 refl | inr apart ↦ absurd (apart.1 refl) ]
