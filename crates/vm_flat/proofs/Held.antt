-- A region with an entry of a living task is held.
use Rattle.std.proofs.Common.{ℕ, ◌≡◌, List, [], ◌∷◌, Bool, true, false, refl, subst, arith, Option, Some, None, if◌then◌else◌}
use Rattle.std.proofs.lemmas.Bool.Decides.{nat_tests}
use Rattle.std.specs.Prelude.{◌==◌, ◌||◌, nat_lt}
use Rattle.vm_model.specs.declared.event.Event.{Event}
use Rattle.vm_model.specs.declared.event.Event.TheVariants as event
use Rattle.vm_model.specs.declared.script.Header.{Header}
use Rattle.vm_model.specs.Tasks.{host_of, entries_of, has_entry}
use Rattle.vm_model.specs.Named.{named}
use Rattle.vm_legal.specs.Living.{tasks}
use Rattle.vm_model.specs.Waiting.{waiting, copy_target, fills}
use Rattle.vm_legal.specs.Used.{is_held, is_filled, is_kept}

abbrev pub is_among : ℕ → List ℕ → Bool
is_among task [] = false
is_among task (other ∷ others) = other == task || is_among task others

pub none_some : (h : ℕ) → ◌≡◌ {A = Option ℕ} None (Some h) → ⊥
none_some h e = cc

pub living_known : (task h : ℕ) (past : List Event) → host_of task past ≡ Some h → is_among task (tasks past) ≡ true
living_known task h [] lives = absurd (none_some h lives)
living_known task h (event.TaskMade made host ∷ past) lives = by_test (made.0 == task) lives (living_known task h past)
  where
    by_test : (b : Bool) → (if b then Some host.0 else host_of task past) ≡ Some h → (host_of task past ≡ Some h → is_among task (tasks past) ≡ true)
        → (b || is_among task (tasks past)) ≡ true
    by_test true e later = refl
    by_test false e later = later e
living_known task h (event.TaskEnded gone ∷ past) lives = by_test (gone.0 == task) lives (living_known task h past)
  where
    by_test : (b : Bool) → (if b then None else host_of task past) ≡ Some h → (host_of task past ≡ Some h → is_among task (tasks past) ≡ true)
        → is_among task (tasks past) ≡ true
    by_test true e later = absurd (none_some h e)
    by_test false e later = later e
living_known task h (e ∷ past) lives = living_known task h past lives

or_left : (a b : Bool) → a ≡ true → (a || b) ≡ true
or_left true b is = refl
or_left false b is = absurd (cc)

or_right : (a b : Bool) → b ≡ true → (a || b) ≡ true
or_right true b is = refl
or_right false b is = is

held_among : (size region task : ℕ) (others : List ℕ) (past : List Event) → is_among task others ≡ true → has_entry region (entries_of size task past) ≡ true
    → is_held size region others past ≡ true
held_among size region task [] past among has = absurd (cc)
held_among size region task (other ∷ others) past among has = by_test (other == task) refl among (λ later. held_among size region task others past later has)
  where
    by_test : (b : Bool) → (other == task) ≡ b → (b || is_among task others) ≡ true → (is_among task others ≡ true → is_held size region others past ≡ true)
        → is_held size region (other ∷ others) past ≡ true
    by_test true is all later =
        let e : task ≡ other = grind (arith, nat_tests) in
        or_left (has_entry region (entries_of size other past) || fills region (waiting other past) (copy_target other past)) (is_held size region others past)
        (or_left (has_entry region (entries_of size other past)) (fills region (waiting other past) (copy_target other past))
        (subst (λ (t : ℕ). has_entry region (entries_of size t past) ≡ true) e has))
    by_test false is all later =
        or_right (has_entry region (entries_of size other past) || fills region (waiting other past) (copy_target other past)) (is_held size region others past)
        (later all)

pub kept : (header : Header) (region task h : ℕ) (past : List Event) → host_of task past ≡ Some h → has_entry region (entries_of header.size task past) ≡ true
    → is_kept header region past ≡ true
kept header region task h past lives has =
    or_right (nat_lt region (named header)) (is_held header.size region (tasks past) past)
    (held_among header.size region task (tasks past) past (living_known task h past lives) has)

filled_among : (region task : ℕ) (others : List ℕ) (past : List Event) → is_among task others ≡ true
    → fills region (waiting task past) (copy_target task past) ≡ true → is_filled region others past ≡ true
filled_among region task [] past among has = absurd (cc)
filled_among region task (other ∷ others) past among has = by_test (other == task) refl among (λ later. filled_among region task others past later has)
  where
    by_test : (b : Bool) → (other == task) ≡ b → (b || is_among task others) ≡ true → (is_among task others ≡ true → is_filled region others past ≡ true)
        → is_filled region (other ∷ others) past ≡ true
    by_test true is all later =
        let e : task ≡ other = grind (arith, nat_tests) in
        or_left (fills region (waiting other past) (copy_target other past)) (is_filled region others past)
        (subst (λ (t : ℕ). fills region (waiting t past) (copy_target t past) ≡ true) e has)
    by_test false is all later = or_right (fills region (waiting other past) (copy_target other past)) (is_filled region others past) (later all)

pub filled_now : (region task h : ℕ) (past : List Event) → host_of task past ≡ Some h → fills region (waiting task past) (copy_target task past) ≡ true
    → is_filled region (tasks past) past ≡ true
filled_now region task h past lives has = filled_among region task (tasks past) past (living_known task h past lives) has

held_filled : (size region : ℕ) (others : List ℕ) (past : List Event) → is_filled region others past ≡ true → is_held size region others past ≡ true
held_filled size region [] past filled = filled
held_filled size region (other ∷ others) past filled =
    by (fills region (waiting other past) (copy_target other past)) refl filled (λ later. held_filled size region others past later)
  where
    by : (b : Bool) → fills region (waiting other past) (copy_target other past) ≡ b → (b || is_filled region others past) ≡ true
        → (is_filled region others past ≡ true → is_held size region others past ≡ true) → is_held size region (other ∷ others) past ≡ true
    by true is all later =
        or_left (has_entry region (entries_of size other past) || fills region (waiting other past) (copy_target other past)) (is_held size region others past)
        (or_right (has_entry region (entries_of size other past)) (fills region (waiting other past) (copy_target other past)) is)
    by false is all later =
        or_right (has_entry region (entries_of size other past) || fills region (waiting other past) (copy_target other past)) (is_held size region others past)
        (later all)

pub kept_filled : (header : Header) (region task h : ℕ) (past : List Event) → host_of task past ≡ Some h
    → fills region (waiting task past) (copy_target task past) ≡ true → is_kept header region past ≡ true
kept_filled header region task h past lives has =
    or_right (nat_lt region (named header)) (is_held header.size region (tasks past) past)
    (held_filled header.size region (tasks past) past (filled_now region task h past lives has))
