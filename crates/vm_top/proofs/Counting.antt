-- Lines and takings of a step, and whether a pager of a backing took a message in it.
use Rattle.std.proofs.Common.{◌≡◌, ℕ, ◌+◌, ◌≤◌, ◌⊎◌, inl, inr, List, [], ◌∷◌, ◌++◌, Bool, true, false, None, refl, ap, sym, subst, arith}
use Rattle.std.specs.Prelude.{if◌then◌else◌}
use Rattle.vm_model.specs.declared.event.Device.{Device}
use Rattle.vm_model.specs.declared.event.Event.{Event}
use Rattle.vm_model.specs.declared.event.Event.TheVariants as event
use Rattle.vm_model.specs.declared.command.Numbered.{Numbered}
use Rattle.vm_model.specs.declared.message.Channel.TheVariants.{Up, Down}
use Rattle.vm_model.specs.declared.script.Header.{Header}
use Rattle.vm_model.specs.Moments.{before_last_line}
use Rattle.vm_model.specs.Summary.{count_of, is_line}
use Rattle.vm_legal.specs.Steps.{before_step, takings}
use Rattle.vm_system.specs.Steps.{arms, is_kept_in, took_up}
use Rattle.vm_top.specs.Arming.{is_untouched}

-- a step that begins with a line has one line more
line_counts : (new old : List Event) → before_last_line new ≡ old → (count_of is_line new ≡ count_of is_line old + 1) ⊎ (count_of is_line new ≡ 0)
line_counts [] old front = inr refl
line_counts (event.Line line ∷ past) old front = inl (ap (λ z. count_of is_line z + 1) front)
line_counts (e ∷ past) old front = elim (line_counts past old front) [ inl more ↦ inl (omega arith) | inr none ↦ inr (omega arith) ]

has_line : (group past : List Event) (line : ℕ) → 1 ≤ count_of is_line (group ++ event.Line line ∷ past)
has_line [] past line = omega arith
has_line (e ∷ group) past line = let rest = has_line group past line in omega arith

pub lines_more : (new old group past : List Event) (line : ℕ) → before_last_line new ≡ old → new ≡ group ++ event.Line line ∷ past
    → count_of is_line new ≡ count_of is_line old + 1
lines_more new old group past line front is = elim (line_counts new old front) [
  | inl more ↦ more
  | inr none ↦ let some : 1 ≤ count_of is_line new = subst (λ z. 1 ≤ count_of is_line z) (sym is) (has_line group past line) in absurd (omega arith)
]

-- a step that begins with a taking has none
pub lines_same : (new old : List Event) → before_step new ≡ old → takings new ≡ takings old + 1 → count_of is_line new ≡ count_of is_line old
lines_same [] old front more = absurd (omega arith)
lines_same (event.Line line ∷ past) old front more = absurd (omega arith)
lines_same (event.Taken channel m ∷ past) old front more = let same : count_of is_line past ≡ count_of is_line old = ap (count_of is_line) front in omega arith
lines_same (e ∷ past) old front more = let same = lines_same past old front more in omega arith

-- where the command has taken nothing, its step begins with its line
pub takings_none : (h : List Event) → takings h ≡ 0 → before_step h ≡ before_last_line h
takings_none [] none = refl
takings_none (event.Line line ∷ past) none = refl
takings_none (event.Taken channel m ∷ past) none = absurd (omega arith)
takings_none (e ∷ past) none = takings_none past none

-- what is untouched behind a pager's taking is so in front of it
unasked : (b x : Bool) → (if b then false else x) ≡ true → (b ≡ false) × (x ≡ true)
unasked true x is = absurd (cc)
unasked false x is = (refl, is)

-- no pager of the backing took a message in the step, and none in front of it
pub untouched_line : (header : Header) (who : Device) (n : Numbered) (run : List Numbered) (new old : List Event) → arms who n.command ≡ None
    → before_last_line new ≡ old → is_untouched header who (n ∷ run) new ≡ true
    → (took_up header who new ≡ false) × (is_untouched header who run old ≡ true)
untouched_line header who n run [] old unarmed front un = (refl, subst (λ z. is_untouched header who run z ≡ true) front refl)
untouched_line header who n run (event.Line line ∷ past) old unarmed front un =
    (refl, subst (λ z. is_untouched header who run z ≡ true) front (rw unarmed at un))
untouched_line header who n run (event.Taken (Up host object) m ∷ past) old unarmed front un =
    let both = unasked (is_kept_in header who object) (is_untouched header who (n ∷ run) past) un in
    (both.0, (untouched_line header who n run past old unarmed front both.1).1)
untouched_line header who n run (event.Taken (Down host object control) m ∷ past) old unarmed front un =
    (refl, (untouched_line header who n run past old unarmed front un).1)
untouched_line header who n run (e ∷ past) old unarmed front un = untouched_line header who n run past old unarmed front un

pub untouched_taking : (header : Header) (who : Device) (n : Numbered) (run : List Numbered) (new old : List Event) → before_step new ≡ old
    → takings new ≡ takings old + 1 → is_untouched header who (n ∷ run) new ≡ true
    → (took_up header who new ≡ false) × (is_untouched header who (n ∷ run) old ≡ true)
untouched_taking header who n run [] old front more un = absurd (omega arith)
untouched_taking header who n run (event.Line line ∷ past) old front more un = absurd (omega arith)
untouched_taking header who n run (event.Taken (Up host object) m ∷ past) old front more un =
    let both = unasked (is_kept_in header who object) (is_untouched header who (n ∷ run) past) un in
    (both.0, subst (λ z. is_untouched header who (n ∷ run) z ≡ true) front both.1)
untouched_taking header who n run (event.Taken (Down host object control) m ∷ past) old front more un =
    (refl, subst (λ z. is_untouched header who (n ∷ run) z ≡ true) front un)
untouched_taking header who n run (e ∷ past) old front more un = untouched_taking header who n run past old front more un
