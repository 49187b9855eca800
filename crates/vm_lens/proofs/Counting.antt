-- One run more is counted.
use Rattle.std.proofs.Common.{Any, Bool, List, ap, false, inl, inr, refl, reverse, subst, sym, true, ℕ, ◌⊎◌, ◌∙◌, ◌≡◌}
use Rattle.std.specs.Prelude.{slice_index_or, ◌&&◌}
use Rattle.std.specs.List.{All}
use Rattle.std.proofs.lemmas.Bool.{false≢true}
use Rattle.vm_model.specs.declared.event.Event.{Event}
use Rattle.vm_model.specs.declared.script.Script.{Script}
use Rattle.vm_explore.specs.Outcomes.{values_of}
use Rattle.vm_explore.specs.Tables.{IsKept, Line}
use Rattle.vm_free.specs.Outcomes.{AreShown, Shows}
use Rattle.vm_litmus.specs.Parts.{accesses_in, loads_of, tasks_of}
use Rattle.vm_lens.specs.Exploring.{Gives, IsShown, free_of, fresh, values_in}

-- what is told of fewer runs is told of more
pub weakened : (script : Script) (setup : ℕ) (start : List Event) (a b : Bool) (line : Line) → (b ≡ true → a ≡ true) → IsShown script setup start a line
    → IsShown script setup start b line
weakened script setup start a b line less it = record { later = it.later; ran = it.ran; shows = it.shows; on_shared = λ is. it.on_shared (less is) }

-- a line with the same values and the same order is shown by the same run
retold : (script : Script) (setup : ℕ) (start : List Event) (shared : Bool) (old new : Line) → IsKept old new → IsShown script setup start shared old
    → IsShown script setup start shared new
retold script setup start shared old new kept it =
    let free = free_of script setup in
    let tasks = tasks_of (loads_of (reverse (accesses_in free))) in
    let P : List ℕ → Type 0 = λ order. Shows script.header (fresh script.header) free start (reverse order) (values_in free old) it.later in
    let Q : List ℕ → Type 0 = λ values. Shows script.header (fresh script.header) free start (reverse new.order) (λ t. reverse (values_of t tasks values))
    it.later in
    record { later = it.later; ran = it.ran; shows = subst Q (sym kept.values) (subst P (sym kept.order) it.shows); on_shared = it.on_shared }

and_left : (a b : Bool) → (a && b) ≡ true → a ≡ true
and_left true b is = refl
and_left false b is = is

and_right : (a b : Bool) → (a && b) ≡ true → b ≡ true
and_right true b is = is
and_right false b is = absurd (false≢true is)

pub shown_more : (script : Script) (setup : ℕ) (start : List Event) (before on : Bool) (line : Line) (old new : List Line)
    → IsShown script setup start on line
    → All (λ it. Any (λ was. IsKept was it) old ⊎ (it ≡ line)) new
    → All (IsShown script setup start before) old → All (IsShown script setup start (before && on)) new
shown_more script setup start before on line old new seen only all k d less = elim (only k d less) [
  | inl some ↦
      weakened script setup start before (before && on) (slice_index_or new k d) (and_left before on)
      (retold script setup start before some.1 (slice_index_or new k d) some.4 (subst (IsShown script setup start before) some.3 (all some.0 some.1 some.2)))
  | inr is ↦ weakened script setup start on (before && on) (slice_index_or new k d) (and_right before on) (subst (IsShown script setup start on) (sym is) seen)
]

-- a line of the same values gives the same order's outcome
given_by : (script : Script) (setup : ℕ) (start : List Event) (order : List ℕ) (old new : Line) → new.values ≡ old.values → Gives script setup start order old
    → Gives script setup start order new
given_by script setup start order old new same gives =
    let free = free_of script setup in
    let tasks = tasks_of (loads_of (reverse (accesses_in free))) in
    let P : List ℕ → Type 0 = λ values. AreShown script.header (fresh script.header) free start (reverse order) (λ t. reverse (values_of t tasks values)) in
    subst P (sym same) gives

pub gives_still : (script : Script) (setup : ℕ) (start : List Event) (old new : List Line) → All (λ line. Any (IsKept line) new) old
    → (order : List ℕ) → Any (Gives script setup start order) old → Any (Gives script setup start order) new
gives_still script setup start old new kept order some =
    let found = kept some.0 some.1 some.2 in
    let same : found.1.values ≡ some.1.values = found.4.values ∙ ap (λ (z : Line). z.values) some.3 in
    (found.0, found.1, found.2, found.3, given_by script setup start order some.1 found.1 same some.4)

pub gives_now : (script : Script) (setup : ℕ) (start : List Event) (shared : Bool) (line : Line) (new : List Line) → IsShown script setup start shared line
    → Any (λ it. it.values ≡ line.values) new → Any (Gives script setup start line.order) new
gives_now script setup start shared line new seen there =
    (there.0, there.1, there.2, there.3, given_by script setup start line.order line there.1 there.4 (seen.later, seen.shows))
