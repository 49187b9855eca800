-- Each order was shown, so all outcomes were.
use Rattle.std.proofs.Common.{Any, List, ap, arith, length, map, refl, reverse, subst, sym, ℕ, [], ◌++◌, ◌∙◌, ◌∷◌, ◌≡◌}
use Rattle.std.specs.Global.{Vec}
use Rattle.std.specs.List.{All}
use Rattle.std.proofs.lemmas.List.{get_or-map, length-map, reverse-append, reverse-reverse}
use Rattle.vm_legal.specs.Outside.{Outside}
use Rattle.vm_model.specs.declared.command.Command.{Command}
use Rattle.vm_model.specs.declared.command.Command.TheVariants as command
use Rattle.vm_model.specs.declared.command.Numbered.{Numbered}
use Rattle.vm_model.specs.declared.event.Event.{Event}
use Rattle.vm_model.specs.declared.script.Header.{Header}
use Rattle.vm_model.specs.Waiting.{Loading, Storing}
use Rattle.vm_free.specs.Free.{accesses_of, made_to_begin}
use Rattle.vm_free.specs.Orders.{occurrences}
use Rattle.vm_free.specs.Outcomes.{AllShown, AreShown, Values}
use Rattle.vm_free.proofs.Orders.{occurrences-append, occurrences-reverse, one_owns}
use Rattle.vm_explore.specs.Levels.{IsOrderOf}
use Rattle.vm_explore.specs.Tables.{Line}
use Rattle.vm_litmus.specs.Parts.{accesses_in, tasks_of}
use Rattle.vm_litmus.specs.declared.parts.FreeAccess.{FreeAccess}
use Rattle.vm_lens.specs.Exploring.{Gives, free_of, fresh, outcomes_of, values_in}
use Rattle.vm_model.specs.declared.script.Script.{Script}

tasks_append : (a b : List FreeAccess) → tasks_of (a ++ b) ≡ tasks_of a ++ tasks_of b
tasks_append [] b = refl
tasks_append (x ∷ a) b = ap (λ z. x.task ∷ z) (tasks_append a b)

tasks_turned : (t : ℕ) (accesses : List FreeAccess) → occurrences t (tasks_of (reverse accesses)) ≡ occurrences t (tasks_of accesses)
tasks_turned t [] = refl
tasks_turned t (x ∷ xs) =
    ap (λ z. occurrences t (tasks_of z)) (reverse-append (x ∷ []) xs)
    ∙ (ap (occurrences t) (tasks_append (reverse xs) (x ∷ []))
    ∙ omega (arith, occurrences-append t (tasks_of (reverse xs)) (x.task ∷ []), tasks_turned t xs))

each_counts : (t line : ℕ) (c : Command) (older : List Numbered) → occurrences t (tasks_of (accesses_in older)) ≡ length (accesses_of t older)
    → occurrences t (tasks_of (accesses_in (record { line = line; command = c } ∷ older))) ≡ length (made_to_begin t c ++ accesses_of t older)
each_counts t line (command.Load task address bytes) older same =
    one_owns t task.0 (Loading address bytes) (tasks_of (accesses_in older)) (accesses_of t older) same
each_counts t line (command.Store task address bytes value) older same =
    one_owns t task.0 (Storing address bytes value) (tasks_of (accesses_in older)) (accesses_of t older) same
each_counts t line other older same = same

-- each task stands among the tasks of the accesses as often as it has accesses
tasks_count : (t : ℕ) (free : List Numbered) → occurrences t (tasks_of (accesses_in free)) ≡ length (accesses_of t free)
tasks_count t [] = refl
tasks_count t (numbered ∷ older) = each_counts t numbered.line numbered.command older (tasks_count t older)

any_map : {A B : Type 0} (f : A → B) (P : B → Type 0) (xs : List A) → Any (λ x. P (f x)) xs → Any P (map f xs)
any_map f P xs some =
    let many = length-map xs f in
    (some.0, f some.1, omega (arith, many, some.2), get_or-map f xs some.0 some.1 (f some.1) some.2 ∙ ap f some.3, some.4)

shown_for : (header : Header) (outside : Outside) (free : List Numbered) (start : List Event) (values : Line → Values) (lines : List Line) (tasks : List ℕ)
    (all : List (Vec ℕ))
    → ((t : ℕ) → occurrences t tasks ≡ length (accesses_of t free))
    → ((order : List ℕ) → IsOrderOf tasks order → Any (λ it. it.items ≡ order) all)
    → All (λ it. Any (λ line. AreShown header outside free start (reverse it.items) (values line)) lines) all
    → AllShown header outside free start (map values lines)
shown_for header outside free start values lines tasks all counts every given order is =
    let found = every (reverse order) (λ t. occurrences-reverse t order ∙ (is t ∙ sym (counts t))) in
    let shown = subst (λ (z : Vec ℕ). Any (λ line. AreShown header outside free start (reverse z.items) (values line)) lines) found.3
    (given found.0 found.1 found.2) in
    let turned : reverse found.1.items ≡ order = ap reverse found.4 ∙ reverse-reverse order in
    any_map values (AreShown header outside free start order) lines (subst (λ z. Any (λ line. AreShown header outside free start z (values line)) lines) turned
    shown)

-- where each order that there is gives a line, each was shown
pub all_shown : (script : Script) (setup : ℕ) (start : List Event) (lines : List Line) (tasks : List ℕ) (all : List (Vec ℕ))
    → tasks ≡ tasks_of (reverse (accesses_in (free_of script setup)))
    → ((order : List ℕ) → IsOrderOf tasks order → Any (λ it. it.items ≡ order) all)
    → All (λ it. Any (Gives script setup start it.items) lines) all
    → AllShown script.header (fresh script.header) (free_of script setup) start (outcomes_of script setup lines)
all_shown script setup start lines tasks all is every given =
    let free = free_of script setup in
    let counts : (t : ℕ) → occurrences t tasks ≡ length (accesses_of t free) = λ t. ap (occurrences t) is
    ∙ (tasks_turned t (accesses_in free) ∙ tasks_count t free) in
    shown_for script.header (fresh script.header) free start (values_in free) lines tasks all counts every given
