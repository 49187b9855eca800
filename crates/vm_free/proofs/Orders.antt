-- Each order of a part of the accesses is the older part of an order of all.
use Rattle.std.proofs.Common.{Bool, List, [], ap, arith, false, inl, inr, length, nat_le, refl, reverse, subst, true, ℕ, ◌++◌, ◌+◌, ◌-◌, ◌<◌, ◌==◌, ◌∙◌, ◌∷◌}
use Rattle.std.proofs.Common.{◌≡◌, ◌≤◌}
use Rattle.std.specs.Prelude.{if◌then◌else◌}
use Rattle.std.proofs.lemmas.List.{reverse-append}
use Rattle.std.proofs.lemmas.Bool.Decides.{eqb_tells, leb_tells}
use Rattle.vm_model.specs.Waiting.{Access, Loading, Storing}
use Rattle.vm_model.specs.declared.command.Command.{Command}
use Rattle.vm_model.specs.declared.command.Command.TheVariants as command
use Rattle.vm_model.specs.declared.command.Numbered.{Numbered}
use Rattle.vm_free.specs.Free.{accesses_of, made_to_begin}
use Rattle.vm_free.specs.Orders.{IsOrder, occurrences}

pub occurrences-append : (t : ℕ) (a b : List ℕ) → occurrences t (a ++ b) ≡ occurrences t a + occurrences t b
occurrences-append t [] b = omega arith
occurrences-append t (u ∷ a) b = omega (arith, occurrences-append t a b)

-- an order told from its other end
pub occurrences-reverse : (t : ℕ) (order : List ℕ) → occurrences t (reverse order) ≡ occurrences t order
occurrences-reverse t [] = refl
occurrences-reverse t (u ∷ order) =
    ap (occurrences t) (reverse-append (u ∷ []) order) ∙ omega (arith, occurrences-append t (reverse order) (u ∷ []), occurrences-reverse t order)

-- the task that a command makes begin an access, if it does
abbrev owner : Command → List ℕ
owner (command.Load task address bytes) = task.0 ∷ []
owner (command.Store task address bytes value) = task.0 ∷ []
owner other = []

-- the tasks of all accesses
abbrev pub owners : List Numbered → List ℕ
owners [] = []
owners (numbered ∷ older) = owner numbered.command ++ owners older

-- an access more is one of its task's
pub one_owns : (t task : ℕ) (access : Access) (tasks : List ℕ) (accesses : List Access) → occurrences t tasks ≡ length accesses
    → occurrences t (task ∷ tasks) ≡ length ((if task == t then access ∷ [] else []) ++ accesses)
one_owns t task access tasks accesses same = elim (eqb_tells task t) [ inl is ↦ rw is.0 (omega (arith, same)) | inr apart ↦ rw apart.0 (omega (arith, same)) ]

each_owns : (t : ℕ) (c : Command) (tasks : List ℕ) (accesses : List Access) → occurrences t tasks ≡ length accesses
    → occurrences t (owner c ++ tasks) ≡ length (made_to_begin t c ++ accesses)
each_owns t (command.Load task address bytes) tasks accesses same = one_owns t task.0 (Loading address bytes) tasks accesses same
each_owns t (command.Store task address bytes value) tasks accesses same = one_owns t task.0 (Storing address bytes value) tasks accesses same
each_owns t other tasks accesses same = same

pub owners_are : (free : List Numbered) → IsOrder free (owners free)
owners_are [] t = refl
owners_are (numbered ∷ older) t = each_owns t numbered.command (owners older) (accesses_of t older) (owners_are older t)

abbrev with_more : Bool → ℕ → List ℕ → List ℕ
with_more true u rest = u ∷ rest
with_more false u rest = rest

-- what a list has more than an order
abbrev pub rest : List ℕ → List ℕ → List ℕ
rest [] order = []
rest (u ∷ more) order = with_more (nat_le (occurrences u order) (occurrences u more)) u (rest more order)

one_more : (t u : ℕ) (more order left : List ℕ) → occurrences u order ≤ occurrences u more → occurrences t left ≡ occurrences t more - occurrences t order
    → occurrences t (u ∷ left) ≡ occurrences t (u ∷ more) - occurrences t order
one_more t u more order left fits same = elim (eqb_tells u t) [
  | inl is ↦ let fit : occurrences t order ≤ occurrences t more = subst (λ z. occurrences z order ≤ occurrences z more) is.1 fits in rw is.0 (omega arith)
  | inr apart ↦ rw apart.0 (omega arith)
]

no_more : (t u : ℕ) (more order left : List ℕ) → occurrences u more < occurrences u order → occurrences t left ≡ occurrences t more - occurrences t order
    → occurrences t left ≡ occurrences t (u ∷ more) - occurrences t order
no_more t u more order left less same = elim (eqb_tells u t) [
  | inl is ↦ let fewer : occurrences t more < occurrences t order = subst (λ z. occurrences z more < occurrences z order) is.1 less in rw is.0 (omega arith)
  | inr apart ↦ rw apart.0 (omega arith)
]

rest_counts : (t : ℕ) (all order : List ℕ) → occurrences t (rest all order) ≡ occurrences t all - occurrences t order
rest_counts t [] order = omega arith
rest_counts t (u ∷ more) order = elim (leb_tells (occurrences u order) (occurrences u more)) [
  | inl fits ↦ rw fits.0 (one_more t u more order (rest more order) fits.1 (rest_counts t more order))
  | inr less ↦ rw less.0 (no_more t u more order (rest more order) less.1 (rest_counts t more order))
]

-- an order of some accesses, and behind it the rest, is an order of all
pub completed : (free : List Numbered) (order : List ℕ) → ((t : ℕ) → occurrences t order ≤ length (accesses_of t free))
    → IsOrder free (rest (owners free) order ++ order)
completed free order fits t = omega (arith, fits t, owners_are free t, rest_counts t (owners free) order, occurrences-append t (rest (owners free) order) order)
