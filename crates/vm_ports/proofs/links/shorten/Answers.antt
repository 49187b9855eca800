use Rattle.std.proofs.Common.{ℕ, ◌≡◌, ◌∙◌, ◌==◌, Bool, true, false, Option, Some, sym, ap, refl, arith}
use Rattle.std.proofs.lemmas.Bool.Decides.{nat_tests}
use Rattle.std.specs.Map.{lookup}
use Rattle.std.specs.Prelude.{IsSome, if◌then◌else◌}
use Rattle.vm_ports.specs.Kept.{ends_after}
use Rattle.vm_ports.specs.declared.links.Ends.{Ends}
use Rattle.vm_ports.proofs.links.shorten.Goals as goal

some_of : {A : Type 0} (o : Option A) (x : A) → o ≡ Some x → IsSome o
some_of o x is = rw is refl

shortened : (test : Bool) (new : Option Ends) (old : ℕ → Option Ends) (ch next other : ℕ) (left : Ends) → (ch == other) ≡ test → old ch ≡ Some left
    → new ≡ (if ch == other then Some (record left { first = next }) else old other)
    → new ≡ (if ch == other then ends_after (Some next) (old other) else old other)
shortened true new old ch next other left is there put =
    let same : ch ≡ other = grind (arith, nat_tests, is) in
    let found : old other ≡ Some left = ap old (sym same) ∙ there in
    put ∙ rw (is, found) refl
shortened false new old ch next other left is there put = put ∙ rw is refl

pub returns-in_default-clause-ends : goal.returns-in_default-clause-ends
returns-in_default-clause-ends c = λ other. c.swap_remove.ensures.updates.0 (record { 0 = other }) ∙ rw c.in_default.is refl

pub returns-in-Some-get_mut-clause-ends : goal.returns-in-Some-get_mut-clause-ends
returns-in-Some-get_mut-clause-ends c =
    let left : Ends = c.in-Some-get_mut.left.now in
    let there = sym c.in-Some-get_mut.ensures.value in
    let put = (c.get_mut.follows.holds (record left { first = c.in-Some.next })).3 (some_of _ _ there) in
    λ other. rw c.in-Some.is (shortened (c.args.ch.0 == other) _ (λ o. lookup (λ id. o == id.0) c.args.ends.now.entries) c.args.ch.0 c.in-Some.next other left
    refl there (put.0 (record { 0 = other })))
