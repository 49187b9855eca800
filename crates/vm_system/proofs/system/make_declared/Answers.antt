use Rattle.vm_system.proofs.Common.{List, ap, arith, length, reverse, take, ℕ, ◌++◌, ◌∙◌, ◌∷◌, ◌≡◌, []}
use Rattle.std.proofs.lemmas.List.{length-reverse}
use Rattle.vm_model.specs.declared.script.Declared.{Declared}
use Rattle.vm_system.proofs.Starting.{all_taken, next_taken}
use Rattle.vm_system.proofs.system.make_declared.Goals as goal

pub objects-preserved : goal.objects-preserved
objects-preserved c =
    c.in_ok-push.ensures.items ∙ ap (λ (z : List Declared). z ++ c.at.result.now ∷ []) c.objects.invariant
    ∙ next_taken (reverse c.args.header.now.objects.items) c.objects.object c.at.result.now c.at.ensures

pub returns : goal.returns
returns c =
    let count = c.len-object-end.ensures in
    let test = c.objects-test.false in
    let below = c.objects.auto.object-end in
    let long = length-reverse c.args.header.now.objects.items in
    let all : c.objects.object ≡ length (reverse c.args.header.now.objects.items) = omega (arith, count, test, below, long) in
    c.objects.invariant ∙ ap (λ (n : ℕ). take n (reverse c.args.header.now.objects.items)) all ∙ all_taken (reverse c.args.header.now.objects.items)
