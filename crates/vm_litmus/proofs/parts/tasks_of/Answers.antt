use Rattle.std.proofs.Common.{◌++◌, [], ◌∷◌, ap, ◌∙◌, get_or, false}
use Rattle.vm_litmus.specs.declared.parts.FreeAccess.{FreeAccess}
use Rattle.vm_litmus.proofs.Listed.{tasks_of-more}
use Rattle.vm_litmus.proofs.parts.tasks_of.Goals as goal

pub loop-access-preserved : goal.loop-access-preserved
loop-access-preserved c =
    let none : FreeAccess = record { line = 0; task = 0; loads = false } in
    let accesses = c.args.accesses.now in
    let i = c.loop-access.access-index in
    c.in_ok-push.ensures.items ∙
    (ap (λ z. z ++ (get_or accesses i none).task ∷ []) c.loop-access.invariant ∙ tasks_of-more accesses i none c.loop-access-test.true)
