use Rattle.std.proofs.Common.{◌++◌, [], ◌∷◌, ap, ◌∙◌, get_or, false}
use Rattle.vm_litmus.specs.declared.parts.FreeAccess.{FreeAccess}
use Rattle.vm_litmus.proofs.Listed.{loads_of-load, loads_of-store}
use Rattle.vm_litmus.proofs.parts.loads_of.Goals as goal
use Rattle.vm_litmus.proofs.parts.loads_of.Goals.{then-access+in_ok-push, else-access}

pub loop-access-preserved : goal.loop-access-preserved
loop-access-preserved c =
    let none : FreeAccess = record { line = 0; task = 0; loads = false } in
    let accesses = c.args.accesses.now in
    let i = c.loop-access.access-index in
    let inside = c.loop-access-test.true in
    elim c.if-access.branch [
      | then-access+in_ok-push w ↦
          rw w.loads-is (w.in_ok-push.ensures.items ∙
          (ap (λ z. z ++ get_or accesses i none ∷ []) c.loop-access.invariant ∙ loads_of-load accesses i none inside w.if-access.true))
      | else-access w ↦ rw w.loads-is (c.loop-access.invariant ∙ loads_of-store accesses i none inside w.if-access.false)
    ]
