use Rattle.std.proofs.Common.{false, arith}
use Rattle.std.proofs.lemmas.Bool.{false≢true}
use Rattle.vm_objects.proofs.Kept.{marked, marks_put}
use Rattle.vm_objects.proofs.objects.Objects.clear_absent.Goals as goal

pub invariant_of-self : goal.invariant_of-self
invariant_of-self c =
    marks_put c.self.inside.rows.entries _ _ _ _ _ _ c.args.key false c.self.invariant c.swap_remove.ensures.updates.0 (λ bad. absurd (false≢true bad))
    (omega (arith, c.self.invariant.room, c.swap_remove.ensures.room.0))

pub returns-clause-mark : goal.returns-clause-mark
returns-clause-mark c = rw (← c.self.view_is) (marked _ _ _ _ _ _ _ _ c.args.key false c.swap_remove.ensures.updates.0)
