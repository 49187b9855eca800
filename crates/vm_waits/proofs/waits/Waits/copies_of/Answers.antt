use Rattle.std.proofs.Common.{arith}
use Rattle.std.specs.Map.{values_of}
use Rattle.vm_waits.proofs.Copies.{copies_without}
use Rattle.vm_waits.proofs.Tables.{there}
use Rattle.vm_waits.specs.Waits.{entry}
use Rattle.vm_waits.proofs.waits.Waits.copies_of.Goals as goal

pub returns-then-self-eq0 : goal.returns-then-self-eq0
returns-then-self-eq0 c =
    let rows = values_of c.self.inside.rows.entries in
    let was = there (entry rows c.args.task.0) (rw (← c.self.view_is) at c.requires) in
    rw (← c.self.view_is, was.is) (omega (
      arith,
      c.self.invariant.4,
      c.if-self-eq0.true,
      copies_without c.args.task.0 rows was.it c.self.invariant.0.once was.is,
    ))
