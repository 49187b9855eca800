use Rattle.vm_kernel.proofs.Common.{ap, arith, length}
use Rattle.vm_kernel.proofs.steps.EventsGrow.{on_ok}
use Rattle.vm_kernel.proofs.parts.Parts.share.Goals as goal

pub returns-clause-spends : goal.returns-clause-spends
returns-clause-spends c =
    let spare = c.set_count.ensures.spare.0 in
    let marked = c.set_count.ensures.spare.1 in
    on_ok c.push.result _ _
    (λ told. let one = ap length told in record {
      told = omega (arith, one, marked);
      room = omega (arith, c.push.ensures.room, marked);
      rows = omega (arith, marked);
      shadows = omega (arith, spare, marked);
      objects = omega (arith, marked);
      copies = omega arith;
    })
    c.push.ensures.ok
