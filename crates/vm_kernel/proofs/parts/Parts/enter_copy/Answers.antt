use Rattle.vm_kernel.proofs.Common.{ap, arith, false, length, true, ◌≡◌}
use Rattle.vm_kernel.proofs.steps.EventsGrow.{on_ok}
use Rattle.vm_kernel.proofs.room.CallsSpend.{marks_copied}
use Rattle.vm_kernel.proofs.parts.Parts.enter_copy.Goals as goal

pub returns-clause-spends : goal.returns-clause-spends
returns-clause-spends c =
    let marks = marks_copied _ c.requires.region c.args.self.now.chains.marked c.symmetric.new.self.marked c.requires.there c.in_ok-copy.ensures.marked in
    let marked = c.set_count.ensures.spare.1 in
    let first = ap length c.in_ok-push.ensures.ok in
    on_ok c.push-2.result _ _
    (λ told. let second = ap length told in record {
      told = omega (arith, first, second, marks, marked);
      room = omega (arith, c.push.ensures.room, c.push-2.ensures.room, marks, marked);
      rows = omega (arith, marks, marked);
      shadows = omega (arith, c.symmetric.ensures.spare, c.set_count.ensures.spare.0, marks, marked);
      objects = omega (arith, c.refer.ensures.rooms.rows, marks, marked);
      copies = omega arith;
    })
    c.push-2.ensures.ok

pub returns-in_err-copy-clause-succeeds : goal.returns-in_err-copy-clause-succeeds
returns-in_err-copy-clause-succeeds c = λ roomy. absurd (let bad : false ≡ true = c.in_err-copy.ensures.succeeds (omega (arith, roomy.shadows)) in cc)

pub returns-in_err-push-clause-succeeds : goal.returns-in_err-push-clause-succeeds
returns-in_err-push-clause-succeeds c = λ roomy. absurd (let bad : false ≡ true = c.in_err-push.ensures.succeeds (omega (arith, roomy.log)) in cc)

pub returns-clause-succeeds : goal.returns-clause-succeeds
returns-clause-succeeds c = λ roomy. c.push-2.ensures.succeeds (omega (arith, roomy.log, c.push.ensures.room))
