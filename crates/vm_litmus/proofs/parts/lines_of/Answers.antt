use Rattle.std.proofs.Common.{ap, sym, ◌∙◌, get_or, slice_get, arith}
use Rattle.vm_litmus.specs.Parts.{accesses_by}
use Rattle.vm_litmus.proofs.InOrder.{behind_all, behind_none, lines_more, lines_same}
use Rattle.vm_litmus.proofs.parts.lines_of.Goals as goal
use Rattle.vm_litmus.proofs.parts.lines_of.Goals.{in-Some+in_ok-push, in_default}

pub loop-i-init : goal.loop-i-init
loop-i-init c = rw c.new-lines.ensures.items (behind_none c.args.accesses.now c.args.order.now)

pub loop-i-preserved : goal.loop-i-preserved
loop-i-preserved c =
    let accesses = c.args.accesses.now in
    let order = c.args.order.now in
    let t = get_or order c.loop-i.i 0 in
    let here = ap (λ z. slice_get (accesses_by t accesses) z) (sym c.times_in.ensures) ∙ sym c.access_number.ensures in
    elim c.match-access_number.branch [
      | in-Some+in_ok-push w ↦
          let is = here ∙ w.in-Some.is in
          rw w.lines-is (rw w.in_ok-push.ensures.items
          (lines_more accesses order c.loop-i.lines.items c.loop-i.i w.in-Some.access (omega arith) is c.loop-i.invariant))
      | in_default w ↦
          let is = here ∙ w.in_default.is in
          rw w.lines-is (lines_same accesses order c.loop-i.lines.items c.loop-i.i (omega arith) is c.loop-i.invariant)
    ]

pub returns : goal.returns
returns c = behind_all c.args.accesses.now c.args.order.now c.loop-i.lines.items c.loop-i.i (omega arith) c.loop-i.invariant
