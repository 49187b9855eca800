use Rattle.std.proofs.Common.{◌<◌, length, false, arith}
use Rattle.vm_litmus.specs.declared.parts.FreeAccess.{FreeAccess}
use Rattle.vm_litmus.proofs.Outcomes.{all_written, left_none, loads_first, loads_more}
use Rattle.vm_litmus.proofs.rendering.put_loads.Goals as goal
use Rattle.vm_litmus.proofs.rendering.put_loads.Goals.{then-i-gt0+in_ok-push, else-i-gt0}

pub loop-i-init : goal.loop-i-init
loop-i-init c = left_none c.args.text.now.items c.args.loads.now c.args.values.now

pub loop-i-preserved : goal.loop-i-preserved
loop-i-preserved c =
    let none : FreeAccess = record { line = 0; task = 0; loads = false } in
    let loads = c.args.loads.now in
    let values = c.args.values.now in
    let i = c.loop-i.i in
    let one : i < length loads = omega arith in
    let two : i < length values = omega arith in
    rw c.in_ok-put_load.ensures (elim c.if-i-gt0.branch [
      | then-i-gt0+in_ok-push w ↦ rw w.text-is
          (rw w.in_ok-push.ensures.items (loads_more c.loop-i.text.items _ loads values i none (omega arith) one two c.loop-i.invariant))
      | else-i-gt0 w ↦ rw w.text-is (loads_first c.loop-i.text.items _ loads values i none (omega arith) one two c.loop-i.invariant)
    ])

pub returns : goal.returns
returns c = all_written c.loop-i.text.items _ c.args.loads.now c.args.values.now c.loop-i.i (omega arith) c.loop-i.invariant
