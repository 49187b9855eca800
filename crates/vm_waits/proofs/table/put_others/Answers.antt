use Rattle.std.proofs.Common.{◌∙◌, arith}
use Rattle.vm_waits.proofs.ByTask.{left_out, put_more}
use Rattle.vm_waits.proofs.table.put_others.Goals.{then-row-task, else-row-task}
use Rattle.vm_waits.proofs.table.put_others.Goals as goal

pub all-preserved : goal.all-preserved
all-preserved c = elim c.if-row-task.branch [
  | then-row-task w ↦
      let put = put_more c.args.task.0 c.all.row-index c.args.rows.now _ c.all.others.entries w.insert.new.self.entries c.all-test.true c.requires.once
      w.if-row-task.true c.all.invariant.0 (rw w.unwrap.ensures at w.insert.ensures.entries) in
      rw w.others-is (put.rows, omega (arith, put.more, c.all.invariant.1, w.insert.ensures.spare), omega (arith, put.more, c.all.invariant.2))
  | else-row-task w ↦ rw w.others-is (
    c.all.invariant.0 ∙ left_out _ _ _ _ c.all-test.true w.if-row-task.false,
    c.all.invariant.1,
    omega (arith, c.all.invariant.2),
  )
]
