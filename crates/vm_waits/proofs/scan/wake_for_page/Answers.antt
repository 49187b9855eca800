use Rattle.std.proofs.Common.{arith}
use Rattle.vm_waits.proofs.ByTask.{changed_step}
use Rattle.vm_waits.specs.Waits.{woken, woken_page}
use Rattle.vm_waits.proofs.scan.wake_for_page.Goals as goal

pub all-preserved : goal.all-preserved
all-preserved c = (
  changed_step (woken (woken_page c.args.key)) c.args.rows.now.entries c.all.rows.entries c.all.at c.index.result.now c.after_page.result c.all.invariant.0
      (omega (arith, c.len-at-end.ensures.len, c.all-test.true)) c.index.ensures c.after_page.ensures,
  c.all.invariant.1,
)
