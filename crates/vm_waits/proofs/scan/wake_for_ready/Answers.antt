use Rattle.std.proofs.Common.{arith}
use Rattle.vm_waits.proofs.ByTask.{changed_step}
use Rattle.vm_waits.specs.Waits.{woken, woken_ready}
use Rattle.vm_waits.proofs.scan.wake_for_ready.Goals as goal

pub all-preserved : goal.all-preserved
all-preserved c = (
  changed_step (woken (woken_ready c.args.object.0)) c.args.rows.now.entries c.all.rows.entries c.all.at c.index.result.now c.after_ready.result
      c.all.invariant.0 (omega (arith, c.len-at-end.ensures.len, c.all-test.true)) c.index.ensures c.after_ready.ensures,
  c.all.invariant.1,
)
