use Rattle.std.proofs.Common.{arith}
use Rattle.vm_base.proofs.Lists.{oldest_step}
use Rattle.vm_top.specs.Writing.{oldest_items}
use Rattle.vm_top.proofs.summary.Summary.of.Goals as goal

pub loop-i-preserved : goal.loop-i-preserved
loop-i-preserved c =
    let h = c.args.history.now.items in
    record {
      inside = omega arith;
      counted = rw (oldest_step h c.loop-i.i c.at.result.now c.at.ensures) (c.add.ensures (oldest_items c.loop-i.i h) c.loop-i.invariant.counted);
    }
