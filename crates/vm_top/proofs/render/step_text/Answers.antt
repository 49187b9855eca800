use Rattle.std.proofs.Common.{arith}
use Rattle.vm_model.specs.Text.{text}
use Rattle.vm_top.specs.Writing.{oldest_items}
use Rattle.vm_base.proofs.Lists.{oldest_step}
use Rattle.vm_top.proofs.Writings.{grown_more}
use Rattle.vm_top.proofs.render.step_text.Goals as goal

pub loop-i-preserved : goal.loop-i-preserved
loop-i-preserved c =
    let h = c.args.history.now.items in
    let step = oldest_step h c.loop-i.i c.at.result.now c.at.ensures in
    record {
      inside = omega arith;
      goes_on =
          rw c.in_ok-put_event.ensures (grown_more h c.loop-i.i c.at.result.now (text (oldest_items c.args.from h)) c.loop-i.lines step
          c.loop-i.invariant.goes_on);
    }
