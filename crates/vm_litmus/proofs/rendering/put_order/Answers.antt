use Rattle.std.proofs.Common.{◌∙◌}
use Rattle.vm_litmus.proofs.Outcomes.{order_more}
use Rattle.vm_litmus.proofs.rendering.put_order.Goals as goal

pub loop-line-preserved : goal.loop-line-preserved
loop-line-preserved c =
    c.in_ok-put_number.ensures ∙ order_more c.args.text.now.items c.loop-line.text.items c.args.lines.now c.loop-line.line-index c.loop-line-test.true
    c.loop-line.invariant
