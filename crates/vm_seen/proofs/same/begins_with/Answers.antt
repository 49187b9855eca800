use Rattle.vm_seen.proofs.Behind.{same_step}
use Rattle.vm_seen.proofs.same.begins_with.Goals as goal

pub loop-i-preserved : goal.loop-i-preserved
loop-i-preserved c =
    same_step c.args.history.now.items c.args.start.now.items c.loop-i.i c.at.result.now c.at-in-loop-i.result.now c.at.ensures c.at-in-loop-i.ensures
    (c.same_event.ensures.0 c.if-not-same_event.false) c.loop-i.invariant
