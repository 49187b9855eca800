use Rattle.vm_seen.proofs.Behind.{same_step}
use Rattle.vm_seen.proofs.header.same_declarations.Goals as goal

pub loop-i-preserved : goal.loop-i-preserved
loop-i-preserved c =
    same_step c.args.a.now.items c.args.b.now.items c.loop-i.i c.at.result.now c.at-in-loop-i.result.now c.at.ensures c.at-in-loop-i.ensures
    (c.same_declared.ensures.0 c.if-not-same_declared.false) c.loop-i.invariant
