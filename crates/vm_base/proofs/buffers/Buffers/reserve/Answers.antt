use Rattle.std.proofs.Common.{arith}
use Rattle.std.proofs.lemmas.Grind.{common_steps}
use Rattle.vm_base.proofs.ZeroPages.{zero_more}
use Rattle.vm_base.proofs.buffers.Buffers.reserve.Goals as goal

pub loop-self-preserved : goal.loop-self-preserved
loop-self-preserved c = record {
  size = c.loop-self.invariant.size;
  zeros = rw c.in_ok-push.ensures.items (zero_more _ _ _ c.loop-self.invariant.zeros c.in_ok-page.ensures);
  kept = grind (arith, common_steps);
  same = grind (arith, common_steps);
}
