use Rattle.vm_legal.proofs.Pageouts.{cut_short}
use Rattle.vm_legal.proofs.pageouts_reclaim_first.Goals as goal

pub returns : goal.returns
returns c = cut_short
