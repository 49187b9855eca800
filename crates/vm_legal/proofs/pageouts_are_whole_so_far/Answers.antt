use Rattle.vm_legal.proofs.SoFar.{unfinished}
use Rattle.vm_legal.proofs.pageouts_are_whole_so_far.Goals as goal

pub returns : goal.returns
returns c = unfinished
