use Rattle.vm_bound.proofs.Bounded.{sum_bounded}
use Rattle.vm_bound.proofs.the_sum_is_bounded.Goals as goal

pub returns : goal.returns
returns c = sum_bounded
