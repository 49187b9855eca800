use Rattle.vm_bound.proofs.SettleLaw.{settle_ends, settle_lowers}
use Rattle.vm_bound.proofs.a_settle_lowers_the_sum.Goals as goal

pub returns-clause-lowers : goal.returns-clause-lowers
returns-clause-lowers c = settle_lowers

pub returns-clause-ends : goal.returns-clause-ends
returns-clause-ends c = settle_ends
