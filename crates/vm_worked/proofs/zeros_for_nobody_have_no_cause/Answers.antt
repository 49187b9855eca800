use Rattle.vm_worked.proofs.Beside.{uncaused}
use Rattle.vm_worked.proofs.zeros_for_nobody_have_no_cause.Goals as goal

pub returns : goal.returns
returns c = uncaused
