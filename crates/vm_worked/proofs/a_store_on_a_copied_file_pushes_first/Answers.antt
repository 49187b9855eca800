use Rattle.vm_worked.proofs.Pushed as worked
use Rattle.vm_worked.proofs.a_store_on_a_copied_file_pushes_first.Goals as goal

pub returns-clause-pushed : goal.returns-clause-pushed
returns-clause-pushed c = worked.pushed

pub returns-clause-paid : goal.returns-clause-paid
returns-clause-paid c = worked.paid

pub returns-clause-unpaid : goal.returns-clause-unpaid
returns-clause-unpaid c = worked.unpaid
