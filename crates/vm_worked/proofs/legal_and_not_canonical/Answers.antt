use Rattle.vm_worked.proofs.Swapped.{legal, not_canonical}
use Rattle.vm_worked.proofs.legal_and_not_canonical.Goals as goal

pub returns-clause-legal : goal.returns-clause-legal
returns-clause-legal c = legal

pub returns-clause-not_canonical : goal.returns-clause-not_canonical
returns-clause-not_canonical c = not_canonical
