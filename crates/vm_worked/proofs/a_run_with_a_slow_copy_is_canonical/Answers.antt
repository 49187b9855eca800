use Rattle.vm_legal.proofs.Turns.{legal_of}
use Rattle.vm_worked.specs.Worked as worked
use Rattle.vm_worked.proofs.SlowCopy.{canonical}
use Rattle.vm_worked.proofs.a_run_with_a_slow_copy_is_canonical.Goals as goal

pub returns-clause-canonical : goal.returns-clause-canonical
returns-clause-canonical c = canonical

pub returns-clause-legal : goal.returns-clause-legal
returns-clause-legal c = legal_of worked.header worked.outside worked.commands worked.history canonical
