-- An access beside its page may not sleep.
use Rattle.vm_worked.proofs.an_access_beside_its_page_may_not_sleep.Goals as goal
use Rattle.vm_worked.proofs.Sleeping.{awaits, comes, free, sleeps}

pub returns-clause-awaits : goal.returns-clause-awaits
returns-clause-awaits c = awaits

pub returns-clause-comes : goal.returns-clause-comes
returns-clause-comes c = comes

pub returns-clause-free : goal.returns-clause-free
returns-clause-free c = free

pub returns-clause-not_canonical : goal.returns-clause-not_canonical
returns-clause-not_canonical c = sleeps
