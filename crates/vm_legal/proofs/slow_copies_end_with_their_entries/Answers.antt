use Rattle.vm_legal.proofs.Owing.{alone}
use Rattle.vm_legal.proofs.slow_copies_end_with_their_entries.Goals as goal

pub returns-clause-alone : goal.returns-clause-alone
returns-clause-alone c = alone
