use Rattle.vm_legal.proofs.Turns.{legal_of}
use Rattle.vm_legal.proofs.canonical_histories_are_legal.Goals as goal

pub returns-clause-whole : goal.returns-clause-whole
returns-clause-whole c = legal_of
