use Rattle.vm_coherence.proofs.Locals.{asked_live, ended_live, local_bytes, one_writer, side_is_local}
use Rattle.vm_coherence.proofs.local_law.Goals as goal

pub returns-clause-page : goal.returns-clause-page
returns-clause-page c = side_is_local

pub returns-clause-one_writer : goal.returns-clause-one_writer
returns-clause-one_writer c = one_writer

pub returns-clause-same_bytes : goal.returns-clause-same_bytes
returns-clause-same_bytes c = local_bytes

pub returns-clause-asked : goal.returns-clause-asked
returns-clause-asked c = asked_live

pub returns-clause-ended : goal.returns-clause-ended
returns-clause-ended c = ended_live
