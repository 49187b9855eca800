use Rattle.vm_coherence.proofs.Protocol.{completed_awaited, ended_awaited, ended_unasked, one_request, one_unlock}
use Rattle.vm_coherence.proofs.protocol_law.Goals as goal

pub returns-clause-one_request : goal.returns-clause-one_request
returns-clause-one_request c = one_request

pub returns-clause-one_unlock : goal.returns-clause-one_unlock
returns-clause-one_unlock c = one_unlock

pub returns-clause-completed : goal.returns-clause-completed
returns-clause-completed c = completed_awaited

pub returns-clause-ended_unasked : goal.returns-clause-ended_unasked
returns-clause-ended_unasked c = ended_unasked

pub returns-clause-ended : goal.returns-clause-ended
returns-clause-ended c = ended_awaited
