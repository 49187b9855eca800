use Rattle.vm_shared.proofs.Protocol.{completed_mine, ended_mine, request_alone, unlock_alone}
use Rattle.vm_shared.proofs.takings_keep_the_protocol.Goals as goal

-- src/lib.rt:61:1
pub returns-clause-request : goal.returns-clause-request
returns-clause-request c = request_alone

-- src/lib.rt:61:1
pub returns-clause-unlock : goal.returns-clause-unlock
returns-clause-unlock c = unlock_alone

-- src/lib.rt:61:1
pub returns-clause-completed : goal.returns-clause-completed
returns-clause-completed c = completed_mine

-- src/lib.rt:61:1
pub returns-clause-ended : goal.returns-clause-ended
returns-clause-ended c = ended_mine
