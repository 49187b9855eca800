use Rattle.vm_kernel.proofs.abroad.OthersEvents.{prompt_abroad, queue_abroad, rests_abroad}
use Rattle.vm_kernel.proofs.others.others_leave_the_kernel.Goals as goal

pub returns-clause-rests : goal.returns-clause-rests
returns-clause-rests c header outside h k ids next events past sound rests abroad common =
    rests_abroad header outside h k ids events past sound rests abroad next common

pub returns-clause-queue : goal.returns-clause-queue
returns-clause-queue c = queue_abroad

pub returns-clause-prompt : goal.returns-clause-prompt
returns-clause-prompt c = prompt_abroad
