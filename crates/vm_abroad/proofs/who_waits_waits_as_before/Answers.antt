use Rattle.vm_abroad.proofs.Waits.{full_now, vain_now}
use Rattle.vm_abroad.proofs.who_waits_waits_as_before.Goals as goal

pub returns-clause-full : goal.returns-clause-full
returns-clause-full c = full_now

pub returns-clause-vain : goal.returns-clause-vain
returns-clause-vain c = vain_now
