use Rattle.vm_quiet.proofs.Full.{full_causes, full_delivered, full_paged, full_paid, full_prompt, full_steps, full_waits}
use Rattle.vm_quiet.proofs.full_run.Goals as goal

pub returns-clause-paged : goal.returns-clause-paged
returns-clause-paged c = full_paged

pub returns-clause-causes : goal.returns-clause-causes
returns-clause-causes c = full_causes

pub returns-clause-steps : goal.returns-clause-steps
returns-clause-steps c = full_steps

pub returns-clause-paid : goal.returns-clause-paid
returns-clause-paid c = full_paid

pub returns-clause-prompt : goal.returns-clause-prompt
returns-clause-prompt c = full_prompt

pub returns-clause-delivered : goal.returns-clause-delivered
returns-clause-delivered c = full_delivered

pub returns-clause-waits : goal.returns-clause-waits
returns-clause-waits c = full_waits
