use Rattle.vm_quiet.proofs.Unanswered.{wild_answered, wild_causes, wild_delivered, wild_kinds, wild_paid, wild_prompt, wild_steps, wild_unready, wild_waits}
use Rattle.vm_quiet.proofs.unanswered_run.Goals as goal

pub returns-clause-kinds : goal.returns-clause-kinds
returns-clause-kinds c = wild_kinds

pub returns-clause-causes : goal.returns-clause-causes
returns-clause-causes c = wild_causes

pub returns-clause-steps : goal.returns-clause-steps
returns-clause-steps c = wild_steps

pub returns-clause-paid : goal.returns-clause-paid
returns-clause-paid c = wild_paid

pub returns-clause-shared : goal.returns-clause-shared
returns-clause-shared c = wild_answered

pub returns-clause-prompt : goal.returns-clause-prompt
returns-clause-prompt c = wild_prompt

pub returns-clause-delivered : goal.returns-clause-delivered
returns-clause-delivered c = wild_delivered

pub returns-clause-unanswered : goal.returns-clause-unanswered
returns-clause-unanswered c = wild_waits

pub returns-clause-unready : goal.returns-clause-unready
returns-clause-unready c = wild_unready
