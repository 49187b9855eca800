use Rattle.pg_default.proofs.Carrying.{carries}
use Rattle.pg_default.proofs.Causes.{causes}
use Rattle.pg_default.proofs.Debts.{paid}
use Rattle.pg_default.proofs.Others.{empty, others, others_carry}
use Rattle.pg_default.proofs.Standing.{stands}
use Rattle.pg_default.proofs.law.answers_are_legal.Goals as goal

pub returns-clause-stands : goal.returns-clause-stands
returns-clause-stands c = stands

pub returns-clause-others : goal.returns-clause-others
returns-clause-others c = others

pub returns-clause-causes : goal.returns-clause-causes
returns-clause-causes c = causes

pub returns-clause-paid : goal.returns-clause-paid
returns-clause-paid c = paid

pub returns-clause-carries : goal.returns-clause-carries
returns-clause-carries c = carries

pub returns-clause-others_carry : goal.returns-clause-others_carry
returns-clause-others_carry c = others_carry

pub returns-clause-empty : goal.returns-clause-empty
returns-clause-empty c = empty
