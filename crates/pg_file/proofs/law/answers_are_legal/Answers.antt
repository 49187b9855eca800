use Rattle.pg_file.proofs.Carrying.{carries, empty, others_carry}
use Rattle.pg_file.proofs.Causes.{caches, causes, cleans}
use Rattle.pg_file.proofs.Debts.{paid}
use Rattle.pg_file.proofs.Standing.{cache_stands, clean_stands, others, stands, start}
use Rattle.pg_file.proofs.law.answers_are_legal.Goals as goal

pub returns-clause-start : goal.returns-clause-start
returns-clause-start c = start

pub returns-clause-stands : goal.returns-clause-stands
returns-clause-stands c = stands

pub returns-clause-others : goal.returns-clause-others
returns-clause-others c = others

pub returns-clause-clean_stands : goal.returns-clause-clean_stands
returns-clause-clean_stands c = clean_stands

pub returns-clause-cache_stands : goal.returns-clause-cache_stands
returns-clause-cache_stands c = cache_stands

pub returns-clause-causes : goal.returns-clause-causes
returns-clause-causes c = causes

pub returns-clause-paid : goal.returns-clause-paid
returns-clause-paid c = paid

pub returns-clause-cleans : goal.returns-clause-cleans
returns-clause-cleans c = cleans

pub returns-clause-caches : goal.returns-clause-caches
returns-clause-caches c = caches

pub returns-clause-carries : goal.returns-clause-carries
returns-clause-carries c = carries

pub returns-clause-others_carry : goal.returns-clause-others_carry
returns-clause-others_carry c = others_carry

pub returns-clause-empty : goal.returns-clause-empty
returns-clause-empty c = empty
