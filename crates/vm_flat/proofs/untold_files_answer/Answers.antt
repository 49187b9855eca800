-- Loads answer the flat map of the files as if they were told.
use Rattle.vm_flat.proofs.Told.{told_answers}
use Rattle.vm_flat.proofs.untold_files_answer.Goals as goal

pub returns-clause-answers : goal.returns-clause-answers
returns-clause-answers c = told_answers
