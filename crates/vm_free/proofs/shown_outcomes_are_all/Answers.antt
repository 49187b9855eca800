use Rattle.vm_free.proofs.Law.{shown_outcomes_are_all}
use Rattle.vm_free.proofs.shown_outcomes_are_all.Goals as goal

pub returns : goal.returns
returns c = shown_outcomes_are_all
