use Rattle.vm_quiet.proofs.Unended.{unended_unprompted}
use Rattle.vm_worked.proofs.a_copy_that_never_ends_is_not_legal.Goals as goal

pub returns : goal.returns
returns c = λ commands is. unended_unprompted is.rests.prompt
