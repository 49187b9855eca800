use Rattle.vm_legal.proofs.Groups.{so_far, whole}
use Rattle.vm_legal.proofs.groups_have_causes.Goals as goal

pub returns-clause-whole : goal.returns-clause-whole
returns-clause-whole c = whole

pub returns-clause-so_far : goal.returns-clause-so_far
returns-clause-so_far c = so_far
