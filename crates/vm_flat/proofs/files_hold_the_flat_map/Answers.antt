use Rattle.vm_flat.proofs.Staying.{none_here}
use Rattle.vm_flat.proofs.files_hold_the_flat_map.Goals as goal

pub returns-clause-away : goal.returns-clause-away
returns-clause-away c = none_here
