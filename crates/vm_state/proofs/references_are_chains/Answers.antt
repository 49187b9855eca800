use Rattle.vm_state.proofs.Chains.{leads_down, leads_up}
use Rattle.vm_state.proofs.references_are_chains.Goals as goal

pub returns-clause-up : goal.returns-clause-up
returns-clause-up c = leads_up

pub returns-clause-down : goal.returns-clause-down
returns-clause-down c = leads_down
