use Rattle.vm_system.proofs.state.State.say.Given as goal

abbrev pub ghost-control : goal.ghost-control
ghost-control g a = g.given
