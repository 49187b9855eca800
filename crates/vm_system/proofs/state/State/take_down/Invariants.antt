use Rattle.vm_system.proofs.state.State.take_down.Given as goal

abbrev pub ghost-take : goal.ghost-take
ghost-take g a = g.given
