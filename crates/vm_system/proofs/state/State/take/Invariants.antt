use Rattle.vm_system.proofs.state.State.take.Given as goal

abbrev pub ghost-take_up : goal.ghost-take_up
ghost-take_up g a = g.given

abbrev pub ghost-take_down : goal.ghost-take_down
ghost-take_down g a = g.given
