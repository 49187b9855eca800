use Rattle.vm_system.proofs.state.State.follow.Given as goal

abbrev pub ghost-follow : goal.ghost-follow
ghost-follow g a = g.given
