use Rattle.vm_system.proofs.state.State.acting.Given as goal

abbrev pub ghost-host_for : goal.ghost-host_for
ghost-host_for g a = g.given
