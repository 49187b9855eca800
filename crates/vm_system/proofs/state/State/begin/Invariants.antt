use Rattle.vm_system.proofs.state.State.begin.Given as goal

abbrev pub ghost-begin : goal.ghost-begin
ghost-begin g a = g.given
