use Rattle.vm_system.proofs.state.State.pass.Given as goal

abbrev pub ghost-asked : goal.ghost-asked
ghost-asked g a = g.given

abbrev pub ghost-serve : goal.ghost-serve
ghost-serve g a = g.given
