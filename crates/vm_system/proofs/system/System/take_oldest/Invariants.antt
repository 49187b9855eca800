use Rattle.vm_system.proofs.system.System.take_oldest.Given as goal

abbrev pub ghost-take : goal.ghost-take
ghost-take g a = g.given
