use Rattle.vm_kernel.proofs.kernel.Kernel.take.Given as goal

abbrev pub ghost-take : goal.ghost-take
ghost-take g a = g.given
