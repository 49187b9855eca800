use Rattle.vm_kernel.proofs.kernel.Kernel.laundered.Given as goal

abbrev pub ghost-launder : goal.ghost-launder
ghost-launder g a = g.given
