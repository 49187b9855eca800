use Rattle.vm_kernel.proofs.kernel.Kernel.begin.Given as goal

abbrev pub ghost-run : goal.ghost-run
ghost-run g a = g.given
