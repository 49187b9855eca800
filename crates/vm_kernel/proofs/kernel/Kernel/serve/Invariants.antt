use Rattle.vm_kernel.proofs.kernel.Kernel.serve.Given as goal

abbrev pub ghost-go_on : goal.ghost-go_on
ghost-go_on g a = g.given
