use Rattle.vm_kernel.proofs.parts.Parts.deallocate.Given as goal

abbrev pub ghost-sweep_and_merge : goal.ghost-sweep_and_merge
ghost-sweep_and_merge g a = g.given
