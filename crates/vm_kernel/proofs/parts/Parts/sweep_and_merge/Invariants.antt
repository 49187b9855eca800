use Rattle.vm_kernel.proofs.parts.Parts.sweep_and_merge.Given as goal

abbrev pub ghost-sweep : goal.ghost-sweep
ghost-sweep g a = g.given

abbrev pub ghost-merge : goal.ghost-merge
ghost-merge g a = g.given
