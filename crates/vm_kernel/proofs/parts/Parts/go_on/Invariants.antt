use Rattle.vm_kernel.proofs.parts.Parts.go_on.Given as goal

abbrev pub ghost-serve : goal.ghost-serve
ghost-serve g a = g.given
