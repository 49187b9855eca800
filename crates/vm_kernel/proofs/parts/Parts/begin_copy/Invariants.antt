use Rattle.vm_kernel.proofs.parts.Parts.begin_copy.Given as goal

abbrev pub ghost-restart : goal.ghost-restart
ghost-restart g a = g.given
