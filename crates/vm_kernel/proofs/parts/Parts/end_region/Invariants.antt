use Rattle.vm_kernel.proofs.parts.Parts.end_region.Given as goal

abbrev pub ghost-end_object : goal.ghost-end_object
ghost-end_object g a = g.given
