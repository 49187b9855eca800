use Rattle.vm_kernel.proofs.parts.Parts.attempt.Given as goal

abbrev pub ghost-end_unserved : goal.ghost-end_unserved
ghost-end_unserved g a = g.given

abbrev pub ghost-run_access : goal.ghost-run_access
ghost-run_access g a = g.given
