use Rattle.vm_kernel.proofs.parts.Parts.heed.Given as goal

abbrev pub ghost-obey : goal.ghost-obey
ghost-obey g a = g.given

abbrev pub ghost-hear : goal.ghost-hear
ghost-hear g a = g.given

abbrev pub ghost-change : goal.ghost-change
ghost-change g a = g.given

abbrev pub ghost-ready : goal.ghost-ready
ghost-ready g a = g.given

abbrev pub ghost-destroy : goal.ghost-destroy
ghost-destroy g a = g.given
