use Rattle.vm_system.proofs.system.System.step.Given as goal

abbrev pub ghost-step : goal.ghost-step
ghost-step g a = g.given
