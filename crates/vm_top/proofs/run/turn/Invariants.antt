use Rattle.vm_top.proofs.run.turn.Given as goal

abbrev pub ghost-step : goal.ghost-step
ghost-step g a = record { header = g.given.script.header; outside = g.given.outside }
