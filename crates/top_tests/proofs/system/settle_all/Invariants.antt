use Rattle.top_tests.proofs.system.settle_all.Given as goal

abbrev pub ghost-step : goal.ghost-step
ghost-step g a = g.given

abbrev pub ghost-take_all : goal.ghost-take_all
ghost-take_all g a = g.given
