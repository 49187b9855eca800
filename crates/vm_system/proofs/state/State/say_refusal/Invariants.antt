use Rattle.vm_system.proofs.state.State.say_refusal.Given as goal

abbrev pub ghost-control : goal.ghost-control
ghost-control g a = g.given

abbrev pub ghost-kind : goal.ghost-kind
ghost-kind g a = g.given
