use Rattle.vm_system.proofs.state.State.cache_refusal.Given as goal

abbrev pub ghost-kind : goal.ghost-kind
ghost-kind g a = g.given
