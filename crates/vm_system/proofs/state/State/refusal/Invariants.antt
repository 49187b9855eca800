use Rattle.vm_system.proofs.state.State.refusal.Given as goal

abbrev pub ghost-clean_refusal : goal.ghost-clean_refusal
ghost-clean_refusal g a = g.given

abbrev pub ghost-cache_refusal : goal.ghost-cache_refusal
ghost-cache_refusal g a = g.given

abbrev pub ghost-refusal : goal.ghost-refusal
ghost-refusal g a = g.given

abbrev pub ghost-say_refusal : goal.ghost-say_refusal
ghost-say_refusal g a = g.given
