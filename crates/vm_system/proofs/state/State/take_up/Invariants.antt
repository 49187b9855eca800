use Rattle.vm_system.proofs.state.State.take_up.Given as goal

abbrev pub ghost-take_filed : goal.ghost-take_filed
ghost-take_filed g a = g.given

abbrev pub ghost-take_paged : goal.ghost-take_paged
ghost-take_paged g a = g.given

abbrev pub ghost-take_shared : goal.ghost-take_shared
ghost-take_shared g a = g.given

abbrev pub ghost-kind : goal.ghost-kind
ghost-kind g a = g.given

abbrev pub ghost-take_wild : goal.ghost-take_wild
ghost-take_wild g a = g.given
