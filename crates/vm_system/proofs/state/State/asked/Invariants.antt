use Rattle.vm_system.proofs.state.State.asked.Given as goal

abbrev pub ghost-say : goal.ghost-say
ghost-say g a = record { header = g.given.header; outside = g.given.outside; command = g.given.command; past = a.self.now.history.items }
