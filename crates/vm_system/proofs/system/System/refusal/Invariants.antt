use Rattle.vm_system.proofs.system.System.refusal.Given as goal

abbrev pub ghost-acting : goal.ghost-acting
ghost-acting g a = record { header = g.given.header; outside = g.given.outside; command = a.command.now; past = a.self.now.history.items }

abbrev pub ghost-refusal : goal.ghost-refusal
ghost-refusal g a = record { header = g.given.header; outside = g.given.outside; command = a.command.now; past = a.self.now.history.items }
