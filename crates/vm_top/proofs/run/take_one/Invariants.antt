use Rattle.vm_top.proofs.run.take_one.Given as goal

abbrev pub ghost-take_oldest : goal.ghost-take_oldest
ghost-take_oldest g a =
    record { header = g.given.running.script.header; outside = g.given.running.outside; command = g.given.command; past = a.self.now.history.items }
