use Rattle.vm_kernel.proofs.parts.Parts.wake.Given as goal

abbrev pub ghost-fail : goal.ghost-fail
ghost-fail g a =
    record { header = g.given.header; host = g.given.host; outside = g.given.outside; past = g.given.past; command = g.given.command; page = a.key }
