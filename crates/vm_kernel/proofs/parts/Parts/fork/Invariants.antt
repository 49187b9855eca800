use Rattle.vm_kernel.proofs.parts.Parts.fork.Given as goal

abbrev pub ghost-fork_entries : goal.ghost-fork_entries
ghost-fork_entries g a = record { header = g.given.header; host = g.given.host; outside = g.given.outside; past = g.given.past }

abbrev pub ghost-restart : goal.ghost-restart
ghost-restart g a = g.given
