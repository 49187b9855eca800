use Rattle.vm_kernel.proofs.Common.{◌++◌}
use Rattle.vm_kernel.proofs.parts.Parts.take.Given as goal

abbrev pub ghost-heed : goal.ghost-heed
ghost-heed g a = g.given

abbrev pub ghost-wake : goal.ghost-wake
ghost-wake g a =
    record { header = g.given.header; host = g.given.host; outside = g.given.outside; past = g.given.front ++ g.given.past; command = g.given.command }

abbrev pub ghost-restart : goal.ghost-restart
ghost-restart g a =
    record { header = g.given.header; host = g.given.host; outside = g.given.outside; past = g.given.front ++ g.given.past; command = g.given.command }
