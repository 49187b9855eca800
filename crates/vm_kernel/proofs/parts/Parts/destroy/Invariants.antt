use Rattle.vm_kernel.proofs.Common.{◌++◌}
use Rattle.vm_kernel.proofs.parts.Parts.destroy.Given as goal

abbrev pub ghost-empty : goal.ghost-empty
ghost-empty g a = g.given

abbrev pub ghost-fail_unserved : goal.ghost-fail_unserved
ghost-fail_unserved g a =
    record { header = g.given.header; host = g.given.host; outside = g.given.outside; past = g.given.front ++ g.given.past; command = g.given.command }
