use Rattle.std.proofs.Common.{inl}
use Rattle.vm_top.proofs.Ends.{held_ranges}
use Rattle.vm_top.proofs.Making.{made_runnable}
use Rattle.vm_top.proofs.top.generate.Goals as goal

pub run_read-requires-clause-run : goal.run_read-requires-clause-run
run_read-requires-clause-run g c = made_runnable c.args.number c.args.lines c.in-Ok.script c.in-Ok.ensures.made c.in-Ok.ensures.ranges

pub returns-in-Ok-clause-ranges : goal.returns-in-Ok-clause-ranges
returns-in-Ok-clause-ranges g c = held_ranges _ c.in-Ok.script c.run_read.ensures.ended.held c.in-Ok.ensures.ranges

pub returns-in-Ok-clause-generates : goal.returns-in-Ok-clause-generates
returns-in-Ok-clause-generates g c = inl (record { run = c.in-Ok.script; made = c.in-Ok.ensures.made; ended = c.run_read.ensures.ended })
