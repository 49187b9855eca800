use Rattle.std.proofs.Common.{arith}
use Rattle.vm_tables.proofs.Shipped.{shipped_act, shipped_covers}
use Rattle.vm_tables.proofs.rows.lock_act.Goals as goal

pub pick-requires : goal.pick-requires
pick-requires c = (omega arith, shipped_covers)

pub returns : goal.returns
returns c = shipped_act c.args.case c.pick.result c.pick.ensures
