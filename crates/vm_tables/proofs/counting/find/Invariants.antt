use Rattle.std.proofs.Common.{◌≡◌, drop}
use Rattle.vm_tables.specs.Counting.{act_in}
use Rattle.vm_tables.proofs.counting.find.Given as goal

abbrev pub invariant-all : goal.invariant-all
invariant-all l = act_in l.case (drop l.row-index l.rows) ≡ act_in l.case l.rows
