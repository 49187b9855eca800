use Rattle.std.proofs.Common.{◌≡◌, ◌+◌, ◌≤◌, drop}
use Rattle.vm_tables.specs.Counting.{count_of}
use Rattle.vm_tables.proofs.counting.stands_once.Given as goal

abbrev pub invariant-all : goal.invariant-all
invariant-all l = (l.count + count_of l.case (drop l.row-index l.rows) ≡ count_of l.case l.rows) × (l.count ≤ l.row-index)
