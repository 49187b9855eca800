use Rattle.std.proofs.Common.{◌≡◌, drop}
use Rattle.vm_waits.specs.Waits.{is_again, oldest_row}
use Rattle.vm_waits.proofs.scan.oldest_again.Given as goal

abbrev pub invariant-all : goal.invariant-all
invariant-all l = oldest_row is_again (drop l.row-index l.rows) ≡ oldest_row is_again l.rows
