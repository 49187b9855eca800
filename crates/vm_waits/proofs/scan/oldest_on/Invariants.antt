use Rattle.std.proofs.Common.{◌≡◌, drop}
use Rattle.vm_waits.specs.Waits.{oldest_row, waits_page}
use Rattle.vm_waits.proofs.scan.oldest_on.Given as goal

abbrev pub invariant-all : goal.invariant-all
invariant-all l = oldest_row (waits_page l.key) (drop l.row-index l.rows) ≡ oldest_row (waits_page l.key) l.rows
