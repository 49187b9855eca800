use Rattle.std.proofs.Common.{◌≡◌, drop}
use Rattle.vm_kernel.specs.Taking.{is_unlocked}
use Rattle.vm_waits.specs.Waits.{oldest_row}
use Rattle.vm_kernel.proofs.obeying.next_unlocked.Given as goal

abbrev pub invariant-all : goal.invariant-all
invariant-all l =
    oldest_row (is_unlocked l.resident l.object.0 l.page.0 l.count) (drop l.waiting-index l.rows) ≡ oldest_row
    (is_unlocked l.resident l.object.0 l.page.0 l.count) l.rows
