use Rattle.std.proofs.Common.{◌≡◌, drop}
use Rattle.vm_kernel.specs.Freeing.{pushes_into}
use Rattle.vm_waits.specs.Waits.{oldest_row}
use Rattle.vm_kernel.proofs.freeing.next_freed.Given as goal

abbrev pub invariant-all : goal.invariant-all
invariant-all l = oldest_row (pushes_into l.copy) (drop l.waiting-index l.rows) ≡ oldest_row (pushes_into l.copy) l.rows
