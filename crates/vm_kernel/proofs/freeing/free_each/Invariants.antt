use Rattle.std.proofs.Common.{◌≡◌, map}
use Rattle.vm_kernel.specs.Freeing.{pushes_into}
use Rattle.vm_waits.specs.Waits.{count_rows, woken}
use Rattle.vm_kernel.proofs.freeing.free_each.Given as goal

abbrev pub invariant-all : goal.invariant-all
invariant-all l = record {
  rows : map (woken (pushes_into l.copy)) l.waits.rows ≡ map (woken (pushes_into l.copy)) l.fn.waits.rows;
  queue : l.waits.queue ≡ l.fn.waits.queue;
  room : l.waits.room ≡ l.fn.waits.room;
}

abbrev pub decreases-all : goal.decreases-all
decreases-all l = count_rows (pushes_into l.copy) l.waits.rows
