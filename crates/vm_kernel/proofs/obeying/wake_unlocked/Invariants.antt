use Rattle.std.proofs.Common.{◌≡◌, map}
use Rattle.vm_kernel.specs.Taking.{is_unlocked}
use Rattle.vm_waits.specs.Waits.{count_rows, woken}
use Rattle.vm_kernel.proofs.obeying.wake_unlocked.Given as goal

abbrev pub invariant-all : goal.invariant-all
invariant-all l =
    (map (woken (is_unlocked l.resident l.object.0 l.page.0 l.count)) l.waits.rows ≡ map (woken (is_unlocked l.resident l.object.0 l.page.0 l.count))
    l.fn.waits.rows) × (l.waits.queue ≡ l.fn.waits.queue)

abbrev pub decreases-all : goal.decreases-all
decreases-all l = count_rows (is_unlocked l.resident l.object.0 l.page.0 l.count) l.waits.rows
