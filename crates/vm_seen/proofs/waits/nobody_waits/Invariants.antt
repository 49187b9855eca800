use Rattle.vm_seen.specs.Behind.{oldest_items}
use Rattle.vm_seen.specs.Waits.{AreWaiting}
use Rattle.vm_seen.proofs.waits.nobody_waits.Given as goal

abbrev pub invariant-loop-i : goal.invariant-loop-i
invariant-loop-i l = AreWaiting l.tasks.items (oldest_items l.i l.history.items)
