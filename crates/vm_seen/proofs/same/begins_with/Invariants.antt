use Rattle.std.proofs.Common.{◌≡◌}
use Rattle.vm_seen.specs.Behind.{oldest_items}
use Rattle.vm_seen.proofs.same.begins_with.Given as goal

abbrev pub invariant-loop-i : goal.invariant-loop-i
invariant-loop-i l = oldest_items l.i l.history.items ≡ oldest_items l.i l.start.items
