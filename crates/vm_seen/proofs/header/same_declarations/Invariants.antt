use Rattle.std.proofs.Common.{◌≡◌}
use Rattle.vm_seen.specs.Behind.{oldest_items}
use Rattle.vm_seen.proofs.header.same_declarations.Given as goal

abbrev pub invariant-loop-i : goal.invariant-loop-i
invariant-loop-i l = oldest_items l.i l.a.items ≡ oldest_items l.i l.b.items
