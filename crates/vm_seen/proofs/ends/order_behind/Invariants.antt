use Rattle.std.proofs.Common.{◌≡◌, reverse}
use Rattle.vm_free.specs.Orders.{order_of}
use Rattle.vm_seen.specs.Behind.{later_of, oldest_items}
use Rattle.vm_seen.proofs.ends.order_behind.Given as goal

abbrev pub invariant-loop-i : goal.invariant-loop-i
invariant-loop-i l = reverse l.order.items ≡ order_of (later_of l.from (oldest_items l.i l.history.items))
