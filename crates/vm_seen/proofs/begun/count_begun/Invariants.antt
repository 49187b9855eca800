use Rattle.std.proofs.Common.{◌≡◌, ◌≤◌, length}
use Rattle.vm_free.specs.Free.{begun}
use Rattle.vm_seen.specs.Behind.{later_of, oldest_items}
use Rattle.vm_seen.proofs.begun.count_begun.Given as goal

abbrev pub invariant-loop-i : goal.invariant-loop-i
invariant-loop-i l = record {
  few : l.count ≤ l.i;
  counted : l.count ≡ length (begun l.task (later_of l.from (oldest_items l.i l.history.items)));
}
