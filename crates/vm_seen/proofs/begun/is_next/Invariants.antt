use Rattle.std.proofs.Common.{◌≡◌, ◌≤◌, length}
use Rattle.vm_free.specs.Free.{accesses_of}
use Rattle.vm_seen.specs.Behind.{later_of, oldest_items}
use Rattle.vm_seen.proofs.begun.is_next.Given as goal

abbrev pub invariant-loop-i : goal.invariant-loop-i
invariant-loop-i l = record {
  few : l.passed ≤ l.i;
  short : l.passed ≤ l.count;
  counted : l.passed ≡ length (accesses_of l.begun.task (later_of l.from (oldest_items l.i l.commands.items)));
}
