use Rattle.std.proofs.Common.{◌≤◌, length}
use Rattle.vm_top.specs.Summary.{IsSummary}
use Rattle.vm_top.specs.Writing.{oldest_items}
use Rattle.vm_top.proofs.summary.Summary.of.Given as goal

abbrev pub invariant-loop-i : goal.invariant-loop-i
invariant-loop-i l = record {
  inside : l.i ≤ length l.history.items;
  counted : IsSummary l.summary (oldest_items l.i l.history.items);
}
