use Rattle.std.proofs.Common.{◌≡◌, [], take}
use Rattle.vm_explore.specs.Outcomes.{loaded_by}
use Rattle.vm_explore.proofs.outcomes.take_first.Given as goal

abbrev pub invariant-loop-i : goal.invariant-loop-i
invariant-loop-i l = record {
  same : l.left.items ≡ l.fn.left.items;
  none : loaded_by l.task (take l.i l.fn.left.items) ≡ [];
}
