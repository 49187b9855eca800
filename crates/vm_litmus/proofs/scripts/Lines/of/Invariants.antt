use Rattle.std.proofs.Common.{◌≤◌}
use Rattle.vm_litmus.proofs.scripts.Lines.of.Given as goal

abbrev pub invariant-loop-i : goal.invariant-loop-i
invariant-loop-i l = l.from ≤ l.i
