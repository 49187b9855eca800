use Rattle.std.proofs.Common.{◌≡◌, ◌++◌}
use Rattle.vm_litmus.specs.Parts.{lines_of}
use Rattle.vm_litmus.proofs.InOrder.{lines_behind}
use Rattle.vm_litmus.proofs.parts.lines_of.Given as goal

abbrev pub invariant-loop-i : goal.invariant-loop-i
invariant-loop-i l = l.lines.items ++ lines_behind l.accesses l.order l.i ≡ lines_of l.accesses l.order
