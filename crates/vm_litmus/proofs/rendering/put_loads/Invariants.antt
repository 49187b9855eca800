use Rattle.std.proofs.Common.{◌≡◌, ◌++◌}
use Rattle.vm_litmus.specs.Text.{loads_text}
use Rattle.vm_litmus.proofs.Outcomes.{left_text}
use Rattle.vm_litmus.proofs.rendering.put_loads.Given as goal

abbrev pub invariant-loop-i : goal.invariant-loop-i
invariant-loop-i l = l.text.items ++ left_text l.i l.loads l.values ≡ l.fn.text.items ++ loads_text l.loads l.values
