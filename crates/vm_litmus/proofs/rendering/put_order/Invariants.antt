use Rattle.std.proofs.Common.{◌≡◌, ◌++◌, codes, take}
use Rattle.vm_litmus.specs.Text.{fields}
use Rattle.vm_litmus.proofs.rendering.put_order.Given as goal

abbrev pub invariant-loop-line : goal.invariant-loop-line
invariant-loop-line l = l.text.items ≡ l.fn.text.items ++ (codes "order" ++ fields (take l.line-index l.lines))
