use Rattle.std.proofs.Common.{◌≡◌}
use Rattle.vm_gen.specs.Made.{add_lines, allocate_line}
use Rattle.vm_gen.proofs.opening.allocate.Given as goal

abbrev pub invariant-loop-t : goal.invariant-loop-t
invariant-loop-t l = l.commands.items ≡ add_lines allocate_line 17 l.t l.fn.commands.items
