use Rattle.std.proofs.Common.{◌≡◌}
use Rattle.vm_gen.specs.Made.{add_lines, map_line}
use Rattle.vm_gen.proofs.opening.map_the_object.Given as goal

abbrev pub invariant-loop-t : goal.invariant-loop-t
invariant-loop-t l = l.commands.items ≡ add_lines map_line 11 l.t l.fn.commands.items
