use Rattle.std.proofs.Common.{◌≡◌}
use Rattle.vm_gen.specs.Made.{add_lines, task_line}
use Rattle.vm_gen.proofs.opening.make_tasks.Given as goal

abbrev pub invariant-loop-t : goal.invariant-loop-t
invariant-loop-t l = l.commands.items ≡ add_lines task_line 5 l.t l.fn.commands.items
