use Rattle.std.proofs.Common.{ℕ, ◌≡◌, min, take}
use Rattle.vm_free.specs.Orders.{occurrences}
use Rattle.vm_explore.proofs.levels.kinds.Given as goal

abbrev pub invariant-loop-task : goal.invariant-loop-task
invariant-loop-task l = (t : ℕ) → occurrences t l.kinds.items ≡ min 1 (occurrences t (take l.task-index l.tasks))
