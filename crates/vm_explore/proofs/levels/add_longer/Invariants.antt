use Rattle.std.proofs.Common.{◌≡◌, ◌++◌, take}
use Rattle.vm_explore.specs.Levels.{lists, longer_by}
use Rattle.vm_explore.proofs.levels.add_longer.Given as goal

abbrev pub invariant-loop-task : goal.invariant-loop-task
invariant-loop-task l = lists l.found.items ≡ lists l.fn.found.items ++ longer_by l.tasks (take l.task-index l.kinds) l.order
