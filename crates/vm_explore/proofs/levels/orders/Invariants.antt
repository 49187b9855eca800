use Rattle.std.proofs.Common.{◌≡◌}
use Rattle.vm_explore.specs.Levels.{level, lists}
use Rattle.vm_explore.proofs.levels.orders.Given as goal

abbrev pub invariant-loop : goal.invariant-loop
invariant-loop l = lists l.found.items ≡ level l.tasks l.kinds.items l.index
