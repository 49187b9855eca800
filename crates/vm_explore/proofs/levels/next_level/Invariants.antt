use Rattle.std.proofs.Common.{◌≡◌, take}
use Rattle.std.specs.List.{flat_map}
use Rattle.vm_explore.specs.Levels.{lists, longer_by}
use Rattle.vm_explore.proofs.levels.next_level.Given as goal

abbrev pub invariant-loop-order : goal.invariant-loop-order
invariant-loop-order l = lists l.found.items ≡ flat_map (longer_by l.tasks l.kinds) (lists (take l.order-index l.orders))
