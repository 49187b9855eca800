use Rattle.std.proofs.Common.{◌-◌}
use Rattle.vm_sets.proofs.Bits.{Seeks}
use Rattle.vm_sets.specs.Groups.{bits_in, group_in}
use Rattle.vm_sets.proofs.page_groups.PageGroups.first.Given as goal

abbrev pub invariant-groups : goal.invariant-groups
invariant-groups l = Seeks (λ g. bits_in l.marked (group_in l.fn.self l.fn.object.0 g)) l.fn.from.0 l.group l.bits

abbrev pub decreases-groups : goal.decreases-groups
decreases-groups l = l.self-inside.end - l.group
