use Rattle.std.proofs.Common.{◌-◌}
use Rattle.std.specs.Prelude.{bit_and}
use Rattle.vm_sets.proofs.Bits.{Seeks}
use Rattle.vm_sets.proofs.page_places.PagePlaces.seek.Given as goal
use Rattle.vm_sets.specs.Places.{word_in}

abbrev pub invariant-groups : goal.invariant-groups
invariant-groups l = Seeks (word_in l.self l.mark l.object.0) l.walk.from l.group (bit_and (word_in l.self l.mark l.object.0 l.group) l.mask)

abbrev pub decreases-groups : goal.decreases-groups
decreases-groups l = l.walk.end - l.group
