use Rattle.std.proofs.Common.{◌-◌, ◌≡◌, drop, length, reverse}
use Rattle.vm_maps.specs.Rows.{is_without_gap, passed}
use Rattle.vm_maps.proofs.search.is_covered.Given as goal

abbrev pub invariant-walk : goal.invariant-walk
invariant-walk l =
    is_without_gap l.reached l.to (drop l.i (reverse l.entries.items)) ≡ is_without_gap l.fn.from l.fn.to
    (drop (passed l.fn.from (reverse l.entries.items)) (reverse l.entries.items))

abbrev pub decreases-walk : goal.decreases-walk
decreases-walk l = length l.entries.items - l.i
