use Rattle.std.proofs.Common.{◌≡◌, ℕ, ◌+◌, ◌≤◌}
use Rattle.vm_shadow.specs.Chains.{IsDeep, height}
use Rattle.vm_shadow.proofs.chains.Chains.depth.Given as goal

abbrev pub invariant-down : goal.invariant-down
invariant-down l = (l.depth + height l.self l.object.0 ≤ height l.self l.initial.object.0 + 1)
    × ((n whole : ℕ) → IsDeep l.self l.object.0 n → whole + 1 ≡ l.depth + n → IsDeep l.self l.initial.object.0 whole)

abbrev pub decreases-down : goal.decreases-down
decreases-down l = height l.self l.object.0
