use Rattle.std.proofs.Common.{◌+◌, ◌≤◌}
use Rattle.vm_fault.specs.Stops.{Stands}
use Rattle.vm_fault.specs.Walks.{WalksTo}
use Rattle.vm_shadow.specs.Chains.{height}
use Rattle.vm_fault.proofs.walking.walk.Given as goal

abbrev pub invariant-down : goal.invariant-down
invariant-down l = record {
  walks : WalksTo l.parts l.chains l.steps l.fn.top.key l.spot.key;
  stands : Stands l.parts.objects l.spot;
  count : l.steps + height l.chains l.spot.key.object.0 ≤ height l.chains l.fn.top.key.object.0;
}

abbrev pub decreases-down : goal.decreases-down
decreases-down l = height l.chains l.spot.key.object.0
