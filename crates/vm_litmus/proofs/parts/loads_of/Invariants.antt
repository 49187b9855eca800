use Rattle.std.proofs.Common.{◌≡◌, take}
use Rattle.vm_litmus.specs.Parts.{loads_of}
use Rattle.vm_litmus.proofs.parts.loads_of.Given as goal

abbrev pub invariant-loop-access : goal.invariant-loop-access
invariant-loop-access l = l.loads.items ≡ loads_of (take l.access-index l.accesses)
