use Rattle.std.proofs.Common.{◌≡◌, drop}
use Rattle.vm_kernel.specs.Destroying.{oldest_on}
use Rattle.vm_kernel.proofs.parts.Parts.next_on.Given as goal

abbrev pub invariant-all : goal.invariant-all
invariant-all l = oldest_on l.self.maps l.object.0 (drop l.waiting-index l.rows) ≡ oldest_on l.self.maps l.object.0 l.rows
