use Rattle.std.proofs.Common.{length, ◌-◌, ◌≡◌}
use Rattle.vm_kernel.proofs.controls.AccessesWoken.{WakesSome}
use Rattle.vm_waits.specs.Waits.{count_again}
use Rattle.vm_kernel.proofs.parts.Parts.wake_on.Given as goal

abbrev pub invariant-all : goal.invariant-all
invariant-all l = record {
  some : WakesSome l.self.maps l.object.0 l.fn.self.waits l.self.waits;
  same : l.self ≡ record l.fn.self { waits = l.self.waits };
}

abbrev pub decreases-all : goal.decreases-all
decreases-all l = length l.self.waits.rows - count_again l.self.waits.rows
