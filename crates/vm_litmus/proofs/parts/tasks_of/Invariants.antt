use Rattle.std.proofs.Common.{◌≡◌, take}
use Rattle.vm_litmus.specs.Parts.{tasks_of}
use Rattle.vm_litmus.proofs.parts.tasks_of.Given as goal

abbrev pub invariant-loop-access : goal.invariant-loop-access
invariant-loop-access l = l.tasks.items ≡ tasks_of (take l.access-index l.accesses)
