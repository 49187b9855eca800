use Rattle.std.proofs.Common.{◌≡◌, drop, slice_get}
use Rattle.vm_litmus.specs.Parts.{accesses_by}
use Rattle.vm_litmus.proofs.parts.access_number.Given as goal

abbrev pub invariant-loop-access : goal.invariant-loop-access
invariant-loop-access l = slice_get (accesses_by l.task (drop l.access-index l.accesses)) l.left ≡ slice_get (accesses_by l.task l.accesses) l.number
