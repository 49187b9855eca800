use Rattle.vm_kernel.proofs.Common.{by_address, copies_from, drop, ◌≡◌}
use Rattle.vm_kernel.proofs.copying.copies_from.Given as goal

abbrev pub invariant-all : goal.invariant-all
invariant-all l = copies_from l.region.0 (drop l.i (by_address l.entries)) ≡ copies_from l.fn.region.0 (drop l.fn.from (by_address l.fn.entries))
