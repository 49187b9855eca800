use Rattle.vm_kernel.proofs.Common.{by_address, drop, ◌≡◌}
use Rattle.vm_kernel.specs.Refusing.{meets_uncopied}
use Rattle.vm_kernel.proofs.copying.meets_uncopied.Given as goal

abbrev pub invariant-all : goal.invariant-all
invariant-all l =
    meets_uncopied l.declared.items l.address l.bytes (drop l.i (by_address l.entries)) ≡ meets_uncopied l.fn.declared.items l.fn.address l.fn.bytes
    (by_address l.fn.entries)
