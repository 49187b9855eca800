use Rattle.std.proofs.Common.{◌≡◌, take}
use Rattle.std.specs.Prelude.{reverse}
use Rattle.vm_kernel.proofs.kernel.copied.Given as goal

abbrev pub invariant-all : goal.invariant-all
invariant-all l = l.declared.items ≡ reverse (take l.i (reverse l.objects.items))
