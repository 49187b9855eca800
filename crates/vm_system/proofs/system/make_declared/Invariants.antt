use Rattle.vm_system.proofs.Common.{reverse, take, ◌≡◌}
use Rattle.vm_system.proofs.system.make_declared.Given as goal

abbrev pub invariant-objects : goal.invariant-objects
invariant-objects l = l.objects.items ≡ take l.object (reverse l.header.objects.items)
