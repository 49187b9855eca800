use Rattle.vm_kernel.proofs.Common.{by_address, drop, ◌+◌, ◌≡◌, ◌≤◌}
use Rattle.vm_model.specs.Tasks.{copies_below}
use Rattle.vm_kernel.proofs.copying.copies_below.Given as goal

abbrev pub invariant-all : goal.invariant-all
invariant-all l = record {
  sum : l.count + copies_below l.declared (drop l.i (by_address l.entries)) ≡ copies_below l.declared (by_address l.entries);
  few : l.count ≤ l.i;
}
