use Rattle.vm_kernel.proofs.Common.{by_address, copies, drop, ◌+◌, ◌≡◌, ◌≤◌}
use Rattle.vm_kernel.proofs.copying.copies.Given as goal

abbrev pub invariant-all : goal.invariant-all
invariant-all l = record {
  sum : l.count + copies (drop l.i (by_address l.entries)) ≡ copies (by_address l.entries);
  few : l.count ≤ l.i;
}
