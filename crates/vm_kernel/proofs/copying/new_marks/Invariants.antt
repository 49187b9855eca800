use Rattle.vm_kernel.proofs.Common.{by_address, drop, new_marks, ◌+◌, ◌≡◌, ◌≤◌}
use Rattle.vm_kernel.specs.Refusing.{takes_no_mark}
use Rattle.vm_kernel.proofs.copying.new_marks.Given as goal

abbrev pub invariant-all : goal.invariant-all
invariant-all l = record {
  sum : l.count + new_marks (takes_no_mark l.declared l.chains) (drop l.i (by_address l.entries)) ≡ new_marks (takes_no_mark l.declared l.chains)
      (by_address l.entries);
  few : l.count ≤ l.i;
}
