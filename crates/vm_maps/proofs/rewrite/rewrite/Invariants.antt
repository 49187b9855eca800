use Rattle.std.proofs.Common.{◌≡◌, ◌+◌, ◌≤◌, ◌++◌, drop, reverse}
use Rattle.vm_base.specs.Entries.{parts_in, rewritten}
use Rattle.vm_maps.specs.Rows.{becomes, passed}
use Rattle.vm_maps.proofs.Outside.{begun}
use Rattle.vm_maps.proofs.rewrite.rewrite.Given as goal

abbrev pub invariant-met : goal.invariant-met
invariant-met l = record {
  from : l.made.from ≡ passed l.change.address (reverse l.entries.items);
  to : l.made.to ≡ begun (l.change.address + l.change.bytes) (reverse l.entries.items);
  last : l.i-end ≡ begun (l.change.address + l.change.bytes) (reverse l.entries.items);
  order : l.i ≤ l.i-end;
  kept : reverse l.made.kept.items ++ rewritten (becomes l.change) l.size l.change.address l.change.bytes (drop l.i (reverse l.entries.items)) ≡ rewritten
      (becomes l.change) l.size l.change.address l.change.bytes (drop (passed l.change.address (reverse l.entries.items)) (reverse l.entries.items));
  taken : reverse l.made.taken.items ++ parts_in l.size l.change.address l.change.bytes (drop l.i (reverse l.entries.items)) ≡ parts_in l.size l.change.address
      l.change.bytes (reverse l.entries.items);
}
