use Rattle.std.proofs.Common.{◌≡◌, ◌≤◌, ◌+◌, ◌*◌, take}
use Rattle.vm_text.specs.Fields.{with_fields}
use Rattle.vm_text.proofs.room.put_fields.Given as goal

abbrev pub invariant-loop-number : goal.invariant-loop-number
invariant-loop-number l = record {
  text : take l.end l.bytes ≡ with_fields (take l.at l.fn.bytes) (take l.number-index l.numbers);
  short : l.end ≤ l.at + 21 * l.number-index;
}
