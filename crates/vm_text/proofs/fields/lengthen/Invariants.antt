use Rattle.std.proofs.Common.{◌≡◌, ◌-◌, ◌≤◌, length, take}
use Rattle.vm_text.proofs.fields.lengthen.Given as goal

abbrev pub invariant-blocks-2 : goal.invariant-blocks-2
invariant-blocks-2 l = record {
  kept : take l.end l.bytes.items ≡ take l.end l.fn.bytes.items;
  within : l.end ≤ length l.bytes.items;
}

abbrev pub decreases-blocks-2 : goal.decreases-blocks-2
decreases-blocks-2 l = l.count - (length l.bytes.items - l.end)
