use Rattle.std.proofs.Common.{◌≡◌, ◌-◌, ◌≤◌, length}
use Rattle.vm_base.specs.Buffers.{AllZero}
use Rattle.vm_base.proofs.buffers.Buffers.reserve.Given as goal

abbrev pub invariant-loop-self : goal.invariant-loop-self
invariant-loop-self l = record {
  size : l.self-inside.size ≡ l.fn.self.size;
  zeros : AllZero l.self-inside.size l.self-inside.kept.items;
  kept : l.fn.self.count ≤ length l.self-inside.kept.items;
  same : l.n ≤ l.fn.self.count → length l.self-inside.kept.items ≡ l.fn.self.count;
}

abbrev pub decreases-loop-self : goal.decreases-loop-self
decreases-loop-self l = l.n - length l.self-inside.kept.items
