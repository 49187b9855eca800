use Rattle.std.proofs.Common.{◌≡◌, ◌≤◌, replicate}
use Rattle.vm_frames.proofs.frames.zero_pages.Given as goal

abbrev pub invariant-all : goal.invariant-all
invariant-all l = record {
  items : l.pages.items ≡ replicate l.counter (replicate l.size 0);
  within : l.counter ≤ l.n;
}
