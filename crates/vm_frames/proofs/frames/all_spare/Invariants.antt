use Rattle.std.proofs.Common.{◌-◌, ◌≤◌, ◌≡◌, reverse}
use Rattle.std.specs.Prelude.{vec_capacity}
use Rattle.vm_frames.specs.Kept.{frames_from}
use Rattle.vm_frames.proofs.frames.all_spare.Given as goal

abbrev pub invariant-all : goal.invariant-all
invariant-all l = record {
  items : reverse l.spare.items ≡ frames_from l.next (l.n - l.next);
  within : l.next ≤ l.n;
  room : l.n ≤ vec_capacity l.spare;
}

abbrev pub decreases-all : goal.decreases-all
decreases-all l = l.next
