use Rattle.std.proofs.Common.{ℕ, ◌≡◌, ◌<◌, ◌≤◌, ◌*◌, ◌^◌, ◌%◌, get_or}
use Rattle.std.specs.Prelude.{bit_or}
use Rattle.vm_sets.proofs.page_places.Group.touch.Given as goal

abbrev pub invariant-loop-word : goal.invariant-loop-word
invariant-loop-word l = record {
  set : (k : ℕ) → k < l.word-index → get_or l.word-items k 0 ≡ bit_or (get_or l.fn.self.words k 0) (1 * 2 ^ l.slot % 2 ^ 64);
  left : (k : ℕ) → l.word-index ≤ k → get_or l.word-items k 0 ≡ get_or l.fn.self.words k 0;
}
