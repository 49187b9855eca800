use Rattle.std.proofs.Common.{◌≡◌, ◌*◌, ◌-◌, ◌++◌, true, length, take}
use Rattle.vm_text.specs.Words.{are_pairs, pair_bytes}
use Rattle.vm_text.proofs.hex.put_pairs.Given as goal

abbrev pub invariant-loop-byte : goal.invariant-loop-byte
invariant-loop-byte l = record {
  pairs : are_pairs l.rest ≡ true;
  left : length l.rest ≡ 2 * (length l.bytes - l.byte-index);
  same : pair_bytes l.word ≡ take l.byte-index l.bytes ++ pair_bytes l.rest;
}
