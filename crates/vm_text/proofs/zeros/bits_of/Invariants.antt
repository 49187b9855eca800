use Rattle.std.proofs.Common.{◌≡◌, take}
use Rattle.std.specs.Prelude.{fold, bit_or}
use Rattle.vm_text.proofs.zeros.bits_of.Given as goal

abbrev pub invariant-loop-byte : goal.invariant-loop-byte
invariant-loop-byte l = l.bits ≡ fold bit_or 0 (take l.byte-index l.bytes)
