use Rattle.std.proofs.Common.{◌≡◌, ◌-◌, ◌++◌, length, take}
use Rattle.vm_base.specs.Pages.{little_endian_bytes}
use Rattle.vm_base.proofs.pages.write_number.Given as goal

abbrev pub invariant-loop-byte : goal.invariant-loop-byte
invariant-loop-byte l = little_endian_bytes (length l.bytes) l.value ≡ take l.byte-index l.bytes ++ little_endian_bytes (length l.bytes - l.byte-index) l.rest
