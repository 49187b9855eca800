use Rattle.std.proofs.Common.{◌≡◌, ◌++◌, ◌-◌, ◌+◌, ◌*◌, take}
use Rattle.std.specs.List.{flat_map}
use Rattle.vm_base.specs.Pages.{little_endian_bytes}
use Rattle.vm_model.specs.Text.{byte_hex}
use Rattle.vm_text.proofs.room.put_little_endian.Given as goal

abbrev pub invariant-loop-i : goal.invariant-loop-i
invariant-loop-i l =
    take l.at l.fn.bytes ++ flat_map byte_hex (little_endian_bytes l.size l.number)
    ≡ take (l.at + 2 * l.i) l.bytes ++ flat_map byte_hex (little_endian_bytes (l.size - l.i) l.rest)
