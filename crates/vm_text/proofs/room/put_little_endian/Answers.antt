use Rattle.std.proofs.Common.{arith, ◌≡◌, ◌∙◌, ap, sym, take, ◌++◌, ◌+◌, ◌*◌, ◌-◌, ◌/◌}
use Rattle.std.specs.List.{flat_map}
use Rattle.vm_base.specs.Pages.{little_endian_bytes}
use Rattle.vm_model.specs.Text.{byte_hex}
use Rattle.vm_text.proofs.Spelling.{spelled_more}
use Rattle.vm_text.proofs.room.put_little_endian.Goals as goal

pub loop-i-preserved : goal.loop-i-preserved
loop-i-preserved c =
    let left = flat_map byte_hex (little_endian_bytes (c.args.size - (c.loop-i.i + 1)) (c.loop-i.rest / 256)) in
    let place : c.args.at + 2 * (c.loop-i.i + 1) ≡ (c.args.at + 2 * c.loop-i.i) + 2 = omega arith in
    c.loop-i.invariant ∙ spelled_more c.args.size c.loop-i.i c.loop-i.rest _ (omega arith)
    ∙ ap (λ z. z ++ left) (sym c.put_hex_byte.ensures ∙ ap (λ z. take z c.put_hex_byte.new.bytes) (sym place))
