use Rattle.std.proofs.Common.{◌-◌, arith}
use Rattle.vm_resident.specs.Resident.{row_at}
use Rattle.vm_parts.proofs.Merging.{if_some_map}
use Rattle.vm_parts.specs.Merging.{MovesUp}
use Rattle.vm_parts.proofs.parts.HostParts.merge_page.Goals as goal

pub returns-then-is_none-clause-merges : goal.returns-then-is_none-clause-merges
returns-then-is_none-clause-merges c =
    if_some_map (row_at c.args.self.now.resident c.args.key.object.0 c.args.key.page.0)
    (λ row shifts. MovesUp (record { 0 = c.args.key.page.0 - c.args.shift }) (omega (arith, c.if-shift-key.true)) (omega (arith, c.if-key-shift.true)) shifts)
    c.shift_page.ensures.shifts
