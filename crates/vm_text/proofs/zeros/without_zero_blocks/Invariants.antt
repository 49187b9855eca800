use Rattle.std.proofs.Common.{◌≡◌, ◌≤◌, take}
use Rattle.vm_model.specs.Text.{trimmed}
use Rattle.vm_text.proofs.zeros.without_zero_blocks.Given as goal

abbrev pub invariant-skip : goal.invariant-skip
invariant-skip l = record { within : l.end ≤ l.from; same : trimmed (take l.end l.bytes) ≡ trimmed (take l.from l.bytes) }

abbrev pub decreases-skip : goal.decreases-skip
decreases-skip l = l.end
