use Rattle.std.proofs.Common.{◌≡◌, ◌≤◌, take, length}
use Rattle.vm_model.specs.Text.{trimmed}
use Rattle.vm_text.proofs.zeros.trimmed_len.Given as goal

abbrev pub invariant-zeros : goal.invariant-zeros
invariant-zeros l = record { within : l.end ≤ length l.bytes; same : trimmed (take l.end l.bytes) ≡ trimmed l.bytes }

abbrev pub decreases-zeros : goal.decreases-zeros
decreases-zeros l = l.end
