use Rattle.std.proofs.Common.{◌≡◌, ℕ, ◌<◌, false}
use Rattle.vm_legal.specs.Outside.{is_wild_kind, kind_in}
use Rattle.vm_model.specs.Named.{declared}
use Rattle.vm_seen.proofs.header.has_wild.Given as goal

abbrev pub invariant-loop-i : goal.invariant-loop-i
invariant-loop-i l = (k : ℕ) → k < l.i → is_wild_kind (kind_in (declared l.header k)) ≡ false
