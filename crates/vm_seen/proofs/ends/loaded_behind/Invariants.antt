use Rattle.std.proofs.Common.{◌≡◌, ℕ, reverse}
use Rattle.vm_free.specs.Outcomes.{loaded}
use Rattle.vm_seen.specs.Behind.{later_of, oldest_items}
use Rattle.vm_seen.specs.Ends.{values_of}
use Rattle.vm_seen.proofs.ends.loaded_behind.Given as goal

abbrev pub invariant-loop-i : goal.invariant-loop-i
invariant-loop-i l = (t : ℕ) → reverse (values_of t l.loads.items) ≡ loaded t (later_of l.from (oldest_items l.i l.history.items))
