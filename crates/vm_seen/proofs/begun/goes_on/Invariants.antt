use Rattle.vm_free.specs.Free.{GoesOn}
use Rattle.vm_seen.specs.Behind.{later_of, oldest_items}
use Rattle.vm_seen.proofs.begun.goes_on.Given as goal

abbrev pub invariant-loop-i : goal.invariant-loop-i
invariant-loop-i l = GoesOn (later_of l.setup l.commands.items) (later_of l.from (oldest_items l.i l.history.items))
