use Rattle.std.proofs.Common.{◌≡◌, reverse}
use Rattle.vm_seen.specs.Behind.{later_of, oldest_items}
use Rattle.vm_litmus.specs.Parts.{accesses_in}
use Rattle.vm_litmus.proofs.parts.accesses.Given as goal

abbrev pub invariant-loop-i : goal.invariant-loop-i
invariant-loop-i l = l.found.items ≡ reverse (accesses_in (later_of l.setup (oldest_items l.i l.commands.items)))
