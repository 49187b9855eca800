use Rattle.std.proofs.Common.{◌≡◌, take, reverse}
use Rattle.vm_text.proofs.heading.counts_of.Given as goal

abbrev pub invariant-loop-number : goal.invariant-loop-number
invariant-loop-number l = l.counts.items ≡ reverse (take l.number-index l.numbers)
