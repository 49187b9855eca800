use Rattle.std.proofs.Common.{◌≡◌, length}
use Rattle.vm_text.specs.Words.{are_pairs}
use Rattle.vm_text.proofs.hex.are_pairs.Given as goal

abbrev pub invariant-loop-rest : goal.invariant-loop-rest
invariant-loop-rest l = are_pairs l.rest ≡ are_pairs l.word

abbrev pub decreases-loop-rest : goal.decreases-loop-rest
decreases-loop-rest l = length l.rest
