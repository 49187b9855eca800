use Rattle.std.proofs.Common.{◌≡◌, drop}
use Rattle.vm_text.specs.Words.{digits_behind}
use Rattle.vm_text.proofs.numbers.number_of.Given as goal

abbrev pub invariant-loop-digit : goal.invariant-loop-digit
invariant-loop-digit l = digits_behind l.number (drop l.digit-index l.word) ≡ digits_behind 0 l.word
