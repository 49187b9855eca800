use Rattle.std.proofs.Common.{sym}
use Rattle.vm_text.proofs.Hexadecimal.{spells}
use Rattle.vm_text.proofs.hex.pair_count.Goals as goal

pub returns-then-are_pairs : goal.returns-then-are_pairs
returns-then-are_pairs c = spells c.args.word.now (sym c.if-are_pairs.ensures)
