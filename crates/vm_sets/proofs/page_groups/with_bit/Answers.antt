use Rattle.std.proofs.Common.{◌<◌, ◌%◌, arith}
use Rattle.vm_sets.proofs.Bits.{bit_cleared, bit_set}
use Rattle.vm_sets.proofs.page_groups.with_bit.Goals as goal

pub returns-then-set : goal.returns-then-set
returns-then-set c = let less : c.args.page.0 % 64 < 64 = omega arith in rw c.if-set.true (bit_set c.args.bits (c.args.page.0 % 64) less)

pub returns-else-set : goal.returns-else-set
returns-else-set c = let less : c.args.page.0 % 64 < 64 = omega arith in rw c.if-set.false (bit_cleared c.args.bits (c.args.page.0 % 64) less)
