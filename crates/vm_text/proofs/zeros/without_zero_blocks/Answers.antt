use Rattle.std.proofs.Common.{◌∙◌, sym, arith}
use Rattle.vm_text.proofs.Trimming.{block_shorter}
use Rattle.vm_text.proofs.zeros.without_zero_blocks.Goals as goal

pub skip-preserved : goal.skip-preserved
skip-preserved c = record {
  within = omega arith;
  same = block_shorter c.args.bytes.now c.skip.end c.args.block (omega arith) (sym c.bits_of.ensures ∙ c.if-bits_of-eq0.true) ∙ c.skip.invariant.same;
}
