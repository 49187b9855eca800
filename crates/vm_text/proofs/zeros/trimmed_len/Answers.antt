use Rattle.std.proofs.Common.{◌∙◌, sym, arith}
use Rattle.vm_text.proofs.Trimming.{shorter, whole}
use Rattle.vm_text.proofs.zeros.trimmed_len.Goals as goal

pub zeros-preserved : goal.zeros-preserved
zeros-preserved c = record {
  within = omega arith;
  same = shorter c.args.bytes.now c.zeros.end (omega arith) c.zeros.invariant.within c.if-bytes-end-eq0.true ∙ c.zeros.invariant.same;
}

pub returns-else-bytes-end-eq0-clause-trimmed : goal.returns-else-bytes-end-eq0-clause-trimmed
returns-else-bytes-end-eq0-clause-trimmed c =
    sym (whole c.args.bytes.now c.zeros.end (omega arith) c.zeros.invariant.within c.if-bytes-end-eq0.false) ∙ c.zeros.invariant.same
