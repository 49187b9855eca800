use Rattle.std.proofs.Common.{arith, refl, length-set}
use Rattle.vm_base.proofs.Bytes.{spelled_more}
use Rattle.vm_base.proofs.pages.write_number.Goals as goal

pub loop-byte-preserved : goal.loop-byte-preserved
loop-byte-preserved c =
    rw length-set (spelled_more _ _ _ _ c.loop-byte.bytes (omega arith) refl c.loop-byte.invariant)
