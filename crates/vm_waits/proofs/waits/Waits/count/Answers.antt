use Rattle.std.proofs.Common.{arith}
use Rattle.std.proofs.lemmas.Map.Entries.{length-values_of}
use Rattle.vm_waits.proofs.waits.Waits.count.Goals as goal

pub overflow_cast-result : goal.overflow_cast-result
overflow_cast-result c = omega (arith, c.self.invariant.3.few, c.len.ensures.len, length-values_of c.self.inside.rows.entries)
