use Rattle.std.proofs.Common.{arith}
use Rattle.vm_top.proofs.Readings.{read_more}
use Rattle.vm_top.proofs.reading.read_all.Goals as goal

pub returns-in_default-extend_from_slice-clause-stopped : goal.returns-in_default-extend_from_slice-clause-stopped
returns-in_default-extend_from_slice-clause-stopped g c = λ is.
    read_more (g.S.Source.left c.args.source.now) (g.S.Source.left c.all.source) (g.S.Source.left c.read.new.self) c.all.bytes.items c.read.new.buf
    c.in-Ok.count c.all.invariant.consumed c.in-Ok.ensures.bytes.0 (grind arith) (grind arith)
