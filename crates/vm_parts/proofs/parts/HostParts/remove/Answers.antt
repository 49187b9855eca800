use Rattle.std.proofs.Common.{refl, sym}
use Rattle.vm_parts.proofs.Changing.{removes}
use Rattle.vm_parts.proofs.parts.HostParts.remove.Goals as goal

pub returns-clause-removes : goal.returns-clause-removes
returns-clause-removes c =
    removes c.args.key c.in-Some.row c.args.self.now _ c.requires.fit (sym c.in-Some.ensures.value) refl c.in-Some.ensures.rows
    (c.in-Some.ensures.frames c.requires.fit.owned) c.remove-2.ensures.queues c.remove-2.ensures.pages
