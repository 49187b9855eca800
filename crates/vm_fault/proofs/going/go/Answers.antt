use Rattle.std.proofs.Common.{rules}
use Rattle.vm_fault.specs.Walks.{Sinks}
use Rattle.vm_fault.proofs.Copies.{sinks_none}
use Rattle.vm_fault.proofs.going.go.Goals as goal

pub nowhere-requires-clause-number : goal.nowhere-requires-clause-number
nowhere-requires-clause-number c =
    let sinks : Sinks c.args.parts.now c.args.chains.now c.args.run.top = search rules in
    sinks_none c.args.parts.now c.args.chains.now c.args.run.top c.args.run.want c.requires.can.copies sinks
