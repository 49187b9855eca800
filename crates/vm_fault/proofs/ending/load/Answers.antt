use Rattle.std.proofs.Common.{ap, arith, length}
use Rattle.vm_fault.proofs.Places.{here_sized}
use Rattle.vm_fault.proofs.ending.load.Goals as goal

pub get-value-requires-clause-inside : goal.get-value-requires-clause-inside
get-value-requires-clause-inside c =
    omega (arith, c.requires.inside, ap length c.bytes.ensures, here_sized c.args.parts.now c.args.key c.args.frame c.requires.fit c.requires.here)
