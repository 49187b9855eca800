use Rattle.std.proofs.Common.{arith}
use Rattle.std.proofs.lemmas.Bool.Decides.{nat_tests}
use Rattle.vm_shadow.proofs.Sole.{backs_none}
use Rattle.part_tests.proofs.chains.stand.Goals as goal

pub stand-requires-clause-bare : goal.stand-requires-clause-bare
stand-requires-clause-bare c =
    backs_none c.args.chains.now c.args.object.0 (grind (arith, nat_tests, c.references.ensures, c.if-references-ne0.false))
