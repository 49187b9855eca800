use Rattle.std.proofs.Common.{arith}
use Rattle.std.proofs.lemmas.Bool.Decides.{nat_tests}
use Rattle.vm_shadow.proofs.Sole.{backs_none}
use Rattle.part_tests.proofs.chains.rebase.Goals as goal

pub rebase-requires-clause-bare : goal.rebase-requires-clause-bare
rebase-requires-clause-bare c =
    backs_none c.args.chains.now c.args.newer.0 (grind (arith, nat_tests, c.references.ensures, c.if-references-ne0.false))
