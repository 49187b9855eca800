use Rattle.std.proofs.Common.{sym, arith}
use Rattle.std.proofs.lemmas.Bool.Decides.{nat_tests}
use Rattle.vm_shadow.proofs.Sole.{region_alone}
use Rattle.part_tests.proofs.chains.unmark.Goals as goal

pub unmark-requires-clause-alone : goal.unmark-requires-clause-alone
unmark-requires-clause-alone c =
    region_alone c.args.chains.now c.args.region.0 c.in-Some.row (grind (arith, nat_tests, c.references.ensures, c.if-references-eq1.true))
    (sym c.in-Some.ensures.row)
