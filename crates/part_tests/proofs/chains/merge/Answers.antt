use Rattle.std.proofs.Common.{◌≡◌, sym, arith}
use Rattle.std.proofs.lemmas.Bool.Decides.{nat_tests}
use Rattle.vm_shadow.proofs.Sole.{only_shadow}
use Rattle.vm_shadow.specs.Chains.{references_in}
use Rattle.part_tests.proofs.chains.merge.Goals as goal

pub merge-requires-clause-alone : goal.merge-requires-clause-alone
merge-requires-clause-alone c =
    let single : references_in c.args.chains.now c.args.lower.0 ≡ 1 = grind (arith, nat_tests, c.references.ensures, c.if-references-ne1.false) in
    let under : c.in-Some.up.under.0 ≡ c.args.lower.0 = grind (arith, nat_tests, c.ne.ensures, c.if-ne.false) in
    only_shadow c.args.chains.now c.args.upper.0 c.args.lower.0 c.in-Some.up single (sym c.in-Some.ensures.value) under
