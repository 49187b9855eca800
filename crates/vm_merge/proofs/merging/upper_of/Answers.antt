use Rattle.vm_merge.proofs.Uppers.{stands_alone}
use Rattle.vm_merge.proofs.merging.upper_of.Goals as goal

pub returns-in_err-upper-clause-none : goal.returns-in_err-upper-clause-none
returns-in_err-upper-clause-none c =
    rw c.from_residual-in_err-upper.ensures (λ upper can. c.in_err-upper.ensures.none upper
    (stands_alone c.args.chains.now c.args.parts.now.objects upper c.args.lower.0 c.requires can))
