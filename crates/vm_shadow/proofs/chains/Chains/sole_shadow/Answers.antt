use Rattle.std.proofs.Common.{◌≡◌, refl}
use Rattle.vm_shadow.proofs.Overs.{sole_small, sole_told}
use Rattle.vm_shadow.proofs.chains.Chains.sole_shadow.Goals as goal

pub sole-requires : goal.sole-requires
sole-requires c = sole_small _ _ c.self.invariant.tallied c.args.object.0

pub returns-clause-alone : goal.returns-clause-alone
returns-clause-alone c =
    let same : c.self.inside.shadows.entries ≡ c.args.self.now.shadows = rw (← c.self.view_is) refl in
    (sole_told _ _ c.self.invariant.tallied c.args.self.now same c.args.object.0 c.sole.result c.sole.ensures).0

pub returns-clause-none : goal.returns-clause-none
returns-clause-none c =
    let same : c.self.inside.shadows.entries ≡ c.args.self.now.shadows = rw (← c.self.view_is) refl in
    (sole_told _ _ c.self.invariant.tallied c.args.self.now same c.args.object.0 c.sole.result c.sole.ensures).1
