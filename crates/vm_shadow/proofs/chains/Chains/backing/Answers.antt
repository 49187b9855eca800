use Rattle.std.proofs.Common.{◌≡◌, rules, subst}
use Rattle.vm_shadow.proofs.Ranks.{falls_found, low_few}
use Rattle.vm_shadow.specs.Chains.{IsRanked, shadow_at}
use Rattle.vm_shadow.proofs.chains.Chains.backing.Goals as goal

pub returns-clause-ranked : goal.returns-clause-ranked
returns-clause-ranked c = subst IsRanked c.self.view_is c.self.invariant.ranked

pub returns-clause-falls : goal.returns-clause-falls
returns-clause-falls c =
    let value : c.copied.result ≡ shadow_at c.args.self.now c.args.object.0 = search rules in
    falls_found c.args.self.now (subst IsRanked c.self.view_is c.self.invariant.ranked) c.args.object.0 c.copied.result value

pub returns-clause-few : goal.returns-clause-few
returns-clause-few c = λ o. rw (← c.self.view_is) (low_few _ c.self.invariant.ranked c.self.invariant.low _ o)
