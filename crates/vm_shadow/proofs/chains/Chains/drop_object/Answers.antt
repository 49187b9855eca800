use Rattle.std.proofs.Common.{◌≡◌, ◌==◌, Some, refl, rules}
use Rattle.std.specs.Map.{lookup}
use Rattle.vm_shadow.proofs.Overs.{has_number}
use Rattle.vm_shadow.proofs.Tables.{kept_dropped, kept_same}
use Rattle.vm_shadow.proofs.Tallying.{tallied_dropped}
use Rattle.vm_shadow.proofs.chains.Chains.drop_object.Goals as goal

pub invariant_of-self : goal.invariant_of-self
invariant_of-self c = kept_same _ _ _ _ refl c.in_err-row.ensures.unchanged refl refl c.self.invariant

pub remove-requires : goal.remove-requires
remove-requires c =
    let found : lookup (λ id. c.args.object.0 == id.0) c.self.inside.shadows.entries ≡ Some c.in_ok-row.row = search rules in
    record { has = has_number _ _ c.self.invariant.tallied c.args.object c.in_ok-row.row _ found refl }

pub invariant_of-self-2 : goal.invariant_of-self-2
invariant_of-self-2 c =
    let found : lookup (λ id. c.args.object.0 == id.0) c.self.inside.shadows.entries ≡ Some c.in_ok-row.row = search rules in
    kept_dropped _ _ _ _ c.args.object.0 (λ o. c.swap_remove.ensures.updates.0 (record { 0 = o })) refl refl
    (tallied_dropped _ _ _ _ c.args.object c.in_ok-row.row found c.swap_remove.ensures.entries c.swap_remove.ensures.unique
    (λ o. c.swap_remove.ensures.updates.0 (record { 0 = o })) c.remove.ensures.removed c.self.invariant.tallied)
    c.self.invariant

pub returns-clause-dropped : goal.returns-clause-dropped
returns-clause-dropped c = rw (← c.self.view_is) record { at = λ o. c.swap_remove.ensures.updates.0 (record { 0 = o }); regions = refl }
