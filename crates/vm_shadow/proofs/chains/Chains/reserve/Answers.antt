use Rattle.std.proofs.Common.{refl}
use Rattle.vm_shadow.proofs.Overs.{same_tallies}
use Rattle.vm_shadow.proofs.Tables.{kept_same}
use Rattle.vm_shadow.proofs.chains.Chains.reserve.Goals as goal

pub invariant_of-self-in_err-reserve-2 : goal.invariant_of-self-in_err-reserve-2
invariant_of-self-in_err-reserve-2 c = kept_same _ _ _ _ c.in_ok-reserve.ensures.entries c.in_err-reserve-2.ensures.entries refl refl c.self.invariant

pub invariant_of-self-in_err-reserve-3 : goal.invariant_of-self-in_err-reserve-3
invariant_of-self-in_err-reserve-3 c =
    kept_same _ _ _ _ c.in_ok-reserve.ensures.entries c.in_ok-reserve-2.ensures.entries refl
    (same_tallies c.self.inside.overs c.reserve-3.new.self c.reserve-3.ensures.same) c.self.invariant

pub invariant_of-self-2 : goal.invariant_of-self-2
invariant_of-self-2 c =
    kept_same _ _ _ _ c.in_ok-reserve.ensures.entries c.in_ok-reserve-2.ensures.entries refl
    (same_tallies c.self.inside.overs c.reserve-3.new.self c.reserve-3.ensures.same) c.self.invariant
