use Rattle.std.proofs.Common.{arith}
use Rattle.vm_ports.proofs.links.reserve.Goals as goal

pub returns-in_err-reserve-clause-succeeds : goal.returns-in_err-reserve-clause-succeeds
returns-in_err-reserve-clause-succeeds g c = λ enough.
    let ok = c.in_err-reserve.ensures.succeeds (omega (arith, enough, c.capacity-capacity.ensures.holds_all, c.capacity-capacity.ensures.value)) in absurd (cc)
