-- What an act of another host leaves.
use Rattle.std.proofs.Common.{◌≡◌, arith}
use Rattle.vm_model.specs.Side.{Side, side_after}
use Rattle.vm_model.specs.Words.{ActEffect, to_others}

-- the server's words of a host
pub others_holds : (e : ActEffect) (s : Side) → (side_after s (to_others e)).holds ≡ s.holds
others_holds e s = grind arith
