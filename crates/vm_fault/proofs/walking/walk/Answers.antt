use Rattle.std.proofs.Common.{◌≡◌, ℕ, suc, ◌+◌, subst, rules, arith}
use Rattle.vm_fault.specs.Walks.{PassesOver, WalksTo}
use Rattle.vm_fault.proofs.Descents.{walks_more}
use Rattle.vm_fault.proofs.walking.walk.Goals as goal

pub down-preserved : goal.down-preserved
down-preserved c =
    let k = c.args.parts.now in
    let chains = c.args.chains.now in
    let key = c.down.spot.key in
    let next = c.in-Some-under.next.key in
    let passes : PassesOver k key = search rules in
    let more = walks_more k chains c.down.steps c.args.top.key key next c.down.invariant.walks passes c.in-Some-under.ensures.under in
    let one : suc c.down.steps ≡ c.down.steps + 1 = omega arith in
    record {
      walks = subst (λ (n : ℕ). WalksTo k chains n c.args.top.key next) one more;
      stands = c.in-Some-under.ensures.stands;
      count = omega (arith, c.down.invariant.count, c.in-Some-under.ensures.falls);
    }
