use Rattle.std.proofs.Common.{rules, ◌≡◌, ◌==◌, Some, ap, arith}
use Rattle.std.specs.Map.{lookup}
use Rattle.vm_shadow.proofs.Overs.{tally_found}
use Rattle.vm_shadow.specs.Standing.{tally_at}
use Rattle.vm_shadow.specs.declared.tally.Tally.{Tally}
use Rattle.vm_shadow.proofs.tallies.Tallies.sole.Goals as goal

pub overflow_cast-result : goal.overflow_cast-result
overflow_cast-result c =
    let found : lookup (λ id. c.args.object.0 == id.0) c.self.inside.rows.entries ≡ Some c.in_ok-tally.tally = search rules in
    let is : tally_at c.args.self.now c.args.object.0 ≡ c.in_ok-tally.tally = tally_found c.args.self.now c.args.object.0 _ (rw (← c.self.view_is) found) in
    let single : (tally_at c.args.self.now c.args.object.0).count ≡ 1 = grind (arith, ap (λ (z : Tally). z.count) is, c.if-tally-ne1.false) in
    let small = c.requires single in
    omega (arith, ap (λ (z : Tally). z.sum) is, small)
