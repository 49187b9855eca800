use Rattle.std.proofs.Common.{◌≡◌, ◌≤◌, sym, subst, List, ℕ, length, arith}
use Rattle.std.proofs.lemmas.Grind.{common_steps}
use Rattle.vm_model.specs.declared.event.Event.{Event}
use Rattle.sms_pages.specs.Desk.{AllLong}
use Rattle.sms_proto.specs.Worlds.{WorldStands}
use Rattle.sms_proto.proofs.Starting.{starts}
use Rattle.sms_proto.proofs.world.World.new.Goals as goal

pub invariant_of-result : goal.invariant_of-result
invariant_of-result c =
    let few : length c.in_ok-kernels.kernels.items ≤ 8 = omega (arith, c.in_ok-kernels.ensures.count, c.requires.few) in
    let long : length c.in_ok-new.field-0.bytes ≡ c.args.size = grind (arith, common_steps, c.in_ok-new.ensures.bytes) in (
      subst (λ (e : List Event). WorldStands c.args.size c.in_ok-kernels.kernels.items c.in_ok-new.field-0 e) (sym c.new-2.ensures)
          (starts c.args.size c.in_ok-kernels.kernels.items c.in_ok-new.field-0 c.in_ok-new.ensures c.in_ok-kernels.ensures.each few long),
      subst (λ (p : List (List ℕ)). AllLong c.args.size p) (sym c.new-3.ensures) tt,
    )
