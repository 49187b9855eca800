use Rattle.std.proofs.Common.{◌≡◌, ◌≢◌, None, true, arith}
use Rattle.std.proofs.lemmas.Grind.{common_steps}
use Rattle.vm_model.specs.Server.{first}
use Rattle.sms_proto.proofs.Turns.{order_goes, order_moved}
use Rattle.sms_proto.proofs.kernel.Kernel.take_down.Goals as goal

pub returns-clause-moved : goal.returns-clause-moved
returns-clause-moved c =
    let lives : c.args.self.now.live ≡ true = grind (arith, common_steps) in
    let some : first c.args.self.now.down.items ≢ None = grind (arith, common_steps) in
    order_moved c.args.self.now.size c.args.self.now.host c.args.self.now.control (first c.args.self.now.down.items) c.args.self.now.live _ _
    (order_goes c.args.self.now.host c.prepare.new.self.host c.take_order.new.self.host c.args.self.now.control c.prepare.new.self.control
    c.args.self.now.down.items c.prepare.new.self.down.items c.args.self.now.live _ _ _ _ c.prepare.ensures.same.0 c.take_order.ensures.same.0
    c.prepare.ensures.same.9 c.prepare.ensures.same.10 c.prepare.ensures.events lives some c.in_ok-take_order.ensures.goes c.in_ok-go_on.ensures.adds)

pub returns-clause-goes : goal.returns-clause-goes
returns-clause-goes c =
    let lives : c.args.self.now.live ≡ true = grind (arith, common_steps) in
    let some : first c.args.self.now.down.items ≢ None = grind (arith, common_steps) in
    order_goes c.args.self.now.host c.prepare.new.self.host c.take_order.new.self.host c.args.self.now.control c.prepare.new.self.control
    c.args.self.now.down.items c.prepare.new.self.down.items c.args.self.now.live _ _ _ _ c.prepare.ensures.same.0 c.take_order.ensures.same.0
    c.prepare.ensures.same.9 c.prepare.ensures.same.10 c.prepare.ensures.events lives some c.in_ok-take_order.ensures.goes c.in_ok-go_on.ensures.adds
