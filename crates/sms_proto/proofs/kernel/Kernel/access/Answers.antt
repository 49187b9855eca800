use Rattle.std.proofs.Common.{◌≡◌, None, arith}
use Rattle.std.proofs.lemmas.Grind.{common_steps}
use Rattle.sms_proto.proofs.Turns.{begun_adds, begun_moved, begun_goes}
use Rattle.sms_proto.proofs.kernel.Kernel.access.Goals as goal

pub returns-clause-moved : goal.returns-clause-moved
returns-clause-moved c =
    begun_moved c.args.self.now.size c.args.self.now.host c.args.want.store c.args.want.value _ _
    (begun_adds c.args.self.now.host c.prepare.new.self.host c.start.new.self.host _ _ _ _ _ _ c.prepare.ensures.same.0 c.start.ensures.same.0
    c.prepare.ensures.events c.in_ok-start.ensures.exact c.in_ok-go_on.ensures.adds)

pub returns-clause-goes : goal.returns-clause-goes
returns-clause-goes c =
    let none : c.args.self.now.want ≡ None = grind (arith, common_steps) in
    begun_goes c.args.self.now.host c.args.want.store c.args.want.value _ _ _ none
    (begun_adds c.args.self.now.host c.prepare.new.self.host c.start.new.self.host _ _ _ _ _ _ c.prepare.ensures.same.0 c.start.ensures.same.0
    c.prepare.ensures.events c.in_ok-start.ensures.exact c.in_ok-go_on.ensures.adds)
