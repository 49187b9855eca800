use Rattle.std.proofs.Common.{◌∙◌}
use Rattle.sms_proto.proofs.Turns.{given_moved, left_moved}
use Rattle.sms_proto.proofs.kernel.Kernel.leave.Goals as goal

pub returns-clause-moved : goal.returns-clause-moved
returns-clause-moved c =
    left_moved c.args.self.now.size c.args.self.now.host c.clear.new.self.host _ _ _ _ (c.clear.ensures.same.0 ∙ c.prepare.ensures.same.0)
    c.in_ok-end.ensures.exact
    (given_moved c.args.self.now.size c.args.self.now.host c.prepare.new.self _ _ _ c.prepare.ensures.same.0 c.prepare.ensures.events
    c.in_ok-clear.ensures.exact)
