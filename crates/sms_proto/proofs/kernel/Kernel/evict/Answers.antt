use Rattle.sms_proto.proofs.Turns.{given_moved}
use Rattle.sms_proto.proofs.kernel.Kernel.evict.Goals as goal

pub returns-clause-moved : goal.returns-clause-moved
returns-clause-moved c =
    given_moved c.args.self.now.size c.args.self.now.host c.prepare.new.self _ _ _ c.prepare.ensures.same.0 c.prepare.ensures.events c.in_ok-clear.ensures.exact
