use Rattle.sms_proto.proofs.Legal.{page_world}
use Rattle.sms_proto.proofs.world.World.stands.Goals as goal

pub returns : goal.returns
returns c =
    rw (← c.self.view_is) (page_world c.self.inside.stage.size c.self.inside.stage.kernels.items c.self.inside.stage.directory c.self.inside.stage.events.items
    c.self.invariant.0)
