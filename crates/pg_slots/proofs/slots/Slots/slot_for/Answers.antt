use Rattle.pg_slots.proofs.Choices.{goes}
use Rattle.pg_slots.proofs.slots.Slots.slot_for.Goals as goal

pub returns-in-None : goal.returns-in-None
returns-in-None c =
    goes c.self.inside.host.0 c.self.inside.size c.self.inside.rows.rows c.self.inside.free c.args.self.now c.args.key.object.0 c.args.key.page.0 c.slot.result
    c.lowest.result
    c.self.view_is c.self.invariant.marks c.slot.ensures c.in-None.is c.lowest.ensures
