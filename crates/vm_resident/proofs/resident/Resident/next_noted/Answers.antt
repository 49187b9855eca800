use Rattle.vm_resident.proofs.Entries.{next_noted}
use Rattle.vm_resident.proofs.resident.Resident.next_noted.Goals as goal

pub returns : goal.returns
returns c =
    next_noted c.args.self.now c.self.inside.pages c.args.object.0 c.args.from.0 c.next_marked.result (rw (← c.self.view_is) c.self.invariant.noted)
    c.next_marked.ensures
