use Rattle.vm_resident.proofs.Entries.{next_row}
use Rattle.vm_resident.proofs.resident.Resident.next_page.Goals as goal

pub returns : goal.returns
returns c =
    next_row c.args.self.now c.self.inside.pages c.args.object.0 c.args.from.0 c.next.result (rw (← c.self.view_is) c.self.invariant.pages) c.next.ensures
