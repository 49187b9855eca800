use Rattle.std.proofs.Common.{sym}
use Rattle.vm_resident.proofs.Entries.{row_entry}
use Rattle.vm_resident.proofs.resident.Resident.table.Goals as goal

pub returns : goal.returns
returns c = rw (← c.self.view_is) (λ o p. sym (row_entry o p c.self.inside.rows.entries))
