use Rattle.std.proofs.Common.{refl}
use Rattle.vm_resident.proofs.Tables.{owner_row}
use Rattle.vm_resident.specs.Kept.{pages_of}
use Rattle.vm_resident.specs.Resident.{owner_among}
use Rattle.vm_resident.proofs.resident.Resident.lead_back.Goals as goal

pub returns : goal.returns
returns c = λ f.
    rw (← c.self.view_is) (owner_row c.self.inside.rows.entries c.self.inside.promised f _ (owner_among f (pages_of c.self.inside.rows.entries)) refl
    c.self.invariant.unique refl)
