use Rattle.std.proofs.Common.{◌∙◌, sym}
use Rattle.vm_resident.proofs.Tables.{owner_row}
use Rattle.vm_resident.proofs.resident.Resident.page_of.Goals as goal

pub returns-then-are_shared-clause-row : goal.returns-then-are_shared-clause-row
returns-then-are_shared-clause-row c =
    owner_row c.self.inside.rows.entries _ c.args.f.0 c.args.self.now c.first_owner.result c.self.view_is c.self.invariant.unique c.first_owner.ensures

pub returns-clause-row : goal.returns-clause-row
returns-clause-row c =
    let led = c.self.invariant.led (sym c.if-are_shared.ensures) in
    owner_row c.self.inside.rows.entries _ c.args.f.0 c.args.self.now c.get.result c.self.view_is c.self.invariant.unique (c.get.ensures ∙ led.at c.args.f.0)
