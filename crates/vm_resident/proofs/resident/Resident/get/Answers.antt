use Rattle.std.proofs.Common.{◌≡◌, ◌∙◌, sym, rules}
use Rattle.vm_resident.proofs.Entries.{entry_at, row_entry}
use Rattle.vm_resident.proofs.resident.Resident.get.Goals as goal

pub returns : goal.returns
returns c =
    let found : c.copied.result ≡ entry_at c.args.key.object.0 c.args.key.page.0 c.self.inside.rows.entries = search rules in
    rw (← c.self.view_is) (found ∙ sym (row_entry c.args.key.object.0 c.args.key.page.0 c.self.inside.rows.entries))
