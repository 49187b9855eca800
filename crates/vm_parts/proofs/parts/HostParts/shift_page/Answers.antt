use Rattle.std.proofs.Common.{sym, None}
use Rattle.vm_resident.specs.Resident.{owner_of}
use Rattle.vm_parts.proofs.Rows.{if_true}
use Rattle.vm_parts.proofs.Shifting.{fit_shifted, shifts}
use Rattle.vm_parts.proofs.parts.HostParts.shift_page.Goals as goal

pub returns-clause-fit : goal.returns-clause-fit
returns-clause-fit c =
    let k = c.args.self.now in
    let row = c.in-Some.row in
    let gone = c.in-Some.ensures.frames c.requires.fit.owned in
    let none = if_true row.frame.0 None (owner_of k.resident row.frame.0) (owner_of c.remove.new.self row.frame.0) (gone.at row.frame.0) in
    fit_shifted c.args.from c.args.to row k c.insert.new.self c.requires.fit
    (shifts c.args.from c.args.to row k c.remove.new.self c.insert.new.self (sym c.in-Some.ensures.value) c.requires.vacant c.in-Some.ensures.rows gone
    c.insert.ensures.rows (c.insert.ensures.frames none))
    (c.insert.ensures.owned (c.in-Some.ensures.owned c.requires.fit.owned) none) c.requires.inside
