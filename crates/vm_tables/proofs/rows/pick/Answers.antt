use Rattle.std.proofs.Common.{sym, ◌∙◌}
use Rattle.std.proofs.lemmas.Option.{none-some}
use Rattle.vm_tables.proofs.Once.{picks}
use Rattle.vm_tables.proofs.rows.pick.Goals as goal

pub unreachable-requires : goal.unreachable-requires
unreachable-requires g c =
    let once = c.requires c.args.case in
    none-some once.row.act (sym c.in_default.is ∙ c.find.ensures ∙ picks c.args.case c.args.rows.now c.requires once.place once.row once.found once.is)
