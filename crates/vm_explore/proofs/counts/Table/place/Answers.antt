use Rattle.std.proofs.Common.{◌∙◌, ap}
use Rattle.vm_explore.specs.Tables.{place}
use Rattle.vm_explore.proofs.Counted.{place_known}
use Rattle.vm_explore.proofs.counts.Table.place.Goals as goal

pub returns : goal.returns
returns c =
    c.get_index_of.ensures.index ∙ place_known c.args.values.now c.self.inside.outcomes.keys c.self.inside.rows.items c.self.invariant.same
    ∙ ap (place c.args.values.now) c.self.view_is
