use Rattle.std.proofs.Common.{◌∙◌}
use Rattle.vm_maps.proofs.Tasks.{has_table, table_read}
use Rattle.vm_maps.proofs.maps.Maps.entries.Goals as goal

pub index-requires : goal.index-requires
index-requires c = has_table c.self.inside.size c.self.inside.tables.entries c.args.self.now c.args.task.0 c.self.view_is ∙ c.requires

pub returns-clause-value : goal.returns-clause-value
returns-clause-value c =
    let read = table_read c.self.inside.size c.self.inside.tables.entries c.args.self.now c.args.task.0 c.index.result.now c.self.view_is c.self.invariant
    c.index.ensures in
    read.is

pub returns-clause-sound : goal.returns-clause-sound
returns-clause-sound c =
    let read = table_read c.self.inside.size c.self.inside.tables.entries c.args.self.now c.args.task.0 c.index.result.now c.self.view_is c.self.invariant
    c.index.ensures in
    rw read.size read.kept.entries
