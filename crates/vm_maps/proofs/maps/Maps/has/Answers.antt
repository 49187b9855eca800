use Rattle.std.proofs.Common.{◌∙◌}
use Rattle.vm_maps.proofs.Tasks.{has_table}
use Rattle.vm_maps.proofs.maps.Maps.has.Goals as goal

pub returns : goal.returns
returns c = c.contains_key.ensures ∙ has_table c.self.inside.size c.self.inside.tables.entries c.args.self.now c.args.task.0 c.self.view_is
