use Rattle.std.proofs.Common.{◌≡◌, ◌∙◌, Some, None, sym}
use Rattle.vm_maps.specs.Tables.{table_of}
use Rattle.vm_maps.proofs.Tasks.{edited, has_table, table_read}
use Rattle.vm_maps.proofs.maps.Maps.end_task.Goals as goal

pub unwrap-requires : goal.unwrap-requires
unwrap-requires c =
    rw c.swap_remove.ensures.value (has_table c.self.inside.size c.self.inside.tables.entries c.args.self.now c.args.task.0 c.self.view_is ∙ c.requires)

pub invariant_of-self : goal.invariant_of-self
invariant_of-self c =
    let gone = edited c.self.inside.size c.self.inside.tables.entries c.swap_remove.new.self.entries c.args.self.now c.args.task.0 None c.self.view_is
    c.self.invariant tt (λ other. c.swap_remove.ensures.updates.0 (record { 0 = other })) in
    gone.kept

pub returns-clause-entries : goal.returns-clause-entries
returns-clause-entries c =
    let found : table_of c.args.task.0 c.self.inside.tables.entries ≡ Some c.unwrap.result = sym c.swap_remove.ensures.value ∙ c.unwrap.ensures in
    let read = table_read c.self.inside.size c.self.inside.tables.entries c.args.self.now c.args.task.0 c.unwrap.result c.self.view_is c.self.invariant found in
    read.is

pub returns-clause-ended : goal.returns-clause-ended
returns-clause-ended c =
    let gone = edited c.self.inside.size c.self.inside.tables.entries c.swap_remove.new.self.entries c.args.self.now c.args.task.0 None c.self.view_is
    c.self.invariant tt (λ other. c.swap_remove.ensures.updates.0 (record { 0 = other })) in
    gone.changes
