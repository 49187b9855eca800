use Rattle.std.proofs.Common.{◌≡◌, ◌∙◌, Some, sym, ap}
use Rattle.std.specs.Option.{option_copied_mut}
use Rattle.vm_maps.specs.Tables.{table_of}
use Rattle.vm_maps.proofs.Changes.{has_set}
use Rattle.vm_maps.proofs.Tasks.{has_table, some_of, table_is, table_read}
use Rattle.vm_maps.proofs.maps.Maps.set.Goals as goal

pub unwrap-table-requires : goal.unwrap-table-requires
unwrap-table-requires c =
    table_is c.get_mut.result _ c.get_mut.ensures.value (has_table c.self.inside.size c.self.inside.tables.entries c.args.self.now c.args.task.0 c.self.view_is
    ∙ c.requires.there)

pub set-requires-clause-entries : goal.set-requires-clause-entries
set-requires-clause-entries c =
    let found : table_of c.args.task.0 c.self.inside.tables.entries ≡ Some c.unwrap-table.result.now = sym c.get_mut.ensures.value
    ∙ ap option_copied_mut c.unwrap-table.ensures in
    let read = table_read c.self.inside.size c.self.inside.tables.entries c.args.self.now c.args.task.0 c.unwrap-table.result.now c.self.view_is
    c.self.invariant found in
    read.kept.entries

pub set-requires-clause-few : goal.set-requires-clause-few
set-requires-clause-few c =
    let found : table_of c.args.task.0 c.self.inside.tables.entries ≡ Some c.unwrap-table.result.now = sym c.get_mut.ensures.value
    ∙ ap option_copied_mut c.unwrap-table.ensures in
    let read = table_read c.self.inside.size c.self.inside.tables.entries c.args.self.now c.args.task.0 c.unwrap-table.result.now c.self.view_is
    c.self.invariant found in
    rw (read.size, read.rows) at c.requires.few

pub set-requires-clause-room : goal.set-requires-clause-room
set-requires-clause-room c =
    let found : table_of c.args.task.0 c.self.inside.tables.entries ≡ Some c.unwrap-table.result.now = sym c.get_mut.ensures.value
    ∙ ap option_copied_mut c.unwrap-table.ensures in
    let read = table_read c.self.inside.size c.self.inside.tables.entries c.args.self.now c.args.task.0 c.unwrap-table.result.now c.self.view_is
    c.self.invariant found in
    read.kept.room

pub invariant_of-self : goal.invariant_of-self
invariant_of-self c =
    let found : table_of c.args.task.0 c.self.inside.tables.entries ≡ Some c.unwrap-table.result.now = sym c.get_mut.ensures.value
    ∙ ap option_copied_mut c.unwrap-table.ensures in
    let read = table_read c.self.inside.size c.self.inside.tables.entries c.args.self.now c.args.task.0 c.unwrap-table.result.now c.self.view_is
    c.self.invariant found in
    let put = (c.get_mut.follows.holds c.set.new.entries).3 (some_of _ _ found) in
    let now = has_set c.self.inside.size c.self.inside.tables.entries _ c.args.self.now c.args.task.0 c.args.change.now c.unwrap-table.result.now
    c.set.new.entries c.self.view_is c.self.invariant read c.requires.range c.requires.few c.set.ensures.set c.set.ensures.room
    (λ other. put.0 (record { 0 = other })) in
    now.kept

pub returns-clause-changes : goal.returns-clause-changes
returns-clause-changes c =
    let found : table_of c.args.task.0 c.self.inside.tables.entries ≡ Some c.unwrap-table.result.now = sym c.get_mut.ensures.value
    ∙ ap option_copied_mut c.unwrap-table.ensures in
    let read = table_read c.self.inside.size c.self.inside.tables.entries c.args.self.now c.args.task.0 c.unwrap-table.result.now c.self.view_is
    c.self.invariant found in
    let put = (c.get_mut.follows.holds c.set.new.entries).3 (some_of _ _ found) in
    let now = has_set c.self.inside.size c.self.inside.tables.entries _ c.args.self.now c.args.task.0 c.args.change.now c.unwrap-table.result.now
    c.set.new.entries c.self.view_is c.self.invariant read c.requires.range c.requires.few c.set.ensures.set c.set.ensures.room
    (λ other. put.0 (record { 0 = other })) in
    now.changes

pub returns-clause-mapped : goal.returns-clause-mapped
returns-clause-mapped c =
    let found : table_of c.args.task.0 c.self.inside.tables.entries ≡ Some c.unwrap-table.result.now = sym c.get_mut.ensures.value
    ∙ ap option_copied_mut c.unwrap-table.ensures in
    let read = table_read c.self.inside.size c.self.inside.tables.entries c.args.self.now c.args.task.0 c.unwrap-table.result.now c.self.view_is
    c.self.invariant found in
    let put = (c.get_mut.follows.holds c.set.new.entries).3 (some_of _ _ found) in
    let now = has_set c.self.inside.size c.self.inside.tables.entries _ c.args.self.now c.args.task.0 c.args.change.now c.unwrap-table.result.now
    c.set.new.entries c.self.view_is c.self.invariant read c.requires.range c.requires.few c.set.ensures.set c.set.ensures.room
    (λ other. put.0 (record { 0 = other })) in
    now.mapped
