use Rattle.std.proofs.Common.{◌≡◌, ◌∙◌, Some, sym, ap}
use Rattle.std.specs.Option.{option_copied_mut}
use Rattle.vm_maps.specs.Tables.{table_of}
use Rattle.vm_maps.proofs.Changes.{enters, has_entered}
use Rattle.vm_maps.proofs.Tasks.{has_table, some_of, table_is}
use Rattle.vm_maps.proofs.maps.Maps.enter.Goals as goal

pub unwrap-table-requires : goal.unwrap-table-requires
unwrap-table-requires c =
    table_is c.get_mut.result _ c.get_mut.ensures.value (has_table c.self.inside.size c.self.inside.tables.entries c.args.self.now c.args.task.0 c.self.view_is
    ∙ c.requires.there)

pub put_entry-requires-clause-order : goal.put_entry-requires-clause-order
put_entry-requires-clause-order c =
    let found : table_of c.args.task.0 c.self.inside.tables.entries ≡ Some c.unwrap-table.result.now = sym c.get_mut.ensures.value
    ∙ ap option_copied_mut c.unwrap-table.ensures in
    let step = enters c.self.inside.size c.self.inside.tables.entries c.args.self.now c.args.task.0 c.args.change.now c.in-Some.entry c.unwrap-table.result.now
    c.self.view_is c.self.invariant found c.requires.kind c.requires.judged c.in-Some.is c.requires.entry in
    step.read.kept.entries.in_order

pub put_entry-requires-clause-free : goal.put_entry-requires-clause-free
put_entry-requires-clause-free c =
    let found : table_of c.args.task.0 c.self.inside.tables.entries ≡ Some c.unwrap-table.result.now = sym c.get_mut.ensures.value
    ∙ ap option_copied_mut c.unwrap-table.ensures in
    let step = enters c.self.inside.size c.self.inside.tables.entries c.args.self.now c.args.task.0 c.args.change.now c.in-Some.entry c.unwrap-table.result.now
    c.self.view_is c.self.invariant found c.requires.kind c.requires.judged c.in-Some.is c.requires.entry in
    step.clear

pub put_entry-requires-clause-few : goal.put_entry-requires-clause-few
put_entry-requires-clause-few c =
    let found : table_of c.args.task.0 c.self.inside.tables.entries ≡ Some c.unwrap-table.result.now = sym c.get_mut.ensures.value
    ∙ ap option_copied_mut c.unwrap-table.ensures in
    let step = enters c.self.inside.size c.self.inside.tables.entries c.args.self.now c.args.task.0 c.args.change.now c.in-Some.entry c.unwrap-table.result.now
    c.self.view_is c.self.invariant found c.requires.kind c.requires.judged c.in-Some.is c.requires.entry in
    step.few

pub put_entry-requires-clause-room : goal.put_entry-requires-clause-room
put_entry-requires-clause-room c =
    let found : table_of c.args.task.0 c.self.inside.tables.entries ≡ Some c.unwrap-table.result.now = sym c.get_mut.ensures.value
    ∙ ap option_copied_mut c.unwrap-table.ensures in
    let step = enters c.self.inside.size c.self.inside.tables.entries c.args.self.now c.args.task.0 c.args.change.now c.in-Some.entry c.unwrap-table.result.now
    c.self.view_is c.self.invariant found c.requires.kind c.requires.judged c.in-Some.is c.requires.entry in
    step.read.kept.room

pub invariant_of-self-2 : goal.invariant_of-self-2
invariant_of-self-2 c =
    let found : table_of c.args.task.0 c.self.inside.tables.entries ≡ Some c.unwrap-table.result.now = sym c.get_mut.ensures.value
    ∙ ap option_copied_mut c.unwrap-table.ensures in
    let step = enters c.self.inside.size c.self.inside.tables.entries c.args.self.now c.args.task.0 c.args.change.now c.in-Some.entry c.unwrap-table.result.now
    c.self.view_is c.self.invariant found c.requires.kind c.requires.judged c.in-Some.is c.requires.entry in
    let put = (c.get_mut.follows.holds c.put_entry.new.entries).3 (some_of _ _ found) in
    let now = has_entered c.self.inside.size c.self.inside.tables.entries _ c.args.self.now c.args.task.0 c.args.change.now c.in-Some.entry
    c.unwrap-table.result.now c.put_entry.new.entries c.self.view_is c.self.invariant step c.in_ok-put_entry.ensures.entered c.in_ok-put_entry.ensures.room
    (λ other. put.0 (record { 0 = other })) in
    now.kept

pub returns-clause-changes : goal.returns-clause-changes
returns-clause-changes c =
    let found : table_of c.args.task.0 c.self.inside.tables.entries ≡ Some c.unwrap-table.result.now = sym c.get_mut.ensures.value
    ∙ ap option_copied_mut c.unwrap-table.ensures in
    let step = enters c.self.inside.size c.self.inside.tables.entries c.args.self.now c.args.task.0 c.args.change.now c.in-Some.entry c.unwrap-table.result.now
    c.self.view_is c.self.invariant found c.requires.kind c.requires.judged c.in-Some.is c.requires.entry in
    let put = (c.get_mut.follows.holds c.put_entry.new.entries).3 (some_of _ _ found) in
    let now = has_entered c.self.inside.size c.self.inside.tables.entries _ c.args.self.now c.args.task.0 c.args.change.now c.in-Some.entry
    c.unwrap-table.result.now c.put_entry.new.entries c.self.view_is c.self.invariant step c.in_ok-put_entry.ensures.entered c.in_ok-put_entry.ensures.room
    (λ other. put.0 (record { 0 = other })) in
    rw c.in-Some.is now.changes

pub returns-clause-mapped : goal.returns-clause-mapped
returns-clause-mapped c =
    let found : table_of c.args.task.0 c.self.inside.tables.entries ≡ Some c.unwrap-table.result.now = sym c.get_mut.ensures.value
    ∙ ap option_copied_mut c.unwrap-table.ensures in
    let step = enters c.self.inside.size c.self.inside.tables.entries c.args.self.now c.args.task.0 c.args.change.now c.in-Some.entry c.unwrap-table.result.now
    c.self.view_is c.self.invariant found c.requires.kind c.requires.judged c.in-Some.is c.requires.entry in
    let put = (c.get_mut.follows.holds c.put_entry.new.entries).3 (some_of _ _ found) in
    let now = has_entered c.self.inside.size c.self.inside.tables.entries _ c.args.self.now c.args.task.0 c.args.change.now c.in-Some.entry
    c.unwrap-table.result.now c.put_entry.new.entries c.self.view_is c.self.invariant step c.in_ok-put_entry.ensures.entered c.in_ok-put_entry.ensures.room
    (λ other. put.0 (record { 0 = other })) in
    rw c.in-Some.is now.mapped
