use Rattle.std.proofs.Common.{◌≡◌, ◌∙◌, true, false, Some, sym, ap}
use Rattle.std.proofs.lemmas.Bool.{false≢true}
use Rattle.std.specs.Option.{option_copied_mut}
use Rattle.vm_maps.specs.Tables.{table_of}
use Rattle.vm_maps.proofs.Changes.{has_rewritten, rewrites}
use Rattle.vm_maps.proofs.Tasks.{has_table, some_of, table_is}
use Rattle.vm_maps.proofs.maps.Maps.rewrite.Goals as goal

pub unwrap-table-requires : goal.unwrap-table-requires
unwrap-table-requires c =
    table_is c.get_mut.result _ c.get_mut.ensures.value (has_table c.self.inside.size c.self.inside.tables.entries c.args.self.now c.args.task.0 c.self.view_is
    ∙ c.requires.there)

pub replace-requires-clause-within : goal.replace-requires-clause-within
replace-requires-clause-within c =
    let found : table_of c.args.task.0 c.self.inside.tables.entries ≡ Some c.unwrap-table.result.now = sym c.get_mut.ensures.value
    ∙ ap option_copied_mut c.unwrap-table.ensures in
    let made = c.in_ok-made.made in
    let step = rewrites c.self.inside.size c.self.inside.tables.entries c.args.self.now c.args.task.0 c.args.change.now c.unwrap-table.result.now
    c.entries.result.now made.from made.to made.kept c.self.view_is c.self.invariant found c.entries.ensures.value c.in_ok-made.ensures.order
    c.in_ok-made.ensures.within c.in_ok-made.ensures.kept c.requires.few in
    step.within

pub invariant_of-self : goal.invariant_of-self
invariant_of-self c =
    let found : table_of c.args.task.0 c.self.inside.tables.entries ≡ Some c.unwrap-table.result.now = sym c.get_mut.ensures.value
    ∙ ap option_copied_mut c.unwrap-table.ensures in
    let made = c.in_ok-made.made in
    let step = rewrites c.self.inside.size c.self.inside.tables.entries c.args.self.now c.args.task.0 c.args.change.now c.unwrap-table.result.now
    c.entries.result.now made.from made.to made.kept c.self.view_is c.self.invariant found c.entries.ensures.value c.in_ok-made.ensures.order
    c.in_ok-made.ensures.within c.in_ok-made.ensures.kept c.requires.few in
    let no : false ≡ true = rw c.in_err-replace.was at (c.replace.ensures.succeeds step.fits) in
    absurd (false≢true no)

pub returns-in_err-replace-clause-err : goal.returns-in_err-replace-clause-err
returns-in_err-replace-clause-err c =
    let found : table_of c.args.task.0 c.self.inside.tables.entries ≡ Some c.unwrap-table.result.now = sym c.get_mut.ensures.value
    ∙ ap option_copied_mut c.unwrap-table.ensures in
    let made = c.in_ok-made.made in
    let step = rewrites c.self.inside.size c.self.inside.tables.entries c.args.self.now c.args.task.0 c.args.change.now c.unwrap-table.result.now
    c.entries.result.now made.from made.to made.kept c.self.view_is c.self.invariant found c.entries.ensures.value c.in_ok-made.ensures.order
    c.in_ok-made.ensures.within c.in_ok-made.ensures.kept c.requires.few in
    let no : false ≡ true = rw c.in_err-replace.was at (c.replace.ensures.succeeds step.fits) in
    absurd (false≢true no)

pub invariant_of-self-2 : goal.invariant_of-self-2
invariant_of-self-2 c =
    let found : table_of c.args.task.0 c.self.inside.tables.entries ≡ Some c.unwrap-table.result.now = sym c.get_mut.ensures.value
    ∙ ap option_copied_mut c.unwrap-table.ensures in
    let made = c.in_ok-made.made in
    let step = rewrites c.self.inside.size c.self.inside.tables.entries c.args.self.now c.args.task.0 c.args.change.now c.unwrap-table.result.now
    c.entries.result.now made.from made.to made.kept c.self.view_is c.self.invariant found c.entries.ensures.value c.in_ok-made.ensures.order
    c.in_ok-made.ensures.within c.in_ok-made.ensures.kept c.requires.few in
    let put = (c.get_mut.follows.holds c.replace.new.self).3 (some_of _ _ found) in
    let now = has_rewritten c.self.inside.size c.self.inside.tables.entries _ c.args.self.now c.args.task.0 c.args.change.now c.unwrap-table.result.now
    made.from made.to made.kept c.replace.new.self c.self.view_is c.self.invariant step c.requires.range c.requires.few c.in_ok-replace.ensures.ok
    c.in_ok-replace.ensures.room (λ other. put.0 (record { 0 = other })) in
    now.kept

pub returns-clause-changes : goal.returns-clause-changes
returns-clause-changes c =
    let found : table_of c.args.task.0 c.self.inside.tables.entries ≡ Some c.unwrap-table.result.now = sym c.get_mut.ensures.value
    ∙ ap option_copied_mut c.unwrap-table.ensures in
    let made = c.in_ok-made.made in
    let step = rewrites c.self.inside.size c.self.inside.tables.entries c.args.self.now c.args.task.0 c.args.change.now c.unwrap-table.result.now
    c.entries.result.now made.from made.to made.kept c.self.view_is c.self.invariant found c.entries.ensures.value c.in_ok-made.ensures.order
    c.in_ok-made.ensures.within c.in_ok-made.ensures.kept c.requires.few in
    let put = (c.get_mut.follows.holds c.replace.new.self).3 (some_of _ _ found) in
    let now = has_rewritten c.self.inside.size c.self.inside.tables.entries _ c.args.self.now c.args.task.0 c.args.change.now c.unwrap-table.result.now
    made.from made.to made.kept c.replace.new.self c.self.view_is c.self.invariant step c.requires.range c.requires.few c.in_ok-replace.ensures.ok
    c.in_ok-replace.ensures.room (λ other. put.0 (record { 0 = other })) in
    now.changes

pub returns-clause-mapped : goal.returns-clause-mapped
returns-clause-mapped c =
    let found : table_of c.args.task.0 c.self.inside.tables.entries ≡ Some c.unwrap-table.result.now = sym c.get_mut.ensures.value
    ∙ ap option_copied_mut c.unwrap-table.ensures in
    let made = c.in_ok-made.made in
    let step = rewrites c.self.inside.size c.self.inside.tables.entries c.args.self.now c.args.task.0 c.args.change.now c.unwrap-table.result.now
    c.entries.result.now made.from made.to made.kept c.self.view_is c.self.invariant found c.entries.ensures.value c.in_ok-made.ensures.order
    c.in_ok-made.ensures.within c.in_ok-made.ensures.kept c.requires.few in
    let put = (c.get_mut.follows.holds c.replace.new.self).3 (some_of _ _ found) in
    let now = has_rewritten c.self.inside.size c.self.inside.tables.entries _ c.args.self.now c.args.task.0 c.args.change.now c.unwrap-table.result.now
    made.from made.to made.kept c.replace.new.self c.self.view_is c.self.invariant step c.requires.range c.requires.few c.in_ok-replace.ensures.ok
    c.in_ok-replace.ensures.room (λ other. put.0 (record { 0 = other })) in
    now.mapped
