use Rattle.std.proofs.Common.{◌∙◌, Some, subst, sym}
use Rattle.vm_maps.specs.Tables.{AreTables}
use Rattle.vm_maps.proofs.Tasks.{edited, empty_table}
use Rattle.vm_maps.proofs.maps.Maps.add_task.Goals as goal

pub invariant_of-self : goal.invariant_of-self
invariant_of-self c = subst (AreTables c.self.inside.size) (sym c.in_err-insert.ensures.err) c.self.invariant

pub invariant_of-self-2 : goal.invariant_of-self-2
invariant_of-self-2 c =
    let table = empty_table c.self.inside.size c.reserve.new.self (c.in_ok-reserve.ensures.same ∙ c.new-entries.ensures) c.in_ok-reserve.ensures.room in
    let made = edited c.self.inside.size c.self.inside.tables.entries c.insert.new.self.entries c.args.self.now c.args.task.0 (Some c.reserve.new.self)
    c.self.view_is c.self.invariant table (λ other. c.in_ok-insert.ensures.updates.0 (record { 0 = other })) in
    made.kept

pub returns-clause-ok : goal.returns-clause-ok
returns-clause-ok c =
    let none = c.in_ok-reserve.ensures.same ∙ c.new-entries.ensures in
    let table = empty_table c.self.inside.size c.reserve.new.self none c.in_ok-reserve.ensures.room in
    let made = edited c.self.inside.size c.self.inside.tables.entries c.insert.new.self.entries c.args.self.now c.args.task.0 (Some c.reserve.new.self)
    c.self.view_is c.self.invariant table (λ other. c.in_ok-insert.ensures.updates.0 (record { 0 = other })) in
    rw none at made.changes
