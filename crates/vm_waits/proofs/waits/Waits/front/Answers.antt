use Rattle.std.specs.Map.{values_of}
use Rattle.std.proofs.Common.{◌≡◌, ◌∙◌, List, Some, sym, ap}
use Rattle.std.specs.Prelude.{slice_get}
use Rattle.vm_base.specs.declared.ids.TaskId.{TaskId}
use Rattle.vm_waits.proofs.Tables.{first_read, fronted}
use Rattle.vm_waits.specs.Waits.{entry, first_in_queue}
use Rattle.vm_waits.proofs.waits.Waits.front.Goals as goal

pub returns-clause-first : goal.returns-clause-first
returns-clause-first c =
    let old = c.self.inside in
    let task = c.in_ok-task.field-0.now in
    let is : first_in_queue old.queue.items ≡ Some task = sym (first_read old.queue.items) ∙ ap (λ (z : List TaskId). slice_get z 0) (sym c.deref.ensures.value)
    ∙ sym c.in_ok-task.ensures.value in
    let got : c.get.result ≡ entry (values_of old.rows.entries) task.0 = rw (← c.self.view_is) at c.get.ensures in
    let front = fronted (values_of old.rows.entries) old.queue.items task c.get.result c.self.invariant.2 is got in
    rw (← c.self.view_is) front.0

pub returns-clause-row : goal.returns-clause-row
returns-clause-row c =
    let old = c.self.inside in
    let task = c.in_ok-task.field-0.now in
    let is : first_in_queue old.queue.items ≡ Some task = sym (first_read old.queue.items) ∙ ap (λ (z : List TaskId). slice_get z 0) (sym c.deref.ensures.value)
    ∙ sym c.in_ok-task.ensures.value in
    let got : c.get.result ≡ entry (values_of old.rows.entries) task.0 = rw (← c.self.view_is) at c.get.ensures in
    let front = fronted (values_of old.rows.entries) old.queue.items task c.get.result c.self.invariant.2 is got in
    rw (← c.self.view_is) front.1
