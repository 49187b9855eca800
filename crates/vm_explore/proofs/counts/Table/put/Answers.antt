use Rattle.std.proofs.Common.{ℕ, ◌≡◌, ◌∙◌, [], List, None, Some, ap, sym}
use Rattle.vm_explore.specs.Tables.{Line, place}
use Rattle.vm_explore.proofs.Counted.{counted_again, counted_new}
use Rattle.vm_explore.proofs.counts.Table.put.Goals as goal

pub returns-in-Some-clause-ok : goal.returns-in-Some-clause-ok
returns-in-Some-clause-ok c =
    let now = c.args.self.now in
    let line : Line = record { values = []; times = 0; order = [] } in
    let at : place c.args.values.items now ≡ Some c.in-Some.i = ap (λ (z : List ℕ). place z now) (sym c.deref.ensures.value) ∙ sym c.in-Some.ensures in
    c.count_again.ensures line ∙ sym (counted_again c.args.values.items c.args.order.now now c.in-Some.i line at).1

pub returns-clause-ok : goal.returns-clause-ok
returns-clause-ok c =
    let now = c.args.self.now in
    let at : place c.args.values.items now ≡ None = ap (λ (z : List ℕ). place z now) (sym c.deref.ensures.value) ∙ sym c.in_default.ensures in
    c.in_ok-add.ensures.ok ∙ sym (counted_new c.args.values.items c.args.order.now now at)
