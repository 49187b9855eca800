use Rattle.vm_kernel.proofs.Common.{ap, arith, by_address, length-reverse, new_marks, sym, ◌∙◌}
use Rattle.vm_kernel.specs.Refusing.{takes_no_mark}
use Rattle.vm_kernel.proofs.space.CopiesCounted.{drop_past}
use Rattle.vm_kernel.proofs.space.CopiesCounted.{marks_one, marks_other}
use Rattle.vm_kernel.proofs.copying.new_marks.Goals as goal
use Rattle.vm_kernel.proofs.copying.new_marks.Goals.{then-is_newly_marked, else-is_newly_marked}

pub all-preserved : goal.all-preserved
all-preserved c =
    let rows = by_address c.args.entries.now in
    elim c.if-is_newly_marked.branch [
      | then-is_newly_marked w ↦
          (let more = marks_one (takes_no_mark c.args.declared c.args.chains.now) rows c.all.i c.at.result.now c.at.ensures
          (sym c.is_newly_marked.ensures ∙ w.if-is_newly_marked.true) in
          record { sum = omega (arith, more, w.count-is, c.all.invariant.sum); few = omega (arith, w.count-is, c.all.invariant.few) })
      | else-is_newly_marked w ↦
          (let more = marks_other (takes_no_mark c.args.declared c.args.chains.now) rows c.all.i c.at.result.now c.at.ensures
          (sym c.is_newly_marked.ensures ∙ w.if-is_newly_marked.false) in
          record { sum = omega (arith, more, w.count-is, c.all.invariant.sum); few = omega (arith, w.count-is, c.all.invariant.few) })
    ]

pub returns-clause-count : goal.returns-clause-count
returns-clause-count c =
    let past = drop_past (by_address c.args.entries.now) c.all.i (omega (
      arith,
      length-reverse c.args.entries.now.items,
      c.all-test.false,
      c.len-i-end.ensures,
    )) in
    omega (arith, ap (new_marks (takes_no_mark c.args.declared c.args.chains.now)) past, c.all.invariant.sum)
