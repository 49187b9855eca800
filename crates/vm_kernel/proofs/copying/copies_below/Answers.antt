use Rattle.vm_kernel.proofs.Common.{ap, arith, by_address, length-reverse, sym, ◌∙◌}
use Rattle.vm_kernel.proofs.space.CopiesCounted.{below_one, below_other, drop_past}
use Rattle.vm_model.specs.Tasks.{copies_below}
use Rattle.vm_kernel.proofs.copying.copies_below.Goals as goal
use Rattle.vm_kernel.proofs.copying.copies_below.Goals.{then-is_copied_below, else-is_copied_below}

pub all-preserved : goal.all-preserved
all-preserved c =
    let rows = by_address c.args.entries.now in
    elim c.if-is_copied_below.branch [
      | then-is_copied_below w ↦
          (let more = below_one rows c.all.i c.args.declared c.at.result.now c.at.ensures (sym c.is_copied_below.ensures ∙ w.if-is_copied_below.true) in
          record { sum = omega (arith, more, w.count-is, c.all.invariant.sum); few = omega (arith, w.count-is, c.all.invariant.few) })
      | else-is_copied_below w ↦
          (let more = below_other rows c.all.i c.args.declared c.at.result.now c.at.ensures (sym c.is_copied_below.ensures ∙ w.if-is_copied_below.false) in
          record { sum = omega (arith, more, w.count-is, c.all.invariant.sum); few = omega (arith, w.count-is, c.all.invariant.few) })
    ]

pub returns-clause-count : goal.returns-clause-count
returns-clause-count c =
    let past = drop_past (by_address c.args.entries.now) c.all.i (omega (
      arith,
      length-reverse c.args.entries.now.items,
      c.all-test.false,
      c.len-i-end.ensures,
    )) in
    omega (arith, ap (copies_below c.args.declared) past, c.all.invariant.sum)
