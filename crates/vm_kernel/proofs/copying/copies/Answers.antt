use Rattle.vm_kernel.proofs.Common.{ap, arith, by_address, copies, length-reverse, sym, ◌∙◌}
use Rattle.vm_kernel.proofs.space.CopiesCounted.{drop_past}
use Rattle.vm_kernel.proofs.space.CopiesCounted.{copies_one, copies_other}
use Rattle.vm_kernel.proofs.copying.copies.Goals as goal
use Rattle.vm_kernel.proofs.copying.copies.Goals.{then-is_copied, else-is_copied}

pub all-preserved : goal.all-preserved
all-preserved c =
    let rows = by_address c.args.entries.now in
    elim c.if-is_copied.branch [
      | then-is_copied w ↦
          (let more = copies_one rows c.all.i c.at.result.now c.at.ensures (sym c.is_copied.ensures ∙ w.if-is_copied.true) in
          record { sum = omega (arith, more, w.count-is, c.all.invariant.sum); few = omega (arith, w.count-is, c.all.invariant.few) })
      | else-is_copied w ↦
          (let more = copies_other rows c.all.i c.at.result.now c.at.ensures (sym c.is_copied.ensures ∙ w.if-is_copied.false) in
          record { sum = omega (arith, more, w.count-is, c.all.invariant.sum); few = omega (arith, w.count-is, c.all.invariant.few) })
    ]

pub returns-clause-count : goal.returns-clause-count
returns-clause-count c =
    let past = drop_past (by_address c.args.entries.now) c.all.i (omega (
      arith,
      length-reverse c.args.entries.now.items,
      c.all-test.false,
      c.len-i-end.ensures,
    )) in
    omega (arith, ap copies past, c.all.invariant.sum)
