use Rattle.vm_kernel.proofs.Common.{ap, arith, by_address, copies_from, length-reverse, sym, ◌∙◌}
use Rattle.vm_kernel.proofs.space.CopiesCounted.{drop_past}
use Rattle.vm_kernel.proofs.space.CopiesCounted.{from_one, from_other}
use Rattle.vm_kernel.proofs.copying.copies_from.Goals as goal

pub returns-then-copies_region : goal.returns-then-copies_region
returns-then-copies_region c =
    sym (from_one (by_address c.args.entries.now) c.all.i c.args.region.0 c.at.result.now c.at.ensures (sym c.copies_region.ensures ∙ c.if-copies_region.true))
    ∙ c.all.invariant

pub all-preserved : goal.all-preserved
all-preserved c =
    sym (from_other (by_address c.args.entries.now) c.all.i c.args.region.0 c.at.result.now c.at.ensures
    (sym c.copies_region.ensures ∙ c.if-copies_region.false)) ∙ c.all.invariant

pub returns : goal.returns
returns c =
    let past = drop_past (by_address c.args.entries.now) c.all.i (omega (
      arith,
      length-reverse c.args.entries.now.items,
      c.all-test.false,
      c.len-i-end.ensures,
    )) in
    sym (ap (copies_from c.args.region.0) past) ∙ c.all.invariant
