use Rattle.vm_kernel.proofs.Common.{ap, arith, by_address, length-reverse, sym, ◌∙◌}
use Rattle.vm_kernel.proofs.space.CopiesCounted.{drop_past, meets_one, meets_other}
use Rattle.vm_kernel.specs.Refusing.{meets_uncopied}
use Rattle.vm_kernel.proofs.copying.meets_uncopied.Goals as goal

pub returns-then-is_uncopied_in : goal.returns-then-is_uncopied_in
returns-then-is_uncopied_in c =
    sym (meets_one (by_address c.args.entries.now) c.all.i c.args.declared.now.items c.args.address c.args.bytes c.at.result.now c.at.ensures
    (sym c.is_uncopied_in.ensures ∙ c.if-is_uncopied_in.true)) ∙ c.all.invariant

pub all-preserved : goal.all-preserved
all-preserved c =
    sym (meets_other (by_address c.args.entries.now) c.all.i c.args.declared.now.items c.args.address c.args.bytes c.at.result.now c.at.ensures
    (sym c.is_uncopied_in.ensures ∙ c.if-is_uncopied_in.false)) ∙ c.all.invariant

pub returns : goal.returns
returns c =
    let past = drop_past (by_address c.args.entries.now) c.all.i (omega (
      arith,
      length-reverse c.args.entries.now.items,
      c.all-test.false,
      c.len-i-end.ensures,
    )) in
    sym (ap (meets_uncopied c.args.declared.now.items c.args.address c.args.bytes) past) ∙ c.all.invariant
