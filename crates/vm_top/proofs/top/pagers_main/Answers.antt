use Rattle.std.proofs.Common.{Some, ap, sym, ◌∙◌}
use Rattle.vm_top.proofs.Arms.{kept_disarmed}
use Rattle.vm_top.proofs.top.pagers_main.Goals as goal

pub returns-in-Some-Run-clause-bad : goal.returns-in-Some-Run-clause-bad
returns-in-Some-Run-clause-bad g c = λ line kind is.
    (c.in-Some-Run.report, sym c.asked.ensures.job ∙ (c.in-Some-Run.is ∙ ap Some c.in-Some-Run.field-0-is), c.run.ensures.bad line kind is)

pub returns-in-Some-Generate-clause-files : goal.returns-in-Some-Generate-clause-files
returns-in-Some-Generate-clause-files g c = kept_disarmed _ _ _ c.args.files.now _ _ (rw c.disarm.ensures at c.generate.ensures.files)

pub returns-in-Some-Generate-clause-paging : goal.returns-in-Some-Generate-clause-paging
returns-in-Some-Generate-clause-paging g c = kept_disarmed _ _ _ c.args.paging.now _ _ (rw c.disarm-2.ensures at c.generate.ensures.paging)
