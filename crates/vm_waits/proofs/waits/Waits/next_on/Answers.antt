use Rattle.std.proofs.Common.{◌∙◌}
use Rattle.std.specs.Map.{values_of}
use Rattle.vm_waits.proofs.Tables.{next_matched}
use Rattle.vm_waits.specs.Waits.{waits_page}
use Rattle.vm_waits.proofs.waits.Waits.next_on.Goals as goal

pub returns-clause-row : goal.returns-clause-row
returns-clause-row c =
    let old = c.self.inside in
    rw (← c.self.view_is) (next_matched (waits_page c.args.key) (values_of old.rows.entries) c.oldest_on.result c.self.invariant.0.once
    (rw (c.as_slice.ensures ∙ c.values.ensures.rest) at c.oldest_on.ensures))
