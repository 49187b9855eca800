use Rattle.std.proofs.Common.{◌∙◌}
use Rattle.std.specs.Map.{values_of}
use Rattle.vm_waits.proofs.Tables.{matched}
use Rattle.vm_waits.specs.Waits.{is_again}
use Rattle.vm_waits.proofs.waits.Waits.next_again.Goals as goal

pub returns-clause-row : goal.returns-clause-row
returns-clause-row c =
    let old = c.self.inside in
    rw (← c.self.view_is) (matched is_again (values_of old.rows.entries) c.oldest_again.result c.self.invariant.0.once
    (rw (c.as_slice.ensures ∙ c.values.ensures.rest) at c.oldest_again.ensures))
