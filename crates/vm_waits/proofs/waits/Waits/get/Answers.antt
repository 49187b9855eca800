use Rattle.std.proofs.Common.{◌∙◌}
use Rattle.vm_waits.proofs.ByTask.{looked_up}
use Rattle.vm_waits.proofs.waits.Waits.get.Goals as goal

pub returns : goal.returns
returns c = rw (← c.self.view_is) (c.copied.ensures ∙ c.get.ensures.value ∙ looked_up c.args.task.0 c.self.inside.rows.entries c.self.invariant.0)
