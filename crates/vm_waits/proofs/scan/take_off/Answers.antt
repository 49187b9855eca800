use Rattle.std.proofs.Common.{rules, ◌∙◌}
use Rattle.std.proofs.lemmas.Fn.{filter_same}
use Rattle.vm_waits.proofs.Lines.{filtered}
use Rattle.vm_waits.proofs.scan.take_off.Goals as goal

pub returns-clause-tasks : goal.returns-clause-tasks
returns-clause-tasks c = filter_same _ _ _ (λ x b f' k. search rules) _ _ c.retain.ensures.filtered ∙ filtered c.args.task.0 c.args.queue.now.items
