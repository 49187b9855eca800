use Rattle.std.proofs.Common.{◌∙◌, ap}
use Rattle.vm_queues.specs.Kept.{page_lists}
use Rattle.vm_queues.specs.Queues.{balanced}
use Rattle.vm_queues.proofs.Queued.{queued_balanced}
use Rattle.vm_queues.proofs.queues.PageQueues.balance.Goals as goal

pub returns-clause-pages : goal.returns-clause-pages
returns-clause-pages c = queued_balanced c.args.self.now (page_lists c.balance.new.lists) (c.balance.ensures.balanced ∙ ap balanced c.self.view_is)
