use Rattle.std.proofs.Common.{◌∙◌, ap}
use Rattle.vm_queues.specs.Kept.{page_lists}
use Rattle.vm_queues.specs.Queues.{balanced, is_skipped, spared}
use Rattle.vm_queues.proofs.Queued.{chosen_left, chosen_skipped, queued_victim}
use Rattle.vm_queues.proofs.queues.PageQueues.victim.Goals as goal

pub returns-clause-pages : goal.returns-clause-pages
returns-clause-pages c =
    queued_victim c.args.self.now (page_lists c.spare.new.lists) (c.spare.ensures.spared ∙ ap spared (c.balance.ensures.balanced ∙ ap balanced c.self.view_is))

pub returns-clause-victim : goal.returns-clause-victim
returns-clause-victim c = c.choose.ensures ∙ chosen_skipped c.args.skip.now (page_lists c.spare.new.lists)

pub returns-clause-none : goal.returns-clause-none
returns-clause-none c =
    let new = page_lists c.spare.new.lists in
    chosen_left (is_skipped c.args.skip.now) new c.args.self.now c.choose.result c.choose.ensures
    (queued_victim c.args.self.now new (c.spare.ensures.spared ∙ ap spared (c.balance.ensures.balanced ∙ ap balanced c.self.view_is)))
