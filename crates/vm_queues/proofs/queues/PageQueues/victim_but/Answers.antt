use Rattle.std.proofs.Common.{◌∙◌, ap}
use Rattle.vm_queues.specs.Kept.{page_lists}
use Rattle.vm_queues.specs.Queues.{balanced, spared}
use Rattle.vm_queues.proofs.Queued.{chosen_left, chosen_same, queued_victim}
use Rattle.vm_queues.proofs.queues.PageQueues.victim_but.Goals as goal

pub returns-clause-pages : goal.returns-clause-pages
returns-clause-pages g c =
    queued_victim c.args.self.now (page_lists c.spare.new.lists) (c.spare.ensures.spared ∙ ap spared (c.balance.ensures.balanced ∙ ap balanced c.self.view_is))

pub returns-clause-victim : goal.returns-clause-victim
returns-clause-victim g c = λ skip same.
    c.choose.ensures ∙ chosen_same skip (g.S.Spares.spares c.args.spared.now) (page_lists c.spare.new.lists) c.args.self.now (returns-clause-pages g c) same

pub returns-clause-none : goal.returns-clause-none
returns-clause-none g c =
    chosen_left (g.S.Spares.spares c.args.spared.now) (page_lists c.spare.new.lists) c.args.self.now c.choose.result c.choose.ensures
    (returns-clause-pages g c)
