use Rattle.std.proofs.Common.{◌≡◌, ◌∙◌, true, ap, rules}
use Rattle.vm_pageout.proofs.Listing.{listed_gone}
use Rattle.vm_pageout.proofs.reclaiming.take_page.Goals as goal

pub returns-then-not-row-2-clause-listed : goal.returns-then-not-row-2-clause-listed
returns-then-not-row-2-clause-listed c =
    let here : c.in-Some-get.row.here ≡ true = search rules in
    let left = c.drop_page.ensures.discards in
    listed_gone c.in-Some-get.row.frame.0 c.args.parts.now.queues c.drop_page.new.parts.queues c.stand_once.ensures (left.listed ∙ here) left.queues

pub returns-clause-listed : goal.returns-clause-listed
returns-clause-listed c =
    let here : c.remove.result.here ≡ true = search rules in
    let left = c.remove.ensures.removes in
    listed_gone c.remove.result.frame.0 c.args.parts.now.queues c.return_page.new.parts.queues c.stand_once.ensures (left.listed ∙ here)
    (ap (λ z. z.queues) c.return_page.ensures.rest ∙ left.queues)
