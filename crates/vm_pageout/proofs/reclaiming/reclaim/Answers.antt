use Rattle.std.proofs.Common.{ap, refl}
use Rattle.vm_parts.proofs.Fitting.{fit_buffers, fit_touched}
use Rattle.vm_pageout.proofs.Listing.{listed_searched}
use Rattle.vm_parts.specs.Listed.{listed_pages}
use Rattle.std.proofs.Common.{◌∙◌}
use Rattle.vm_pageout.proofs.reclaiming.reclaim.Goals as goal

pub take_page-requires-clause-fit : goal.take_page-requires-clause-fit
take_page-requires-clause-fit c =
    fit_buffers _ c.reserve-2.new.self.size c.reserve-2.new.self.count (fit_touched c.args.parts.now c.victim.new.self c.requires.fit c.victim.ensures.pages
    (ap (λ z. z.frames) c.victim.ensures.queues)) c.in_ok-reserve-2.ensures.size

pub returns-in_default-clause-listed : goal.returns-in_default-clause-listed
returns-in_default-clause-listed c =
    (λ nothing. ap listed_pages c.victim.ensures.queues ∙ listed_searched c.args.parts.now.queues, λ apart. absurd (apart refl))

pub returns-clause-listed : goal.returns-clause-listed
returns-clause-listed c = (
  λ nothing. absurd (rw nothing at c.take_page.ensures.takes),
  λ apart. c.take_page.ensures.listed ∙ (ap listed_pages c.victim.ensures.queues ∙ listed_searched c.args.parts.now.queues),
)
