use Rattle.std.proofs.Common.{◌≡◌, ◌-◌, Bool, List, length}
use Rattle.vm_queues.specs.Kept.{FramesAreApart, frames_on, pages}
use Rattle.vm_queues.specs.Links.{along, link_of}
use Rattle.vm_queues.specs.Queues.{first_left}
use Rattle.vm_queues.proofs.lists.first_left.Given as goal

abbrev pub invariant-all : goal.invariant-all
invariant-all g l = record {
  apart : FramesAreApart (length l.links) (along (link_of l.links) (l.fn.ends.count - l.counter) l.at);
  same : (marks : List Bool) → first_left (g.S.Spares.spares l.spared) (pages marks (along (link_of l.links) (l.fn.ends.count - l.counter) l.at)) ≡ first_left (g.S.Spares.spares l.spared)
      (pages marks (frames_on l.links l.fn.ends));
}
