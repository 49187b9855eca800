use Rattle.vm_base.specs.Entries.{by_address}
use Rattle.vm_kernel.proofs.Common.{sym, ◌∙◌}
use Rattle.vm_kernel.proofs.space.EntriesAtBoundary.{cut_behind, cut_inside, cut_nowhere}
use Rattle.vm_kernel.proofs.counting.cut_of.Goals as goal

pub returns-in_default : goal.returns-in_default
returns-in_default c = cut_nowhere c.args.boundary (by_address c.args.entries.now) c.requires (sym c.entry_at.ensures ∙ c.in_default.is)

pub returns-then-entry-boundary : goal.returns-then-entry-boundary
returns-then-entry-boundary c =
    cut_inside c.args.boundary (by_address c.args.entries.now) c.in-Some.entry c.requires (sym c.entry_at.ensures ∙ c.in-Some.is)
    c.if-entry-boundary.true

pub returns : goal.returns
returns c =
    cut_behind c.args.boundary (by_address c.args.entries.now) c.in-Some.entry c.requires (sym c.entry_at.ensures ∙ c.in-Some.is)
    c.if-entry-boundary.false
