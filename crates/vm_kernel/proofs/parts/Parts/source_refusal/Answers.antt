use Rattle.vm_kernel.proofs.Common.{rows_in, sym, ◌∙◌}
use Rattle.vm_kernel.proofs.space.RegionCopied.{entry_within}
use Rattle.vm_kernel.proofs.parts.Parts.source_refusal.Goals as goal

pub ends_behind-requires-clause-from : goal.ends_behind-requires-clause-from
ends_behind-requires-clause-from c =
    (entry_within c.args.address (rows_in c.args.task.0 c.args.self.now.maps) c.in-Some.entry (sym c.entry.ensures ∙ c.in-Some.is)).0

pub ends_behind-requires-clause-to : goal.ends_behind-requires-clause-to
ends_behind-requires-clause-to c =
    (entry_within c.args.address (rows_in c.args.task.0 c.args.self.now.maps) c.in-Some.entry (sym c.entry.ensures ∙ c.in-Some.is)).1
