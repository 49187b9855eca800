use Rattle.vm_base.specs.Limits.{most_pages}
use Rattle.vm_kernel.proofs.parts.Parts.merge.Given as goal

abbrev pub ghost-merge_losers : goal.ghost-merge_losers
ghost-merge_losers g a = most_pages
