use Rattle.std.proofs.Common.{rules}
use Rattle.vm_explore.proofs.Occurrences.{occurrences_counted}
use Rattle.vm_explore.proofs.levels.occurrences.Goals as goal

pub returns : goal.returns
returns c = search (rules, occurrences_counted)
