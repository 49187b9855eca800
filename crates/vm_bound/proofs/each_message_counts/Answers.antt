use Rattle.vm_bound.proofs.Weights.{letters_counted}
use Rattle.vm_bound.proofs.each_message_counts.Goals as goal

pub returns : goal.returns
returns c = letters_counted
