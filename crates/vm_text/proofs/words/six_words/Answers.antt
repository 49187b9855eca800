use Rattle.vm_text.proofs.Counts.{six_from}
use Rattle.vm_text.proofs.words.six_words.Goals as goal

pub returns : goal.returns
returns c = six_from _ _ _ _ c.in-Some.ensures c.in_ok-second.ensures
