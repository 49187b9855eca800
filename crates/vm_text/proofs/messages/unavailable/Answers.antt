use Rattle.vm_model.specs.Text.{message_text}
use Rattle.vm_text.proofs.messages.unavailable.Goals as goal

pub returns : goal.returns
unfolding message_text
returns c = rw c.from.ensures at c.put_text.ensures
