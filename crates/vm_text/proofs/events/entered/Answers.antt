use Rattle.vm_model.specs.Text.{line_of}
use Rattle.vm_text.proofs.events.entered.Goals as goal

pub returns : goal.returns
unfolding line_of
returns c = rw (c.from.ensures, c.from-2.ensures, c.from-3.ensures, c.prot_number.ensures, c.inherit_number.ensures) at c.put_line.ensures
