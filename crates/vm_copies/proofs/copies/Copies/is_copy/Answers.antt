use Rattle.std.proofs.Common.{◌∙◌, ap, is_some, sym}
use Rattle.vm_copies.proofs.Tables.{among_is}
use Rattle.vm_copies.proofs.copies.Copies.is_copy.Goals as goal

pub returns : goal.returns
returns c = rw (← c.self.view_is) (c.contains_key.ensures ∙ ap is_some (sym (among_is c.args.object.0 c.self.inside.copies.entries)))
