use Rattle.std.proofs.Common.{◌≡◌, ◌∙◌, sym}
use Rattle.vm_objects.proofs.Kept.{mark_is, past_end}
use Rattle.vm_objects.specs.Objects.{absent_among}
use Rattle.vm_objects.proofs.objects.Objects.known_absent.Goals as goal

is : (c : goal.After-contains) → c.contains.result ≡ absent_among c.args.key.object.0 c.args.key.page.0 c.self.inside.absent.keys
is c = c.contains.ensures ∙ sym (mark_is c.args.key.object.0 c.args.key.page.0 c.self.inside.absent.keys)

pub returns-clause-mark : goal.returns-clause-mark
returns-clause-mark c = rw (← c.self.view_is) (is c)

pub returns-clause-past : goal.returns-clause-past
returns-clause-past c = rw (← c.self.view_is, is c) (past_end c.args.key.object.0 c.args.key.page.0 c.self.inside.rows.entries _ _ _ c.self.invariant)
