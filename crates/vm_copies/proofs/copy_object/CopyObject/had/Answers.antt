use Rattle.std.proofs.Common.{◌==◌, ◌%◌, ◌/◌, ◌∙◌, ap, sym}
use Rattle.std.proofs.lemmas.Nat.Bits.{shr_and_one}
use Rattle.std.specs.Prelude.{slice_index_or}
use Rattle.vm_copies.proofs.Words.{at_above, at_below}
use Rattle.vm_copies.specs.Pages.{is_set}
use Rattle.vm_copies.proofs.copy_object.CopyObject.had.Goals as goal

pub returns-then-page-self-clause-had : goal.returns-then-page-self-clause-had
returns-then-page-self-clause-had c =
    rw (← c.self.view_is) (sym (at_above c.self.inside.pages (is_set c.self.inside.words) c.args.page.0 c.if-page-self.true))

pub returns-clause-had : goal.returns-clause-had
returns-clause-had c =
    rw (← c.self.view_is)
    (ap (λ z. z == 1) (shr_and_one (slice_index_or c.self.inside.words (c.args.page.0 / 64) 0) (c.args.page.0 % 64))
    ∙ sym (at_below c.self.inside.pages (is_set c.self.inside.words) c.args.page.0 c.if-page-self.false))
