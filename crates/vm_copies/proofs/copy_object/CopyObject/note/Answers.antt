use Rattle.std.proofs.Common.{◌≡◌, ◌<◌, ◌∙◌, ap, Bool, List}
use Rattle.vm_copies.proofs.Words.{had_with, pages_with, words_with}
use Rattle.vm_copies.specs.Copies.{CopyRow}
use Rattle.vm_copies.specs.Pages.{pages_in}
use Rattle.std.specs.Prelude.{false, slice_index_or, slice_set, true}
use Rattle.vm_copies.proofs.copy_object.CopyObject.note.Goals as goal

below : (c : goal.After-self-1) → c.args.page.0 < c.self.inside.pages
below c = rw (← c.self.view_is) at c.requires

is : (c : goal.After-self-1) → pages_in c.self.inside.pages (words_with c.args.page.0 c.self.inside.words)
    ≡ slice_set (pages_in c.self.inside.pages c.self.inside.words) c.args.page.0 true
is c = pages_with c.self.inside.pages c.args.page.0 c.self.inside.words c.self.invariant (below c)

pub returns-clause-row : goal.returns-clause-row
returns-clause-row c =
    let row : List Bool → CopyRow = λ had. record { source = c.self.inside.source; pages = c.self.inside.pages; had = had } in
    rw (← c.self.view_is) (ap row (is c))

pub returns-clause-had : goal.returns-clause-had
returns-clause-had c p =
    rw (← c.self.view_is)
    (ap (λ z. slice_index_or z p false) (is c) ∙ had_with c.self.inside.pages c.args.page.0 c.self.inside.words (below c) p)
