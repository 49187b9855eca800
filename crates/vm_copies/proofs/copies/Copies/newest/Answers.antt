use Rattle.std.proofs.Common.{◌∙◌, sym}
use Rattle.vm_copies.proofs.Tables.{among_is}
use Rattle.vm_copies.proofs.copies.Copies.newest.Goals as goal

pub returns-clause-newest : goal.returns-clause-newest
returns-clause-newest c =
    rw (← c.self.view_is) (c.copied.ensures ∙ c.get.ensures.value ∙ sym (among_is c.args.source.0 c.self.inside.newest.entries))
