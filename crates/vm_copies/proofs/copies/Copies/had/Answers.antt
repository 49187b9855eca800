use Rattle.std.proofs.Common.{◌≡◌, ◌∙◌, Some, ap, rules, sym, IsSome}
use Rattle.std.specs.Option.{option_copied}
use Rattle.vm_copies.proofs.Tables.{among_is, entry_of}
use Rattle.vm_copies.specs.Copies.{among}
use Rattle.vm_copies.proofs.copies.Copies.had.Goals as goal

pub unwrap-requires : goal.unwrap-requires
unwrap-requires c =
    let living : IsSome (entry_of c.self.inside.copies.entries c.args.key.object.0) =
    rw (among_is c.args.key.object.0 c.self.inside.copies.entries) at (rw (← c.self.view_is) at c.requires) in
    search rules

is : (c : goal.After-had) → among c.args.key.object.0 c.self.inside.copies.entries ≡ Some c.unwrap.result.now
is c = among_is c.args.key.object.0 c.self.inside.copies.entries ∙ sym c.get.ensures.value ∙ ap option_copied c.unwrap.ensures

pub returns-clause-had : goal.returns-clause-had
returns-clause-had c = rw (← c.self.view_is, is c) c.had.ensures.had

pub returns-clause-past : goal.returns-clause-past
returns-clause-past c = rw (← c.self.view_is, is c) c.had.ensures.past
