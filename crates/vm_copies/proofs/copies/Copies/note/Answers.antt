use Rattle.std.proofs.Common.{◌≡◌, Some, ap, refl, rules, IsSome}
use Rattle.vm_copies.proofs.Tables.{Puts, among_is, entry_of, kept, noted, put, told}
use Rattle.vm_copies.specs.Copies.{CopyRow, among}
use Rattle.vm_copies.proofs.copies.Copies.note.Goals as goal

pub unwrap-row-requires : goal.unwrap-row-requires
unwrap-row-requires c =
    let living : IsSome (entry_of c.self.inside.copies.entries c.args.key.object.0) =
    rw (among_is c.args.key.object.0 c.self.inside.copies.entries) at (rw (← c.self.view_is) at c.requires.there) in
    search rules

pub note-requires : goal.note-requires
note-requires c =
    rw (told c.args.key.object.0 c.self.inside.copies.entries _ _ c.get_mut.ensures.value c.unwrap-row.ensures)
    at (rw (← c.self.view_is) at c.requires.inside)

is : (c : goal.After-self-1) → among c.args.key.object.0 c.self.inside.copies.entries ≡ Some c.unwrap-row.result.now
is c = told c.args.key.object.0 c.self.inside.copies.entries _ _ c.get_mut.ensures.value c.unwrap-row.ensures

there : (c : goal.After-self-1) → IsSome (entry_of c.self.inside.copies.entries c.args.key.object.0)
there c = rw (← among_is c.args.key.object.0 c.self.inside.copies.entries, is c) refl

puts : (c : goal.After-self-1) → Puts c.args.key.object.0 (Some c.note.new.self) c.self.inside.copies.entries (c.get_mut.follows.lender c.note.new.self).entries
puts c = put c.args.key.object.0 _ _ _ ((c.get_mut.follows.holds _).3 (there c)).0

pub invariant_of-self : goal.invariant_of-self
invariant_of-self c =
    record {
      living =
          kept c.self.inside.newest.entries _ _ c.self.inside.promised _ _ _ _ (puts c) (is c) (ap (λ (z : CopyRow). z.source) c.note.ensures.row)
          c.self.invariant.living;
      newest = c.self.invariant.newest;
      copies = rw ((c.get_mut.follows.holds _).6) c.self.invariant.copies;
    }

pub returns-clause-copy : goal.returns-clause-copy
returns-clause-copy c =
    rw (← c.self.view_is, is c) (record { at = rw (← c.note.ensures.row) (puts c) })

pub returns-clause-had : goal.returns-clause-had
returns-clause-had c = rw (← c.self.view_is) (noted c.self.inside.newest.entries _ _ _ _ _ _ _ _ _ (puts c) (is c) c.note.ensures.had)

pub returns-clause-living : goal.returns-clause-living
returns-clause-living c = (invariant_of-self c).living
