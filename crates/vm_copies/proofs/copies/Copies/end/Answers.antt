use Rattle.std.proofs.Common.{◌≡◌, ◌∙◌, None, Some, arith, refl, rules, subst, sym, IsSome}
use Rattle.vm_base.specs.declared.ids.ObjectId.{ObjectId}
use Rattle.vm_copies.proofs.Tables.{Puts, among_is, cleared, ended, entry_of, put}
use Rattle.vm_copies.specs.Copies.{among, other_than}
use Rattle.vm_copies.proofs.copies.Copies.end.Goals.{After-leave_newest}
use Rattle.vm_copies.proofs.copies.Copies.end.Goals as goal

pub unwrap-row-requires : goal.unwrap-row-requires
unwrap-row-requires c =
    let living : IsSome (entry_of c.self.inside.copies.entries c.args.copy.0) =
    rw (among_is c.args.copy.0 c.self.inside.copies.entries) at (rw (← c.self.view_is) at c.requires) in
    search rules

is : (c : After-leave_newest) → among c.args.copy.0 c.self.inside.copies.entries ≡ Some c.unwrap-row.result
is c = among_is c.args.copy.0 c.self.inside.copies.entries ∙ sym c.swap_remove.ensures.value ∙ c.unwrap-row.ensures

copies : (c : After-leave_newest) → Puts c.args.copy.0 None c.self.inside.copies.entries c.swap_remove.new.self.entries
copies c = put c.args.copy.0 None _ _ c.swap_remove.ensures.updates.0

newest : (c : After-leave_newest) → Puts c.unwrap-row.result.source.0
    (other_than c.args.copy.0 (among c.unwrap-row.result.source.0 c.self.inside.newest.entries)) c.self.inside.newest.entries c.leave_newest.new.newest.entries
newest c =
    subst (λ (z : ObjectId). Puts z.0 (other_than c.args.copy.0 (among z.0 c.self.inside.newest.entries)) c.self.inside.newest.entries
    c.leave_newest.new.newest.entries) c.source.ensures c.leave_newest.ensures.entries

pub invariant_of-self : goal.invariant_of-self
invariant_of-self c =
    record {
      living =
          ended c.self.inside.newest.entries _ c.self.inside.copies.entries _ c.self.inside.promised _ c.args.copy.0 c.unwrap-row.result (copies c) (newest c)
          (is c) c.self.invariant.living;
      newest = let was = c.self.invariant.newest in let keeps = c.leave_newest.ensures.room in omega (arith, was, keeps);
      copies = let was = c.self.invariant.copies in let keeps = c.swap_remove.ensures.room.0 in omega (arith, was, keeps);
    }

pub returns-clause-copy : goal.returns-clause-copy
returns-clause-copy c = rw (← c.self.view_is) (record { at = copies c })

pub returns-clause-had : goal.returns-clause-had
returns-clause-had c =
    rw (← c.self.view_is) (cleared c.self.inside.newest.entries _ c.self.inside.copies.entries _ _ _ c.args.copy.0 None (copies c) (λ p. refl))

pub returns-clause-newest : goal.returns-clause-newest
returns-clause-newest c = rw (← c.self.view_is, is c) (record { at = newest c })

pub returns-clause-living : goal.returns-clause-living
returns-clause-living c = (invariant_of-self c).living
