use Rattle.std.proofs.Common.{refl, rules}
use Rattle.vm_objects.proofs.Kept.{changed, there, told}
use Rattle.vm_objects.proofs.objects.Objects.set_cache.Goals as goal

pub unwrap-row-requires : goal.unwrap-row-requires
unwrap-row-requires c = let some = there _ _ _ _ _ c.self.view_is c.args.id.0 c.requires in search rules

pub invariant_of-self : goal.invariant_of-self
invariant_of-self c =
    (changed _ _ _ _ _ c.self.view_is _ _ _ 0 0 _ _ _ _ c.self.invariant c.get_mut.ensures.value c.unwrap-row.ensures refl
    (λ some. ((c.get_mut.follows.holds _).3 some).0)).kept

pub returns-clause-object : goal.returns-clause-object
returns-clause-object c =
    rw (told _ _ _ _ _ c.self.view_is _ _ _ c.get_mut.ensures.value c.unwrap-row.ensures)
    (changed _ _ _ _ _ c.self.view_is _ _ _ _ _ _ _ _ _ c.self.invariant c.get_mut.ensures.value c.unwrap-row.ensures refl
    (λ some. ((c.get_mut.follows.holds _).3 some).0)).object
