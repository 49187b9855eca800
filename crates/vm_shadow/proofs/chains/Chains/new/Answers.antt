use Rattle.std.proofs.Common.{◌≡◌, ◌∙◌, sym, ℕ, ◌==◌, None, Some, refl}
use Rattle.std.specs.Map.{lookup}
use Rattle.vm_shadow.proofs.Ranks.{ranked_none}
use Rattle.vm_shadow.proofs.Tallying.{tallied_none}
use Rattle.vm_shadow.proofs.chains.Chains.new.Goals as goal

pub invariant_of-result : goal.invariant_of-result
invariant_of-result c =
    let shadows = c.new-2.result.entries in
    let none : (o : ℕ) → lookup (λ id. o == id.0) shadows ≡ None = λ o. rw c.new-2.ensures.empty refl in
    record {
      ranked = ranked_none _ none;
      low = λ o row is. absurd (let bad : None ≡ Some row = sym (none o) ∙ is in cc);
      count = rw c.new.ensures.empty refl;
      tallied = tallied_none _ _ c.new-2.ensures.empty c.new-3.ensures;
    }
