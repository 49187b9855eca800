-- What a lock names.
use Rattle.std.proofs.Common.{◌≡◌, ℕ, Bool, true, false, subst}
use Rattle.vm_legal.specs.Accesses.{names}

-- no access is named by a lock that prohibits nothing
pub unnamed : (lock : ℕ) (store : Bool) → lock ≡ 0 → names lock store ≡ true → ⊥
unnamed lock store none named = go store (subst (λ (z : ℕ). names z store ≡ true) none named)
  where
    go : (b : Bool) → names 0 b ≡ true → ⊥
    go true is = let bad : false ≡ true = is in cc
    go false is = let bad : false ≡ true = is in cc
