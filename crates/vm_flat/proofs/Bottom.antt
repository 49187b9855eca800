-- An object that has no backing object is all of its chain; and no copy is owed where none was made.
use Rattle.std.proofs.Common.{ℕ, zero, suc, ◌≡◌, ◌≤◌, Bool, true, false, Option, Some, None, arith}
use Rattle.vm_model.specs.Regions.{Backing}
use Rattle.vm_legal.specs.Walks.{Below}

pub bottom_plain : (backings : ℕ → Backing) (first object : ℕ) → (backings object).backed ≡ false → first ≤ object → (depth u : ℕ)
    → Below backings depth object u → first ≤ u
bottom_plain backings first object bare above zero u is = omega (arith, above, is)
bottom_plain backings first object bare above (suc depth) u is = absurd (clash (backings object).backed bare is.0)
  where
    clash : (b : Bool) → b ≡ false → b ≡ true → ⊥
    clash b isnt is = cc

pub no_copy : (copy : ℕ) → ◌≡◌ {A = Option ℕ} None (Some copy) → ⊥
no_copy copy e = cc
