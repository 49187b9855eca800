-- One object further down a chain.
use Rattle.std.proofs.Common.{◌≡◌, ℕ, zero, suc, true, ap, ◌∙◌}
use Rattle.vm_model.specs.Regions.{Backing}
use Rattle.vm_legal.specs.Walks.{Below}

pub below_next : (backings : ℕ → Backing) (n o u : ℕ) → Below backings n o u → (backings u).backed ≡ true → Below backings (suc n) o (backings u).under
below_next backings zero o u is backed = (ap (λ z. (backings z).backed) is ∙ backed, ap (λ z. (backings z).under) is)
below_next backings (suc n) o u below backed = (below.0, below_next backings n (backings o).under u below.1 backed)
