-- What an edit of the regions leaves, case by case.
use Rattle.vm_kernel.proofs.Common.{ChainTable, Option, PutsRegion, RegionRow, one_case, region_at, ℕ, ◌≡◌, ◌⊎◌}

-- the regions with another row for one
pub region_cases : (r : ℕ) (x : Option RegionRow) (old new : ChainTable) → PutsRegion r x old new → (r2 : ℕ)
    → ((r ≡ r2) × (region_at new r2 ≡ x)) ⊎ ((r ≡ r2 → ⊥) × (region_at new r2 ≡ region_at old r2))
region_cases r x old new put r2 = one_case r r2 x (region_at old r2) (region_at new r2) (put.at r2)
