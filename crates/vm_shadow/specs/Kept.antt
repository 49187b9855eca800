-- How the chains, the count of the marked regions and the tallies of the shadows are kept.
use Rattle.std.specs.List.{IsDistinct, count_by, sum_by}
use Rattle.std.specs.Map.{keys_of, lookup, values_of}
use Rattle.std.specs.Prelude.{ℕ, ◌≡◌, ◌+◌, ◌-◌, ◌<◌, ◌≤◌, ◌==◌, ◌^◌, Bool, List, Some, if◌then◌else◌}
use Rattle.vm_base.specs.declared.ids.ObjectId.{ObjectId}
use Rattle.vm_base.specs.declared.ids.RegionId.{RegionId}
use Rattle.vm_shadow.specs.Chains.{ChainTable, IsRanked, shadow_at}
use Rattle.vm_shadow.specs.declared.region_row.RegionRow.{RegionRow}
use Rattle.vm_shadow.specs.declared.shadow_row.ShadowRow.{ShadowRow}
use Rattle.vm_shadow.specs.declared.tally.Tally.{Tally}

-- how many of the rows are marked
abbrev pub count_marked : List (RegionId × RegionRow) → ℕ
count_marked regions = count_by (λ row. row.marked) (values_of regions)

-- the shadow with this entry stands on the object
abbrev pub stands : ℕ → ObjectId × ShadowRow → Bool
stands o e = e.1.under.0 == o

-- how many of the shadows stand on an object, and the sum of their numbers
abbrev pub tally_of : List (ObjectId × ShadowRow) → ℕ → Tally
tally_of shadows o = record { count = count_by (stands o) shadows; sum = sum_by (λ e. if stands o e then e.0.0 else 0) shadows }

-- how many shadows stand on an object beside the first one
abbrev pub beside : List (ObjectId × Tally) → ℕ
beside rows = sum_by (λ tally. tally.count - 1) (values_of rows)

-- no more of them are counted than there are places
pub record HasPlaces (rows : List (ObjectId × Tally)) (counted places : ℕ) : Type 0 where
  pub all : beside rows ≤ counted
  pub room : counted ≤ places

-- the tallies are those of the shadows, of which no two have one number
pub record AreTallied (tallies : ℕ → Tally) (shadows : List (ObjectId × ShadowRow)) : Type 0 where
  pub unique : IsDistinct (λ id other. id.0 == other.0) (keys_of shadows)
  pub numbers : (o : ℕ) (row : ShadowRow) → lookup (λ id. o == id.0) shadows ≡ Some row → o < 2 ^ 32
  pub tally : (o : ℕ) → tallies o ≡ tally_of shadows o

-- shadows and what they stand on have lower numbers than the last of 32 bits
abbrev pub HasLowNumbers : ChainTable → Type 0
HasLowNumbers table = (o : ℕ) (row : ShadowRow) → shadow_at table o ≡ Some row → (o + 1 < 2 ^ 32) × (row.under.0 + 1 < 2 ^ 32)

-- each chain ends, none has as many objects as 32 bits can't count, and the marked regions and the shadows over each object are counted
pub record AreKept (tallies : ℕ → Tally) (table : ChainTable) : Type 0 where
  pub ranked : IsRanked table
  pub low : HasLowNumbers table
  pub count : table.marked ≡ count_marked table.regions
  pub tallied : AreTallied tallies table.shadows
