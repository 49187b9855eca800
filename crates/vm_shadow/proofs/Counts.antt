-- How many regions are marked after a write.
use Rattle.std.proofs.Common.{◌≡◌, ℕ, ◌+◌, ◌<◌, ◌==◌, Bool, true, List, Some, None, if◌then◌else◌, arith}
use Rattle.std.proofs.Common.{refl}
use Rattle.std.proofs.lemmas.Map.Entries.{sum_by-set_value}
use Rattle.std.specs.Map.{lookup, set_value}
use Rattle.indexmap.specs.IndexMap.{insert_entry, swap_remove_entry}
use Rattle.vm_base.specs.declared.ids.RegionId.{RegionId}
use Rattle.vm_shadow.proofs.Sums.{sum_dropped, sum_made}
use Rattle.vm_shadow.specs.Kept.{count_marked}
use Rattle.vm_shadow.specs.declared.region_row.RegionRow.{RegionRow}

-- what a row adds to the count
abbrev pub mark : RegionRow → ℕ
mark row = if row.marked then 1 else 0

abbrev pub same_region : RegionId → RegionId → Bool
same_region id other = id.0 == other.0

pub marked_made : (old new : List (RegionId × RegionRow)) (region : RegionId) (row : RegionRow) → lookup (same_region region) old ≡ None
    → new ≡ insert_entry same_region old region row → count_marked new ≡ count_marked old + mark row
marked_made old new region row none is = sum_made same_region mark old new region row none is

pub marked_set : (old new : List (RegionId × RegionRow)) (region : RegionId) (was row : RegionRow) → lookup (same_region region) old ≡ Some was
    → new ≡ set_value (same_region region) old row → count_marked new + mark was ≡ count_marked old + mark row
marked_set old new region was row there is = rw is (sum_by-set_value mark (same_region region) old was row there)

pub marked_dropped : (old new : List (RegionId × RegionRow)) (region : RegionId) (row : RegionRow) → lookup (same_region region) old ≡ Some row
    → new ≡ swap_remove_entry (same_region region) old → count_marked new + mark row ≡ count_marked old
marked_dropped old new region row there is = sum_dropped same_region mark old new region row there is

-- so a marked region is counted
pub marked_counted : (rows : List (RegionId × RegionRow)) (region : RegionId) (row : RegionRow) → lookup (same_region region) rows ≡ Some row
    → row.marked ≡ true → 0 < count_marked rows
marked_counted rows region row there is = let dropped = marked_dropped rows _ region row there refl in omega (arith, rw is at dropped)
