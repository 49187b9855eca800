-- The regions of a host and the shadows under them, as contracts see them.
use Rattle.std.specs.List.{count_by}
use Rattle.std.specs.Map.{lookup, values_of}
use Rattle.std.specs.Option.{option_map_or}
use Rattle.std.specs.Prelude.{ℕ, zero, suc, ◌≡◌, ◌≢◌, ◌+◌, ◌<◌, ◌≤◌, ◌==◌, true, false, List, length, Option, Some, None, if◌then◌else◌, IsSomeAnd}
use Rattle.vm_base.specs.declared.ids.ObjectId.{ObjectId}
use Rattle.vm_base.specs.declared.ids.PageKey.{PageKey}
use Rattle.vm_base.specs.declared.ids.RegionId.{RegionId}
use Rattle.vm_shadow.specs.declared.region_row.RegionRow.{RegionRow}
use Rattle.vm_shadow.specs.declared.shadow_row.ShadowRow.{ShadowRow}

-- the row of each region, what stands under each object, how many regions are marked, and how many further regions and shadows together are made without memory
pub record ChainTable : Type 0 where
  pub regions : List (RegionId × RegionRow)
  pub shadows : List (ObjectId × ShadowRow)
  pub marked : ℕ
  pub spare : ℕ

-- the row of a region, where it is there
abbrev pub region_at : ChainTable → ℕ → Option RegionRow
region_at table r = lookup (λ id. r == id.0) table.regions

-- what stands under an object, where it is a shadow
abbrev pub shadow_at : ChainTable → ℕ → Option ShadowRow
shadow_at table o = lookup (λ id. o == id.0) table.shadows

-- nothing has changed but that there may be more room
pub record SameChains (old new : ChainTable) : Type 0 where
  pub regions : region_at new ≡ region_at old
  pub shadows : shadow_at new ≡ shadow_at old
  pub marked : new.marked ≡ old.marked
  pub spare : old.spare ≤ new.spare

-- one region has this row now, or is gone; each other is as it was, and so is what stands under each object
pub record PutsRegion (region : ℕ) (row : Option RegionRow) (old new : ChainTable) : Type 0 where
  pub at : (r : ℕ) → region_at new r ≡ (if region == r then row else region_at old r)
  pub shadows : shadow_at new ≡ shadow_at old

-- the place under a page of an object, which has this under it
abbrev pub place_under : Option ShadowRow → ℕ → Option PageKey
place_under None page = None
place_under (Some row) page = Some (record { object = row.under; page = record { 0 = page + row.shift } })

-- a copy of some pages of a region: over the same object, so much further on, and marked
abbrev pub copy_of : RegionRow → ℕ → ℕ → RegionRow
copy_of row offset pages = record { top = row.top; shift = row.shift + offset; pages = pages; marked = true; entries = 0 }

-- a symmetric copy of a region with this row: the copy is there, and both are marked
pub record CopiesRegion (source copy offset pages : ℕ) (row : RegionRow) (old new : ChainTable) : Type 0 where
  pub at : (r : ℕ) → region_at new r ≡ (if copy == r then Some (copy_of row offset pages) else
      (if source == r then Some (record row { marked = true }) else region_at old r))
  pub shadows : shadow_at new ≡ shadow_at old

-- a region with this row gets an object of its own over its old top, and has no mark any more
pub record ShadowsRegion (region : ℕ) (object : ObjectId) (row : RegionRow) (old new : ChainTable) : Type 0 where
  pub at : (r : ℕ) → region_at new r ≡ (if region == r then Some (record row { top = object; shift = 0; marked = false }) else region_at old r)
  pub under : (o : ℕ) → shadow_at new o ≡ (if object.0 == o then Some (record { under = row.top; shift = row.shift }) else shadow_at old o)

-- nothing stands under the object any more; each region is as it was
pub record DropsShadow (object : ℕ) (old new : ChainTable) : Type 0 where
  pub at : (o : ℕ) → shadow_at new o ≡ (if object == o then None else shadow_at old o)
  pub regions : region_at new ≡ region_at old

-- an object stands on this one now, without a shift; what stands under each other is as it was, and so is each region
pub record Rebases (object : ℕ) (under : ObjectId) (old new : ChainTable) : Type 0 where
  pub at : (o : ℕ) → shadow_at new o ≡ (if object == o then Some (record { under = under; shift = 0 }) else shadow_at old o)
  pub regions : region_at new ≡ region_at old

-- no object stands on this one
abbrev pub BacksNone : ℕ → ChainTable → Type 0
BacksNone object table = (o : ℕ) (row : ShadowRow) → shadow_at table o ≡ Some row → row.under.0 ≢ object

-- how many regions have an object as their top, and how many objects it backs, in all
abbrev pub references_in : ChainTable → ℕ → ℕ
references_in table o =
    count_by (λ (row : RegionRow). row.top.0 == o) (values_of table.regions) + count_by (λ (row : ShadowRow). row.under.0 == o) (values_of table.shadows)

-- the region is the one reference of an object: no other region has that as its top, and no object stands on it
pub record IsOnlyTop (region object : ℕ) (table : ChainTable) : Type 0 where
  pub tops : (r : ℕ) (row : RegionRow) → region_at table r ≡ Some row → row.top.0 ≡ object → r ≡ region
  pub bare : BacksNone object table

-- the shadow is the one reference of an object: no region has that as its top, and no other object stands on it
pub record IsOnlyShadow (shadow object : ℕ) (table : ChainTable) : Type 0 where
  pub bare : (r : ℕ) (row : RegionRow) → region_at table r ≡ Some row → row.top.0 ≢ object
  pub shadows : (o : ℕ) (row : ShadowRow) → shadow_at table o ≡ Some row → row.under.0 ≡ object → o ≡ shadow

-- the shadow stands on an object, and no other does
pub record StandsAlone (upper object : ℕ) (table : ChainTable) : Type 0 where
  pub over : IsSomeAnd (shadow_at table upper) (λ row. row.under.0 ≡ object)
  pub others : (o : ℕ) (row : ShadowRow) → shadow_at table o ≡ Some row → row.under.0 ≡ object → o ≡ upper

-- what stands under a shadow once the object under it is merged into it: what stood under that one, by the sum of both shifts
abbrev pub joined : ShadowRow → Option ShadowRow → Option ShadowRow
joined up None = None
joined up (Some low) = Some (record { under = low.under; shift = up.shift + low.shift })

-- an object is merged into its shadow, which has this row; each region is as it was
pub record MergesShadow (upper lower : ℕ) (up : ShadowRow) (old new : ChainTable) : Type 0 where
  pub at : (o : ℕ) → shadow_at new o ≡ (if upper == o then joined up (shadow_at old lower) else (if lower == o then None else shadow_at old o))
  pub regions : region_at new ≡ region_at old

-- the regions have numbers below this
abbrev pub RegionsBelow : ℕ → ChainTable → Type 0
RegionsBelow n table = (r : ℕ) → n ≤ r → region_at table r ≡ None

-- the objects that the chains name have numbers below this
pub record ObjectsBelow (n : ℕ) (table : ChainTable) : Type 0 where
  pub tops : (r : ℕ) (row : RegionRow) → region_at table r ≡ Some row → row.top.0 < n
  pub shadows : (o : ℕ) (row : ShadowRow) → shadow_at table o ≡ Some row → o < n
  pub unders : (o : ℕ) (row : ShadowRow) → shadow_at table o ≡ Some row → row.under.0 < n

-- each chain ends: a rank falls along it
pub record IsRanked (table : ChainTable) : Type 0 where
  pub rank : ℕ → ℕ
  pub under : (o : ℕ) (row : ShadowRow) → shadow_at table o ≡ Some row → rank row.under.0 < rank o

-- how many objects a chain has below this one, if it is followed so many steps at most
abbrev pub height_within : (ℕ → Option ShadowRow) → ℕ → ℕ → ℕ
height_within at zero o = 0
height_within at (suc n) o = option_map_or (λ row. suc (height_within at n row.under.0)) (at o) 0

-- how many objects a chain has below this one; no chain goes further than there are shadows
abbrev pub height : ChainTable → ℕ → ℕ
height table o = height_within (shadow_at table) (length table.shadows) o

-- the chain from an object down has so many objects
pub data IsDeep (table : ChainTable) : ℕ → ℕ → Type 0 where
  Last : (o : ℕ) → shadow_at table o ≡ None → IsDeep table o 1
  Over : (o n : ℕ) (row : ShadowRow) → shadow_at table o ≡ Some row → IsDeep table row.under.0 n → IsDeep table o (suc n)
