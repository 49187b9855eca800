-- The places of chains are pages of their objects.
use Rattle.std.proofs.Common.{◌≡◌, ℕ, ◌+◌, ◌<◌, Some, None, ap, subst, arith}
use Rattle.vm_base.specs.declared.ids.PageKey.{PageKey}
use Rattle.vm_fault.specs.Stops.{Stands}
use Rattle.vm_fault.specs.Walks.{ChainsFit}
use Rattle.vm_fault.specs.declared.walking.Spot.{Spot}
use Rattle.vm_objects.specs.Objects.{ObjectTable, object_at}
use Rattle.vm_objects.specs.declared.row.ObjectRow.{ObjectRow}
use Rattle.vm_parts.specs.Fits.{object_pages, pages_of_row}
use Rattle.vm_shadow.specs.Chains.{ChainTable, region_at, shadow_at}
use Rattle.vm_shadow.specs.declared.region_row.RegionRow.{RegionRow}
use Rattle.vm_shadow.specs.declared.shadow_row.ShadowRow.{ShadowRow}

-- an object that has a page is there
pub object_there : (objects : ObjectTable) (o page : ℕ) → page < object_pages objects o → object_at objects o ≡ None → ⊥
object_there objects o page inside none = let pages = ap pages_of_row none in omega arith

-- a page of a region is one of the region's top object
pub top_inside : (chains : ChainTable) (objects : ObjectTable) (r page : ℕ) (row : RegionRow) → ChainsFit chains objects → region_at chains r ≡ Some row
    → page < row.pages → row.shift + page < object_pages objects row.top.0
top_inside chains objects r page row fits found inside = omega (arith, fits.tops r row found)

-- the place under one of an object's pages is one of the backing object's
pub under_inside : (chains : ChainTable) (objects : ObjectTable) (spot : Spot) (row : ShadowRow) → ChainsFit chains objects → Stands objects spot
    → shadow_at chains spot.key.object.0 ≡ Some row
    → spot.key.page.0 + row.shift < object_pages objects row.under.0
under_inside chains objects spot row fits stands found = omega (arith, fits.unders spot.key.object.0 row found, ap pages_of_row stands.known, stands.inside)

pub stands_at : (objects : ObjectTable) (key : PageKey) (object : ObjectRow) → object_at objects key.object.0 ≡ Some object
    → key.page.0 < object_pages objects key.object.0 → Stands objects (record { key = key; object = object })
stands_at objects key object known inside = record { known = known; inside = subst (λ (n : ℕ). key.page.0 < n) (ap pages_of_row known) inside }
