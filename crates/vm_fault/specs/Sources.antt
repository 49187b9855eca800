-- The page that an access would copy: a store to the top of its chain, or to a copy to which it owes it, a slow copy to its object.
use Rattle.std.specs.Prelude.{ℕ, ◌≡◌, ◌<◌, ◌&&◌, ◌||◌, nat_lt, not, Bool, false, Option, Some, None, if◌then◌else◌, is_some}
use Rattle.vm_base.specs.declared.entry.Entry.{Entry}
use Rattle.vm_base.specs.declared.ids.PageKey.{PageKey}
use Rattle.vm_base.specs.Entries.{entry_at, page_at}
use Rattle.vm_copies.specs.Copies.{CopyTable}
use Rattle.vm_fault.specs.Pushes.{owed_at}
use Rattle.vm_fault.specs.Stops.{Stops}
use Rattle.vm_fault.specs.Walks.{ChainsFit, IsAt, is_copying, is_storing}
use Rattle.vm_fault.specs.declared.walking.Stop.{Stop}
use Rattle.vm_fault.specs.declared.walking.Stop.TheVariants as stop
use Rattle.vm_maps.specs.Judge.{IsAllowed}
use Rattle.vm_maps.specs.Maps.{Mapped, rows_in}
use Rattle.vm_parts.specs.declared.parts.HostParts.{HostParts}
use Rattle.vm_resident.specs.Resident.{ResidentTable, row_at}
use Rattle.vm_shadow.specs.Chains.{ChainTable, region_at}
use Rattle.vm_shadow.specs.declared.region_row.RegionRow.{RegionRow}
use Rattle.vm_waits.specs.Wants.{IsSizedWant, address_in, need_in}
use Rattle.vm_waits.specs.declared.waiting.Want.{Want}

-- an access can be followed down its chain: an entry of its task allows it, and it is about a page of the entry's region, which fits the objects below it
pub record CanWalk (maps : Mapped) (parts : HostParts) (chains : ChainTable) (task : ℕ) (what : Want) : Type 0 where
  pub size : maps.size ≡ parts.buffers.size
  pub allowed : IsAllowed maps task (address_in maps.size what) (need_in what)
  pub sized : IsSizedWant maps.size what
  pub entry : Entry
  pub found : entry_at (address_in maps.size what) (rows_in task maps) ≡ Some entry
  pub row : RegionRow
  pub region : region_at chains entry.region.0 ≡ Some row
  pub inside : page_at maps.size (address_in maps.size what) entry < row.pages
  pub fits : ChainsFit chains parts.objects

-- there is a place to which a page is owed, and it isn't asked
abbrev pub is_due : ResidentTable → Option PageKey → Bool
is_due resident None = false
is_due resident (Some place) = not (is_some (row_at resident place.object.0 place.page.0))

-- the page of a store that is found below its top place, or that is due to a copy, and that of a slow copy
abbrev pub source_at : ResidentTable → CopyTable → Want → Stop → Option PageKey
source_at resident copies what (stop.Found key row steps) =
    if (is_storing what && (nat_lt 0 steps || is_due resident (owed_at copies key))) || is_copying what then Some key else None
source_at resident copies what other = None

-- where the walk of an access stops says which page it would copy
pub record Reads (maps : Mapped) (parts : HostParts) (chains : ChainTable) (copies : CopyTable) (task : ℕ) (what : Want) (source : Option PageKey) : Type 0
  where
    pub top : PageKey
    pub at : IsAt maps chains task what top
    pub stop : Stop
    pub stops : Stops parts chains top stop
    pub is : source ≡ source_at parts.resident copies what stop
