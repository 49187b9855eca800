-- The walk of an access down a shadow chain, over what a host has of pages.
use Rattle.std.specs.Prelude.{ℕ, zero, suc, ◌≡◌, ◌+◌, ◌≤◌, ◌==◌, ◌&&◌, ◌||◌, ◌⊎◌, Bool, true, false, if◌then◌else◌, Some, None}
use Rattle.vm_base.specs.declared.entry.Entry.{Entry}
use Rattle.vm_base.specs.declared.ids.Lock.{Lock}
use Rattle.vm_base.specs.declared.ids.PageKey.{PageKey}
use Rattle.vm_base.specs.Entries.{entry_at, page_at}
use Rattle.vm_maps.specs.Maps.{Mapped, rows_in}
use Rattle.vm_objects.specs.Objects.{ObjectTable, absent_at, object_at}
use Rattle.vm_objects.specs.declared.row.ObjectRow.{ObjectRow}
use Rattle.vm_objects.specs.declared.row.PagerState.TheVariants as state
use Rattle.vm_parts.specs.Fits.{object_pages}
use Rattle.vm_parts.specs.declared.parts.HostParts.{HostParts}
use Rattle.vm_resident.specs.Resident.{row_at}
use Rattle.vm_resident.specs.declared.page_row.PageRow.{PageRow}
use Rattle.vm_shadow.specs.Chains.{ChainTable, region_at, shadow_at}
use Rattle.vm_shadow.specs.declared.region_row.RegionRow.{RegionRow}
use Rattle.vm_shadow.specs.declared.shadow_row.ShadowRow.{ShadowRow}
use Rattle.vm_waits.specs.Wants.{address_in}
pub use Rattle.vm_waits.specs.Wants.{is_copying}
use Rattle.vm_waits.specs.declared.waiting.Want.{Want}
use Rattle.vm_waits.specs.declared.waiting.Want.TheVariants as want

-- what stands on an object lies within its pages: regions, and the shadows over it
pub record ChainsFit (chains : ChainTable) (objects : ObjectTable) : Type 0 where
  pub tops : (r : ℕ) (row : RegionRow) → region_at chains r ≡ Some row → row.shift + row.pages ≤ object_pages objects row.top.0
  pub unders : (o : ℕ) (row : ShadowRow) → shadow_at chains o ≡ Some row → row.shift + object_pages objects o ≤ object_pages objects row.under.0

-- the place of a region's page in its top object
abbrev pub top_place : RegionRow → ℕ → PageKey
top_place row page = record { object = row.top; page = record { 0 = row.shift + page } }

-- the page that an access of a task is about, by its entry and region: its place in the region's top object
pub record IsAt (maps : Mapped) (chains : ChainTable) (task : ℕ) (what : Want) (key : PageKey) : Type 0 where
  pub entry : Entry
  pub found : entry_at (address_in maps.size what) (rows_in task maps) ≡ Some entry
  pub row : RegionRow
  pub region : region_at chains entry.region.0 ≡ Some row
  pub is : key ≡ top_place row (page_at maps.size (address_in maps.size what) entry)

-- the place under another, in the chain
pub record IsUnder (chains : ChainTable) (key under : PageKey) : Type 0 where
  pub row : ShadowRow
  pub found : shadow_at chains key.object.0 ≡ Some row
  pub is : under ≡ record { object = row.under; page = record { 0 = key.page.0 + row.shift } }

-- the walk passes over a place: the page has no row, and its object has no pager, or one that is known not to have it
pub record PassesOver (parts : HostParts) (key : PageKey) : Type 0 where
  pub absent : row_at parts.resident key.object.0 key.page.0 ≡ None
  pub row : ObjectRow
  pub known : object_at parts.objects key.object.0 ≡ Some row
  pub none : (row.state ≡ state.Without) ⊎ (absent_at parts.objects key.object.0 key.page.0 ≡ true)

-- so many places further down stands another, and the walk passes over all in front of it
abbrev pub WalksTo : HostParts → ChainTable → ℕ → PageKey → PageKey → Type 0
WalksTo parts chains zero from to = from ≡ to
WalksTo parts chains (suc n) from to = PassesOver parts from × ((next : PageKey) × IsUnder chains from next × WalksTo parts chains n next to)

-- the walk passes over the whole chain: the page is nowhere
pub record Sinks (parts : HostParts) (chains : ChainTable) (top : PageKey) : Type 0 where
  pub steps : ℕ
  pub last : PageKey
  pub walks : WalksTo parts chains steps top last
  pub passes : PassesOver parts last
  pub bottom : shadow_at chains last.object.0 ≡ None

-- the walk finds the page so many places down, where it is here
pub record Finds (parts : HostParts) (chains : ChainTable) (steps : ℕ) (top key : PageKey) (row : PageRow) : Type 0 where
  pub walks : WalksTo parts chains steps top key
  pub found : row_at parts.resident key.object.0 key.page.0 ≡ Some row
  pub here : row.here ≡ true

-- the walk stops at a page that is asked
pub record StopsAsked (parts : HostParts) (chains : ChainTable) (steps : ℕ) (top key : PageKey) (row : PageRow) : Type 0 where
  pub walks : WalksTo parts chains steps top key
  pub found : row_at parts.resident key.object.0 key.page.0 ≡ Some row
  pub away : row.here ≡ false

-- the walk stops at a page without a row, which the pager of its object may have
pub record MayCome (parts : HostParts) (chains : ChainTable) (steps : ℕ) (top key : PageKey) (object : ObjectRow) : Type 0 where
  pub walks : WalksTo parts chains steps top key
  pub absent : row_at parts.resident key.object.0 key.page.0 ≡ None
  pub known : object_at parts.objects key.object.0 ≡ Some object
  pub may_have : absent_at parts.objects key.object.0 key.page.0 ≡ false

abbrev pub is_storing : Want → Bool
is_storing (want.Load address size) = false
is_storing (want.Store address size value) = true
is_storing (want.CopyTo address pages target next) = false

-- a store is to write its top place, and to read all others
abbrev pub writes_at : Want → ℕ → Bool
writes_at what steps = is_storing what && steps == 0

-- the access that a message asks for: 3 to write, and 1 to read
abbrev pub wanted_number : Want → ℕ → ℕ
wanted_number what steps = if writes_at what steps then 3 else 1

-- a lock keeps out whom it names: a reader, where it prohibits reading, and a writer, where it prohibits anything
abbrev pub keeps_out : Lock → Bool → Bool
keeps_out lock writes = lock.read || (writes && lock.write)
