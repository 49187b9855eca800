-- The slow copies that wait on a host: the region that each fills, and what its kernel keeps of it.
use Rattle.std.specs.Prelude.{ℕ, ◌*◌, ◌+◌, ◌<◌, ◌≤◌, ◌≡◌, ◌==◌, ◌⊎◌, Bool, true, false, List, length, Option, Some, None}
use Rattle.vm_base.specs.declared.entry.Entry.{Entry}
use Rattle.vm_base.specs.declared.ids.ObjectId.{ObjectId}
use Rattle.vm_base.specs.Entries.{entry_at, is_range, meets_range, most_entries}
use Rattle.vm_legal.specs.Outside.{is_wild}
use Rattle.vm_maps.specs.Maps.{Mapped, rows_in}
use Rattle.vm_model.specs.declared.script.Header.{Header}
use Rattle.vm_model.specs.Named.{named}
use Rattle.vm_model.specs.Waiting.{Target}
use Rattle.vm_resident.specs.Resident.{ResidentTable, row_at}
use Rattle.vm_shadow.specs.Chains.{ChainTable, region_at, shadow_at}
use Rattle.vm_shadow.specs.declared.region_row.RegionRow.{RegionRow}
use Rattle.vm_shadow.specs.declared.shadow_row.ShadowRow.{ShadowRow}
use Rattle.vm_state.specs.Counts.{all_tasks, count_by}
use Rattle.vm_waits.specs.Waits.{entry}
use Rattle.vm_waits.specs.declared.waiting.Destination.{Destination}
use Rattle.vm_waits.specs.declared.waiting.Waiting.{Waiting}
use Rattle.vm_waits.specs.declared.waiting.Want.{Want}
use Rattle.vm_waits.specs.declared.waiting.Want.TheVariants as want

-- the region is the destination
abbrev pub is_destination : ℕ → Option Destination → Bool
is_destination r None = false
is_destination r (Some to) = to.region.0 == r

-- the access that waits, where one does, fills the region
abbrev pub fills_in : ℕ → Option Waiting → Bool
fills_in r None = false
fills_in r (Some w) = is_destination r w.destination

-- an access that waits fills the region
pub record IsFilledIn (rows : List Waiting) (r : ℕ) : Type 0 where
  pub task : ℕ
  pub fills : fills_in r (entry rows task) ≡ true

-- so many pages of a task from an address on lie in one entry, on the region of a declared object that isn't wild
pub record IsCopied (header : Header) (maps : Mapped) (task address pages : ℕ) : Type 0 where
  pub entry : Entry
  pub declared : entry.region.0 < named header
  pub supplied : is_wild header entry.region.0 ≡ false
  pub whole : (p : ℕ) → p < pages → entry_at (address + p * maps.size) (rows_in task maps) ≡ Some entry

-- a task can get an entry of so many pages from an address on
pub record IsFreeFor (maps : Mapped) (task address pages : ℕ) : Type 0 where
  pub range : is_range maps.size address (pages * maps.size) ≡ true
  pub free : meets_range address (pages * maps.size) (rows_in task maps) ≡ false
  pub room : length (rows_in task maps) < most_entries

-- the region alone is over the object, and no shadow is
pub record IsAlone (chains : ChainTable) (r o : ℕ) : Type 0 where
  pub tops : (q : ℕ) (row : RegionRow) → region_at chains q ≡ Some row → row.top.0 ≡ o → q ≡ r
  pub unders : (s : ℕ) (row : ShadowRow) → shadow_at chains s ≡ Some row → row.under.0 ≡ o → ⊥

-- the row of a region that a slow copy fills: over its object, without a mark, and without entries yet
abbrev pub filled_row : ObjectId → ℕ → RegionRow
filled_row target pages = record { top = target; shift = 0; pages = pages; marked = false; entries = 0 }

-- A slow copy from an address on goes into the region of its destination, over its target; the history has the same, and its next page. The target's pages from
-- that one on have no row, and the destination is free.
pub record IsSlow (header : Header) (maps : Mapped) (chains : ChainTable) (resident : ResidentTable) (task address pages : ℕ) (target : ObjectId) (first : ℕ)
    (destination : Option Destination) (next_now : ℕ) (target_now : Option Target) : Type 0 where
  pub to : Destination
  pub goes : destination ≡ Some to
  pub next : next_now ≡ first
  pub made : target_now ≡ Some (record { region = to.region.0; object = target.0 })
  pub region : region_at chains to.region.0 ≡ Some (filled_row target pages)
  pub alone : IsAlone chains to.region.0 target.0
  pub range : IsCopied header maps task address pages
  pub place : IsFreeFor maps task to.address pages
  pub unmade : (p : ℕ) → first ≤ p → row_at resident target.0 p ≡ None

-- a load or a store has no destination, and a slow copy is as the history and the tables have it
abbrev pub FitsCopy : Header → Mapped → ChainTable → ResidentTable → ℕ → Want → Option Destination → ℕ → Option Target → Type 0
FitsCopy header maps chains resident task (want.Load address bytes) destination next_now target_now = destination ≡ None
FitsCopy header maps chains resident task (want.Store address bytes value) destination next_now target_now = destination ≡ None
FitsCopy header maps chains resident task (want.CopyTo address pages target next) destination next_now target_now =
    IsSlow header maps chains resident task address pages target next destination next_now target_now

-- each access that waits is so, and no two fill one region
pub record HasCopies (header : Header) (maps : Mapped) (chains : ChainTable) (resident : ResidentTable) (rows : List Waiting) (next_at : ℕ → ℕ)
    (target_at : ℕ → Option Target) : Type 0 where
  pub each : (t : ℕ) (w : Waiting) → entry rows t ≡ Some w → FitsCopy header maps chains resident t w.want w.destination (next_at t) (target_at t)
  pub apart : (t u r : ℕ) → fills_in r (entry rows t) ≡ true → fills_in r (entry rows u) ≡ true → t ≡ u

-- each region has an entry, or is filled by an access that waits, as the history and the tables have it
pub record AllUsed (header : Header) (maps : Mapped) (chains : ChainTable) (resident : ResidentTable) (rows : List Waiting) (next_at : ℕ → ℕ)
    (target_at : ℕ → Option Target) : Type 0 where
  pub regions : (r : ℕ) (row : RegionRow) → region_at chains r ≡ Some row → (0 < row.entries) ⊎ IsFilledIn rows r
  pub copies : HasCopies header maps chains resident rows next_at target_at

-- entries lead to the region, or it is filled
abbrev pub IsInUse : Mapped → List Waiting → ℕ → Type 0
IsInUse maps rows r = (0 < count_by all_tasks r maps) ⊎ IsFilledIn rows r

-- whether the region is in use: as entries and accesses that wait say
pub record IsUsed (maps : Mapped) (rows : List Waiting) (r : ℕ) (used : Bool) : Type 0 where
  pub why : used ≡ true → IsInUse maps rows r
  pub is : IsInUse maps rows r → used ≡ true
