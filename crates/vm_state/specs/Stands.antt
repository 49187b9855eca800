-- What a kernel's tables say of a history: each table by itself, of the facts that it stands for.
use Rattle.std.specs.Prelude.{All, Bool, IsSome, List, None, Option, Some, [], false, if◌then◌else◌, is_some, length, true, ℕ, ◌+◌, ◌<◌, ◌==◌, ◌^◌, ◌||◌, ◌∷◌}
use Rattle.std.specs.Prelude.{◌≡◌, ◌≢◌, ◌≤◌, ◌⊎◌}
use Rattle.vm_base.specs.declared.entry.Entry.{Entry}
use Rattle.vm_base.specs.declared.ids.FrameNo.{FrameNo}
use Rattle.vm_base.specs.declared.ids.Inherit.TheVariants.{Copy}
use Rattle.vm_base.specs.declared.ids.ObjectKind.TheVariants.{Temp}
use Rattle.vm_base.specs.Entries.{most_entries}
use Rattle.vm_base.specs.Limits.{most_objects, most_pages}
use Rattle.vm_fault.specs.Walks.{ChainsFit}
use Rattle.vm_frames.specs.Frames.{FrameTable, claimed, frame_count, is_claimed}
use Rattle.vm_maps.specs.Maps.{Mapped, entries_in, rows_in}
use Rattle.vm_legal.specs.Licences.{is_paged}
use Rattle.vm_legal.specs.Outside.{is_file, is_wild, kind_of}
use Rattle.vm_model.specs.declared.script.Header.{Header}
use Rattle.vm_model.specs.Local.{Local, is_on}
use Rattle.vm_model.specs.Named.{declared_pages, named}
use Rattle.vm_model.specs.Regions.{Backing, Region}
use Rattle.vm_model.specs.Rows.{AllRows, Inside}
use Rattle.vm_objects.specs.Objects.{ObjectTable, absent_at, object_at}
use Rattle.vm_objects.specs.declared.row.ObjectRow.{ObjectRow}
use Rattle.vm_objects.specs.declared.row.PagerState.TheVariants.{Without}
use Rattle.vm_pageout.specs.Laundry.{LaundryList}
use Rattle.vm_parts.specs.Controls.{AllLive, HasNumbers}
use Rattle.vm_queues.specs.Queues.{is_skipped}
use Rattle.vm_resident.specs.Resident.{ResidentTable, owner_of, row_at}
use Rattle.vm_shadow.specs.Chains.{ChainTable, IsRanked, region_at, shadow_at}
use Rattle.vm_shadow.specs.declared.ids.Ids.{Ids}
use Rattle.vm_shadow.specs.declared.region_row.RegionRow.{RegionRow}
use Rattle.vm_shadow.specs.declared.shadow_row.ShadowRow.{ShadowRow}
use Rattle.vm_terminate.specs.Finishes.{IsReferred}
use Rattle.vm_state.specs.Counts.{all_tasks, count_by, count_on}
use Rattle.vm_state.specs.Filling.{IsUsed}
use Rattle.vm_parts.specs.Changes.{one}
use Rattle.vm_state.specs.Pagers.{cached_in, has_pager, last_in, live_in, ready_in}
use Rattle.vm_state.specs.Places.{has_region, local_of_row, region_pages}
use Rattle.vm_state.specs.References.{references_to}
use Rattle.vm_waits.specs.declared.waiting.Waiting.{Waiting}

-- the tasks that live here, and their entries
pub record HasTasks (h size : ℕ) (maps : Mapped) (host_at : ℕ → Option ℕ) (rows_at : ℕ → List Entry) : Type 0 where
  pub sized : maps.size ≡ size
  pub hosts : (task : ℕ) → is_on h (host_at task) ≡ is_some (entries_in task maps)
  pub rows : (task : ℕ) → is_some (entries_in task maps) ≡ true → rows_at task ≡ rows_in task maps

-- an object of temporary memory, which never stays without a reference; its first control is made when it first gets a pager
pub record IsTemporary (known : ObjectRow) : Type 0 where
  pub kind : known.kind ≡ Temp
  pub uncached : known.cache ≡ false
  pub number : 0 < known.references → known.control ≡ (if has_pager known.state then 1 else 0)

-- a declared object, as it was declared; it had a control, and while something refers to it, its pager knows it, but that the pager of a wild one may have
-- ended it
pub record IsDeclared (header : Header) (o : ℕ) (known : ObjectRow) : Type 0 where
  pub kind : known.kind ≡ kind_of header o
  pub pages : known.pages ≡ declared_pages header o
  pub told : is_wild header o ≡ false → 0 < known.references → known.live ≡ true
  pub number : 0 < known.control

-- an object is of the kind that its number says, and a control of it lives while it has a pager
pub record IsOfKind (header : Header) (o : ℕ) (known : ObjectRow) : Type 0 where
  pub lives : known.live ≡ has_pager known.state
  pub temporary : named header ≤ o → IsTemporary known
  pub declared : o < named header → IsDeclared header o known

-- a place under a shadow: of temporary memory, or of a file
abbrev pub IsUnderKind : Header → ℕ → Type 0
IsUnderKind header o = (named header ≤ o) ⊎ (is_file header o ≡ true)

-- The objects are of their kinds; a page of a declared object is never known to be missing; a region that is not declared is over nothing that is, and a
-- shadow is over temporary objects and files only.
pub record HasKinds (header : Header) (objects : ObjectTable) (chains : ChainTable) : Type 0 where
  pub kinds : (o : ℕ) (known : ObjectRow) → object_at objects o ≡ Some known → IsOfKind header o known
  pub present : (o p : ℕ) → o < named header → absent_at objects o p ≡ false
  pub tops : (r : ℕ) (row : RegionRow) → named header ≤ r → region_at chains r ≡ Some row → named header ≤ row.top.0
  pub unders : (o : ℕ) (row : ShadowRow) → shadow_at chains o ≡ Some row → IsUnderKind header row.under.0

-- an entry on a declared region that is no file's is not to be copied by a fork
abbrev pub IsShared : Header → Entry → Type 0
IsShared header row = row.region.0 < named header → is_file header row.region.0 ≡ false → row.inherit ≢ Copy

abbrev pub AreShared : Header → Mapped → Type 0
AreShared header maps = (task : ℕ) → AllRows (IsShared header) (rows_in task maps)

-- The regions, the objects and what stands under them, and the next numbers. What a region or a shadow is over is known, and each chain ends. Of an object to
-- which something refers and that is no shadow the history says so too. An object has as many references as regions and shadows are over it, and one more
-- where it stays without.
pub record HasRegions (chains : ChainTable) (objects : ObjectTable) (ids : Ids) (region_from : ℕ → Region) (backing_from : ℕ → Backing)
    (regions_made objects_made marked : ℕ) : Type 0 where
  pub region : ids.next_region ≡ regions_made
  pub object : ids.next_object ≡ objects_made
  pub marks : ids.marks ≡ marked
  pub few : objects_made + marked ≤ most_objects
  pub rows : (r : ℕ) (row : RegionRow) → region_at chains r ≡ Some row
      → region_from r ≡ record { mark = row.marked; top = row.top.0; shift = row.shift; pages = row.pages }
  pub shadows : (o : ℕ) (row : ShadowRow) → shadow_at chains o ≡ Some row → backing_from o ≡ record { backed = true; under = row.under.0; shift = row.shift }
  pub bottoms : (o : ℕ) → IsReferred objects o → shadow_at chains o ≡ None → (backing_from o).backed ≡ false
  pub unmade : (r : ℕ) → regions_made ≤ r → region_at chains r ≡ None
  pub unknown : (o : ℕ) → objects_made ≤ o → object_at objects o ≡ None
  pub tops : (r : ℕ) (row : RegionRow) → region_at chains r ≡ Some row → IsSome (object_at objects row.top.0)
  pub unders : (o : ℕ) (row : ShadowRow) → shadow_at chains o ≡ Some row → IsSome (object_at objects o) × IsSome (object_at objects row.under.0)
  pub ranked : IsRanked chains
  pub fits : ChainsFit chains objects
  pub counts : (o : ℕ) (known : ObjectRow) → object_at objects o ≡ Some known
      → known.references ≡ references_to chains regions_made objects_made o + one known.cache

-- the regions of a host, but for those that several hosts may share, are those of its tasks
abbrev pub HasHomes : Header → ℕ → ChainTable → (ℕ → Option ℕ) → Type 0
HasHomes header h chains home_from = (r : ℕ) (row : RegionRow) → is_paged header r ≡ true → region_at chains r ≡ Some row → home_from r ≡ Some h

-- a file is known on the host that its region belongs to, and on no other
abbrev pub KnowsFiles : Header → ℕ → ObjectTable → (ℕ → Option ℕ) → Type 0
KnowsFiles header h objects home_from = (o : ℕ) → is_file header o ≡ true → is_on h (home_from o) ≡ is_some (object_at objects o)

-- each object with a number from this one on has as many pages as it was made with, if it is known, and none has more than an object may have
pub record KnowsPages (least : ℕ) (objects : ObjectTable) (pages_from : ℕ → ℕ) : Type 0 where
  pub at : (o : ℕ) (known : ObjectRow) → least ≤ o → object_at objects o ≡ Some known → known.pages ≡ pages_from o
  pub few : (o : ℕ) (known : ObjectRow) → object_at objects o ≡ Some known → known.pages ≤ most_pages

-- an entry lies within its region
pub record IsInside (size : ℕ) (chains : ChainTable) (row : Entry) : Type 0 where
  pub region : has_region chains row.region.0 ≡ true
  pub some : 0 < row.bytes
  pub below : row.address + row.bytes ≤ 2 ^ 32
  pub inside : Inside size (region_pages chains row.region.0) row

abbrev pub AllEntriesInside : ℕ → ChainTable → List Entry → Type 0
AllEntriesInside size chains rows = AllRows (IsInside size chains) rows

-- the entries lie within their regions, and each region counts its own, and some that have just gone
pub record HasEntries (size : ℕ) (maps : Mapped) (chains : ChainTable) (lost : List Entry) : Type 0 where
  pub inside : (task : ℕ) → AllEntriesInside size chains (rows_in task maps)
  pub known : AllRows (λ row. has_region chains row.region.0 ≡ true) lost
  pub most : (task : ℕ) → all_tasks ≤ task → entries_in task maps ≡ None
  pub few : (task : ℕ) → length (rows_in task maps) ≤ most_entries
  pub counts : (r : ℕ) (row : RegionRow) → region_at chains r ≡ Some row → row.entries ≡ count_by all_tasks r maps + count_on r lost

-- the pages that are here
pub record HasPages (frames : FrameTable) (resident : ResidentTable) (objects : ObjectTable) (local_at : ℕ → ℕ → Local) : Type 0 where
  pub shown : (o p : ℕ) → local_at o p ≡ local_of_row frames (row_at resident o p) (absent_at objects o p)

-- the number is one of these
abbrev pub is_among : ℕ → List ℕ → Bool
is_among n [] = false
is_among n (m ∷ more) = m == n || is_among n more

-- The temporary regions in use are those on which some task here has an entry, or that it fills by a slow copy that waits, and a file's region is one of them
-- if some has an entry; all tasks that live here were made. Tasks elsewhere hold none of the regions in use, and none that isn't made yet.
pub record HasUse (header : Header) (maps : Mapped) (rows : List Waiting) (used_at : ℕ → Bool) (made : List ℕ) (held_at : ℕ → ℕ → Bool) (regions_made : ℕ) :
    Type 0 where
  pub used : (r : ℕ) → named header ≤ r → IsUsed maps rows r (used_at r)
  pub files : (r : ℕ) → is_file header r ≡ true → 0 < count_by all_tasks r maps → used_at r ≡ true
  pub among : (task : ℕ) (rows : List Entry) → entries_in task maps ≡ Some rows → is_among task made ≡ true
  pub apart : (task r : ℕ) → entries_in task maps ≡ None → (used_at r ≡ true) ⊎ (regions_made ≤ r) → held_at task r ≡ false

-- the controls of objects: the last one, the one that lives, and whether that is ready; temporary objects were made for regions of this host
pub record HasControls (declared h : ℕ) (objects : ObjectTable) (last_at : ℕ → ℕ) (live_at : ℕ → Option ℕ) (ready_at : ℕ → Bool) (home_at : ℕ → Option ℕ) : Type
    0 where
  pub last : (o : ℕ) → last_at o ≡ last_in (object_at objects o)
  pub live : (o : ℕ) → live_at o ≡ live_in (object_at objects o)
  pub ready : (o control : ℕ) → live_at o ≡ Some control → ready_at o ≡ ready_in (object_at objects o)
  pub all_live : AllLive objects
  pub numbers : HasNumbers objects
  pub ended : (o : ℕ) (row : ObjectRow) → object_at objects o ≡ Some row → row.live ≡ true → row.state ≢ Without
  pub home : (o : ℕ) (row : ObjectRow) → declared ≤ o → object_at objects o ≡ Some row → home_at o ≡ Some h

-- a declared object stays when its last entry goes where its control's pager said so
abbrev pub HasFlags : ℕ → ObjectTable → (ℕ → Bool) → Type 0
HasFlags declared objects cached_at = (o : ℕ) → o < declared → cached_at o ≡ cached_in (object_at objects o)

-- a frame that a return holds is claimed, and is no page's
pub record IsWashed (frames : FrameTable) (resident : ResidentTable) (f : FrameNo) : Type 0 where
  pub claimed : is_claimed frames f.0 ≡ true
  pub unowned : owner_of resident f.0 ≡ None

-- each stands there once
abbrev pub EachApart : List FrameNo → Type 0
EachApart [] = Unit {0}
EachApart (f ∷ fs) = (is_skipped fs f.0 ≡ false) × EachApart fs

-- the frames of returns that their pagers did not take yet
pub record HasLaundry (frames : FrameTable) (resident : ResidentTable) (laundry : LaundryList) (out : ℕ) : Type 0 where
  pub count : out ≡ length laundry.held
  pub room : length laundry.held + laundry.room ≡ frame_count frames
  pub washed : All (IsWashed frames resident) laundry.held
  pub apart : EachApart laundry.held

-- the frames in use, and those wired
pub record HasFrames (most : Option ℕ) (frames : FrameTable) (held_now wired_now : ℕ) : Type 0 where
  pub total : most ≡ Some (frame_count frames)
  pub held : held_now ≡ claimed frames
  pub wired : wired_now ≡ frames.wired
  pub fits : claimed frames + frames.wired ≤ frame_count frames
