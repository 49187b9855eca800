-- What running an access once comes to, and what it changes.
use Rattle.std.specs.Prelude.{ℕ, suc, ◌≡◌, ◌≢◌, ◌+◌, ◌-◌, ◌*◌, ◌%◌, ◌^◌, ◌<◌, ◌≤◌, ◌⊎◌, nat_lt, ◌&&◌, ◌==◌, Bool, true, false, List, ◌∷◌, Option, Some, None}
use Rattle.std.specs.Prelude.{slice_range}
use Rattle.vm_base.specs.declared.entry.Entry.{Entry}
use Rattle.vm_base.specs.declared.ids.FrameNo.{FrameNo}
use Rattle.vm_base.specs.declared.ids.HostId.{HostId}
use Rattle.vm_base.specs.declared.ids.ObjectId.{ObjectId}
use Rattle.vm_base.specs.declared.ids.ObjectKind.TheVariants.{Temp}
use Rattle.vm_base.specs.declared.ids.PageKey.{PageKey}
use Rattle.vm_base.specs.declared.ids.RegionId.{RegionId}
use Rattle.vm_base.specs.declared.ids.TaskId.{TaskId}
use Rattle.vm_base.specs.Entries.{entry_at, page_at}
use Rattle.vm_base.specs.Pages.{little_endian, little_endian_bytes, with_bytes}
use Rattle.vm_copies.specs.Copies.{CopyTable}
use Rattle.vm_fault.specs.Pushes.{CopiesFit, IsFresh, Notes, owed_at}
use Rattle.vm_fault.specs.Walks.{ChainsFit, Finds, IsAt, MayCome, Sinks, StopsAsked, is_copying, is_storing, keeps_out, wanted_number, writes_at}
use Rattle.vm_fault.specs.declared.step.FaultStep.{FaultStep}
use Rattle.vm_fault.specs.declared.step.FaultStep.TheVariants as step
use Rattle.vm_frames.specs.Frames.{free, page_in}
use Rattle.vm_maps.specs.Judge.{IsAllowed}
use Rattle.vm_maps.specs.Maps.{Mapped, rows_in}
use Rattle.vm_model.specs.declared.event.Event.{Event}
use Rattle.vm_model.specs.declared.event.Event.TheVariants as event
use Rattle.vm_model.specs.declared.message.Channel.TheVariants.{Up}
use Rattle.vm_model.specs.declared.message.Message.TheVariants as message
use Rattle.vm_objects.specs.Objects.{ObjectTable, PutsObject, SameMarks, absent_at, object_at}
use Rattle.vm_objects.specs.declared.row.ObjectRow.{ObjectRow}
use Rattle.vm_objects.specs.declared.row.PagerState.TheVariants as state
use Rattle.vm_parts.specs.Changes.{AsksPage, Brings, NotesUnlock, RaisesPage, Writes}
use Rattle.vm_parts.specs.Fits.{Fit, object_pages}
use Rattle.vm_parts.specs.declared.parts.HostParts.{HostParts}
use Rattle.vm_queues.specs.Queues.{KeepsPages, with_reference}
use Rattle.vm_resident.specs.Resident.{row_at}
use Rattle.vm_resident.specs.declared.page_row.PageRow.{PageRow}
use Rattle.vm_shadow.specs.Chains.{ChainTable, IsOnlyTop, ObjectsBelow, PutsRegion, ShadowsRegion, region_at, shadow_at}
use Rattle.vm_shadow.specs.declared.ids.Ids.{Ids}
use Rattle.vm_shadow.specs.declared.region_row.RegionRow.{RegionRow}
use Rattle.vm_waits.specs.Wants.{IsSizedWant, address_in, need_in, with_page_done}
use Rattle.vm_waits.specs.declared.waiting.Want.{Want}
use Rattle.vm_waits.specs.declared.waiting.Want.TheVariants as want

-- what a fault may change: the parts of the host, its chains, what its copy objects have had, the next numbers, and the events so far
pub record FaultState : Type 0 where
  pub parts : HostParts
  pub chains : ChainTable
  pub copies : CopyTable
  pub ids : Ids
  pub events : List Event

-- an access lies within its region, a slow copy with each of its pages, which are in its entry too
abbrev pub LiesWithin : ℕ → Want → List Entry → Entry → RegionRow → Type 0
LiesWithin size (want.Load address bytes) entries entry row = page_at size address entry < row.pages
LiesWithin size (want.Store address bytes value) entries entry row = page_at size address entry < row.pages
LiesWithin size (want.CopyTo address pages target next) entries entry row =
    (p : ℕ) → p < pages → (entry_at (address + p * size) entries ≡ Some entry) × (page_at size (address + p * size) entry < row.pages)

-- an object's pages can be copied to another: it is no shadow, its pager was told of it and isn't known to lack a page, and of the other's pages none from one
-- on is here or asked
pub record CopiesTo (source target : ObjectId) (pages next : ℕ) (parts : HostParts) (chains : ChainTable) : Type 0 where
  pub bottom : shadow_at chains source.0 ≡ None
  pub told : (row : ObjectRow) → object_at parts.objects source.0 ≡ Some row → row.state ≢ state.Without
  pub present : (p : ℕ) → absent_at parts.objects source.0 p ≡ false
  pub inside : pages ≤ object_pages parts.objects target.0
  pub unmade : (p : ℕ) → next ≤ p → row_at parts.resident target.0 p ≡ None

-- where an access is a slow copy, those of the top object of its region can be copied to its target
abbrev pub CanCopy : Want → RegionRow → HostParts → ChainTable → Type 0
CanCopy (want.Load address bytes) row parts chains = Unit {0}
CanCopy (want.Store address bytes value) row parts chains = Unit {0}
CanCopy (want.CopyTo address pages target next) row parts chains = CopiesTo row.top target pages next parts chains

-- an object has one reference
abbrev pub has_one : Option ObjectRow → Bool
has_one None = false
has_one (Some known) = known.references == 1

-- where one reference is counted of the top of a region with this row, the region is that
abbrev pub IsCounted : ℕ → RegionRow → ObjectTable → ChainTable → Type 0
IsCounted region row objects chains = has_one (object_at objects row.top.0) ≡ true → IsOnlyTop region row.top.0 chains

-- An access can be run: an entry of its task allows it, and it is about a page of the entry's region, which fits the objects below it. The next object
-- isn't there yet, copy objects fit, and marks, and references of the top, are counted where the region has a mark.
pub record CanFault (maps : Mapped) (s : FaultState) (task : ℕ) (what : Want) : Type 0 where
  pub fit : Fit s.parts
  pub chains : ChainsFit s.chains s.parts.objects
  pub size : maps.size ≡ s.parts.buffers.size
  pub allowed : IsAllowed maps task (address_in maps.size what) (need_in what)
  pub sized : IsSizedWant maps.size what
  pub entry : Entry
  pub found : entry_at (address_in maps.size what) (rows_in task maps) ≡ Some entry
  pub row : RegionRow
  pub region : region_at s.chains entry.region.0 ≡ Some row
  pub inside : LiesWithin maps.size what (rows_in task maps) entry row
  pub copies : CanCopy what row s.parts s.chains
  pub copied : CopiesFit s.copies s.parts s.chains
  pub fresh : IsFresh what s.copies
  pub counted : row.marked ≡ true → 0 < s.ids.marks
  pub referred : row.marked ≡ true → IsCounted entry.region.0 row s.parts.objects s.chains
  pub named : ObjectsBelow s.ids.next_object s.chains
  pub unmade : (o : ℕ) → s.ids.next_object ≤ o → object_at s.parts.objects o ≡ None
  pub few : s.ids.next_object < 2 ^ 32 - 1

-- the parts fit still, and nothing but frames, rows and lists has changed
pub record KeepsPlan (old new : HostParts) : Type 0 where
  pub fit : Fit new
  pub objects : new.objects ≡ old.objects
  pub buffers : new.buffers ≡ old.buffers

-- a region with this row, whose top has another reference, gets an object of its own over its old top
pub record MakesShadow (region : RegionId) (row : RegionRow) (old new : FaultState) : Type 0 where
  pub shared : has_one (object_at old.parts.objects row.top.0) ≡ false
  pub object : ObjectId
  pub next : object.0 ≡ old.ids.next_object
  pub chains : ShadowsRegion region.0 object row old.chains new.chains
  pub fewer : new.chains.marked + 1 ≡ old.chains.marked
  pub objects : PutsObject object.0 (Some (record {
    kind = Temp;
    pages = row.pages;
    state = state.Without;
    control = 0;
    live = false;
    cache = false;
    references = 1;
  }))
      old.parts.objects new.parts.objects
  pub marks : SameMarks old.parts.objects new.parts.objects
  pub parts : new.parts ≡ record old.parts { objects = new.parts.objects }
  pub fit : Fit new.parts
  pub fits : ChainsFit new.chains new.parts.objects
  pub copies : new.copies ≡ old.copies
  pub ids : new.ids ≡ record old.ids { next_object = old.ids.next_object + 1; marks = old.ids.marks - 1 }
  pub told : new.events ≡ event.Shadowed region object row.top ∷ old.events

-- a region with this row, which is the one reference of its top, loses its mark
pub record LosesMark (region : RegionId) (row : RegionRow) (old new : FaultState) : Type 0 where
  pub sole : has_one (object_at old.parts.objects row.top.0) ≡ true
  pub chains : PutsRegion region.0 (Some (record row { marked = false })) old.chains new.chains
  pub fewer : new.chains.marked + 1 ≡ old.chains.marked
  pub parts : new.parts ≡ old.parts
  pub fits : ChainsFit new.chains new.parts.objects
  pub copies : new.copies ≡ old.copies
  pub ids : new.ids ≡ record old.ids { marks = old.ids.marks - 1 }
  pub told : new.events ≡ event.Unmarked region ∷ old.events

-- a store in a marked region does one of these first, and any other access nothing
abbrev pub Prepares : Bool → RegionId → RegionRow → FaultState → FaultState → Type 0
Prepares true region row old new = MakesShadow region row old new ⊎ LosesMark region row old new
Prepares false region row old new = new ≡ old

-- the page in a frame is marked as referenced
pub record References (frame : FrameNo) (old new : HostParts) : Type 0 where
  pub is : new ≡ record old { queues = new.queues }
  pub marks : new.queues ≡ with_reference frame.0 old.queues
  pub keeps : KeepsPages old.queues new.queues
  pub frames : new.queues.frames ≡ old.queues.frames
  pub fit : Fit new

-- a store puts its number into a page
pub record WritesPage (key : PageKey) (frame : FrameNo) (at size value : ℕ) (old new : HostParts) : Type 0 where
  pub row : PageRow
  pub is : row.frame ≡ frame
  pub page : Writes key row (with_bytes at (little_endian_bytes size value) (page_in old.frames frame.0)) old new
  pub plan : KeepsPlan old new

-- the access ends with a page that is here, by which the page is referenced: the number that it loads or stores, and the event
abbrev pub Hits : TaskId → Want → PageKey → FrameNo → ℕ → ℕ → Event → HostParts → HostParts → Type 0
Hits task (want.Load address size) key frame at value e old new =
    (value ≡ little_endian (slice_range (page_in old.frames frame.0) at (at + size))) × References frame old new
    × (e ≡ event.Loaded task key.object key.page value)
Hits task (want.Store address size number) key frame at value e old new =
    (value ≡ number) × ((mid : HostParts) × WritesPage key frame at size number old mid × References frame mid new)
    × (e ≡ event.Stored task key.object key.page at size number)
Hits task (want.CopyTo address pages target next) key frame at value e old new = ⊥

abbrev pub copied_key : ObjectId → ℕ → PageKey
copied_key target next = record { object = target; page = record { 0 = next } }

-- a slow copy makes its next page, in a frame that was free, of a page that is here, and both are referenced
pub record CopiesPage (task : TaskId) (key : PageKey) (row : PageRow) (target : ObjectId) (next : ℕ) (old new : HostParts) (before after : List Event) : Type 0
  where
    pub frame : FrameNo
    pub copied : HostParts
    pub page : RaisesPage (copied_key target next) frame (page_in old.frames row.frame.0) old copied
    pub plan : KeepsPlan old copied
    pub hit : HostParts
    pub marks : References frame copied hit
    pub source : References row.frame hit new
    pub told : after ≡ event.CopiedPage task (record { 0 = next }) key.object key.page target ∷ before

-- an access ends, or a slow copy has copied its next page
pub data Ended (host : HostId) (task : TaskId) (what : Want) (top : PageKey) (at value : ℕ) (old new : HostParts) (chains : ChainTable)
    (had have : CopyTable) (before after : List Event) : Type 0 where
  -- where its walk found the page, and a store in the top place alone, which it owes to no copy; no lock keeps it out
  AtOnce : (steps : ℕ) → (key : PageKey) → (row : PageRow) → Finds old chains steps top key row → (is_storing what ≡ true → steps ≡ 0)
      → keeps_out row.lock (writes_at what steps) ≡ false → (is_storing what ≡ true → owed_at had key ≡ None)
      → (e : Event) → Hits task what key row.frame at value e old new → have ≡ had → after ≡ e ∷ before
      → Ended host task what top at value old new chains had have before after
  -- a store whose walk found the page below: a copy of it comes to the top place, and both are referenced
  Raised : (steps : ℕ) → (key : PageKey) → (row : PageRow) → Finds old chains (suc steps) top key row → is_storing what ≡ true
      → keeps_out row.lock false ≡ false
      → (frame : FrameNo) → (copied hit : HostParts) → RaisesPage top frame (page_in old.frames row.frame.0) old copied → KeepsPlan old copied
      → (e : Event) → Hits task what top frame at value e copied hit → References row.frame hit new → Notes top had have
      → after ≡ e ∷ event.Raised host key.object key.page top.object top.page ∷ before
      → Ended host task what top at value old new chains had have before after
  -- a store whose walk found its page in the top place, and which owes it to a copy: a copy of it comes to the place of that
  Pushed : (row : PageRow) → Finds old chains 0 top top row → is_storing what ≡ true → keeps_out row.lock (writes_at what 0) ≡ false
      → (place : PageKey) → owed_at had top ≡ Some place → row_at old.resident place.object.0 place.page.0 ≡ None
      → (frame : FrameNo) → (copied : HostParts) → RaisesPage place frame (page_in old.frames row.frame.0) old copied → KeepsPlan old copied
      → (e : Event) → Hits task what top row.frame at value e copied new → Notes place had have
      → after ≡ e ∷ event.Raised host top.object top.page place.object place.page ∷ before
      → Ended host task what top at value old new chains had have before after
  -- its walk found the page nowhere: a page of zeros comes to the top place
  AfterZeros : Sinks old chains top → (frame : FrameNo) → (brought : HostParts) → Brings top frame old brought → KeepsPlan old brought
      → (e : Event) → Hits task what top frame at value e brought new → Notes top had have → after ≡ e ∷ event.Zeroed host top.object top.page ∷ before
      → Ended host task what top at value old new chains had have before after
  -- a slow copy whose walk found its page, which no lock keeps it from reading
  Copied : (address pages next : ℕ) → (target : ObjectId) → what ≡ want.CopyTo address pages target next → (steps : ℕ) → (key : PageKey) → (row : PageRow)
      → Finds old chains steps top key row
      → keeps_out row.lock false ≡ false → value ≡ 0 → CopiesPage task key row target next old new before after → have ≡ had
      → Ended host task what top at value old new chains had have before after

-- why an access needs a frame, and the page that it reads meanwhile, if that is here
pub data Needs (what : Want) (top : PageKey) (parts : HostParts) (chains : ChainTable) (copies : CopyTable) : Option PageKey → Type 0 where
  Nowhere : Sinks parts chains top → Needs what top parts chains copies None
  ToAsk : (steps : ℕ) → (key : PageKey) → (object : ObjectRow) → MayCome parts chains steps top key object → object.state ≡ state.Ready
      → Needs what top parts chains copies None
  ToCopy : (steps : ℕ) → (key : PageKey) → (row : PageRow) → Finds parts chains steps top key row → is_copying what ≡ true → keeps_out row.lock false ≡ false
      → Needs what top parts chains copies (Some key)
  ToRaise : (steps : ℕ) → (key : PageKey) → (row : PageRow) → Finds parts chains (suc steps) top key row → is_storing what ≡ true
      → keeps_out row.lock false ≡ false → Needs what top parts chains copies (Some key)
  ToPush : (row : PageRow) → Finds parts chains 0 top top row → is_storing what ≡ true → keeps_out row.lock (writes_at what 0) ≡ false
      → (place : PageKey) → owed_at copies top ≡ Some place → row_at parts.resident place.object.0 place.page.0 ≡ None
      → Needs what top parts chains copies (Some top)

-- its pager is asked for a page, for which a frame is held
pub record RequestsPage (host : HostId) (what : Want) (top key : PageKey) (old new : HostParts) (chains : ChainTable) (before after : List Event) : Type 0 where
  pub steps : ℕ
  pub object : ObjectRow
  pub comes : MayCome old chains steps top key object
  pub ready : object.state ≡ state.Ready
  pub frame : FrameNo
  pub page : AsksPage key frame old new
  pub plan : KeepsPlan old new
  pub told : after ≡ event.Sent (Up host key.object) (message.Request object.control key.page (wanted_number what steps)) ∷ before

-- the page is here, but its lock keeps the access out: its pager is asked to unlock it
pub record AsksUnlock (host : HostId) (what : Want) (top key : PageKey) (old new : HostParts) (chains : ChainTable) (before after : List Event) : Type 0 where
  pub steps : ℕ
  pub row : PageRow
  pub finds : Finds old chains steps top key row
  pub locked : keeps_out row.lock (writes_at what steps) ≡ true
  pub none : row.unlock_sent ≡ false
  pub object : ObjectRow
  pub known : object_at old.objects key.object.0 ≡ Some object
  pub page : NotesUnlock key row old new
  pub plan : KeepsPlan old new
  pub told : after ≡ event.Sent (Up host key.object) (message.Unlock object.control key.page (wanted_number what steps)) ∷ before

-- the page is asked, or here with a lock that keeps the access out while an unlock is outstanding
pub record AwaitsPage (what : Want) (top key : PageKey) (parts : HostParts) (chains : ChainTable) : Type 0 where
  pub steps : ℕ
  pub row : PageRow
  pub why : (Finds parts chains steps top key row × (keeps_out row.lock (writes_at what steps) ≡ true) × (row.unlock_sent ≡ true))
      ⊎ StopsAsked parts chains steps top key row

-- a store's page is here, in the top place, and is owed to a place that is asked
pub record AwaitsPush (what : Want) (top place : PageKey) (parts : HostParts) (chains : ChainTable) (copies : CopyTable) : Type 0 where
  pub row : PageRow
  pub finds : Finds parts chains 0 top top row
  pub stores : is_storing what ≡ true
  pub unlocked : keeps_out row.lock (writes_at what 0) ≡ false
  pub owed : owed_at copies top ≡ Some place
  pub asked : PageRow
  pub found : row_at parts.resident place.object.0 place.page.0 ≡ Some asked
  pub away : asked.here ≡ false

-- nothing changes
pub record NothingChanges (old new : FaultState) : Type 0 where
  pub parts : new.parts ≡ old.parts
  pub copies : new.copies ≡ old.copies
  pub told : new.events ≡ old.events

-- what running an access comes to, by its answer; a frame is claimed only where it may be
abbrev pub Comes : HostId → TaskId → Want → Bool → PageKey → ℕ → FaultStep → FaultState → FaultState → Type 0
Comes host task what may_claim top at (step.Done value) old new =
    Ended host task what top at value old.parts new.parts old.chains old.copies new.copies old.events new.events
Comes host task what may_claim top at (step.Ask key) old new =
    RequestsPage host what top key old.parts new.parts old.chains old.events new.events × (new.copies ≡ old.copies)
Comes host task what may_claim top at (step.Unlock key) old new =
    AsksUnlock host what top key old.parts new.parts old.chains old.events new.events × (new.copies ≡ old.copies)
Comes host task what may_claim top at (step.WaitReady object) old new =
    ((steps : ℕ) × (key : PageKey) × (row : ObjectRow) × MayCome old.parts old.chains steps top key row × (row.state ≡ state.Sent) × (key.object ≡ object))
    × NothingChanges old new
Comes host task what may_claim top at (step.WaitAnswer key) old new =
    (AwaitsPage what top key old.parts old.chains ⊎ AwaitsPush what top key old.parts old.chains old.copies) × NothingChanges old new
Comes host task what may_claim top at (step.NeedFrame source) old new =
    Needs what top old.parts old.chains old.copies source × (may_claim ≡ true → free old.parts.frames ≡ 0) × NothingChanges old new

-- an access of a task was run once, a slow copy for its next page: a store took the mark of its region first, where that was marked
pub record Faulted (maps : Mapped) (host : HostId) (task : TaskId) (what : Want) (may_claim : Bool) (answer : FaultStep) (old new : FaultState) : Type 0 where
  pub entry : Entry
  pub found : entry_at (address_in maps.size what) (rows_in task.0 maps) ≡ Some entry
  pub row : RegionRow
  pub region : region_at old.chains entry.region.0 ≡ Some row
  pub mid : FaultState
  pub prepares : Prepares (is_storing what && row.marked) entry.region row old mid
  pub top : PageKey
  pub at : IsAt maps mid.chains task.0 what top
  pub comes : Comes host task what may_claim top (address_in maps.size what % old.parts.buffers.size) answer mid new
  pub chains : new.chains ≡ mid.chains
  pub ids : new.ids ≡ mid.ids
  pub fit : Fit new.parts
  pub fits : ChainsFit new.chains new.parts.objects
  pub copied : CopiesFit new.copies new.parts new.chains

-- where an access is a slow copy, it has a page left
abbrev pub HasNext : Want → Type 0
HasNext (want.Load address size) = Unit {0}
HasNext (want.Store address size value) = Unit {0}
HasNext (want.CopyTo address pages target next) = next < pages

-- a slow copy has another page behind its next one
abbrev pub has_more : Want → Bool
has_more (want.Load address size) = false
has_more (want.Store address size value) = false
has_more (want.CopyTo address pages target next) = nat_lt (next + 1) pages

-- having come to this answer, a slow copy goes on with another page
abbrev pub goes_on : FaultStep → Want → Bool
goes_on (step.Done value) what = has_more what
goes_on other what = false

-- what is left to do then: of a slow copy the pages that aren't copied yet
abbrev pub want_after : FaultStep → Want → Want
want_after (step.Done value) what = with_page_done what
want_after other what = what

-- an access of a task was run: once, and a slow copy once more behind each page that it copied, up to its last or as far as it came
pub data Runs (maps : Mapped) (host : HostId) (task : TaskId) (may_claim : Bool) (answer : FaultStep) : Want → Want → FaultState → FaultState → Type 0 where
  Stops : (what : Want) → (old new : FaultState) → Faulted maps host task what may_claim answer old new → goes_on answer what ≡ false
      → Runs maps host task may_claim answer what (want_after answer what) old new
  GoesOn : (what last : Want) → (value : ℕ) → (old mid new : FaultState) → Faulted maps host task what may_claim (step.Done value) old mid
      → has_more what ≡ true
      → Runs maps host task may_claim answer (with_page_done what) last mid new → Runs maps host task may_claim answer what last old new
