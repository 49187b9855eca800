-- A kernel stands for what a history says of its host: its parts are the facts of that history.
use Rattle.std.specs.Prelude.{ℕ, All, ◌≡◌, ◌≢◌, ◌<◌, ◌≤◌, ◌^◌, true, false, List, [], length, None, Some, slice_get, reverse, Bool, Option}
use Rattle.vm_abroad.specs.Home.{AreHomes, HaveHomes}
use Rattle.vm_abroad.specs.Sound.{holds}
use Rattle.vm_abroad.specs.Whose.{IsShut}
use Rattle.vm_base.specs.Limits.{most_objects, most_pages}
use Rattle.vm_base.specs.Pages.{IsPageSize}
use Rattle.vm_base.specs.declared.entry.Entry.{Entry}
use Rattle.vm_base.specs.declared.ids.HostId.{HostId}
use Rattle.vm_base.specs.declared.ids.ObjectKind.TheVariants.{Temp}
use Rattle.vm_copies.specs.Copies.{CopyTable}
use Rattle.vm_frames.specs.Frames.{FrameTable}
use Rattle.vm_fault.specs.Pushes.{CopiesFit}
use Rattle.vm_kernel.specs.Fits.{PartsFit}
use Rattle.vm_kernel.specs.declared.parts.Parts.{Parts}
use Rattle.vm_legal.specs.Accesses.{Waits, begun_at, is_ready}
use Rattle.vm_legal.specs.Cached.{is_cached}
use Rattle.vm_legal.specs.Destroyed.{destroy_taken, is_destroyed}
use Rattle.vm_legal.specs.Frames.{frames_held, frames_wired, returns_out}
use Rattle.vm_legal.specs.Licences.{LockRequest, lock_taken, owed}
use Rattle.vm_legal.specs.Living.{tasks as made_tasks}
use Rattle.vm_legal.specs.Pushes.{is_pushed}
use Rattle.vm_legal.specs.Steps.{before_step, completes, fails_of, since}
use Rattle.vm_legal.specs.Used.{in_use}
use Rattle.vm_maps.specs.Maps.{Mapped}
use Rattle.vm_merge.specs.Merges.{IsThin}
use Rattle.vm_model.specs.Controls.{last_control, live_control}
use Rattle.vm_model.specs.Homes.{home_in, home_of, region_for}
use Rattle.vm_model.specs.Local.{Local, local}
use Rattle.vm_model.specs.Named.{declared_pages, named}
use Rattle.vm_model.specs.Ranges.{IsBetween}
use Rattle.vm_model.specs.Regions.{Backing, Region, backing_of, is_copy, newest_copy, next_object, next_region, object_pages, region_of}
use Rattle.vm_model.specs.Tasks.{entries_of, host_of}
use Rattle.vm_model.specs.Waiting.{Access, Target, copy_target, next_page, waiting}
use Rattle.vm_model.specs.declared.event.Event.{Event}
use Rattle.vm_model.specs.declared.script.Declared.{Declared}
use Rattle.vm_model.specs.declared.script.Header.{Header}
use Rattle.vm_objects.specs.Objects.{ObjectTable}
use Rattle.vm_pageout.specs.Laundry.{LaundryList}
use Rattle.vm_parts.specs.declared.parts.HostParts.{HostParts}
use Rattle.vm_resident.specs.Resident.{ResidentTable}
use Rattle.vm_shadow.specs.Chains.{ChainTable}
use Rattle.vm_shadow.specs.declared.ids.Ids.{Ids}
use Rattle.vm_state.specs.CopyObjects.{HasCopyObjects}
use Rattle.vm_state.specs.Counts.{marked_in}
use Rattle.vm_state.specs.Filling.{AllUsed, HasCopies}
use Rattle.vm_state.specs.Passed.{IsUnmet, StaysAway}
use Rattle.vm_state.specs.Places.{known_local, place_of}
use Rattle.vm_state.specs.References.{AllReferred}
use Rattle.vm_state.specs.Stands.{AreShared, HasControls, HasEntries, HasFlags, HasFrames, HasHomes, HasKinds, HasLaundry, HasPages, HasRegions, HasTasks}
use Rattle.vm_state.specs.Stands.{HasUse, KnowsFiles, KnowsPages}
use Rattle.vm_state.specs.Waiters.{BeganInOrder, HasWaiters, is_woken}
use Rattle.vm_supply.specs.declared.woken.Woken.{Woken}
use Rattle.vm_supply.specs.declared.woken.Woken.TheVariants as woken
use Rattle.vm_waits.specs.Waits.{count_again}
use Rattle.vm_waits.specs.declared.waiting.Waiting.{Waiting}

-- the host with a number
abbrev pub host_id : ℕ → HostId
host_id host = record { 0 = host }

-- the numbers of a header are in their ranges, and no declared object is temporary
pub record IsRanged (header : Header) : Type 0 where
  pub size : IsPageSize header.size
  pub hosts : IsBetween 1 8 (length header.frames.items)
  pub few : All (λ frames. frames < 2 ^ 32) header.frames.items
  pub objects : named header ≤ most_objects
  pub kinds : All (λ (object : Declared). object.kind ≢ Temp) header.objects.items
  pub pages : All (λ (object : Declared). object.pages ≤ most_pages) header.objects.items

-- the numbers of the first region and object, behind those of the declared ones
abbrev pub first_ids : Header → Ids
first_ids header = record { next_object = named header; next_region = named header; marks = 0 }

-- nothing is owed behind the newest event, and no region waits for its entry
pub record IsSettled (past : List Event) : Type 0 where
  pub none_owed : owed past ≡ None
  pub shut : IsShut past

-- a lock request that the step took is done, where its pager wants to be told that; and whoever waited on an object that its pager ended in the step has
-- failed
pub record IsReplied (header : Header) (past : List Event) : Type 0 where
  pub at : (request : LockRequest) → lock_taken past ≡ Some request → request.reply ≡ true → since (completes request.host request.object) past ≡ true
  pub fallen : (host object task : ℕ) (access : Access) (waits : Waits header task access (before_step past))
      → destroy_taken past ≡ Some (record { host = host; object = object }) → waits.at.host ≡ host → waits.at.entry.region.0 ≡ object
      → since (fails_of task object) past ≡ true

-- the regions of a host are on it, and all that a history knows of homes
abbrev pub KnowsHomes : Header → ℕ → ChainTable → List Event → Type 0
KnowsHomes header h chains past = HasHomes header h chains (λ r. home_of r past) × HaveHomes header past

-- a declared object that its pager ended in this step has no control any more
abbrev pub IsCalm : ℕ → (ℕ → Option ℕ) → (ℕ → Bool) → Type 0
IsCalm count live destroyed = (o : ℕ) → destroyed o ≡ true → (o < count) × (live o ≡ None)

-- The facts of a history, as values: what an event leaves of them is the same value behind it.

-- the regions and objects of all hosts
pub record ObjectFacts : Type 0 where
  pub region : ℕ → Region
  pub backing : ℕ → Backing
  pub regions_made : ℕ
  pub objects_made : ℕ
  pub home : ℕ → Option ℕ
  pub made_for : ℕ → Option ℕ
  pub made_with : ℕ → ℕ
  pub copy : ℕ → Bool
  pub newest : ℕ → Option ℕ

abbrev pub object_facts : Header → List Event → ObjectFacts
object_facts header past =
    record {
      region = λ r. region_of header r past;
      backing = λ o. backing_of header o past;
      regions_made = next_region header past;
      objects_made = next_object header past;
      home = λ r. home_of r past;
      made_for = λ o. region_for o past;
      made_with = λ o. object_pages header o past;
      copy = λ o. is_copy o past;
      newest = λ file. newest_copy file past;
    }

-- with the tasks, and the regions that these hold
pub record SpaceFacts : Type 0 where
  pub host : ℕ → Option ℕ
  pub entries : ℕ → List Entry
  pub made : List ℕ
  pub holds_at : ℕ → ℕ → Bool
  pub used_at : ℕ → ℕ → Bool
  pub target : ℕ → Option Target
  pub objects : ObjectFacts

abbrev pub space_facts : Header → List Event → SpaceFacts
space_facts header past =
    record {
      host = λ task. host_of task past;
      entries = λ task. entries_of header.size task past;
      made = made_tasks past;
      holds_at = λ task r. holds header.size task r past;
      used_at = λ h r. in_use header h r past;
      target = λ task. copy_target task past;
      objects = object_facts header past;
    }

-- when the accesses of tasks began, and which of their pages are next
pub record AccessFacts : Type 0 where
  pub begun : ℕ → ℕ
  pub next : ℕ → ℕ

abbrev pub access_facts : List Event → AccessFacts
access_facts past = record { begun = λ task. begun_at task past; next = λ task. next_page task past }

-- the controls of one host's objects
pub record ControlFacts : Type 0 where
  pub last : ℕ → ℕ
  pub live : ℕ → Option ℕ
  pub ready : ℕ → Bool
  pub cached : ℕ → Bool
  pub destroyed : ℕ → Bool

abbrev pub control_facts : ℕ → List Event → ControlFacts
control_facts h past =
    record {
      last = λ o. last_control h o past;
      live = λ o. live_control h o past;
      ready = λ o. is_ready h o past;
      cached = λ o. is_cached h o past;
      destroyed = λ o. is_destroyed h o (destroy_taken past);
    }

-- its pages and frames, and which pages were copied up into places of copies
pub record MemoryFacts : Type 0 where
  pub seen : ℕ → ℕ → Local
  pub pushed : ℕ → ℕ → Bool
  pub held : ℕ
  pub wired : ℕ
  pub out : ℕ

abbrev pub memory_facts : Header → ℕ → List Event → MemoryFacts
memory_facts header h past =
    record {
      seen = λ o p. known_local header o p (local header h (place_of o p) past);
      pushed = λ c p. is_pushed h c p past;
      held = frames_held header h past;
      wired = frames_wired h past;
      out = returns_out h past;
    }

-- What a kernel stands for, in groups: each is of some of its tables, and of the facts that these keep.

-- what never changes
pub record Setting (header : Header) (h size : ℕ) (host : HostId) (declared : List Declared) : Type 0 where
  pub ranged : IsRanged header
  pub known : h < length header.frames.items
  pub sized : size ≡ header.size
  pub numbered : host.0 ≡ h
  pub objects : declared ≡ header.objects.items

-- address spaces, and the regions on the host
pub record Spaces (header : Header) (h : ℕ) (maps : Mapped) (chains : ChainTable) (rows : List Waiting) (gone : List Entry) (s : SpaceFacts) : Type 0 where
  pub tasks : HasTasks h header.size maps s.host s.entries
  pub entries : HasEntries header.size maps chains gone
  pub shared : AreShared header maps
  pub uses : HasUse header maps rows (s.used_at h) s.made s.holds_at s.objects.regions_made
  pub homes : HasHomes header h chains s.objects.home
      × AreHomes header s.objects.regions_made s.objects.objects_made s.objects.home s.objects.made_for s.used_at s.objects.region s.objects.backing s.target
      s.objects.newest s.objects.copy

-- a declared object is no copy, and was made with the pages that it was declared with
pub record IsAsDeclared (header : Header) (o : ℕ) (copied : Bool) (made_with : ℕ) : Type 0 where
  pub copy : copied ≡ false
  pub pages : made_with ≡ declared_pages header o

-- objects, and what stands on what; the declared ones are as they were declared
pub record Objects (header : Header) (h : ℕ) (chains : ChainTable) (objects : ObjectTable) (ids : Ids) (s : ObjectFacts) : Type 0 where
  pub regions : HasRegions chains objects ids s.region s.backing s.regions_made s.objects_made (marked_in s.regions_made s.region)
  pub kinds : HasKinds header objects chains
  pub files : KnowsFiles header h objects s.home
  pub sizes : KnowsPages (named header) objects s.made_with
  pub undelayed : (o : ℕ) → o < named header → IsAsDeclared header o (s.copy o) (s.made_with o)

-- copy objects, and which pages each has had
pub record Copied (copies : CopyTable) (memory : HostParts) (chains : ChainTable) (s : ObjectFacts) (pushed : ℕ → ℕ → Bool) : Type 0 where
  pub known : HasCopyObjects copies memory.objects s.copy s.newest pushed
  pub fits : CopiesFit copies memory chains

-- pages and frames
pub record Pages (header : Header) (h : ℕ) (frames : FrameTable) (resident : ResidentTable) (objects : ObjectTable) (laundry : LaundryList) (m : MemoryFacts) :
    Type 0 where
  pub shown : HasPages frames resident objects m.seen
  pub washed : HasLaundry frames resident laundry m.out
  pub counted : HasFrames (slice_get (reverse header.frames.items) h) frames m.held m.wired

-- all but what goes across
pub record Core (header : Header) (h : ℕ) (k : Parts) (ids : Ids) (gone : List Entry) (s : SpaceFacts) (c : ControlFacts) (m : MemoryFacts) : Type 0 where
  pub setting : Setting header h k.size k.host k.declared.items
  pub fits : PartsFit k.memory k.size
  pub spaces : Spaces header h k.maps k.chains k.waits.rows gone s
  pub objects : Objects header h k.chains k.memory.objects ids s.objects
  pub copied : Copied k.copies k.memory k.chains s.objects m.pushed
  pub controls : HasControls (named header) h k.memory.objects c.last c.live c.ready (λ o. home_in s.objects.home (s.objects.made_for o))
  pub flags : HasFlags (named header) k.memory.objects c.cached
  pub calm : IsCalm (named header) c.live c.destroyed
  pub pages : Pages header h k.memory.frames k.memory.resident k.memory.objects k.laundry m

-- the kernel of a host after a history, also inside a step; the counts of entries include some that have just gone
pub record Matches (header : Header) (h : ℕ) (k : Parts) (ids : Ids) (gone : List Entry) (past : List Event) : Type 0 where
  pub core : Core header h k ids gone (space_facts header past) (control_facts h past) (memory_facts header h past)
  pub settled : IsSettled past
  pub replied : IsReplied header past

-- the accesses that wait, of a kernel with these maps, regions, pages and objects; some may have been woken
abbrev pub HasWaits : Header → ℕ → Parts → Woken → List Event → Type 0
HasWaits header h k who past =
    HasWaiters k.maps k.chains k.copies k.memory.resident k.memory.objects k.waits.rows (is_woken who) (λ task. waiting task past) (StaysAway header h past)
    (IsUnmet header h past)

-- each region has an entry or is filled by an access that waits
abbrev pub UsesAll : Header → Parts → List Event → Type 0
UsesAll header k past = AllUsed header k.maps k.chains k.memory.resident k.waits.rows (λ task. next_page task past) (λ task. copy_target task past)

-- the slow copies that wait are as the history and the tables have them
abbrev pub HasSlow : Header → Parts → List Event → Type 0
HasSlow header k past = HasCopies header k.maps k.chains k.memory.resident k.waits.rows (λ task. next_page task past) (λ task. copy_target task past)

-- their rows stand in the order in which they began
abbrev pub HasOrder : Parts → List Event → Type 0
HasOrder k past = BeganInOrder (λ task. begun_at task past) 0 k.waits.rows

-- The kernel inside a step, with what goes across the groups: who waits, and what is used. What refers to the objects is not said, nor what the history owes.
pub record Amidst (header : Header) (h : ℕ) (k : Parts) (ids : Ids) (gone : List Entry) (who : Woken) (past : List Event) : Type 0 where
  pub core : Core header h k ids gone (space_facts header past) (control_facts h past) (memory_facts header h past)
  pub used : UsesAll header k past
  pub waits : HasWaits header h k who past
  pub order : HasOrder k past

-- the kernel inside a step, with accesses that are to be run again, and whom an answer has woken
pub record Works (header : Header) (h : ℕ) (k : Parts) (ids : Ids) (who : Woken) (past : List Event) : Type 0 where
  pub matches : Matches header h k ids [] past
  pub used : UsesAll header k past
  pub referred : AllReferred k.chains k.memory.objects k.memory.resident
  pub thin : IsThin k.copies k.chains k.memory.objects
  pub waits : HasWaits header h k who past
  pub order : HasOrder k past

-- the same, while the pager's word of the step isn't done yet: nobody knows of it but the accesses that it is about
pub record Undone (header : Header) (h : ℕ) (k : Parts) (ids : Ids) (past : List Event) : Type 0 where
  pub core : Core header h k ids [] (space_facts header past) (control_facts h past) (memory_facts header h past)
  pub settled : IsSettled past
  pub used : UsesAll header k past
  pub referred : AllReferred k.chains k.memory.objects k.memory.resident
  pub thin : IsThin k.copies k.chains k.memory.objects
  pub waits : HasWaits header h k woken.Nobody past
  pub order : HasOrder k past

-- the same, but for the flags by which declared objects stay without an entry: these are still others
pub record WorksBut (header : Header) (h : ℕ) (k : Parts) (ids : Ids) (who : Woken) (flags : ℕ → Bool) (past : List Event) : Type 0 where
  pub core : Core header h k ids [] (space_facts header past) (record (control_facts h past) { cached = flags }) (memory_facts header h past)
  pub settled : IsSettled past
  pub replied : IsReplied header past
  pub used : UsesAll header k past
  pub referred : AllReferred k.chains k.memory.objects k.memory.resident
  pub thin : IsThin k.copies k.chains k.memory.objects
  pub waits : HasWaits header h k who past
  pub order : HasOrder k past

-- the kernel at the end of a step: no access is left that is to be run again
pub record Rests (header : Header) (h : ℕ) (k : Parts) (ids : Ids) (past : List Event) : Type 0 where
  pub matches : Matches header h k ids [] past
  pub used : UsesAll header k past
  pub referred : AllReferred k.chains k.memory.objects k.memory.resident
  pub thin : IsThin k.copies k.chains k.memory.objects
  pub waits : HasWaits header h k woken.Nobody past
  pub order : HasOrder k past
  pub idle : count_again k.waits.rows ≡ 0
