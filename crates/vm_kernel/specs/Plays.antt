-- What happens to the lists of a host's pages over a call: what its events say, one after another.
use Rattle.std.specs.Prelude.{ℕ, ◌+◌, ◌<◌, ◌≤◌, ◌⊎◌, ◌≡◌, ◌==◌, ◌&&◌, true, false, List, [], ◌∷◌, ◌++◌, IsSome, Option, Some, None, if◌then◌else◌}
use Rattle.vm_base.specs.declared.ids.FrameNo.{FrameNo}
use Rattle.vm_base.specs.declared.ids.ObjectId.{ObjectId}
use Rattle.vm_base.specs.declared.ids.TaskId.{TaskId}
use Rattle.vm_model.specs.declared.command.Command.{Command}
use Rattle.vm_model.specs.declared.command.Command.TheVariants as command
use Rattle.vm_model.specs.declared.event.Event.{Event}
use Rattle.vm_model.specs.declared.event.Event.TheVariants as event
use Rattle.vm_model.specs.declared.message.Channel.TheVariants.{Up}
use Rattle.vm_model.specs.declared.message.Message.TheVariants as message
use Rattle.vm_model.specs.declared.script.Header.{Header}
use Rattle.vm_model.specs.Named.{named}
use Rattle.vm_model.specs.Regions.{backing_of, object_pages}
use Rattle.vm_model.specs.Words.{in_range}
use Rattle.vm_legal.specs.Accesses.{WaitsUnlocked}
use Rattle.vm_legal.specs.Destroyed.{IsDestroyed}
use Rattle.vm_legal.specs.Licences.{LockRequest, lock_taken}
use Rattle.vm_legal.specs.Swept.{IsUnheld}
use Rattle.vm_legal.specs.Prompt.{IsSource}
use Rattle.vm_legal.specs.Walks.{Reach, page_on}
use Rattle.vm_pageout.specs.Reclaims.{queues_after_search}
use Rattle.vm_queues.specs.Queues.{AllSkipped, Queues, added, is_queued, is_skipped, queues_except, victim_frame, with_reference}
use Rattle.vm_resident.specs.Resident.{row_at}
use Rattle.vm_resident.specs.declared.page_row.PageRow.{PageRow}
use Rattle.vm_supply.specs.Answers.{AnswerOutcome, Supplied}
use Rattle.vm_waits.specs.Waits.{first_in_queue}
use Rattle.vm_kernel.specs.declared.parts.Parts.{Parts}

-- the frame of each page that is here, and the lists of these frames
pub record Paging : Type 0 where
  pub frame_at : ℕ → ℕ → Option FrameNo
  pub queues : Queues

-- the frame of a page that is here
abbrev pub frame_here : Option PageRow → Option FrameNo
frame_here None = None
frame_here (Some row) = if row.here then Some row.frame else None

-- those of a kernel
abbrev pub paging : Parts → Paging
paging k = record { frame_at = λ o p. frame_here (row_at k.memory.resident o p); queues = k.memory.queues }

-- one page is in this frame now, or not here, and each other page where it was
abbrev pub places_with_frame : ℕ → ℕ → Option FrameNo → (ℕ → ℕ → Option FrameNo) → ℕ → ℕ → Option FrameNo
places_with_frame object page frame was = λ o p. if object == o && page == p then frame else was o p

-- a page that is here is marked as referenced
pub record Marks (object page : ℕ) (old new : Paging) : Type 0 where
  pub frame : FrameNo
  pub here : old.frame_at object page ≡ Some frame
  pub is : new ≡ record old { queues = with_reference frame.0 old.queues }

-- a page has come into a frame that was on no list
pub record Arrives (object page : ℕ) (old new : Paging) : Type 0 where
  pub frame : FrameNo
  pub absent : old.frame_at object page ≡ None
  pub unlisted : is_queued old.queues frame.0 ≡ false
  pub is : new ≡ record { frame_at = places_with_frame object page (Some frame) old.frame_at; queues = added frame.0 old.queues }

-- a page that is here has gone, and its frame is off the lists
pub record Departs (object page : ℕ) (lists : Queues) (old new : Paging) : Type 0 where
  pub frame : FrameNo
  pub here : old.frame_at object page ≡ Some frame
  pub is : new ≡ record { frame_at = places_with_frame object page None old.frame_at; queues = queues_except frame.0 lists }

-- a page is here, and a task is to copy it: it wants a frame, and its walk ends there
pub record IsToCopyPage (header : Header) (host : ℕ) (task : TaskId) (object page : ℕ) (past : List Event) : Type 0 where
  pub source : IsSource header host object page past
  pub of : source.task ≡ task.0
  pub here : (page_on header host object page past).here ≡ true

-- the front of a frame queue is to copy it, if anybody stands there
abbrev pub FrontCopies : Header → ℕ → Option TaskId → ℕ → ℕ → List Event → Type 0
FrontCopies header host None object page past = ⊥
FrontCopies header host (Some front) object page past = IsToCopyPage header host front object page past

-- whether a call reclaims pages, and which page it spares then
pub data Sparing : Type 0 where
  -- it reclaims none
  ReclaimsNone : Sparing
  -- it spares the one that the front of the frame queue is to copy
  SparesSource : (front : Option TaskId) → Sparing
  -- it spares that one, if the front was to copy it behind these events already
  SparesSourceSince : (front : Option TaskId) → (moment : List Event) → Sparing

abbrev pub Reclaims : Sparing → Type 0
Reclaims ReclaimsNone = ⊥
Reclaims other = Unit {0}

-- the page that it spares
abbrev pub IsKeptSource : Header → ℕ → Sparing → ℕ → ℕ → List Event → Type 0
IsKeptSource header host ReclaimsNone object page past = ⊥
IsKeptSource header host (SparesSource front) object page past = FrontCopies header host front object page past
IsKeptSource header host (SparesSourceSince front moment) object page past =
    FrontCopies header host front object page past × FrontCopies header host front object page moment

-- a page is spared: it is that one, or somebody waits for its unlock
abbrev pub IsSpared : Header → ℕ → Sparing → ℕ → ℕ → List Event → Type 0
IsSpared header host by object page past = IsKeptSource header host by object page past ⊎ WaitsUnlocked header host object page past

-- each frame is that of a page that is spared
abbrev pub EachSpared : Header → ℕ → Sparing → List Event → (ℕ → ℕ → Option FrameNo) → List FrameNo → Type 0
EachSpared header host by past frame_at [] = Unit {0}
EachSpared header host by past frame_at (frame ∷ frames) =
    ((o p : ℕ) × IsSpared header host by o p past × (frame_at o p ≡ Some frame)) × EachSpared header host by past frame_at frames

-- the frames are those of the pages that are spared, and of no others
pub record AreSpared (header : Header) (host : ℕ) (by : Sparing) (past : List Event) (frame_at : ℕ → ℕ → Option FrameNo) (skip : List FrameNo) : Type 0 where
  pub each : EachSpared header host by past frame_at skip
  pub all : (o p : ℕ) (frame : FrameNo) → IsSpared header host by o p past → frame_at o p ≡ Some frame → is_skipped skip frame.0 ≡ true

-- the page that has gone is the victim: the one that the lists choose, where no page is skipped but what is spared
pub record IsVictim (header : Header) (host : ℕ) (by : Sparing) (past : List Event) (object page : ℕ) (old new : Paging) : Type 0 where
  pub may : Reclaims by
  pub skip : List FrameNo
  pub spared : AreSpared header host by past old.frame_at skip
  pub victim : victim_frame skip (queues_after_search old.queues) ≡ old.frame_at object page
  pub departs : Departs object page (queues_after_search old.queues) old new

-- a page of a declared object goes that nothing holds
pub record DepartsUnheld (header : Header) (host : ℕ) (past : List Event) (object page : ℕ) (old new : Paging) : Type 0 where
  pub declared : object < named header
  pub unheld : IsUnheld header host object past
  pub departs : Departs object page old.queues old new

-- a page goes that a lock request is over, which the step took
pub record DepartsLocked (host : ℕ) (past : List Event) (object page : ℕ) (old new : Paging) : Type 0 where
  pub request : LockRequest
  pub taken : lock_taken past ≡ Some request
  pub of : (request.host ≡ host) × (request.object ≡ object)
  pub over : in_range page request.page request.count ≡ true
  pub departs : Departs object page old.queues old new

-- a page goes of an object that its pager ends
pub record DepartsDestroyed (header : Header) (host : ℕ) (past : List Event) (object page : ℕ) (old new : Paging) : Type 0 where
  pub destroyed : IsDestroyed header host object past
  pub departs : Departs object page old.queues old new

-- a page goes as the victim, or for a lock request, or its pager ends its object, or that is in no chain, or nothing holds it, and then its pages go in any
-- order
pub data DepartsFrom (header : Header) (host : ℕ) (by : Sparing) (past : List Event) (object page : ℕ) (old new : Paging) : Type 0 where
  AsVictim : IsVictim header host by past object page old new → DepartsFrom header host by past object page old new
  AsUnreached : (Reach header host object past → ⊥) → Departs object page old.queues old new → DepartsFrom header host by past object page old new
  AsUnheld : DepartsUnheld header host past object page old new → DepartsFrom header host by past object page old new
  AsLocked : DepartsLocked host past object page old new → DepartsFrom header host by past object page old new
  AsDestroyed : DepartsDestroyed header host past object page old new → DepartsFrom header host by past object page old new

-- in front of the create that a return needs
abbrev pub uncreated : List Event → List Event
uncreated (event.Sent (Up host object) (message.Create control size) ∷ past) = past
uncreated past = past

-- a copy of a page has come, and the page is marked as referenced
pub record Copies (lower lower_page upper upper_page : ℕ) (old new : Paging) : Type 0 where
  pub mid : Paging
  pub arrives : Arrives upper upper_page old mid
  pub marks : Marks lower lower_page mid new

-- a copy of a page has come to a slow copy's object, and both pages are marked as referenced
pub record CopiesBoth (object page target index : ℕ) (old new : Paging) : Type 0 where
  pub come : Paging
  pub arrives : Arrives target index old come
  pub marked : Paging
  pub marks : Marks target index come marked
  pub source : Marks object page marked new

-- the next page of an object that is here, from one on
pub record IsNextHere (object from page : ℕ) (frame : FrameNo) (s : Paging) : Type 0 where
  pub least : from ≤ page
  pub none : (p : ℕ) → from ≤ p → p < page → s.frame_at object p ≡ None
  pub here : s.frame_at object page ≡ Some frame

-- The pages of an object that is merged into another go up or go, by rising number, from one on. One that goes up keeps its frame, and its place on the lists;
-- the frame of one that goes is off them.
pub data PagesJoin (upper lower shift pages : ℕ) : ℕ → Paging → Paging → Type 0 where
  NoneHere : (from : ℕ) → (s : Paging) → ((p : ℕ) → from ≤ p → s.frame_at lower p ≡ None) → PagesJoin upper lower shift pages from s s
  GoesUp : (from page to : ℕ) → (frame : FrameNo) → (old mid new : Paging) → IsNextHere lower from page frame old → page ≡ shift + to → to < pages
      → old.frame_at upper to ≡ None
      → mid ≡ record old { frame_at = places_with_frame upper to (Some frame) (places_with_frame lower page None old.frame_at) }
      → PagesJoin upper lower shift pages (page + 1) mid new → PagesJoin upper lower shift pages from old new
  GoesAway : (from page : ℕ) → (frame : FrameNo) → (old mid new : Paging) → IsNextHere lower from page frame old
      → ((p : ℕ) → page ≡ shift + p → p < pages → IsSome (old.frame_at upper p)) → Departs lower page old.queues old mid
      → PagesJoin upper lower shift pages (page + 1) mid new → PagesJoin upper lower shift pages from old new

-- what an event behind a history says of the lists
abbrev pub DoesBy : Header → Sparing → List Event → Event → Paging → Paging → Type 0
DoesBy header by past (event.Loaded task object page value) old new = Marks object.0 page.0 old new
DoesBy header by past (event.Stored task object page at size value) old new = Marks object.0 page.0 old new
DoesBy header by past (event.Zeroed host object page) old new = Arrives object.0 page.0 old new
DoesBy header by past (event.Raised host lower lower_page upper upper_page) old new = Copies lower.0 lower_page.0 upper.0 upper_page.0 old new
DoesBy header by past (event.CopiedPage task page object object_page target) old new = CopiesBoth object.0 object_page.0 target.0 page.0 old new
DoesBy header by past (event.Dropped host object page) old new = DepartsFrom header host.0 by past object.0 page.0 old new
DoesBy header by past (event.Sent (Up host object) (message.Return control page dirty false bytes)) old new =
    IsVictim header host.0 by (uncreated past) object.0 page.0 old new
    ⊎ (DepartsUnheld header host.0 past object.0 page.0 old new ⊎ DepartsLocked host.0 past object.0 page.0 old new)
DoesBy header by past (event.Merged upper lower) old new =
    PagesJoin upper.0 lower.0 (backing_of header upper.0 past).shift (object_pages header upper.0 past) 0 old new
DoesBy header by past other old new = new ≡ old

-- a victim was looked for, and there is none: each page on the lists is spared
pub record Searches (header : Header) (host : ℕ) (by : Sparing) (past : List Event) (old new : Paging) : Type 0 where
  pub may : Reclaims by
  pub skip : List FrameNo
  pub spared : AreSpared header host by past old.frame_at skip
  pub all : AllSkipped skip old.queues
  pub is : new ≡ record old { queues = queues_after_search old.queues }

-- The lists are as the events say that were added to some, one after another, and as looks for a victim left them that found none.
pub data PlaysBy (header : Header) (by : Sparing) (past before : List Event) (old : Paging) : List Event → Paging → Type 0 where
  Still : PlaysBy header by past before old before old
  Looks : (host : ℕ) (events : List Event) (mid new : Paging) → PlaysBy header by past before old events mid → Searches header host by (events ++ past) mid new
      → PlaysBy header by past before old events new
  Then : (e : Event) (events : List Event) (mid new : Paging) → PlaysBy header by past before old events mid → DoesBy header by (events ++ past) e mid new
      → PlaysBy header by past before old (e ∷ events) new

-- and no page was reclaimed
abbrev pub Does : Header → List Event → Event → Paging → Paging → Type 0
Does header past e old new = DoesBy header ReclaimsNone past e old new

abbrev pub Plays : Header → List Event → List Event → Paging → List Event → Paging → Type 0
Plays header past before old events new = PlaysBy header ReclaimsNone past before old events new

-- a pageout reclaims pages, and no other command does where it is begun
abbrev pub may_reclaim : Command → List TaskId → List Event → Sparing
may_reclaim (command.Pageout host count) queue past = SparesSourceSince (first_in_queue queue) past
may_reclaim other queue past = ReclaimsNone

-- a page that an answer supplies has come; no other answer does anything to the lists
abbrev pub AnswerBrings : ObjectId → AnswerOutcome → Paging → Paging → Type 0
AnswerBrings object (Supplied page lock precious bytes) old new = Arrives object.0 page.0 old new
AnswerBrings object other old new = new ≡ old

-- an answer was heard, and the events followed
pub record PlaysAnswer (header : Header) (past : List Event) (object : ObjectId) (outcome : AnswerOutcome) (old : Paging) (events : List Event) (new : Paging) :
    Type 0 where
  pub heard : Paging
  pub brings : AnswerBrings object outcome old heard
  pub plays : Plays header past [] heard events new
