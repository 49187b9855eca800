-- What a lock request changes on a host: the pages of its range that are here, and what their pager is told.
use Rattle.std.specs.Prelude.{ℕ, suc, ◌≡◌, ◌+◌, ◌<◌, ◌≤◌, true, false, List, [], ◌∷◌, ◌++◌, Some, None}
use Rattle.vm_base.specs.declared.ids.FrameNo.{FrameNo}
use Rattle.vm_base.specs.declared.ids.HostId.{HostId}
use Rattle.vm_base.specs.declared.ids.ObjectId.{ObjectId}
use Rattle.vm_base.specs.declared.ids.PageKey.{PageKey}
use Rattle.vm_base.specs.declared.ids.PageNo.{PageNo}
use Rattle.vm_frames.specs.Frames.{page_in}
use Rattle.vm_model.specs.declared.event.Event.{Event}
use Rattle.vm_model.specs.declared.event.Event.TheVariants as event
use Rattle.vm_model.specs.declared.message.Channel.TheVariants.{Up}
use Rattle.vm_model.specs.declared.message.Message.{Message}
use Rattle.vm_model.specs.declared.message.Message.TheVariants as message
use Rattle.vm_objects.specs.Objects.{PutsAbsent, SameObjects, object_at}
use Rattle.vm_objects.specs.declared.row.ObjectRow.{ObjectRow}
use Rattle.vm_parts.specs.Changes.{Discards, Relocks, Removes}
use Rattle.vm_parts.specs.Fits.{Fit}
use Rattle.vm_parts.specs.Listed.{listed_pages}
use Rattle.vm_parts.specs.declared.parts.HostParts.{HostParts}
use Rattle.vm_resident.specs.Resident.{IsNextPage, row_at}
use Rattle.vm_resident.specs.declared.page_row.PageRow.{PageRow}
use Rattle.vm_tables.specs.Cases.{act_of}
use Rattle.vm_tables.specs.declared.cases.LockAct.{LockAct}
use Rattle.vm_locks.specs.Requests.{IsLockRequest, request_of}
use Rattle.vm_locks.specs.declared.request.LockRequest.{LockRequest}

-- what a lock request may change: the parts of the host, the frames that are held for returns and the room for more, and the events so far
pub record LockState : Type 0 where
  pub parts : HostParts
  pub held : List FrameNo
  pub room : ℕ
  pub events : List Event

abbrev pub lock_state : HostParts → List FrameNo → ℕ → List Event → LockState
lock_state parts held room events = record { parts = parts; held = held; room = room; events = events }

-- the message is a lock request, the object's control is in use, and there is room for the frame of each page that is here
pub record CanLock (s : LockState) (object : ℕ) (message : Message) : Type 0 where
  pub fit : Fit s.parts
  pub asks : IsLockRequest message
  pub row : ObjectRow
  pub known : object_at s.parts.objects object ≡ Some row
  pub live : row.live ≡ true
  pub room : listed_pages s.parts.queues ≤ s.room

-- what the table of cases says of a page
abbrev pub act_on : LockRequest → PageRow → LockAct
act_on request row = act_of (record { returns = request.returns; flush = request.flush; dirty = row.dirty; precious = row.precious })

-- A page that is here obeys, as the table says. One that isn't given back is dropped, or it stays and is locked; one that is given back goes, and its frame is
-- held, or a copy stays, which is locked and neither dirty nor precious.
pub data PageObeys (host : HostId) (key : PageKey) (control : ℕ) (request : LockRequest) (row : PageRow) (old new : LockState) : Type 0 where
  IsDropped : act_on request row ≡ record { give_back = false; remove = true } → Discards key row old.parts new.parts → new.parts.objects ≡ old.parts.objects
      → new.held ≡ old.held → new.room ≡ old.room
      → new.events ≡ event.Dropped host key.object key.page ∷ old.events → PageObeys host key control request row old new
  Stays : act_on request row ≡ record { give_back = false; remove = false } → Relocks key row request.lock false old.parts new.parts
      → new.parts.objects ≡ old.parts.objects → new.held ≡ old.held → new.room ≡ old.room
      → new.events ≡ old.events → PageObeys host key control request row old new
  GoesBack : act_on request row ≡ record { give_back = true; remove = true } → Removes key row old.parts new.parts
      → SameObjects old.parts.objects new.parts.objects
      → PutsAbsent key.object.0 key.page.0 false old.parts.objects new.parts.objects → new.held ≡ old.held ++ row.frame ∷ [] → new.room + 1 ≡ old.room
      → new.events ≡ event.Sent (Up host key.object) (message.Return control key.page row.dirty false (page_in old.parts.frames row.frame.0)) ∷ old.events
      → PageObeys host key control request row old new
  IsSaved : act_on request row ≡ record { give_back = true; remove = false } → Relocks key row request.lock true old.parts new.parts
      → SameObjects old.parts.objects new.parts.objects
      → PutsAbsent key.object.0 key.page.0 false old.parts.objects new.parts.objects → new.held ≡ old.held → new.room ≡ old.room
      → new.events ≡ event.Sent (Up host key.object) (message.Return control key.page row.dirty true (page_in old.parts.frames row.frame.0)) ∷ old.events
      → PageObeys host key control request row old new

-- the next page in the range that is here or asked, from one on
pub record IsNextInRange (object : ObjectId) (request : LockRequest) (from : ℕ) (page : PageNo) (row : PageRow) (s : LockState) : Type 0 where
  pub next : IsNextPage s.parts.resident object.0 from page.0
  pub inside : page.0 < request.page.0 + request.count
  pub found : row_at s.parts.resident object.0 page.0 ≡ Some row

-- the pages of the range obey from one on, by rising number, until none is left; one that is asked is left alone
pub data PagesObey (host : HostId) (object : ObjectId) (control : ℕ) (request : LockRequest) : ℕ → LockState → LockState → Type 0 where
  NoMore : (from : ℕ) → (s : LockState) → ((p : ℕ) → from ≤ p → p < request.page.0 + request.count → row_at s.parts.resident object.0 p ≡ None)
      → PagesObey host object control request from s s
  IsAsked : (from : ℕ) → (page : PageNo) → (row : PageRow) → (old new : LockState) → IsNextInRange object request from page row old → row.here ≡ false
      → PagesObey host object control request (suc page.0) old new → PagesObey host object control request from old new
  Next : (from : ℕ) → (page : PageNo) → (row : PageRow) → (old mid new : LockState) → IsNextInRange object request from page row old → row.here ≡ true
      → PageObeys host (record { object = object; page = page }) control request row old mid → PagesObey host object control request (suc page.0) mid new
      → PagesObey host object control request from old new

-- the pager is told that all is done, where it asked for that
pub data Replies (host : HostId) (object : ObjectId) (control : ℕ) (request : LockRequest) (old new : LockState) : Type 0 where
  Silent : request.reply ≡ false → new ≡ old → Replies host object control request old new
  IsTold : request.reply ≡ true → new ≡ record old { events = event.Sent (Up host object) (message.Completed control request.page request.count) ∷ old.events }
      → Replies host object control request old new

-- a host does what a lock request asks: the pages of its range obey, and then the pager is told
pub record Obeys (host : HostId) (object : ObjectId) (message : Message) (old new : LockState) : Type 0 where
  pub request : LockRequest
  pub asks : request_of message ≡ Some request
  pub known : ObjectRow
  pub found : object_at old.parts.objects object.0 ≡ Some known
  pub done : LockState
  pub pages : PagesObey host object known.control request request.page.0 old done
  pub reply : Replies host object known.control request done new
