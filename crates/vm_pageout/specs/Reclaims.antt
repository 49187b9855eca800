-- What reclaiming a page leaves of the parts of a host, case by case.
use Rattle.std.specs.Prelude.{ℕ, ◌+◌, ◌≡◌, ◌||◌, true, false, List, [], ◌∷◌, ◌++◌, Some}
use Rattle.vm_base.specs.declared.ids.FrameNo.{FrameNo}
use Rattle.vm_base.specs.declared.ids.HostId.{HostId}
use Rattle.vm_base.specs.declared.ids.PageKey.{PageKey}
use Rattle.vm_frames.specs.Frames.{page_in}
use Rattle.vm_model.specs.declared.event.Event.{Event}
use Rattle.vm_model.specs.declared.event.Event.TheVariants as event
use Rattle.vm_model.specs.declared.message.Channel.TheVariants as channel
use Rattle.vm_model.specs.declared.message.Message.{Message}
use Rattle.vm_model.specs.declared.message.Message.TheVariants as message
use Rattle.vm_objects.specs.Objects.{PutsAbsent, PutsObject, SameRooms, object_at}
use Rattle.vm_objects.specs.declared.row.ObjectRow.{ObjectRow}
use Rattle.vm_objects.specs.declared.row.PagerState.{PagerState}
use Rattle.vm_objects.specs.declared.row.PagerState.TheVariants as state
use Rattle.vm_parts.specs.Changes.{Discards, Removes}
use Rattle.vm_parts.specs.declared.parts.HostParts.{HostParts}
use Rattle.vm_pageout.specs.Laundry.{LaundryList}
use Rattle.vm_pageout.specs.declared.answer.Reclaim.{Reclaim}
use Rattle.vm_pageout.specs.declared.answer.Reclaim.TheVariants as reclaim
use Rattle.vm_queues.specs.Queues.{AllSkipped, Queues, balanced, is_queued, is_skipped, spared, victim_frame}
use Rattle.vm_resident.specs.declared.page_row.PageRow.{PageRow}

-- the queues, once a victim was looked for
abbrev pub queues_after_search : Queues → Queues
queues_after_search queues = spared (balanced queues)

abbrev pub row_with_control : PagerState → ObjectRow → ObjectRow
row_with_control state.Without row = record row { control = row.control + 1; live = true; state = state.Sent }
row_with_control told row = row

-- the object with a pager: a control begins where it has none
abbrev pub controlled : ObjectRow → ObjectRow
controlled row = row_with_control row.state row

-- a message to an object's pager
abbrev pub sends : HostId → PageKey → Message → Event
sends host key word = event.Sent (channel.Up host key.object) word

abbrev pub told_from : PagerState → Event → List Event → List Event
told_from state.Without creation events = creation ∷ events
told_from told creation events = events

-- the pager is told of its object first, where it wasn't
abbrev pub creation_events : HostId → PageKey → ℕ → ObjectRow → List Event → List Event
creation_events host key size row events = told_from row.state (sends host key (message.Create (controlled row).control size)) events

-- the parts, once a victim was looked for
abbrev pub looked : HostParts → HostParts
looked parts = record parts { queues = queues_after_search parts.queues }

-- a page that is here is the victim
pub record IsChosen (skip : List FrameNo) (row : PageRow) (queues : Queues) : Type 0 where
  pub victim : victim_frame skip (queues_after_search queues) ≡ Some row.frame
  pub listed : is_queued queues row.frame.0 ≡ true
  pub unskipped : is_skipped skip row.frame.0 ≡ false
  pub here : row.here ≡ true

-- each page is skipped, and nothing but the lists' order changes
pub record IsNothing (skip : List FrameNo) (old new : HostParts) (was now : LaundryList) (before after : List Event) : Type 0 where
  pub skipped : AllSkipped skip old.queues
  pub queues : new.queues ≡ queues_after_search old.queues
  pub frames : new.frames ≡ old.frames
  pub resident : new.resident ≡ old.resident
  pub objects : new.objects ≡ old.objects
  pub laundry : now ≡ was
  pub events : after ≡ before

-- the victim is neither dirty nor precious; it is dropped, and its frame is free
pub record IsFreed (host : HostId) (skip : List FrameNo) (old new : HostParts) (was now : LaundryList) (before after : List Event) : Type 0 where
  pub key : PageKey
  pub row : PageRow
  pub victim : IsChosen skip row old.queues
  pub page : Discards key row (looked old) new
  pub clean : row.dirty ≡ false
  pub plain : row.precious ≡ false
  pub objects : new.objects ≡ old.objects
  pub laundry : now ≡ was
  pub events : after ≡ event.Dropped host key.object key.page ∷ before

-- The victim is dirty or precious. Its bytes go to the object's pager, which is told of the object first where it has no pager;
-- its frame stays claimed, and the laundry holds it.
pub record IsReturned (host : HostId) (skip : List FrameNo) (old new : HostParts) (was now : LaundryList) (before after : List Event) : Type 0 where
  pub key : PageKey
  pub row : PageRow
  pub object : ObjectRow
  pub victim : IsChosen skip row old.queues
  pub page : Removes key row (looked old) new
  pub wanted : (row.dirty || row.precious) ≡ true
  pub known : object_at old.objects key.object.0 ≡ Some object
  pub objects : PutsObject key.object.0 (Some (controlled object)) old.objects new.objects
  pub live : (controlled object).live ≡ true
  pub present : PutsAbsent key.object.0 key.page.0 false old.objects new.objects
  pub rooms : SameRooms old.objects new.objects
  pub held : now.held ≡ was.held ++ row.frame ∷ []
  pub room : now.room + 1 ≡ was.room
  pub events :
      after ≡ sends host key (message.Return (controlled object).control key.page row.dirty false (page_in old.frames row.frame.0))
      ∷ creation_events host key old.buffers.size object before

-- what the answer says of the parts, the laundry and the events
abbrev pub ReclaimEffects : Reclaim → HostId → List FrameNo → HostParts → HostParts → LaundryList → LaundryList → List Event → List Event → Type 0
ReclaimEffects reclaim.Freed host skip old new was now before after = IsFreed host skip old new was now before after
ReclaimEffects reclaim.Returned host skip old new was now before after = IsReturned host skip old new was now before after
ReclaimEffects reclaim.Nothing host skip old new was now before after = IsNothing skip old new was now before after

-- the page in this frame is neither dirty nor precious; it is dropped, and the frame is free
pub record IsPageFreed (host : HostId) (frame : FrameNo) (old new : HostParts) (was now : LaundryList) (before after : List Event) : Type 0 where
  pub key : PageKey
  pub row : PageRow
  pub here : row.here ≡ true
  pub mine : row.frame ≡ frame
  pub page : Discards key row old new
  pub clean : row.dirty ≡ false
  pub plain : row.precious ≡ false
  pub objects : new.objects ≡ old.objects
  pub laundry : now ≡ was
  pub events : after ≡ event.Dropped host key.object key.page ∷ before

-- it is dirty or precious, and goes to its object's pager, as a victim does
pub record IsPageReturned (host : HostId) (frame : FrameNo) (old new : HostParts) (was now : LaundryList) (before after : List Event) : Type 0 where
  pub key : PageKey
  pub row : PageRow
  pub object : ObjectRow
  pub here : row.here ≡ true
  pub mine : row.frame ≡ frame
  pub page : Removes key row old new
  pub wanted : (row.dirty || row.precious) ≡ true
  pub known : object_at old.objects key.object.0 ≡ Some object
  pub objects : PutsObject key.object.0 (Some (controlled object)) old.objects new.objects
  pub live : (controlled object).live ≡ true
  pub present : PutsAbsent key.object.0 key.page.0 false old.objects new.objects
  pub rooms : SameRooms old.objects new.objects
  pub held : now.held ≡ was.held ++ row.frame ∷ []
  pub room : now.room + 1 ≡ was.room
  pub events :
      after ≡ sends host key (message.Return (controlled object).control key.page row.dirty false (page_in old.frames row.frame.0))
      ∷ creation_events host key old.buffers.size object before

-- what becomes of the page in a frame
abbrev pub TakesPage : Reclaim → HostId → FrameNo → HostParts → HostParts → LaundryList → LaundryList → List Event → List Event → Type 0
TakesPage reclaim.Freed host frame old new was now before after = IsPageFreed host frame old new was now before after
TakesPage reclaim.Returned host frame old new was now before after = IsPageReturned host frame old new was now before after
TakesPage reclaim.Nothing host frame old new was now before after = ⊥

-- all is as it was, but for the buffers that are kept
pub record IsUnchanged (old new : HostParts) (was now : LaundryList) (before after : List Event) : Type 0 where
  pub frames : new.frames ≡ old.frames
  pub resident : new.resident ≡ old.resident
  pub queues : new.queues ≡ old.queues
  pub objects : new.objects ≡ old.objects
  pub laundry : now ≡ was
  pub events : after ≡ before
