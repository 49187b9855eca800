-- What the default pager answers to each message, and what it leaves.
use Rattle.std.specs.Prelude.{ℕ, ◌≡◌, ◌⊎◌, ◌↔◌, List, [], ◌∷◌, length, false, Option, Some, None, Result, Ok, Err}
use Rattle.pg_answers.specs.Answers.{error, sent_to, supply}
use Rattle.pg_slots.specs.Contents.{Content, Kept, PutTold, after_put, content_without, same_content}
use Rattle.pg_slots.specs.Slots.{DropsHeld, HasNoSlot, PutEffects, SlotTable, held_at, slot_in_table}
use Rattle.pg_slots.specs.declared.answers.Put.{Put}
use Rattle.pg_slots.specs.declared.answers.Put.TheVariants as put
use Rattle.pg_slots.specs.declared.slot_row.Held.{Held}
use Rattle.pg_slots.specs.declared.slot_row.Held.TheVariants as held
use Rattle.vm_base.specs.Listing.{Listed}
use Rattle.vm_base.specs.declared.failure.NoMemory.{NoMemory}
use Rattle.vm_base.specs.declared.ids.ObjectId.{ObjectId}
use Rattle.vm_base.specs.declared.ids.PageNo.{PageNo}
use Rattle.vm_model.specs.declared.event.Device.TheVariants.{Paging}
use Rattle.vm_model.specs.declared.event.Event.{Event}
use Rattle.vm_model.specs.declared.event.Event.TheVariants as event
use Rattle.vm_model.specs.declared.event.Way.{Way}
use Rattle.vm_model.specs.declared.event.Way.TheVariants.{Read, Write}
use Rattle.vm_model.specs.declared.message.Message.{Message}
use Rattle.vm_model.specs.declared.message.Message.TheVariants as message
use Rattle.vm_outside.specs.Areas.{SameAreas, Told}

-- the paging device failed at a page
abbrev pub device_failed : Way → ObjectId → PageNo → Event
device_failed way object page = event.DeviceFailed Paging way object page

-- the bytes of a page are supplied
abbrev pub Supplied : ℕ → ℕ → ObjectId → ℕ → PageNo → List Event → Type 0
Supplied size host object control page events =
    (bytes : List ℕ) × (length bytes ≡ size) × (events ≡ sent_to host object control (supply page bytes) ∷ [])

-- the read of a page failed
abbrev pub Unread : ℕ → ObjectId → ℕ → PageNo → List Event → Type 0
Unread host object control page events =
    events ≡ sent_to host object control (error page) ∷ device_failed Read object page ∷ []

-- what a request is answered, by what is held of the page
abbrev pub RequestAnswer : ℕ → ℕ → ObjectId → ℕ → PageNo → Option Held → List Event → Type 0
RequestAnswer size host object control page None events =
    events ≡ sent_to host object control (message.Unavailable page) ∷ []
RequestAnswer size host object control page (Some held.Lost) events = events ≡ sent_to host object control (error page) ∷ []
RequestAnswer size host object control page (Some (held.Torn s)) events =
    events ≡ sent_to host object control (error page) ∷ []
RequestAnswer size host object control page (Some (held.Kept s)) events =
    Supplied size host object control page events ⊎ Unread host object control page events

-- what became of a page that was returned, as the events tell it
abbrev pub became : List Event → Put
became [] = put.Kept
became (event.NoSlot object page ∷ past) = put.NoSlot
became (e ∷ past) = put.Failed

abbrev pub told_of : Put → ObjectId → PageNo → List Event
told_of put.Kept object page = []
told_of put.NoSlot object page = event.NoSlot object page ∷ []
told_of put.Failed object page = device_failed Write object page ∷ []

-- a page that was returned is put into the slots, and the events tell what became of it
pub record ReturnAnswer (object : ObjectId) (page : PageNo) (old new : SlotTable) (events : List Event) : Type 0 where
  pub told : events ≡ told_of (became events) object page
  pub held : PutEffects (became events) object.0 page.0 old new
  pub no_slot : (became events ≡ put.NoSlot) ↔ HasNoSlot old object.0 page.0

-- what the pager of a host answers to a message about an object, and what it leaves of its slots; the newest event
-- stands in front
abbrev pub PagerAnswer : Message → ObjectId → SlotTable → SlotTable → List Event → Type 0
PagerAnswer (message.Init control size) object old new events =
    (new ≡ old) × (events ≡ sent_to old.host object control (message.Ready false 0) ∷ [])
PagerAnswer (message.Create control size) object old new events =
    (new ≡ old) × (events ≡ sent_to old.host object control (message.Ready false 3) ∷ [])
PagerAnswer (message.Request control page access) object old new events =
    (new ≡ old) × RequestAnswer old.size old.host object control page (held_at old object.0 page.0) events
PagerAnswer (message.Return control page dirty keep bytes) object old new events = ReturnAnswer object page old new events
PagerAnswer (message.Terminate control) object old new events = DropsHeld object.0 old new × (events ≡ [])
PagerAnswer (message.Unlock control page access) object old new events = (new ≡ old) × (events ≡ [])
PagerAnswer (message.Completed control page count) object old new events = (new ≡ old) × (events ≡ [])
PagerAnswer (message.Changed control cache strategy) object old new events = (new ≡ old) × (events ≡ [])
PagerAnswer m object old new events = ⊥

-- what was stored of each page after a message was answered
abbrev pub after_message : Message → ObjectId → Result (Listed Event) NoMemory → Content → Content
after_message (message.Return control page dirty keep bytes) object (Ok events) =
    after_put (Ok (became events.items)) object.0 page.0 bytes
after_message (message.Terminate control) object (Ok events) = content_without object.0
after_message m object result = same_content

-- a supply has the bytes that were stored of its page
abbrev pub SuppliesStored : ObjectId → List Event → Content → Type 0
SuppliesStored object (event.Sent channel (message.Supply page lock precious bytes) ∷ past) content =
    content object.0 page.0 ≡ Some (Kept bytes)
SuppliesStored object events content = Unit {0}

-- what a message leaves in the areas: a return what its put leaves, and all others what was there
abbrev pub LeavesAreas : Message → ObjectId → SlotTable → (List ℕ → Told) → (List ℕ → Told)
    → Result (Listed Event) NoMemory → Type 0
LeavesAreas (message.Return control page dirty keep bytes) object slots before after (Ok events) =
    PutTold (Ok (became events.items)) before after slots (slot_in_table slots object.0 page.0) bytes
LeavesAreas m object slots before after result = SameAreas before after

-- nothing is kept of the page
abbrev pub NotKept : Option Held → Type 0
NotKept (Some (held.Kept s)) = ⊥
NotKept has = Unit {0}

-- the backing is called only for a request of a kept page, and for a return that has a slot
abbrev pub LeavesBacking : {P : Type 0} → Message → ObjectId → SlotTable → P → P → Result (Listed Event) NoMemory
    → Type 0
LeavesBacking (message.Request control page access) object slots before after (Ok events) =
    NotKept (held_at slots object.0 page.0) → after ≡ before
LeavesBacking (message.Return control page dirty keep bytes) object slots before after (Ok events) =
    became events.items ≡ put.NoSlot → after ≡ before
LeavesBacking (message.Return control page dirty keep bytes) object slots before after (Err e) = Unit {0}
LeavesBacking m object slots before after result = after ≡ before
