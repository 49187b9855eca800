-- What a file's pager answers to each message, and what it leaves.
use Rattle.std.specs.Prelude.{ℕ, ◌≡◌, ◌*◌, ◌⊎◌, Bool, true, false, not, List, [], ◌∷◌, length, Option, Some, None, unwrap_or, Result, Ok, Err}
use Rattle.vm_base.specs.Listing.{Listed}
use Rattle.vm_base.specs.declared.failure.NoMemory.{NoMemory}
use Rattle.vm_base.specs.declared.failure.WriteStop.{WriteStop}
use Rattle.vm_base.specs.declared.failure.WriteStop.TheVariants as stop
use Rattle.vm_base.specs.declared.ids.PageNo.{PageNo}
use Rattle.vm_model.specs.declared.event.Device.TheVariants.{Files}
use Rattle.vm_model.specs.declared.event.Event.{Event}
use Rattle.vm_model.specs.declared.event.Event.TheVariants as event
use Rattle.vm_model.specs.declared.event.Way.{Way}
use Rattle.vm_model.specs.declared.event.Way.TheVariants.{Read, Write}
use Rattle.vm_model.specs.declared.message.Channel.TheVariants.{Down}
use Rattle.vm_model.specs.declared.message.Message.{Message}
use Rattle.vm_model.specs.declared.message.Message.TheVariants as message
use Rattle.vm_outside.specs.Areas.{SameAreas, Told, WriteTold, read_at}
use Rattle.pg_answers.specs.Answers.{error, supply}
use Rattle.pg_file.specs.declared.pager.KnownControl.{KnownControl}
use Rattle.pg_file.specs.Files.{FileTable, HasPage, LacksPage, MarksPage, has_lost, without_known}

-- a message is sent to a control of a host
abbrev pub sent_to : ℕ → ℕ → ℕ → Message → Event
sent_to host object control m = event.Sent (Down (record { 0 = host }) (record { 0 = object }) control) m

-- the files failed at a page
abbrev pub device_failed : Way → ℕ → PageNo → Event
device_failed way object page = event.DeviceFailed Files way (record { 0 = object }) page

-- all changed and precious pages are wanted back, with the locks as they are; the kernel says when it has done it
abbrev pub clean_request : PageNo → ℕ → Bool → Message
clean_request page count flush = message.Lock page count 2 flush 8 true

-- whether the file stays when its last entry goes, with the strategy delay; the kernel says when it has heard it
abbrev pub cache_request : Bool → Message
cache_request cache = message.Attributes cache 2 true

-- the bytes of a page are supplied
abbrev pub Supplied : ℕ → ℕ → ℕ → ℕ → PageNo → List Event → Type 0
Supplied size host object control page events =
    (bytes : List ℕ) × (length bytes ≡ size) × (events ≡ sent_to host object control (supply page bytes) ∷ [])

-- there is no such page
abbrev pub Lacking : ℕ → ℕ → ℕ → PageNo → List Event → Type 0
Lacking host object control page events = events ≡ sent_to host object control (message.Unavailable page) ∷ []

-- a call of the files failed
abbrev pub Unread : ℕ → ℕ → ℕ → PageNo → List Event → Type 0
Unread host object control page events =
    events ≡ sent_to host object control (error page) ∷ device_failed Read object page ∷ []

-- what a request is answered, by whether the page's last write failed
abbrev pub RequestAnswer : ℕ → ℕ → ℕ → ℕ → PageNo → Bool → List Event → Type 0
RequestAnswer size host object control page true events = events ≡ sent_to host object control (error page) ∷ []
RequestAnswer size host object control page false events =
    Supplied size host object control page events
    ⊎ (Lacking host object control page events ⊎ Unread host object control page events)

-- whether a page that was returned is stored, as the events tell it
abbrev pub is_stored : List Event → Bool
is_stored [] = true
is_stored (e ∷ past) = false

abbrev pub told_of : Bool → ℕ → PageNo → List Event
told_of true object page = []
told_of false object page = device_failed Write object page ∷ []

-- a page that was returned is written whole; where that failed it is lost
pub record ReturnAnswer (page : PageNo) (old new : FileTable) (events : List Event) : Type 0 where
  pub told : events ≡ told_of (is_stored events) old.object page
  pub marks : MarksPage page.0 (not (is_stored events)) old new

-- the pager is ready, and knows the control from now on
abbrev pub Greets : ℕ → ℕ → ℕ → FileTable → FileTable → List Event → Type 0
Greets host control strategy old new events =
    (new ≡ record old { known = Some (record { host = record { 0 = host }; control = control }) })
    × (events ≡ sent_to host old.object control (message.Ready false strategy) ∷ [])

-- what a file's pager answers to a message from a host, and what it leaves of itself; the newest event stands in front
abbrev pub FileAnswer : Message → ℕ → FileTable → FileTable → List Event → Type 0
FileAnswer (message.Init control size) host old new events = Greets host control 2 old new events
FileAnswer (message.Create control size) host old new events = Greets host control 3 old new events
FileAnswer (message.Request control page access) host old new events =
    (new ≡ old) × RequestAnswer old.size host old.object control page (has_lost old page.0) events
FileAnswer (message.Return control page dirty keep bytes) host old new events = ReturnAnswer page old new events
FileAnswer (message.Terminate control) host old new events =
    (new ≡ record old { known = without_known host control old.known }) × (events ≡ [])
FileAnswer (message.Unlock control page access) host old new events = (new ≡ old) × (events ≡ [])
FileAnswer (message.Completed control page count) host old new events = (new ≡ old) × (events ≡ [])
FileAnswer (message.Changed control cache strategy) host old new events = (new ≡ old) × (events ≡ [])
FileAnswer m host old new events = ⊥

-- an answer to a request tells what the file has: a supply its bytes, with zeros past its end, and the word that there
-- is no such page that it lies wholly past the end
abbrev pub TellsPage : ℕ → Option (List ℕ) → List Event → Type 0
TellsPage size was (event.Sent channel (message.Supply page lock precious bytes) ∷ past) =
    HasPage size page.0 was × (bytes ≡ read_at (unwrap_or was []) (page.0 * size) size)
TellsPage size was (event.Sent channel (message.Unavailable page) ∷ past) = LacksPage size page.0 was
TellsPage size was events = Unit {0}

-- what a write answered, by whether the page is stored
abbrev pub write_answer : Bool → Result (Unit {0}) WriteStop
write_answer true = Ok tt
write_answer false = Err stop.Failed

-- what a message leaves in the areas: a return its page in the file, and all others what was there
abbrev pub LeavesFile : Message → FileTable → (List ℕ → Told) → (List ℕ → Told) → Result (Listed Event) NoMemory → Type 0
LeavesFile (message.Return control page dirty keep bytes) table before after (Ok events) =
    WriteTold before after table.name (page.0 * table.size) bytes (write_answer (is_stored events.items))
LeavesFile m table before after result = SameAreas before after

-- the backing is called only for a request of a page that isn't lost, and for a return
abbrev pub LeavesBacking : {F : Type 0} → Message → FileTable → F → F → Result (Listed Event) NoMemory → Type 0
LeavesBacking (message.Request control page access) table before after (Ok events) =
    has_lost table page.0 ≡ true → after ≡ before
LeavesBacking (message.Return control page dirty keep bytes) table before after result = Unit {0}
LeavesBacking m table before after result = after ≡ before

-- a message goes to the control that the pager knows, and to nobody where it knows none
abbrev pub TellsKnown : Option KnownControl → ℕ → Message → List Event → Type 0
TellsKnown None object m events = events ≡ []
TellsKnown (Some known) object m events = events ≡ sent_to known.host.0 object known.control m ∷ []

-- a clean asks that control
abbrev pub CleanEvents : Option KnownControl → ℕ → PageNo → ℕ → Bool → List Event → Type 0
CleanEvents known object page count flush events = TellsKnown known object (clean_request page count flush) events

-- whether the file stays is said to that control
abbrev pub CacheEvents : Option KnownControl → ℕ → Bool → List Event → Type 0
CacheEvents known object cache events = TellsKnown known object (cache_request cache) events
