-- What the present step is, and what has happened in it so far: a step begins at each line and at each taken message.
use Rattle.std.specs.Prelude.{ℕ, ◌+◌, ◌==◌, ◌&&◌, ◌||◌, not, Bool, true, false, List, [], ◌∷◌, if◌then◌else◌, Option, Some, None}
use Rattle.vm_model.specs.declared.event.Event.{Event}
use Rattle.vm_model.specs.declared.event.Event.TheVariants as event
use Rattle.vm_model.specs.declared.event.Device.TheVariants as device
use Rattle.vm_model.specs.declared.event.Way.TheVariants as way
use Rattle.vm_model.specs.declared.event.Device.{Device}
use Rattle.vm_model.specs.declared.event.Way.{Way}
use Rattle.vm_model.specs.declared.message.Channel.{Channel}
use Rattle.vm_model.specs.declared.message.Channel.TheVariants.{Up, Down}
use Rattle.vm_model.specs.declared.message.Message.{Message}
use Rattle.vm_model.specs.declared.message.Message.TheVariants as message
use Rattle.vm_model.specs.declared.script.Header.{Header}
use Rattle.vm_model.specs.Controls.{is_control, live_control}
use Rattle.vm_model.specs.Local.{local}

-- a message, and the channel on which it was taken
pub record Letter : Type 0 where
  pub channel : Channel
  pub message : Message

-- what the step took, if it began with that
abbrev pub taken_letter : List Event → Option Letter
taken_letter [] = None
taken_letter (event.Line line ∷ past) = None
taken_letter (event.Taken channel m ∷ past) = Some (record { channel = channel; message = m })
taken_letter (e ∷ past) = taken_letter past

-- some event of the step so far is such
abbrev pub since : (Event → Bool) → List Event → Bool
since test [] = false
since test (event.Line line ∷ past) = false
since test (event.Taken channel m ∷ past) = false
since test (e ∷ past) = test e || since test past

-- how many messages the present command took
abbrev pub takings : List Event → ℕ
takings [] = 0
takings (event.Line line ∷ past) = 0
takings (event.Taken channel m ∷ past) = takings past + 1
takings (e ∷ past) = takings past

-- how many pages of a host were reclaimed, or went otherwise, in the step
abbrev pub departures : ℕ → List Event → ℕ
departures host [] = 0
departures host (event.Line line ∷ past) = 0
departures host (event.Taken channel m ∷ past) = 0
departures host (event.Dropped at object page ∷ past) = if at.0 == host then departures host past + 1 else departures host past
departures host (event.Sent (Up at object) (message.Return control page dirty keep bytes) ∷ past) =
    if at.0 == host && not keep then departures host past + 1 else departures host past
departures host (e ∷ past) = departures host past

-- nothing stands behind the line of the present command yet
abbrev pub just_begun : List Event → Bool
just_begun [] = false
just_begun (event.Line line ∷ past) = true
just_begun (e ∷ past) = false

abbrev pub is_completion : Message → Bool
is_completion (message.Completed control page count) = true
is_completion other = false

-- the event says that the host has done a lock of the object
abbrev pub completes : ℕ → ℕ → Event → Bool
completes h o (event.Sent (Up host object) m) = host.0 == h && (object.0 == o && is_completion m)
completes h o other = false

abbrev pub is_change : Message → Bool
is_change (message.Changed control cache strategy) = true
is_change other = false

-- the event says that the host has changed the attributes of the object
abbrev pub changes : ℕ → ℕ → Event → Bool
changes h o (event.Sent (Up host object) m) = host.0 == h && (object.0 == o && is_change m)
changes h o other = false

abbrev pub is_return : ℕ → Message → Bool
is_return p (message.Return control page dirty keep bytes) = page.0 == p
is_return p other = false

-- the message returns the page, and keeps a copy or not
abbrev pub is_kept_return : ℕ → Bool → Message → Bool
is_kept_return p true (message.Return control page dirty keep bytes) = page.0 == p && keep
is_kept_return p false (message.Return control page dirty keep bytes) = page.0 == p && not keep
is_kept_return p kept other = false

-- the host returns the page, and keeps a copy or not
abbrev pub returns_page : ℕ → ℕ → ℕ → Bool → Event → Bool
returns_page h o p kept (event.Sent (Up host object) m) = host.0 == h && (object.0 == o && is_kept_return p kept m)
returns_page h o p kept other = false

-- the host drops the page
abbrev pub drops_page : ℕ → ℕ → ℕ → Event → Bool
drops_page h o p (event.Dropped host object page) = host.0 == h && (object.0 == o && page.0 == p)
drops_page h o p other = false

-- the host returns the page or drops it
abbrev pub gives_page : ℕ → ℕ → ℕ → Event → Bool
gives_page h o p (event.Sent (Up host object) m) = host.0 == h && (object.0 == o && is_return p m)
gives_page h o p (event.Dropped host object page) = host.0 == h && (object.0 == o && page.0 == p)
gives_page h o p other = false

-- a message to a host about a page is the answer to a request for it
abbrev pub is_answer : ℕ → Message → Bool
is_answer page (message.Supply at lock precious bytes) = at.0 == page
is_answer page (message.Unavailable at) = at.0 == page
is_answer page (message.Error at reason) = at.0 == page
is_answer page other = false

-- the event answers a request for the page of the object
abbrev pub answers : ℕ → ℕ → Event → Bool
answers o page (event.Sent (Down host object control) m) = object.0 == o && is_answer page m
answers o page other = false

abbrev pub is_ready_message : Message → Bool
is_ready_message (message.Ready cache strategy) = true
is_ready_message other = false

-- the event says that the pager of the object is ready
abbrev pub readies : ℕ → Event → Bool
readies o (event.Sent (Down host object control) m) = object.0 == o && is_ready_message m
readies o other = false

abbrev pub is_paging : Device → Bool
is_paging device.Paging = true
is_paging device.Files = false

abbrev pub is_read : Way → Bool
is_read way.Read = true
is_read way.Write = false

-- the event says that reading the page of the object failed
abbrev pub fails_reading : ℕ → ℕ → Event → Bool
fails_reading o p (event.DeviceFailed who way object page) = is_read way && (object.0 == o && page.0 == p)
fails_reading o p other = false

-- the event says that writing the page of the object failed
abbrev pub fails_writing : ℕ → ℕ → Event → Bool
fails_writing o p (event.DeviceFailed who way object page) = not (is_read way) && (object.0 == o && page.0 == p)
fails_writing o p other = false

-- the event says that there was no slot for the page of the object
abbrev pub lacks_slot : ℕ → ℕ → Event → Bool
lacks_slot o p (event.NoSlot object page) = object.0 == o && page.0 == p
lacks_slot o p other = false

-- the event ends some access by an error for the page of the object
abbrev pub fails_access : ℕ → ℕ → Event → Bool
fails_access o p (event.Failed task object page) = object.0 == o && page.0 == p
fails_access o p other = false

-- the event ends the access of a task by an error for the page of the object
abbrev pub fails_task : ℕ → ℕ → ℕ → Event → Bool
fails_task t o p (event.Failed task object page) = task.0 == t && (object.0 == o && page.0 == p)
fails_task t o p other = false

-- the event ends the access of a task for some page of the object
abbrev pub fails_of : ℕ → ℕ → Event → Bool
fails_of t o (event.Failed task object page) = task.0 == t && object.0 == o
fails_of t o other = false

abbrev pub is_termination : Message → Bool
is_termination (message.Terminate control) = true
is_termination other = false

-- the event ends the control of the object on the host
abbrev pub ends_control : ℕ → ℕ → Event → Bool
ends_control h o (event.Sent (Up host object) m) = host.0 == h && (object.0 == o && is_termination m)
ends_control h o other = false

-- a page for which the live control of a host took an error, or the word that there is none, while it was asked
pub record Asked : Type 0 where
  pub host : ℕ
  pub object : ℕ
  pub page : ℕ

abbrev pub error_of : ℕ → ℕ → (ℕ → Bool) → Message → Option Asked
error_of host object asked (message.Error page reason) = if asked page.0 then Some (record { host = host; object = object; page = page.0 }) else None
error_of host object asked other = None

-- the asked page for which the step took an error
abbrev pub error_taken : Header → List Event → Option Asked
error_taken header [] = None
error_taken header (event.Line line ∷ past) = None
error_taken header (event.Taken (Down host object control) m ∷ past) =
    error_of host.0 object.0 (λ page. is_control control (live_control host.0 object.0 past) &&
    (local header host.0 (record { object = object.0; page = page }) past).asked) m
error_taken header (event.Taken channel m ∷ past) = None
error_taken header (e ∷ past) = error_taken header past

abbrev pub absence_of : ℕ → ℕ → (ℕ → Bool) → Message → Option Asked
absence_of host object asked (message.Unavailable page) = if asked page.0 then Some (record { host = host; object = object; page = page.0 }) else None
absence_of host object asked other = None

-- the asked page of which the step took the word that the pager has none
abbrev pub absence_taken : Header → List Event → Option Asked
absence_taken header [] = None
absence_taken header (event.Line line ∷ past) = None
absence_taken header (event.Taken (Down host object control) m ∷ past) =
    absence_of host.0 object.0 (λ page. is_control control (live_control host.0 object.0 past) &&
    (local header host.0 (record { object = object.0; page = page }) past).asked) m
absence_taken header (event.Taken channel m ∷ past) = None
absence_taken header (e ∷ past) = absence_taken header past

-- the events in front of the present step
abbrev pub before_step : List Event → List Event
before_step [] = []
before_step (event.Line line ∷ past) = past
before_step (event.Taken channel m ∷ past) = past
before_step (e ∷ past) = before_step past
