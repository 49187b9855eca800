-- What a pager takes and answers, whatever memory it has.
use Rattle.std.specs.Prelude.{ℕ, ◌≡◌, ◌≤◌, ◌⊎◌, List, [], ◌∷◌, length, false, IfOk, OnErr, Result}
use Rattle.vm_base.specs.Listing.{Listed}
use Rattle.vm_base.specs.declared.failure.NoMemory.{NoMemory}
use Rattle.vm_base.specs.declared.ids.ObjectId.{ObjectId}
use Rattle.vm_base.specs.declared.ids.PageNo.{PageNo}
use Rattle.vm_model.specs.declared.event.Device.{Device}
use Rattle.vm_model.specs.declared.event.Event.{Event}
use Rattle.vm_model.specs.declared.event.Event.TheVariants as event
use Rattle.vm_model.specs.declared.event.Way.TheVariants.{Read}
use Rattle.vm_model.specs.declared.message.Channel.TheVariants.{Down}
use Rattle.vm_model.specs.declared.message.Message.{Message}
use Rattle.vm_model.specs.declared.message.Message.TheVariants as message
use Rattle.vm_outside.specs.Causes.{CountRises}

-- a message from a kernel to a pager
abbrev pub IsToPager : Message → Type 0
IsToPager (message.Init control size) = Unit {0}
IsToPager (message.Create control size) = Unit {0}
IsToPager (message.Request control page access) = Unit {0}
IsToPager (message.Unlock control page access) = Unit {0}
IsToPager (message.Return control page dirty keep bytes) = Unit {0}
IsToPager (message.Completed control page count) = Unit {0}
IsToPager (message.Terminate control) = Unit {0}
IsToPager (message.Changed control cache strategy) = Unit {0}
IsToPager m = ⊥

-- a page that is returned has so many bytes
abbrev pub ReturnsWhole : ℕ → Message → Type 0
ReturnsWhole size (message.Return control page dirty keep bytes) = length bytes ≡ size
ReturnsWhole size m = Unit {0}

-- a message is sent to a control of a host
abbrev pub sent_to : ℕ → ObjectId → ℕ → Message → Event
sent_to host object control m = event.Sent (Down (record { 0 = host }) object control) m

abbrev pub supply : PageNo → List ℕ → Message
supply page bytes = message.Supply page 0 false bytes

-- KERN_MEMORY_ERROR: the page is lost, or can't be read
abbrev pub error : PageNo → Message
error page = message.Error page 10

-- the events tell that the device failed
abbrev pub TellsFault : List Event → Type 0
TellsFault [] = ⊥
TellsFault (event.DeviceFailed who way object page ∷ past) = Unit {0}
TellsFault (e ∷ past) = TellsFault past

-- a device event stands exactly where the count of faults rose, unless that stands at its last value; want of
-- memory leaves the count
pub record AnswerHasCause (before now : ℕ) (result : Result (Listed Event) NoMemory) : Type 0 where
  pub later : before ≤ now
  pub failed : IfOk result (λ events. TellsFault events.items → CountRises before now)
  pub spared : IfOk result (λ events. (TellsFault events.items → ⊥) → now ≡ before)
  pub same : OnErr result (now ≡ before)

-- the answer to a request of a page
abbrev pub IsReply : PageNo → Message → Type 0
IsReply page (message.Supply p lock precious bytes) = p ≡ page
IsReply page (message.Unavailable p) = p ≡ page
IsReply page (message.Error p reason) = p ≡ page
IsReply page m = ⊥

-- the last event is the one answer, and behind it stands at most a failed read of the pager's device
pub record RepliesOnce (who : Device) (host : ℕ) (object : ObjectId) (control : ℕ) (page : PageNo) (events : List Event) : Type 0 where
  pub reply : Message
  pub about : IsReply page reply
  pub faults : List Event
  pub last : events ≡ sent_to host object control reply ∷ faults
  pub few : (faults ≡ []) ⊎ (faults ≡ event.DeviceFailed who Read object page ∷ [])

abbrev pub EndsInReply : Device → Message → ℕ → ObjectId → List Event → Type 0
EndsInReply who (message.Request control page access) host object events = RepliesOnce who host object control page events
EndsInReply who m host object events = Unit {0}
