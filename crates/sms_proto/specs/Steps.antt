-- The steps of the page world, and what each adds to its events.
use Rattle.std.specs.Prelude.{◌==◌, [], ◌++◌, ℕ, Bool, true, false, List, ◌∷◌, ◌≡◌, if◌then◌else◌, Option, Some, None}
use Rattle.vm_base.specs.declared.ids.HostId.{HostId}
use Rattle.vm_model.specs.declared.message.Channel.TheVariants.{Up, Down}
use Rattle.vm_model.specs.declared.message.Message.TheVariants as message
use Rattle.vm_model.specs.declared.event.Event.{Event}
use Rattle.vm_model.specs.declared.event.Event.TheVariants as event
use Rattle.vm_model.specs.declared.message.Message.{Message}
use Rattle.vm_model.specs.declared.message.Channel.{Channel}
use Rattle.vm_model.specs.Side.{Side, side}
use Rattle.vm_model.specs.Waiters.{Waiter, waiters}
use Rattle.vm_model.specs.PagePart.{world_part}
use Rattle.vm_model.specs.Channels.{up_queue, down_queue}
use Rattle.sms_proto.specs.declared.step.WorldStep.{WorldStep}
use Rattle.sms_proto.specs.declared.step.WorldStep.TheVariants as step
use Rattle.sms_proto.specs.Adds.{Adds, HostDoes, ServerDoes}

-- how host h gives its page up: a page with nothing unsaved is dropped, another is returned
abbrev pub put_away_event : ℕ → ℕ → Bool → List ℕ → Event
put_away_event h control true bytes =
    event.Sent (Up (record { 0 = h }) (record { 0 = 0 })) (message.Return control (record { 0 = 0 }) true false bytes)
put_away_event h control false bytes = event.Dropped (record { 0 = h }) (record { 0 = 0 }) (record { 0 = 0 })

-- the task of host h begins a load, or a store of a value, of the page's first eight bytes
abbrev pub begun_event : ℕ → Bool → ℕ → Event
begun_event h true value = event.BegunStore (record { 0 = h }) 0 8 value
begun_event h false value = event.BegunLoad (record { 0 = h }) 0 8

-- the events of a step behind its first, where it has one; else nothing
abbrev pub StepEvents : (Event → Type 0) → Option Event → List Event → List Event → Type 0
StepEvents P None old new = new ≡ old
StepEvents P (Some e) old new = Adds P (e ∷ old) new

-- one or the other, as no access waits or one does
abbrev pub when_idle : {A : Type 0} → List Waiter → A → A → A
when_idle [] idle busy = idle
when_idle (w ∷ ws) idle busy = busy

-- the taking of the oldest message of a channel
abbrev pub taken_head : Channel → List Message → Option Event
taken_head channel [] = None
taken_head channel (m ∷ q) = Some (event.Taken channel m)

abbrev pub down_head : HostId → Bool → ℕ → List Message → Option Event
down_head host true control q = taken_head (Down host (record { 0 = 0 }) control) q
down_head host false control q = None

-- the page that host h gives up, if it has it
abbrev pub gives_up : ℕ → Side → List Event
gives_up h s = if 0 == s.right then [] else put_away_event h s.control s.dirty s.bytes ∷ []

abbrev pub left : ℕ → Side → List Waiter → List Event → List Event
left h s ws old =
    if s.live then when_idle ws (event.Sent (Up (record { 0 = h }) (record { 0 = 0 })) (message.Terminate s.control) ∷ gives_up h s ++ old) old else old

-- what a step makes of the events; where it isn't possible they are as before
abbrev pub Takes : ℕ → WorldStep → List Event → List Event → Type 0
Takes size (step.Load host) old new =
    StepEvents (HostDoes host.0) (when_idle (waiters host.0 (world_part size old)) (Some (begun_event host.0 false 0)) None) old new
Takes size (step.Store host value) old new =
    StepEvents (HostDoes host.0) (when_idle (waiters host.0 (world_part size old)) (Some (begun_event host.0 true value)) None) old new
Takes size (step.Evict host) old new = new ≡ when_idle (waiters host.0 (world_part size old)) (gives_up host.0 (side host.0 (world_part size old)) ++ old) old
Takes size (step.Leave host) old new =
    new ≡ left host.0 (side host.0 (world_part size old)) (waiters host.0 (world_part size old)) old
Takes size (step.TakeUp host) old new =
    StepEvents ServerDoes (taken_head (Up host (record { 0 = 0 })) (up_queue host.0 0 old)) old new
Takes size (step.TakeDown host) old new =
    StepEvents (HostDoes host.0) (down_head host (side host.0 (world_part size old)).live (side host.0 (world_part size old)).control
    (down_queue host.0 0 (side host.0 (world_part size old)).control old)) old new

-- the steps, taken one by one
abbrev pub TakesSteps : ℕ → List WorldStep → List Event → List Event → Type 0
TakesSteps size [] old new = new ≡ old
TakesSteps size (s ∷ steps) old new = (middle : List Event) × Takes size s old middle × TakesSteps size steps middle new

-- what one taking adds first
abbrev pub AddsFirst : Option Event → List Event → List Event → Type 0
AddsFirst None old new = ⊥
AddsFirst (Some e) old new = new ≡ e ∷ old
