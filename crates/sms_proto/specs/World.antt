-- What the page world promises of its events.
use Rattle.std.specs.Prelude.{ℕ, ◌≡◌, ◌<◌, true, List, [], ◌∷◌}
use Rattle.vm_base.specs.declared.ids.HostId.{HostId}
use Rattle.vm_model.specs.declared.event.Event.{Event}
use Rattle.vm_model.specs.Side.{side}
use Rattle.vm_model.specs.PagePart.{world_part}
use Rattle.vm_model.specs.Channels.{up_queue, down_queue}
use Rattle.vm_model.specs.Coherence.{PageLegal, NobodyWaits}
use Rattle.sms_proto.specs.declared.step.WorldStep.{WorldStep}
use Rattle.sms_proto.specs.declared.step.WorldStep.TheVariants as step

-- what contracts see of a world
pub record Seen : Type 0 where
  pub size : ℕ
  pub hosts : ℕ
  pub events : List Event

abbrev pub step_host : WorldStep → HostId
step_host (step.Load host) = host
step_host (step.Store host value) = host
step_host (step.Evict host) = host
step_host (step.Leave host) = host
step_host (step.TakeUp host) = host
step_host (step.TakeDown host) = host

-- each step is of a host of the world
abbrev pub AllWithin : ℕ → List WorldStep → Type 0
AllWithin hosts [] = Unit {0}
AllWithin hosts (s ∷ steps) = ((step_host s).0 < hosts) × AllWithin hosts steps

-- nothing is on the way to the server, or from it to a live control
abbrev pub AllDelivered : ℕ → ℕ → List Event → Type 0
AllDelivered size hosts events =
    (h : ℕ) → h < hosts → (up_queue h 0 events ≡ []) × ((side h (world_part size events)).live ≡ true
    → down_queue h 0 (side h (world_part size events)).control events ≡ [])

-- the page behaves as one memory, and where nothing is on the way no access waits
pub record IsPageWorld (size hosts : ℕ) (events : List Event) : Type 0 where
  pub legal : PageLegal size (world_part size events)
  pub still : AllDelivered size hosts events → NobodyWaits (world_part size events)
