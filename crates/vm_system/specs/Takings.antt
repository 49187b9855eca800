-- Messages are taken, each in a step of its own.
use Rattle.std.specs.Prelude.{ℕ, ◌≡◌, ◌≢◌, Bool, List, [], ◌∷◌, ◌++◌, Option, Some}
use Rattle.vm_base.specs.declared.ids.ChannelId.{ChannelId}
use Rattle.vm_base.specs.declared.ids.HostId.{HostId}
use Rattle.vm_model.specs.declared.event.Event.{Event}
use Rattle.vm_model.specs.declared.event.Event.TheVariants as event
use Rattle.vm_model.specs.declared.message.Channel.{Channel}
use Rattle.vm_model.specs.declared.message.Message.{Message}
use Rattle.vm_model.specs.Channels.{queue}
use Rattle.vm_legal.specs.Bytes.{OwnBytes}
use Rattle.vm_legal.specs.Debts.{IsPaid}
use Rattle.vm_legal.specs.Follows.{IsConsequence}
use Rattle.vm_legal.specs.Frames.{FramesSuffice}
use Rattle.vm_legal.specs.Licences.{MayTake}
use Rattle.vm_legal.specs.InTurn.{AllRecalled, AllInTurn, EndsAll}
use Rattle.vm_legal.specs.Serving.{HostsServed}
use Rattle.vm_legal.specs.Prompt.{AllServed, Prompt}
use Rattle.vm_legal.specs.Stretches.{AllInner, EachIn, MomentsIn}
use Rattle.vm_hosts.specs.Hosts.{AllRest}
use Rattle.vm_hosts.specs.Steps.{EventsFollow, Going, PagerStep, Step}
use Rattle.vm_system.specs.Channels.{channel_number}
use Rattle.vm_system.specs.Stands.{Agrees, IsServable, SystemStands}
use Rattle.vm_system.specs.Steps.{lined}
use Rattle.vm_system.specs.declared.state.State.{State}

-- the channel with a number has a message, and the command may take it
pub record MayTakeFrom (given : Step) (line : Option ℕ) (number : ChannelId) (channel : Channel) (s : State) : Type 0 where
  pub stands : SystemStands given.header given.outside s
  pub past : given.past ≡ lined line s.history.items
  pub made : channel_number channel s.channels.made ≡ Some number.0
  pub may : MayTake given.command channel given.past
  pub some : queue channel s.history.items ≢ []

-- a step that began with a taking, so far: each event has its cause and its bytes, within the frames
pub record TakesStep (given : Step) (new : List Event) : Type 0 where
  pub channel : Channel
  pub m : Message
  pub more : List Event
  pub is : new ≡ more ++ event.Taken channel m ∷ given.past
  pub follows : EachIn IsConsequence more (event.Taken channel m ∷ given.past)
  pub licensed : AllInTurn given.header given.outside given.command (more ++ event.Taken channel m ∷ []) given.past
  pub own_bytes : EachIn (OwnBytes given.header) (more ++ event.Taken channel m ∷ []) given.past
  pub frames : MomentsIn (FramesSuffice given.header) (more ++ event.Taken channel m ∷ []) given.past
  pub inner : AllInner more

-- such a step has ended
pub record Took (given : Step) (new : State) : Type 0 where
  pub stands : SystemStands given.header given.outside new
  pub step : TakesStep given new.history.items
  pub prompt : Prompt given.header new.history.items
  pub paid : IsPaid given.header new.history.items
  pub ended : EndsAll given.header new.history.items
  pub turns : HostsServed given.header new.history.items

-- the pager of a host took a message and answered, and no kernel did anything yet
pub record PagerHasAnswered (given : Going) (host : HostId) (washed : Bool) (s : State) : Type 0 where
  pub built : IsServable given.header
  pub is : s.history.items ≡ given.front ++ given.past
  pub rests : AllRest given.header s.hosts given.past
  pub agrees : Agrees given.header given.outside s
  pub paid : IsPaid given.header s.history.items
  pub served : AllServed given.header s.history.items
  pub recalled : AllRecalled given.header s.history.items
  pub log : s.log.items ≡ []
  pub answers : PagerStep given.header given.outside given.command host washed given.past given.front

-- the hosts went on behind that
pub record Followed (given : Going) (new : State) : Type 0 where
  pub stands : SystemStands given.header given.outside new
  pub more : List Event
  pub is : new.history.items ≡ more ++ (given.front ++ given.past)
  pub follows : EventsFollow given.header given.outside given.command (given.front ++ given.past) more
  pub prompt : Prompt given.header new.history.items
  pub turns : HostsServed given.header new.history.items
