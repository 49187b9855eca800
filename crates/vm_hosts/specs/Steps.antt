-- What the hosts do in a step.
use Rattle.std.specs.Prelude.{ℕ, ◌≡◌, ◌<◌, Bool, true, List, [], ◌∷◌, ◌++◌, length, reverse, MatchOption, Option, Some}
use Rattle.vm_base.specs.declared.code.Code.TheVariants as code
use Rattle.vm_base.specs.declared.ids.HostId.{HostId}
use Rattle.vm_base.specs.declared.ids.ObjectId.{ObjectId}
use Rattle.vm_model.specs.declared.command.Command.{Command}
use Rattle.vm_model.specs.declared.event.Event.{Event}
use Rattle.vm_model.specs.declared.event.Event.TheVariants as event
use Rattle.vm_model.specs.declared.message.Channel.TheVariants.{Up, Down}
use Rattle.vm_model.specs.declared.message.Message.{Message}
use Rattle.vm_model.specs.declared.script.Header.{Header}
use Rattle.vm_legal.specs.Bytes.{OwnBytes}
use Rattle.vm_legal.specs.Debts.{IsPaid}
use Rattle.vm_legal.specs.Follows.{IsConsequence, head}
use Rattle.vm_legal.specs.InTurn.{IsDoneInTurn}
use Rattle.vm_legal.specs.Frames.{FramesSuffice, returns_out}
use Rattle.vm_legal.specs.Homes.{gives_frame}
use Rattle.vm_legal.specs.InTurn.{AllInTurn}
use Rattle.vm_legal.specs.Outside.{Outside}
use Rattle.vm_legal.specs.Prompt.{Prompt}
use Rattle.vm_legal.specs.Refusal.{refusal}
use Rattle.vm_legal.specs.Serving.{EndsInTurn, ServeInTurn}
use Rattle.vm_legal.specs.Stretches.{AllInner, EachIn, EachOf, MomentsIn}
use Rattle.vm_kernel.specs.Abroad.{IsNobodys}
use Rattle.vm_kernel.specs.Begun.{SomeKernelSays, acts_on}
use Rattle.vm_hosts.specs.Hosts.{AllQueued, AllRest, HostTable}

-- what is told to calls: the script's header, what is told of the outside, the command of the step, and the history in front of the call
pub record Step : Type 0 where
  pub header : Header
  pub outside : Outside
  pub command : Command
  pub past : List Event

-- events of one step, which some kernels said: each has its cause and its bytes, and the frames suffice at every moment
pub record Stretch (header : Header) (outside : Outside) (doing : Command) (past events : List Event) : Type 0 where
  pub licensed : AllInTurn header outside doing events past
  pub own_bytes : EachIn (OwnBytes header) events past
  pub frames : MomentsIn (FramesSuffice header) events past
  pub inner : AllInner events
  pub said : EachIn (SomeKernelSays header) events past

-- they follow from what stands in front of them
pub record EventsFollow (header : Header) (outside : Outside) (doing : Command) (past events : List Event) : Type 0 where
  pub follows : EachIn IsConsequence events past
  pub stretch : Stretch header outside doing past events

-- the head of the command, and what follows from it
pub record Heads (header : Header) (outside : Outside) (doing : Command) (past events : List Event) : Type 0 where
  pub first : List Event
  pub more : List Event
  pub head : head header past doing ≡ Some first
  pub is : events ≡ more ++ reverse first
  pub follows : EachIn IsConsequence more (reverse first ++ past)
  pub stretch : Stretch header outside doing past events

-- all hosts have served their frame queues: a step has ended
pub record StepHasEnded (header : Header) (hosts : HostTable) (past : List Event) : Type 0 where
  pub rests : AllRest header hosts past
  pub queues : AllQueued header hosts past
  pub prompt : Prompt header past

-- behind a message that a host has just taken stands what it did of it, and then all hosts serve; else they serve at once
abbrev pub PartInTurn : Header → List Event → List Event → Type 0
PartInTurn header (event.Taken (Down host object control) m ∷ past) events = EndsInTurn header host.0 (event.Taken (Down host object control) m ∷ past) events
PartInTurn header past events = ServeInTurn header past (length header.frames.items) events

-- the command acts on a host of the header
pub record ActsOn (header : Header) (h : ℕ) (doing : Command) (past : List Event) : Type 0 where
  pub known : h < length header.frames.items
  pub acts : acts_on h doing past ≡ true

-- where a command acts: on a host of the header, or nowhere, and then its task doesn't live
abbrev pub IsFoundOn : Header → Command → List Event → Option HostId → Type 0
IsFoundOn header doing past host = MatchOption host (refusal header past doing ≡ Some code.NoSuchName) (λ (h : HostId). ActsOn header h.0 doing past)

-- a command's step was run
pub record Began (header : Header) (outside : Outside) (doing : Command) (past : List Event) (hosts : HostTable) (events : List Event) : Type 0 where
  pub ended : StepHasEnded header hosts (events ++ past)
  pub heads : Heads header outside doing past events
  pub done : IsDoneInTurn header doing events past
  pub paid : IsPaid header (events ++ past)
  pub host : ℕ
  pub acts : ActsOn header host doing past
  pub turns : EndsInTurn header host past events

-- the hosts' part of a step was run that began with a taking, or with a command that is no host's
pub record HostsPart (header : Header) (outside : Outside) (doing : Command) (past : List Event) (hosts : HostTable) (events : List Event) : Type 0 where
  pub ended : StepHasEnded header hosts (events ++ past)
  pub follows : EventsFollow header outside doing past events
  pub turns : PartInTurn header past events

-- A pager of the host took a message, and said what it did of it; where the message returns a page that the host didn't keep, a return
-- was out.
pub record PagerStep (header : Header) (outside : Outside) (doing : Command) (host : HostId) (washed : Bool) (past front : List Event) : Type 0 where
  pub known : host.0 < length header.frames.items
  pub object : ObjectId
  pub m : Message
  pub told : List Event
  pub is : front ≡ told ++ event.Taken (Up host object) m ∷ []
  pub gives : gives_frame m ≡ washed
  pub out : washed ≡ true → 0 < returns_out host.0 past
  pub nobodys : EachOf IsNobodys told
  pub inner : AllInner told
  pub licensed : AllInTurn header outside doing front past

-- what is told of a step that goes on behind a taking: the history in front of it, and what of the step stands
pub record Going : Type 0 where
  pub header : Header
  pub outside : Outside
  pub command : Command
  pub past : List Event
  pub front : List Event

-- all hosts have served their queues behind what a step did, by rising number
pub record Went (header : Header) (outside : Outside) (doing : Command) (past old : List Event) (hosts : HostTable) (new : List Event) : Type 0 where
  pub ended : StepHasEnded header hosts (new ++ past)
  pub more : List Event
  pub is : new ≡ more ++ old
  pub follows : EventsFollow header outside doing (old ++ past) more
  pub turns : ServeInTurn header (old ++ past) (length header.frames.items) more
