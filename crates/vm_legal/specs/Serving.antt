-- When a step ends the hosts serve their frame queues, one after another.
use Rattle.std.specs.Prelude.{ℕ, suc, ◌≡◌, List, [], ◌∷◌, ◌++◌, length}
use Rattle.vm_model.specs.declared.event.Event.{Event}
use Rattle.vm_model.specs.declared.event.Event.TheVariants as event
use Rattle.vm_model.specs.declared.message.Channel.TheVariants.{Up, Down}
use Rattle.vm_model.specs.declared.script.Header.{Header}
use Rattle.vm_legal.specs.Homes.{IsOnlyOfHost}
use Rattle.vm_legal.specs.Stretches.{AllInner, EachIn}

-- The hosts below a number have served their frame queues, by rising number: the events of each stand together, behind those of the
-- hosts below it.
pub data ServeInTurn (header : Header) (past : List Event) : ℕ → List Event → Type 0 where
  NoneServed : ServeInTurn header past 0 []
  NextServes : (h : ℕ) → (events more : List Event) → ServeInTurn header past h events → EachIn (IsOnlyOfHost header h) more (events ++ past)
      → ServeInTurn header past (suc h) (more ++ events)

-- what one host did, and then all hosts served their queues by rising number
pub record EndsInTurn (header : Header) (host : ℕ) (past events : List Event) : Type 0 where
  pub front : List Event
  pub served : List Event
  pub is : events ≡ served ++ front
  pub own : EachIn (IsOnlyOfHost header host) front past
  pub turns : ServeInTurn header (front ++ past) (length header.frames.items) served

-- the newest event begins a step, or there is none
abbrev pub BeginsStep : List Event → Type 0
BeginsStep [] = Unit {0}
BeginsStep (event.Line line ∷ past) = Unit {0}
BeginsStep (event.Taken channel m ∷ past) = Unit {0}
BeginsStep other = ⊥

-- whose step it is that began so: of the host that took a message, of no host where a pager took one; a command may be any host's
abbrev pub IsStepOf : Header → ℕ → List Event → Type 0
IsStepOf header h (event.Taken (Down host object control) m ∷ past) = h ≡ host.0
IsStepOf header h (event.Taken (Up host object) m ∷ past) = h ≡ length header.frames.items
IsStepOf header h other = Unit {0}

-- in the step that ends here the host whose step it is did something, or nobody did, and then all hosts served
pub record HostsServed (header : Header) (history : List Event) : Type 0 where
  pub before : List Event
  pub events : List Event
  pub is : history ≡ events ++ before
  pub begins : BeginsStep before
  pub inner : AllInner events
  pub host : ℕ
  pub acts : IsStepOf header host before
  pub turns : EndsInTurn header host before events
