-- The ports of a system stand for the channels and the letters of a history.
use Rattle.std.specs.Prelude.{ℕ, ◌≡◌, ◌*◌, ◌+◌, ◌<◌, ◌≤◌, true, false, List, [], ◌∷◌, ◌++◌, length, reverse, slice_get, Option, Some, is_some}
use Rattle.vm_base.specs.declared.ids.HostId.{HostId}
use Rattle.vm_model.specs.declared.event.Event.{Event}
use Rattle.vm_model.specs.declared.event.Event.TheVariants as event
use Rattle.vm_model.specs.declared.message.Channel.{Channel}
use Rattle.vm_model.specs.declared.message.Channel.TheVariants.{Up, Down}
use Rattle.vm_model.specs.declared.message.Message.{Message}
use Rattle.vm_model.specs.declared.message.Message.TheVariants as message
use Rattle.vm_model.specs.Copies.{HasPageOf}
use Rattle.vm_legal.specs.Steps.{Letter}
use Rattle.vm_legal.specs.Undelivered.{is_made, undelivered}
use Rattle.vm_ports.specs.Ports.{spare_channels}
use Rattle.vm_ports.specs.declared.letter.Letter.{Letter as Posted}
use Rattle.vm_hosts.specs.Hosts.{AllQueued, AllRest, IsReady}
use Rattle.vm_kernel.specs.declared.breadth.Breadth.{Breadth}
use Rattle.vm_model.specs.declared.script.Header.{Header}
use Rattle.vm_system.specs.Channels.{channel_number}
use Rattle.vm_system.specs.declared.state.State.{State}

-- the event with this index, counted from the oldest, sends this message on this channel
abbrev pub IsSent : List Event → ℕ → Channel → Message → Type 0
IsSent history index channel m = slice_get (reverse history) index ≡ Some (event.Sent channel m)

-- the letters of the ports are these, by the numbers of their channels and the indices of the events that sent them
abbrev pub AreSame : List Channel → List (Posted ℕ) → List Letter → List Event → Type 0
AreSame made [] [] history = Unit {0}
AreSame made (posted ∷ more) (letter ∷ letters) history =
    (channel_number letter.channel made ≡ Some posted.channel.0) × IsSent history posted.message letter.channel letter.message
    × AreSame made more letters history
AreSame made posted letters history = ⊥

-- each page among the letters has so many bytes
abbrev pub HavePagesOf : ℕ → List Letter → Type 0
HavePagesOf size [] = Unit {0}
HavePagesOf size (letter ∷ letters) = HasPageOf size letter.message × HavePagesOf size letters

-- channels and letters are those of the history
pub record Posts (s : State) (past : List Event) : Type 0 where
  pub channels : (c : Channel) → is_some (channel_number c s.channels.made) ≡ is_made c past
  pub count : length s.channels.made ≡ s.ports.channels
  pub letters : AreSame s.channels.made s.ports.letters (undelivered past) past
  pub pages : HavePagesOf s.size (undelivered past)
  pub buffers : s.buffers.size ≡ s.size

-- there is room for so many further events, with their messages and channels
pub record HasRoom (n : ℕ) (s : State) : Type 0 where
  pub history : n ≤ s.history.room
  pub channels : 2 * n ≤ s.channels.room
  pub numbers : 2 * n ≤ spare_channels s.ports
  pub letters : n ≤ s.ports.room

-- a message can be sent: an init or a create makes the channel of its control, and the one up where it isn't there; any other has a channel
abbrev pub CanSend : Channel → Message → List Event → Type 0
CanSend (Up host object) (message.Create control size) past = is_made (Down host object control) past ≡ false
CanSend (Up host object) (message.Init control size) past = is_made (Down host object control) past ≡ false
CanSend channel m past = is_made channel past ≡ true

-- an event other than a taking can be told; a page that is sent has so many bytes
abbrev pub CanTell : ℕ → Event → List Event → Type 0
CanTell size (event.Sent channel m) past = HasPageOf size m × CanSend channel m past
CanTell size (event.Taken channel m) past = ⊥
CanTell size other past = Unit {0}

-- so can these, one after another
abbrev pub CanTellAll : ℕ → List Event → List Event → Type 0
CanTellAll size [] past = Unit {0}
CanTellAll size (e ∷ events) past = CanTell size e (events ++ past) × CanTellAll size events past

-- an event can be told behind these, at this index
pub record MayPost (e : Event) (index : ℕ) (past : List Event) (s : State) : Type 0 where
  pub posts : Posts s past
  pub can : CanTell s.size e past
  pub at : index ≡ length past

-- kernels and pagers are as they were
pub record SameHosts (old new : State) : Type 0 where
  pub size : new.size ≡ old.size
  pub hosts : new.hosts ≡ old.hosts
  pub pagers : new.pagers ≡ old.pagers
  pub declared : new.declared ≡ old.declared
  pub files : new.files ≡ old.files
  pub server : new.server ≡ old.server
  pub log : new.log ≡ old.log

-- nothing but room has changed
pub record OnlyRoom (old new : State) : Type 0 where
  pub rests : (header : Header) (past : List Event) → AllRest header old.hosts past → AllRest header new.hosts past
  pub queues : (header : Header) (past : List Event) → AllRest header old.hosts past → AllQueued header old.hosts past → AllQueued header new.hosts past
  pub history : new.history.items ≡ old.history.items
  pub made : new.channels.made ≡ old.channels.made
  pub numbers : new.ports.channels ≡ old.ports.channels
  pub letters : new.ports.letters ≡ old.ports.letters
  pub buffers : new.buffers.size ≡ old.buffers.size
  pub log : new.log.items ≡ old.log.items
  pub size : new.size ≡ old.size
  pub pagers : new.pagers ≡ old.pagers
  pub declared : new.declared ≡ old.declared
  pub files : new.files ≡ old.files
  pub server : new.server ≡ old.server

-- there is room for a step in which a host acts and the hosts tell so many events at most, and for so many more
pub record IsPrepared (acting : Option HostId) (breadth : Breadth) (most more : ℕ) (s : State) : Type 0 where
  pub hosts : IsReady acting breadth most s.hosts s.log.room
  pub log : most + more ≤ s.log.room
  pub room : HasRoom (most + more) s
  pub buffer : 0 < s.buffers.count
