-- What a sending makes of channels and letters.
use Rattle.std.specs.Prelude.{ℕ, ◌≡◌, ◌≤◌, ◌+◌, Bool, true, false, is_some, List, [], ◌∷◌, ◌++◌, length, Some, None}
use Rattle.vm_base.specs.declared.ids.ChannelId.{ChannelId}
use Rattle.vm_model.specs.declared.message.Channel.{Channel}
use Rattle.vm_model.specs.declared.message.Channel.TheVariants.{Up, Down}
use Rattle.vm_model.specs.declared.message.Message.{Message}
use Rattle.vm_model.specs.declared.message.Message.TheVariants as message
use Rattle.vm_system.specs.Channels.{channel_number}
use Rattle.vm_system.specs.Posts.{SameHosts}
use Rattle.vm_system.specs.declared.state.State.{State}

-- the channel of a control is made, and the one up where it isn't there
abbrev pub opened : Bool → Channel → Channel → List Channel
opened true up down = down ∷ []
opened false up down = up ∷ down ∷ []

-- the channels that a message makes, where these were made
abbrev pub made_by : List Channel → Channel → Message → List Channel
made_by made (Up host object) (message.Create control size) =
    opened (is_some (channel_number (Up host object) made)) (Up host object) (Down host object control)
made_by made (Up host object) (message.Init control size) = opened (is_some (channel_number (Up host object) made)) (Up host object) (Down host object control)
made_by made channel m = []

-- none of these was made, and each is another
abbrev pub AreFresh : List Channel → List Channel → Type 0
AreFresh [] made = Unit {0}
AreFresh (channel ∷ more) made = (channel_number channel made ≡ None) × AreFresh more (made ++ channel ∷ [])

-- channels were added, and nothing else was changed
pub record Added (channels : List Channel) (old new : State) : Type 0 where
  pub made : new.channels.made ≡ old.channels.made ++ channels
  pub count : new.ports.channels ≡ old.ports.channels + length channels
  pub room : old.channels.room ≤ new.channels.room + length channels
  pub letters : new.ports.letters ≡ old.ports.letters
  pub letter_room : new.ports.room ≡ old.ports.room
  pub buffers : new.buffers ≡ old.buffers
  pub history : new.history ≡ old.history
  pub hosts : SameHosts old new

-- behind the letters stands one more, in this channel, whose message is that of the event with this index
abbrev pub AddsLetter : ChannelId → ℕ → State → State → Type 0
AddsLetter number index old new = new.ports.letters ≡ old.ports.letters ++ record { channel = number; message = index } ∷ []

-- the message of the event with this index was sent, and nothing else was changed
pub record HasSent (channel : Channel) (index : ℕ) (old new : State) : Type 0 where
  pub number : ChannelId
  pub is : channel_number channel old.channels.made ≡ Some number.0
  pub letters : AddsLetter number index old new
  pub room : old.ports.room ≤ new.ports.room + 1
  pub count : new.ports.channels ≡ old.ports.channels
  pub channels : new.channels ≡ old.channels
  pub buffers : new.buffers ≡ old.buffers
  pub history : new.history ≡ old.history
  pub hosts : SameHosts old new

-- a message, of which the event with this index tells, was sent with the channels that it makes
pub record Delivered (channel : Channel) (m : Message) (index : ℕ) (old new : State) : Type 0 where
  pub made : new.channels.made ≡ old.channels.made ++ made_by old.channels.made channel m
  pub count : new.ports.channels ≡ old.ports.channels + length (made_by old.channels.made channel m)
  pub room : old.channels.room ≤ new.channels.room + length (made_by old.channels.made channel m)
  pub number : ChannelId
  pub is : channel_number channel new.channels.made ≡ Some number.0
  pub letters : AddsLetter number index old new
  pub letter_room : old.ports.room ≤ new.ports.room + 1
  pub buffers : new.buffers ≡ old.buffers
  pub history : new.history ≡ old.history
  pub hosts : SameHosts old new

-- channels, letters and buffers are as they were
pub record SameLetters (old new : State) : Type 0 where
  pub ports : new.ports ≡ old.ports
  pub channels : new.channels ≡ old.channels
  pub buffers : new.buffers ≡ old.buffers
