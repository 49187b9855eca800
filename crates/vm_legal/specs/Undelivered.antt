-- What was sent and not taken, on all channels together.
use Rattle.std.specs.Prelude.{ℕ, ◌==◌, ◌&&◌, ◌||◌, Bool, false, List, [], ◌∷◌, ◌++◌, if◌then◌else◌, Option, Some, None}
use Rattle.vm_model.specs.declared.event.Event.{Event}
use Rattle.vm_model.specs.declared.event.Event.TheVariants as event
use Rattle.vm_model.specs.declared.message.Channel.{Channel}
use Rattle.vm_model.specs.declared.message.Channel.TheVariants.{Up, Down}
use Rattle.vm_model.specs.declared.message.Message.{Message}
use Rattle.vm_model.specs.declared.message.Message.TheVariants as message
use Rattle.vm_model.specs.Channels.{is_channel}
use Rattle.vm_legal.specs.Steps.{Letter}

-- the letters without the first of a channel
abbrev pub without_first : Channel → List Letter → List Letter
without_first channel [] = []
without_first channel (letter ∷ letters) = if is_channel channel letter.channel then letters else letter ∷ without_first channel letters

-- all undelivered letters, in the order in which they were sent
abbrev pub undelivered : List Event → List Letter
undelivered [] = []
undelivered (event.Sent channel m ∷ past) = undelivered past ++ record { channel = channel; message = m } ∷ []
undelivered (event.Taken channel m ∷ past) = without_first channel (undelivered past)
undelivered (e ∷ past) = undelivered past

abbrev pub channel_of_first : List Letter → Option Channel
channel_of_first [] = None
channel_of_first (letter ∷ letters) = Some letter.channel

-- the channel of the undelivered message that was sent first
abbrev pub oldest_channel : List Event → Option Channel
oldest_channel past = channel_of_first (undelivered past)

-- the channel is up to an object from a host, or down to this control of it
abbrev pub is_of_control : Channel → ℕ → ℕ → ℕ → Bool
is_of_control (Up host object) h o k = host.0 == h && object.0 == o
is_of_control (Down host object control) h o k = host.0 == h && (object.0 == o && control == k)

abbrev pub makes : Channel → ℕ → ℕ → Message → Bool
makes channel h o (message.Init control size) = is_of_control channel h o control
makes channel h o (message.Create control size) = is_of_control channel h o control
makes channel h o other = false

-- the channel was made: with the init or create of its control
abbrev pub is_made : Channel → List Event → Bool
is_made channel [] = false
is_made channel (event.Sent (Up host object) m ∷ past) = makes channel host.0 object.0 m || is_made channel past
is_made channel (e ∷ past) = is_made channel past
