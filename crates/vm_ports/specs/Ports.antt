-- The channels of a run and the letters on them, as contracts see them.
use Rattle.std.specs.Prelude.{ℕ, ◌<◌, ◌≡◌, ◌≢◌, ◌-◌, ◌^◌, ◌==◌, List, [], ◌∷◌, Option, Some, None, if◌then◌else◌}
use Rattle.vm_base.specs.declared.ids.ChannelId.{ChannelId}
use Rattle.vm_ports.specs.Nodes.{Place}
use Rattle.vm_ports.specs.declared.letter.Letter.{Letter}

-- how many channels there are, numbered from 0 on; the undelivered letters, the oldest first; how many can be sent
-- without memory; the same letters with the keys of their nodes
pub record PortTable (M : Type 0) : Type 0 where
  pub channels : ℕ
  pub letters : List (Letter M)
  pub room : ℕ
  pub places : List (Place M)

module _ {M : Type 0} where
  -- how many channels can still be added
  abbrev pub spare_channels : PortTable M → ℕ
  spare_channels ports = 2 ^ 32 - 1 - ports.channels

  -- the messages of a channel, the oldest first
  abbrev pub queue : ℕ → List (Letter M) → List M
  queue ch [] = []
  queue ch (letter ∷ letters) = if letter.channel.0 == ch then letter.message ∷ queue ch letters else queue ch letters

  -- the letters without the first of a channel
  abbrev pub without_first : ℕ → List (Letter M) → List (Letter M)
  without_first ch [] = []
  without_first ch (letter ∷ letters) = if letter.channel.0 == ch then letters else letter ∷ without_first ch letters

  -- the channel of the oldest letter
  abbrev pub oldest : List (Letter M) → Option ChannelId
  oldest [] = None
  oldest (letter ∷ letters) = Some letter.channel

  -- each other channel has the messages that it had
  abbrev pub KeepsOthers : ℕ → List (Letter M) → List (Letter M) → Type 0
  KeepsOthers ch old new = (other : ℕ) → other ≢ ch → queue other new ≡ queue other old

  -- each letter is on one of so many channels
  abbrev pub AllAdded : ℕ → List (Letter M) → Type 0
  AllAdded channels [] = Unit {0}
  AllAdded channels (letter ∷ letters) = (letter.channel.0 < channels) × AllAdded channels letters
