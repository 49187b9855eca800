-- The channels that were made, by their numbers.
use Rattle.std.specs.Prelude.{ℕ, suc, List, [], ◌∷◌, Option, Some, None, if◌then◌else◌, option_map}
use Rattle.vm_model.specs.declared.message.Channel.{Channel}
use Rattle.vm_model.specs.Channels.{is_channel}

-- the channels in the order of their numbers, and how many more are noted without memory
pub record ChannelTable : Type 0 where
  pub made : List Channel
  pub room : ℕ

-- the number of a channel
abbrev pub channel_number : Channel → List Channel → Option ℕ
channel_number channel [] = None
channel_number channel (first ∷ made) = if is_channel channel first then Some 0 else option_map suc (channel_number channel made)
