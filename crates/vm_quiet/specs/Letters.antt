-- The messages of one channel among undelivered letters.
use Rattle.std.specs.Prelude.{List, [], ◌∷◌, if◌then◌else◌}
use Rattle.vm_model.specs.declared.message.Channel.{Channel}
use Rattle.vm_model.specs.declared.message.Message.{Message}
use Rattle.vm_model.specs.Channels.{is_channel}
use Rattle.vm_legal.specs.Steps.{Letter}

abbrev pub messages_on : Channel → List Letter → List Message
messages_on channel [] = []
messages_on channel (letter ∷ letters) = if is_channel channel letter.channel then letter.message ∷ messages_on channel letters else messages_on channel letters
