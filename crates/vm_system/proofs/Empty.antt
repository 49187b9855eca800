-- Whether a channel was made, and whether it is empty, by its number and by the history.
use Rattle.vm_system.proofs.Common.{Channel, Event, Header, List, Message, None, Option, Posts, Some, State, [], channel_code, channel_number, code_at}
use Rattle.vm_system.proofs.Common.{code_where, is_empty, is_some, not, queue, queue_code, refl, refusal, ℕ, ◌∷◌, ◌≡◌}
use Rattle.vm_base.specs.declared.code.Code.TheVariants as code
use Rattle.vm_model.specs.declared.command.Command.TheVariants as command
use Rattle.vm_ports.specs.Ports.{queue as queue_on}
use Rattle.vm_system.proofs.Sending.{AreQueued, queue_same}

-- the code of a taking, by the messages and by the indices of their events
code_queued : (c : Channel) (indices : List ℕ) (messages : List Message) (past : List Event) → AreQueued c indices messages past
    → code_where (is_empty messages) code.EmptyPort None ≡ queue_code indices
code_queued c [] [] past queued = refl
code_queued c [] (m ∷ messages) past queued = absurd queued
code_queued c (index ∷ more) [] past queued = absurd queued
code_queued c (index ∷ more) (m ∷ messages) past queued = refl

-- why nothing is taken from a channel
pub take_code : (header : Header) (s : State) (past : List Event) (channel : Channel) → Posts s past
    → refusal header past (command.Take channel) ≡ channel_code channel s.channels.made s.ports.letters
take_code header s past channel posts = rw (← posts.channels channel) (go (channel_number channel s.channels.made) refl)
  where
    go : (o : Option ℕ) → channel_number channel s.channels.made ≡ o
        → code_where (not (is_some o)) code.NoSuchName (code_where (is_empty (queue channel past)) code.EmptyPort None) ≡ code_at o s.ports.letters
    go None e = refl
    go (Some n) e =
        code_queued channel (queue_on n s.ports.letters) (queue channel past) past (queue_same s.channels.made s.ports.letters channel n past posts.letters e)
