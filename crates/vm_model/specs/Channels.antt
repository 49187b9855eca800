-- The channels of a whole history, and that each is first in, first out.
use Rattle.std.specs.Prelude.{◌≡◌, ◌+◌, ◌*◌, ◌^◌, ◌≤◌, ◌<◌, ℕ, ◌==◌, ◌&&◌, List, [], ◌∷◌, ◌++◌, Bool, false, Some, if◌then◌else◌}
use Rattle.std.specs.Hash as fed
use Rattle.std.specs.Hash.{HashWrites}
use Rattle.vm_model.specs.declared.message.Channel.{Channel}
use Rattle.vm_model.specs.declared.message.Channel.TheVariants.{Up, Down}
use Rattle.vm_model.specs.declared.message.Message.{Message}
use Rattle.vm_model.specs.declared.message.Message.TheVariants as message
use Rattle.vm_model.specs.declared.event.Event.{Event}
use Rattle.vm_model.specs.declared.event.Event.TheVariants as event
use Rattle.vm_model.specs.Controls.{last_control}
use Rattle.vm_model.specs.Words.{UpWord, OtherUp, up_word, DownWord, Readying, OtherDown, down_word}
use Rattle.vm_model.specs.Side.{rest}
use Rattle.vm_model.specs.Server.{first}

abbrev pub is_channel : Channel → Channel → Bool
is_channel (Up h o) (Up host object) = host.0 == h.0 && object.0 == o.0
is_channel (Down h o k) (Down host object control) = host.0 == h.0 && (object.0 == o.0 && control == k)
is_channel mine other = false

-- what a channel gives a hash
abbrev pub channel_input : Channel → HashWrites
channel_input (Up host object) = fed.u64 (2 ^ 32 * host.0 + object.0)
channel_input (Down host object control) = fed.u64 (2 ^ 32 * host.0 + object.0) ++ fed.u32 control

-- what is on the way in a channel: what was sent and not taken, the oldest first
abbrev pub queue_after : Channel → Event → List Message → List Message
queue_after mine (event.Sent channel m) q = if is_channel mine channel then q ++ m ∷ [] else q
queue_after mine (event.Taken channel m) q = if is_channel mine channel then rest q else q
queue_after mine e q = q

abbrev pub queue : Channel → List Event → List Message
queue mine [] = []
queue mine (e ∷ past) = queue_after mine e (queue mine past)

-- up from host h to object o
abbrev pub up_port : ℕ → ℕ → Channel
up_port h o = Up (record { 0 = h }) (record { 0 = o })

abbrev pub up_queue : ℕ → ℕ → List Event → List Message
up_queue h o past = queue (up_port h o) past

-- down to control k
abbrev pub down_port : ℕ → ℕ → ℕ → Channel
down_port h o k = Down (record { 0 = h }) (record { 0 = o }) k

abbrev pub down_queue : ℕ → ℕ → ℕ → List Event → List Message
down_queue h o k past = queue (down_port h o k) past

-- what is taken on a channel up is the oldest
abbrev pub TakesFirst : Event → List Event → Type 0
TakesFirst (event.Taken (Up host object) m) past = first (up_queue host.0 object.0 past) ≡ Some m
TakesFirst other past = Unit {0}

abbrev pub UpInOrder : List Event → Type 0
UpInOrder [] = Unit {0}
UpInOrder (e ∷ past) = TakesFirst e past × UpInOrder past

-- the words of page p among messages
abbrev pub with_word : UpWord → List UpWord → List UpWord
with_word OtherUp ws = ws
with_word w ws = w ∷ ws

abbrev pub up_words : ℕ → List Message → List UpWord
up_words p [] = []
up_words p (m ∷ q) = with_word (up_word p m) (up_words p q)

-- what is taken on a channel down is the oldest, nothing is sent to a control before it begins, and a control has a
-- new number
abbrev pub DownFirst : Event → List Event → Type 0
DownFirst (event.Taken (Down host object control) m) past = first (down_queue host.0 object.0 control past) ≡ Some m
DownFirst (event.Sent (Down host object control) m) past = control ≤ last_control host.0 object.0 past
DownFirst (event.Sent (Up host object) (message.Init control size)) past = last_control host.0 object.0 past < control
DownFirst (event.Sent (Up host object) (message.Create control size)) past = last_control host.0 object.0 past < control
DownFirst other past = Unit {0}

abbrev pub DownInOrder : List Event → Type 0
DownInOrder [] = Unit {0}
DownInOrder (e ∷ past) = DownFirst e past × DownInOrder past

-- the words of page p among messages, but for the ready
abbrev pub with_down : DownWord → List DownWord → List DownWord
with_down OtherDown ws = ws
with_down Readying ws = ws
with_down w ws = w ∷ ws

abbrev pub down_words : ℕ → List Message → List DownWord
down_words p [] = []
down_words p (m ∷ q) = with_down (down_word p m) (down_words p q)
