-- What a host and the server do of themselves, behind the first event of a step.
use Rattle.std.specs.Prelude.{ℕ, ◌≡◌, List, ◌∷◌}
use Rattle.vm_model.specs.declared.message.Channel.TheVariants.{Up, Down}
use Rattle.vm_model.specs.declared.message.Message.{Message}
use Rattle.vm_model.specs.declared.message.Message.TheVariants as message
use Rattle.vm_model.specs.declared.event.Event.{Event}
use Rattle.vm_model.specs.declared.event.Event.TheVariants as event

-- a message from a host about the page
abbrev pub IsPageMessage : Message → Type 0
IsPageMessage (message.Request control page access) = page.0 ≡ 0
IsPageMessage (message.Unlock control page access) = page.0 ≡ 0
IsPageMessage (message.Return control page dirty keep bytes) = page.0 ≡ 0
IsPageMessage (message.Completed control page count) = page.0 ≡ 0
IsPageMessage (message.Terminate control) = Unit {0}
IsPageMessage m = ⊥

-- a host sends, drops its page, or ends its task's access
abbrev pub HostDoes : ℕ → Event → Type 0
HostDoes h (event.Sent (Up host object) m) = (host.0 ≡ h) × (object.0 ≡ 0) × IsPageMessage m
HostDoes h (event.Dropped host object page) = (host.0 ≡ h) × (object.0 ≡ 0) × (page.0 ≡ 0)
HostDoes h (event.Loaded task object page value) = (task.0 ≡ h) × (object.0 ≡ 0) × (page.0 ≡ 0)
HostDoes h (event.Stored task object page at size value) = (task.0 ≡ h) × (object.0 ≡ 0) × (page.0 ≡ 0)
HostDoes h e = ⊥

-- a message from the server about the page
abbrev pub IsOrder : Message → Type 0
IsOrder (message.Supply page lock precious bytes) = page.0 ≡ 0
IsOrder (message.Lock page count returns flush lock reply) = page.0 ≡ 0
IsOrder m = ⊥

-- the server sends
abbrev pub ServerDoes : Event → Type 0
ServerDoes (event.Sent (Down host object control) m) = (object.0 ≡ 0) × IsOrder m
ServerDoes e = ⊥

-- the events with some more, each of which P allows
pub data Adds (P : Event → Type 0) (old : List Event) : List Event → Type 0 where
  Same : Adds P old old
  More : (e : Event) (past : List Event) → P e → Adds P old past → Adds P old (e ∷ past)
