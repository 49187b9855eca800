-- A run of the page world in which host 0 reads the page, and gives it up to host 1, which wants to write it.
use Rattle.std.specs.Prelude.{◌∷◌, [], List, true, false}
use Rattle.vm_model.specs.declared.message.Channel.TheVariants.{Up, Down}
use Rattle.vm_model.specs.declared.message.Message.TheVariants as message
use Rattle.vm_model.specs.declared.event.Event.{Event}
use Rattle.vm_model.specs.declared.event.Event.TheVariants as event
use Rattle.vm_coherence.specs.Crossing.{host, task, object, page, zeros}

-- the events, the newest first
abbrev pub flushed : List Event
flushed =
    event.Sent (Up (host 0) object) (message.Completed 1 page 1) ∷
    event.Dropped (host 0) object page ∷
    event.Taken (Down (host 0) object 1) (message.Lock page 1 1 true 8 true) ∷
    event.Sent (Down (host 0) object 1) (message.Lock page 1 1 true 8 true) ∷
    event.Taken (Up (host 1) object) (message.Request 1 page 3) ∷
    event.Sent (Up (host 1) object) (message.Request 1 page 3) ∷
    event.BegunStore (task 1) 0 8 5 ∷
    event.Loaded (task 0) object page 0 ∷
    event.Taken (Down (host 0) object 1) (message.Supply page 2 false zeros) ∷
    event.Sent (Down (host 0) object 1) (message.Supply page 2 false zeros) ∷
    event.Taken (Up (host 0) object) (message.Request 1 page 1) ∷
    event.Sent (Up (host 0) object) (message.Request 1 page 1) ∷
    event.BegunLoad (task 0) 0 8 ∷
    []

-- host 0 asks to read again, though nobody waits there
abbrev pub idle_request : List Event
idle_request = event.Sent (Up (host 0) object) (message.Request 1 page 1) ∷ flushed
