-- A history of two hosts that map one shared page: host 0 reads it, host 1 wants to write it, and host 0 gives it up for that. It ends with
-- nothing undelivered.
use Rattle.std.specs.Prelude.{◌∷◌, [], List, true, false}
use Rattle.vm_base.specs.declared.ids.Inherit.TheVariants.{Share}
use Rattle.vm_base.specs.declared.ids.ObjectKind.TheVariants.{Shared}
use Rattle.vm_model.specs.declared.message.Channel.TheVariants.{Up, Down}
use Rattle.vm_model.specs.declared.message.Message.TheVariants as message
use Rattle.vm_model.specs.declared.event.Event.{Event}
use Rattle.vm_model.specs.declared.event.Event.TheVariants as event
use Rattle.vm_model.specs.declared.script.Header.{Header}
use Rattle.vm_legal.specs.Outside.{Outside, Untold}
use Rattle.vm_coherence.specs.Crossing.{host, task, object, page, zeros}
use Rattle.vm_coherence.specs.Remapping.{region, both}

-- pages of 16 bytes, two hosts of 2 frames each, one shared object of a page, whose name is "s"
abbrev pub header : Header
header =
    record {
      size = 16;
      slots = 4;
      frames = record { items = 2 ∷ 2 ∷ []; room = 0 };
      objects = record { items = record { name = 115 ∷ []; kind = Shared; pages = 1 } ∷ []; room = 0 };
    }

-- nothing is told
abbrev pub outside : Outside
outside = record { files = Untold; paging = true }

-- the events, the newest first
abbrev pub history : List Event
history =
    event.Stored (task 1) object page 0 1 8 ∷
    event.Taken (Down (host 1) object 1) (message.Supply page 0 false zeros) ∷
    event.Sent (Down (host 1) object 1) (message.Supply page 0 false zeros) ∷
    event.Taken (Up (host 0) object) (message.Completed 1 page 1) ∷
    event.Sent (Up (host 0) object) (message.Completed 1 page 1) ∷
    event.Dropped (host 0) object page ∷
    event.Taken (Down (host 0) object 1) (message.Lock page 1 1 true 8 true) ∷
    event.Loaded (task 0) object page 0 ∷
    event.Taken (Down (host 0) object 1) (message.Supply page 2 false zeros) ∷
    event.Sent (Down (host 0) object 1) (message.Lock page 1 1 true 8 true) ∷
    event.Taken (Up (host 1) object) (message.Request 1 page 3) ∷
    event.Sent (Down (host 0) object 1) (message.Supply page 2 false zeros) ∷
    event.Taken (Up (host 0) object) (message.Request 1 page 1) ∷
    event.Sent (Up (host 1) object) (message.Request 1 page 3) ∷
    event.Taken (Down (host 1) object 1) (message.Ready false 0) ∷
    event.Sent (Up (host 0) object) (message.Request 1 page 1) ∷
    event.Taken (Down (host 0) object 1) (message.Ready false 0) ∷
    event.Sent (Down (host 1) object 1) (message.Ready false 0) ∷
    event.Taken (Up (host 1) object) (message.Init 1 16) ∷
    event.Sent (Down (host 0) object 1) (message.Ready false 0) ∷
    event.Taken (Up (host 0) object) (message.Init 1 16) ∷
    event.Line 9 ∷
    event.BegunStore (task 1) 0 1 8 ∷
    event.Line 8 ∷
    event.BegunLoad (task 0) 0 1 ∷
    event.Line 7 ∷
    event.Sent (Up (host 1) object) (message.Init 1 16) ∷
    event.Entered (task 1) 0 16 region 0 both Share ∷
    event.Line 6 ∷
    event.Sent (Up (host 0) object) (message.Init 1 16) ∷
    event.Entered (task 0) 0 16 region 0 both Share ∷
    event.Line 5 ∷
    event.TaskMade (task 1) (host 1) ∷
    event.Line 4 ∷
    event.TaskMade (task 0) (host 0) ∷
    event.Line 3 ∷
    []
