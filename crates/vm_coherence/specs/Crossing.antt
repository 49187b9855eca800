-- A run of the page world in which an unlock and a flush cross: both hosts can read the page and want to write it.
use Rattle.std.specs.Prelude.{ℕ, ◌∷◌, [], List, true, false}
use Rattle.vm_base.specs.declared.ids.HostId.{HostId}
use Rattle.vm_base.specs.declared.ids.TaskId.{TaskId}
use Rattle.vm_base.specs.declared.ids.ObjectId.{ObjectId}
use Rattle.vm_base.specs.declared.ids.PageNo.{PageNo}
use Rattle.vm_model.specs.declared.message.Channel.TheVariants.{Up, Down}
use Rattle.vm_model.specs.declared.message.Message.TheVariants as message
use Rattle.vm_model.specs.declared.event.Event.{Event}
use Rattle.vm_model.specs.declared.event.Event.TheVariants as event

abbrev pub host : ℕ → HostId
host h = record { 0 = h }

abbrev pub task : ℕ → TaskId
task t = record { 0 = t }

abbrev pub object : ObjectId
object = record { 0 = 0 }

abbrev pub page : PageNo
page = record { 0 = 0 }

abbrev pub zeros : List ℕ
zeros = 0 ∷ 0 ∷ 0 ∷ 0 ∷ 0 ∷ 0 ∷ 0 ∷ 0 ∷ 0 ∷ 0 ∷ 0 ∷ 0 ∷ 0 ∷ 0 ∷ 0 ∷ 0 ∷ []

-- after the first store
abbrev pub fives : List ℕ
fives = 5 ∷ 0 ∷ 0 ∷ 0 ∷ 0 ∷ 0 ∷ 0 ∷ 0 ∷ 0 ∷ 0 ∷ 0 ∷ 0 ∷ 0 ∷ 0 ∷ 0 ∷ 0 ∷ []

-- the events, the newest first
abbrev pub crossing : List Event
crossing =
    event.Loaded (task 1) object page 6 ∷
    event.BegunLoad (task 1) 0 8 ∷
    event.Stored (task 1) object page 0 8 6 ∷
    event.Taken (Down (host 1) object 1) (message.Supply page 0 false fives) ∷
    event.Sent (Down (host 1) object 1) (message.Supply page 0 false fives) ∷
    event.Taken (Up (host 0) object) (message.Completed 1 page 1) ∷
    event.Taken (Up (host 0) object) (message.Return 1 page true false fives) ∷
    event.Sent (Up (host 0) object) (message.Completed 1 page 1) ∷
    event.Sent (Up (host 0) object) (message.Return 1 page true false fives) ∷
    event.Taken (Down (host 0) object 1) (message.Lock page 1 1 true 8 true) ∷
    event.Stored (task 0) object page 0 8 5 ∷
    event.Taken (Down (host 0) object 1) (message.Lock page 1 0 false 0 false) ∷
    event.Sent (Down (host 0) object 1) (message.Lock page 1 1 true 8 true) ∷
    event.Taken (Up (host 1) object) (message.Request 1 page 3) ∷
    event.Sent (Down (host 0) object 1) (message.Lock page 1 0 false 0 false) ∷
    event.Taken (Up (host 1) object) (message.Completed 1 page 1) ∷
    event.Sent (Up (host 1) object) (message.Request 1 page 3) ∷
    event.Sent (Up (host 1) object) (message.Completed 1 page 1) ∷
    event.Dropped (host 1) object page ∷
    event.Taken (Down (host 1) object 1) (message.Lock page 1 1 true 8 true) ∷
    event.Taken (Up (host 1) object) (message.Unlock 1 page 3) ∷
    event.Sent (Down (host 1) object 1) (message.Lock page 1 1 true 8 true) ∷
    event.Taken (Up (host 0) object) (message.Unlock 1 page 3) ∷
    event.Sent (Up (host 1) object) (message.Unlock 1 page 3) ∷
    event.BegunStore (task 1) 0 8 6 ∷
    event.Sent (Up (host 0) object) (message.Unlock 1 page 3) ∷
    event.BegunStore (task 0) 0 8 5 ∷
    event.Loaded (task 1) object page 0 ∷
    event.Taken (Down (host 1) object 1) (message.Supply page 2 false zeros) ∷
    event.Loaded (task 0) object page 0 ∷
    event.Taken (Down (host 0) object 1) (message.Supply page 2 false zeros) ∷
    event.Sent (Down (host 1) object 1) (message.Supply page 2 false zeros) ∷
    event.Taken (Up (host 1) object) (message.Request 1 page 1) ∷
    event.Sent (Down (host 0) object 1) (message.Supply page 2 false zeros) ∷
    event.Taken (Up (host 0) object) (message.Request 1 page 1) ∷
    event.Sent (Up (host 1) object) (message.Request 1 page 1) ∷
    event.BegunLoad (task 1) 0 8 ∷
    event.Sent (Up (host 0) object) (message.Request 1 page 1) ∷
    event.BegunLoad (task 0) 0 8 ∷
    []
