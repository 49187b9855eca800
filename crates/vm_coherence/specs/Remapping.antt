-- A history of two hosts that map one shared page. Host 1 ends its control while it is awaited, which stands for
-- its answer, maps the page again, and reads what host 0 stored.
use Rattle.std.specs.Prelude.{ℕ, ◌∷◌, [], List, true, false}
use Rattle.vm_base.specs.declared.ids.RegionId.{RegionId}
use Rattle.vm_base.specs.declared.ids.Prot.{Prot}
use Rattle.vm_base.specs.declared.ids.Inherit.TheVariants.{Share}
use Rattle.vm_model.specs.declared.message.Channel.TheVariants.{Up, Down}
use Rattle.vm_model.specs.declared.message.Message.TheVariants as message
use Rattle.vm_model.specs.declared.event.Event.{Event}
use Rattle.vm_model.specs.declared.event.Event.TheVariants as event
use Rattle.vm_coherence.specs.Crossing.{host, task, object, page, zeros}

-- the whole of object 0
abbrev pub region : RegionId
region = record { 0 = 0 }

abbrev pub both : Prot
both = record { read = true; write = true }

-- after the store
abbrev pub eights : List ℕ
eights = 8 ∷ 0 ∷ 0 ∷ 0 ∷ 0 ∷ 0 ∷ 0 ∷ 0 ∷ 0 ∷ 0 ∷ 0 ∷ 0 ∷ 0 ∷ 0 ∷ 0 ∷ 0 ∷ []

-- the events, the newest first
abbrev pub remapping : List Event
remapping =
    event.Loaded (task 1) object page 8 ∷
    event.Taken (Down (host 1) object 2) (message.Supply page 2 false eights) ∷
    event.Sent (Down (host 1) object 2) (message.Supply page 2 false eights) ∷
    event.Taken (Up (host 0) object) (message.Completed 1 page 1) ∷
    event.Taken (Up (host 0) object) (message.Return 1 page true true eights) ∷
    event.Sent (Up (host 0) object) (message.Completed 1 page 1) ∷
    event.Sent (Up (host 0) object) (message.Return 1 page true true eights) ∷
    event.Taken (Down (host 0) object 1) (message.Lock page 1 1 false 2 true) ∷
    event.Sent (Down (host 0) object 1) (message.Lock page 1 1 false 2 true) ∷
    event.Taken (Up (host 1) object) (message.Request 2 page 1) ∷
    event.Line 19 ∷
    event.Sent (Up (host 1) object) (message.Request 2 page 1) ∷
    event.BegunLoad (task 1) 0 1 ∷
    event.Line 18 ∷
    event.Taken (Down (host 1) object 2) (message.Ready false 0) ∷
    event.Stored (task 0) object page 0 1 8 ∷
    event.Taken (Down (host 0) object 1) (message.Lock page 1 0 false 0 false) ∷
    event.Sent (Down (host 1) object 2) (message.Ready false 0) ∷
    event.Taken (Up (host 1) object) (message.Init 2 16) ∷
    event.Line 17 ∷
    event.Taken (Down (host 1) object 1) (message.Lock page 1 1 true 8 true) ∷
    event.Line 16 ∷
    event.Sent (Down (host 0) object 1) (message.Lock page 1 0 false 0 false) ∷
    event.Taken (Up (host 1) object) (message.Terminate 1) ∷
    event.Line 15 ∷
    event.Sent (Up (host 1) object) (message.Init 2 16) ∷
    event.Entered (task 1) 0 16 region 0 both Share ∷
    event.Line 14 ∷
    event.Sent (Up (host 1) object) (message.Terminate 1) ∷
    event.Dropped (host 1) object page ∷
    event.Removed (task 1) 0 16 ∷
    event.Line 13 ∷
    event.Sent (Down (host 1) object 1) (message.Lock page 1 1 true 8 true) ∷
    event.Taken (Up (host 0) object) (message.Unlock 1 page 3) ∷
    event.Line 12 ∷
    event.Sent (Up (host 0) object) (message.Unlock 1 page 3) ∷
    event.BegunStore (task 0) 0 1 8 ∷
    event.Line 11 ∷
    event.Loaded (task 1) object page 0 ∷
    event.Taken (Down (host 1) object 1) (message.Supply page 2 false zeros) ∷
    event.Loaded (task 0) object page 0 ∷
    event.Taken (Down (host 0) object 1) (message.Supply page 2 false zeros) ∷
    event.Sent (Down (host 1) object 1) (message.Supply page 2 false zeros) ∷
    event.Taken (Up (host 1) object) (message.Request 1 page 1) ∷
    event.Sent (Down (host 0) object 1) (message.Supply page 2 false zeros) ∷
    event.Taken (Up (host 0) object) (message.Request 1 page 1) ∷
    event.Sent (Up (host 1) object) (message.Request 1 page 1) ∷
    event.Taken (Down (host 1) object 1) (message.Ready false 0) ∷
    event.Sent (Up (host 0) object) (message.Request 1 page 1) ∷
    event.Taken (Down (host 0) object 1) (message.Ready false 0) ∷
    event.Sent (Down (host 1) object 1) (message.Ready false 0) ∷
    event.Taken (Up (host 1) object) (message.Init 1 16) ∷
    event.Sent (Down (host 0) object 1) (message.Ready false 0) ∷
    event.Taken (Up (host 0) object) (message.Init 1 16) ∷
    event.Line 10 ∷
    event.BegunLoad (task 1) 0 1 ∷
    event.Line 9 ∷
    event.BegunLoad (task 0) 0 1 ∷
    event.Line 8 ∷
    event.Sent (Up (host 1) object) (message.Init 1 16) ∷
    event.Entered (task 1) 0 16 region 0 both Share ∷
    event.Line 7 ∷
    event.Sent (Up (host 0) object) (message.Init 1 16) ∷
    event.Entered (task 0) 0 16 region 0 both Share ∷
    event.Line 6 ∷
    event.TaskMade (task 1) (host 1) ∷
    event.Line 5 ∷
    event.TaskMade (task 0) (host 0) ∷
    event.Line 4 ∷
    []
