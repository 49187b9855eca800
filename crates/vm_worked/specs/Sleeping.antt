-- A history in which an access sleeps beside its page: two tasks share a page by a fork, one of them stores, so that its own page stands over the other, and
-- both pages go to their pager. Both tasks load. The page of the second task has come, and it waits on, while the first one's page is asked.
use Rattle.std.specs.Prelude.{ℕ, ◌∷◌, [], List, true, false}
use Rattle.vm_base.specs.declared.ids.HostId.{HostId}
use Rattle.vm_base.specs.declared.ids.Inherit.TheVariants.{Copy}
use Rattle.vm_base.specs.declared.ids.ObjectId.{ObjectId}
use Rattle.vm_base.specs.declared.ids.PageNo.{PageNo}
use Rattle.vm_base.specs.declared.ids.Prot.{Prot}
use Rattle.vm_base.specs.declared.ids.RegionId.{RegionId}
use Rattle.vm_base.specs.declared.ids.TaskId.{TaskId}
use Rattle.vm_model.specs.declared.event.Event.{Event}
use Rattle.vm_model.specs.declared.event.Event.TheVariants as event
use Rattle.vm_model.specs.declared.message.Channel.{Channel}
use Rattle.vm_model.specs.declared.message.Channel.TheVariants.{Down, Up}
use Rattle.vm_model.specs.declared.message.Message.TheVariants as message
use Rattle.vm_model.specs.declared.script.Header.{Header}

-- pages of 16 bytes, one host of 8 frames, no declared object
abbrev pub header : Header
header = record { size = 16; slots = 1024; frames = record { items = 8 ∷ []; room = 0 }; objects = record { items = []; room = 0 } }

abbrev pub host : HostId
host = record { 0 = 0 }

abbrev pub task : ℕ → TaskId
task t = record { 0 = t }

abbrev pub region : ℕ → RegionId
region r = record { 0 = r }

abbrev pub object : ℕ → ObjectId
object o = record { 0 = o }

abbrev pub page : PageNo
page = record { 0 = 0 }

abbrev pub both : Prot
both = record { read = true; write = true }

abbrev pub up : ℕ → Channel
up o = Up host (object o)

abbrev pub down : ℕ → Channel
down o = Down host (object o) 1

-- a page whose first byte is this, and all others zero
abbrev pub page_of : ℕ → List ℕ
page_of first = first ∷ 0 ∷ 0 ∷ 0 ∷ 0 ∷ 0 ∷ 0 ∷ 0 ∷ 0 ∷ 0 ∷ 0 ∷ 0 ∷ 0 ∷ 0 ∷ 0 ∷ 0 ∷ []

-- the events, the newest first
abbrev pub history : List Event
history =
    event.Taken (down 1) (message.Supply page 0 false (page_of 2)) ∷
    event.Line 13 ∷
    event.Sent (down 1) (message.Supply page 0 false (page_of 2)) ∷
    event.Taken (up 1) (message.Request 1 page 1) ∷
    event.Line 12 ∷
    event.Sent (up 0) (message.Request 1 page 1) ∷
    event.BegunLoad (task 0) 0 1 ∷
    event.Line 11 ∷
    event.Sent (up 1) (message.Request 1 page 1) ∷
    event.BegunLoad (task 1) 0 1 ∷
    event.Line 10 ∷
    event.Taken (down 1) (message.Ready false 3) ∷
    event.Taken (down 0) (message.Ready false 3) ∷
    event.Taken (up 1) (message.Return 1 page true false (page_of 2)) ∷
    event.Sent (down 1) (message.Ready false 3) ∷
    event.Taken (up 1) (message.Create 1 16) ∷
    event.Taken (up 0) (message.Return 1 page true false (page_of 1)) ∷
    event.Sent (down 0) (message.Ready false 3) ∷
    event.Taken (up 0) (message.Create 1 16) ∷
    event.Line 9 ∷
    event.Sent (up 1) (message.Return 1 page true false (page_of 2)) ∷
    event.Sent (up 1) (message.Create 1 16) ∷
    event.Sent (up 0) (message.Return 1 page true false (page_of 1)) ∷
    event.Sent (up 0) (message.Create 1 16) ∷
    event.Line 8 ∷
    event.Stored (task 1) (object 1) page 0 1 2 ∷
    event.Raised host (object 0) page (object 1) page ∷
    event.Shadowed (region 1) (object 1) (object 0) ∷
    event.BegunStore (task 1) 0 1 2 ∷
    event.Line 7 ∷
    event.Entered (task 1) 0 16 (region 1) 0 both Copy ∷
    event.RegionCopied (region 1) (region 0) 0 1 ∷
    event.TaskMade (task 1) host ∷
    event.Line 6 ∷
    event.Stored (task 0) (object 0) page 0 1 1 ∷
    event.Zeroed host (object 0) page ∷
    event.BegunStore (task 0) 0 1 1 ∷
    event.Line 5 ∷
    event.Entered (task 0) 0 16 (region 0) 0 both Copy ∷
    event.RegionMade (region 0) (object 0) 1 ∷
    event.Line 4 ∷
    event.TaskMade (task 0) host ∷
    event.Line 3 ∷
    []
