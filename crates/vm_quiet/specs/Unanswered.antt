-- A history of two hosts that map one wild object, whose pager the script drives: it is ready for host 0, whose load it never answers, and never
-- ready for host 1, whose load waits for that. Nothing is undelivered, and both loads will go on waiting, though each host has a free frame.
use Rattle.std.specs.Prelude.{ℕ, ◌∷◌, [], List, true, false}
use Rattle.vm_base.specs.declared.ids.HostId.{HostId}
use Rattle.vm_base.specs.declared.ids.Inherit.TheVariants.{Share}
use Rattle.vm_base.specs.declared.ids.ObjectId.{ObjectId}
use Rattle.vm_base.specs.declared.ids.ObjectKind.TheVariants.{Wild}
use Rattle.vm_base.specs.declared.ids.PageNo.{PageNo}
use Rattle.vm_base.specs.declared.ids.Prot.{Prot}
use Rattle.vm_base.specs.declared.ids.RegionId.{RegionId}
use Rattle.vm_base.specs.declared.ids.TaskId.{TaskId}
use Rattle.vm_model.specs.declared.event.Event.{Event}
use Rattle.vm_model.specs.declared.event.Event.TheVariants as event
use Rattle.vm_model.specs.declared.message.Channel.{Channel}
use Rattle.vm_model.specs.declared.message.Channel.TheVariants.{Up, Down}
use Rattle.vm_model.specs.declared.message.Message.TheVariants as message
use Rattle.vm_model.specs.declared.script.Header.{Header}
use Rattle.vm_legal.specs.Outside.{Outside, Untold}

-- pages of 16 bytes, two hosts of 2 frames each, one wild object of a page, whose name is "w"
abbrev pub header : Header
header =
    record {
      size = 16;
      slots = 4;
      frames = record { items = 2 ∷ 2 ∷ []; room = 0 };
      objects = record { items = record { name = 119 ∷ []; kind = Wild; pages = 1 } ∷ []; room = 0 };
    }

-- nothing is told
abbrev pub outside : Outside
outside = record { files = Untold; paging = true }

abbrev pub host : ℕ → HostId
host h = record { 0 = h }

abbrev pub task : ℕ → TaskId
task t = record { 0 = t }

abbrev pub object : ObjectId
object = record { 0 = 0 }

abbrev pub region : RegionId
region = record { 0 = 0 }

abbrev pub page : PageNo
page = record { 0 = 0 }

abbrev pub both : Prot
both = record { read = true; write = true }

abbrev pub up : ℕ → Channel
up h = Up (host h) object

abbrev pub down : Channel
down = Down (host 0) object 1

-- the events, the newest first: each host maps the object, the script says that its pager is ready for host 0, a task on each host loads, and a
-- settle takes all messages
abbrev pub history : List Event
history =
    event.Taken (up 0) (message.Request 1 page 1) ∷
    event.Sent (up 0) (message.Request 1 page 1) ∷
    event.Taken down (message.Ready false 0) ∷
    event.Taken (up 1) (message.Init 1 16) ∷
    event.Taken (up 0) (message.Init 1 16) ∷
    event.Line 11 ∷
    event.BegunLoad (task 1) 0 1 ∷
    event.Line 10 ∷
    event.BegunLoad (task 0) 0 1 ∷
    event.Line 9 ∷
    event.Sent down (message.Ready false 0) ∷
    event.Line 8 ∷
    event.Sent (up 1) (message.Init 1 16) ∷
    event.Entered (task 1) 0 16 region 0 both Share ∷
    event.Line 7 ∷
    event.Sent (up 0) (message.Init 1 16) ∷
    event.Entered (task 0) 0 16 region 0 both Share ∷
    event.Line 6 ∷
    event.TaskMade (task 1) (host 1) ∷
    event.Line 5 ∷
    event.TaskMade (task 0) (host 0) ∷
    event.Line 4 ∷
    []
