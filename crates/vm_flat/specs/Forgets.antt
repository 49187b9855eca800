-- A history of a file that isn't told: its pager took back a page with a 7, and supplies zeros all the same, so a load reads 0.
use Rattle.std.specs.Prelude.{ℕ, ◌∷◌, [], List, true, false}
use Rattle.vm_base.specs.declared.ids.HostId.{HostId}
use Rattle.vm_base.specs.declared.ids.Inherit.TheVariants.{Share}
use Rattle.vm_base.specs.declared.ids.ObjectId.{ObjectId}
use Rattle.vm_base.specs.declared.ids.ObjectKind.TheVariants.{File}
use Rattle.vm_base.specs.declared.ids.PageNo.{PageNo}
use Rattle.vm_base.specs.declared.ids.RegionId.{RegionId}
use Rattle.vm_base.specs.declared.ids.TaskId.{TaskId}
use Rattle.vm_model.specs.declared.event.Event.{Event}
use Rattle.vm_model.specs.declared.event.Event.TheVariants as event
use Rattle.vm_model.specs.declared.message.Channel.{Channel}
use Rattle.vm_model.specs.declared.message.Channel.TheVariants.{Up, Down}
use Rattle.vm_model.specs.declared.message.Message.TheVariants as message
use Rattle.vm_model.specs.declared.script.Header.{Header}
use Rattle.vm_legal.specs.Outside.{Outside, Untold}

-- pages of 16 bytes, one host of 4 frames, a file of one page
abbrev pub header : Header
header =
    record {
      size = 16;
      slots = 4;
      frames = record { items = 4 ∷ []; room = 0 };
      objects = record { items = record { name = 102 ∷ []; kind = File; pages = 1 } ∷ []; room = 0 };
    }

abbrev pub outside : Outside
outside = record { files = Untold; paging = true }

abbrev pub host : HostId
host = record { 0 = 0 }

abbrev pub task : TaskId
task = record { 0 = 0 }

abbrev pub file : ObjectId
file = record { 0 = 0 }

abbrev pub mapped : RegionId
mapped = record { 0 = 0 }

abbrev pub page : PageNo
page = record { 0 = 0 }

abbrev pub up : Channel
up = Up host file

abbrev pub down : Channel
down = Down host file 1

abbrev pub zero_page : List ℕ
zero_page = 0 ∷ 0 ∷ 0 ∷ 0 ∷ 0 ∷ 0 ∷ 0 ∷ 0 ∷ 0 ∷ 0 ∷ 0 ∷ 0 ∷ 0 ∷ 0 ∷ 0 ∷ 0 ∷ []

abbrev pub seven : List ℕ
seven = 7 ∷ 0 ∷ 0 ∷ 0 ∷ 0 ∷ 0 ∷ 0 ∷ 0 ∷ 0 ∷ 0 ∷ 0 ∷ 0 ∷ 0 ∷ 0 ∷ 0 ∷ 0 ∷ []

-- the events up to the load's request, the newest first
abbrev pub asked : List Event
asked =
    event.Taken up (message.Request 1 page 1) ∷
    event.Line 11 ∷
    event.Sent up (message.Request 1 page 1) ∷
    event.BegunLoad task 0 1 ∷
    event.Line 10 ∷
    event.Taken up (message.Return 1 page true false seven) ∷
    event.Line 9 ∷
    event.Sent up (message.Return 1 page true false seven) ∷
    event.Line 8 ∷
    event.Stored task file page 0 1 7 ∷
    event.Taken down (message.Supply page 0 false zero_page) ∷
    event.Sent down (message.Supply page 0 false zero_page) ∷
    event.Taken up (message.Request 1 page 3) ∷
    event.Sent up (message.Request 1 page 3) ∷
    event.Taken down (message.Ready false 2) ∷
    event.Sent down (message.Ready false 2) ∷
    event.Taken up (message.Init 1 16) ∷
    event.Line 7 ∷
    event.BegunStore task 0 1 7 ∷
    event.Line 6 ∷
    event.Sent up (message.Init 1 16) ∷
    event.Entered task 0 16 mapped 0 (record { read = true; write = true }) Share ∷
    event.Line 5 ∷
    event.TaskMade task host ∷
    event.Line 4 ∷
    []

-- and those behind it
abbrev pub history : List Event
history =
    event.Loaded task file page 0 ∷ event.Taken down (message.Supply page 0 false zero_page) ∷ event.Sent down (message.Supply page 0 false zero_page) ∷ asked
