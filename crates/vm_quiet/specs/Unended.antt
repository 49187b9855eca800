-- A history in which a slow copy has copied all its pages, and never ends: a task maps a shared object of one page, and copies it to an address of its own.
use Rattle.std.specs.Prelude.{ℕ, ◌∷◌, [], List, true, false}
use Rattle.vm_base.specs.declared.ids.HostId.{HostId}
use Rattle.vm_base.specs.declared.ids.Inherit.TheVariants.{Share}
use Rattle.vm_base.specs.declared.ids.ObjectId.{ObjectId}
use Rattle.vm_base.specs.declared.ids.ObjectKind.TheVariants.{Shared}
use Rattle.vm_base.specs.declared.ids.PageNo.{PageNo}
use Rattle.vm_base.specs.declared.ids.RegionId.{RegionId}
use Rattle.vm_base.specs.declared.ids.TaskId.{TaskId}
use Rattle.vm_model.specs.declared.event.Event.{Event}
use Rattle.vm_model.specs.declared.event.Event.TheVariants as event
use Rattle.vm_model.specs.declared.message.Channel.{Channel}
use Rattle.vm_model.specs.declared.message.Channel.TheVariants.{Up, Down}
use Rattle.vm_model.specs.declared.message.Message.TheVariants as message
use Rattle.vm_model.specs.declared.script.Header.{Header}
use Rattle.vm_legal.specs.Outside.{Outside, Untold}

-- pages of 16 bytes, one host of 4 frames, a shared object of one page
abbrev pub header : Header
header =
    record {
      size = 16;
      slots = 1024;
      frames = record { items = 4 ∷ []; room = 0 };
      objects = record { items = record { name = 115 ∷ []; kind = Shared; pages = 1 } ∷ []; room = 0 };
    }

-- nothing is told of files, and there are none
abbrev pub outside : Outside
outside = record { files = Untold; paging = true }

abbrev pub host : HostId
host = record { 0 = 0 }

abbrev pub task : TaskId
task = record { 0 = 0 }

abbrev pub shared : ObjectId
shared = record { 0 = 0 }

abbrev pub mapped : RegionId
mapped = record { 0 = 0 }

-- the object and the region that the copy fills
abbrev pub copied : ObjectId
copied = record { 0 = 1 }

abbrev pub filled : RegionId
filled = record { 0 = 1 }

abbrev pub page : PageNo
page = record { 0 = 0 }

abbrev pub up : Channel
up = Up host shared

abbrev pub down : Channel
down = Down host shared 1

abbrev pub zero_page : List ℕ
zero_page = 0 ∷ 0 ∷ 0 ∷ 0 ∷ 0 ∷ 0 ∷ 0 ∷ 0 ∷ 0 ∷ 0 ∷ 0 ∷ 0 ∷ 0 ∷ 0 ∷ 0 ∷ 0 ∷ []

-- the events, the newest first, until the request for the page is taken
abbrev pub demanded : List Event
demanded =
    event.Taken up (message.Request 1 page 1) ∷
    event.Line 8 ∷
    event.Sent up (message.Request 1 page 1) ∷
    event.RegionMade filled copied 1 ∷
    event.BegunCopy task 0 16 32 ∷
    event.Line 7 ∷
    event.Taken down (message.Ready false 0) ∷
    event.Sent down (message.Ready false 0) ∷
    event.Taken up (message.Init 1 16) ∷
    event.Line 6 ∷
    event.Sent up (message.Init 1 16) ∷
    event.Entered task 0 16 mapped 0 (record { read = true; write = true }) Share ∷
    event.Line 5 ∷
    event.TaskMade task host ∷
    event.Line 4 ∷
    []

-- the page comes, and is copied, and then nothing more happens to the copy
abbrev pub history : List Event
history =
    event.CopiedPage task page shared page copied ∷
    event.Taken down (message.Supply page 2 false zero_page) ∷
    event.Sent down (message.Supply page 2 false zero_page) ∷
    demanded
