-- A history in which a slow copy has copied all its pages, and memory of the same task that nobody has touched lies behind the range that is copied.
use Rattle.std.specs.Prelude.{ℕ, ◌∷◌, [], List, true, false}
use Rattle.vm_base.specs.declared.ids.HostId.{HostId}
use Rattle.vm_base.specs.declared.ids.Inherit.TheVariants.{Copy, Share}
use Rattle.vm_base.specs.declared.ids.ObjectId.{ObjectId}
use Rattle.vm_base.specs.declared.ids.ObjectKind.TheVariants.{Shared}
use Rattle.vm_base.specs.declared.ids.PageNo.{PageNo}
use Rattle.vm_base.specs.declared.ids.Prot.{Prot}
use Rattle.vm_base.specs.declared.ids.RegionId.{RegionId}
use Rattle.vm_base.specs.declared.ids.TaskId.{TaskId}
use Rattle.vm_model.specs.declared.event.Event.{Event}
use Rattle.vm_model.specs.declared.event.Event.TheVariants as event
use Rattle.vm_model.specs.declared.message.Channel.{Channel}
use Rattle.vm_model.specs.declared.message.Channel.TheVariants.{Down, Up}
use Rattle.vm_model.specs.declared.message.Message.TheVariants as message
use Rattle.vm_model.specs.declared.script.Header.{Header}

-- pages of 16 bytes, one host of 4 frames, a shared object of one page
abbrev pub header : Header
header =
    record {
      size = 16;
      slots = 1024;
      frames = record { items = 4 ∷ []; room = 0 };
      objects = record { items = record { name = 115 ∷ []; kind = Shared; pages = 1 } ∷ []; room = 0 };
    }

abbrev pub host : HostId
host = record { 0 = 0 }

abbrev pub task : TaskId
task = record { 0 = 0 }

-- the shared object, that of the fresh memory, and the one that the copy fills
abbrev pub object : ℕ → ObjectId
object o = record { 0 = o }

abbrev pub region : ℕ → RegionId
region r = record { 0 = r }

abbrev pub page : PageNo
page = record { 0 = 0 }

abbrev pub both : Prot
both = record { read = true; write = true }

abbrev pub up : Channel
up = Up host (object 0)

abbrev pub down : Channel
down = Down host (object 0) 1

abbrev pub zero_page : List ℕ
zero_page = 0 ∷ 0 ∷ 0 ∷ 0 ∷ 0 ∷ 0 ∷ 0 ∷ 0 ∷ 0 ∷ 0 ∷ 0 ∷ 0 ∷ 0 ∷ 0 ∷ 0 ∷ 0 ∷ []

-- the events, the newest first
abbrev pub history : List Event
history =
    event.CopiedPage task page (object 0) page (object 2) ∷
    event.Taken down (message.Supply page 2 false zero_page) ∷
    event.Sent down (message.Supply page 2 false zero_page) ∷
    event.Taken up (message.Request 1 page 1) ∷
    event.Line 9 ∷
    event.Sent up (message.Request 1 page 1) ∷
    event.RegionMade (region 2) (object 2) 1 ∷
    event.BegunCopy task 0 16 48 ∷
    event.Line 8 ∷
    event.Taken down (message.Ready false 0) ∷
    event.Sent down (message.Ready false 0) ∷
    event.Taken up (message.Init 1 16) ∷
    event.Line 7 ∷
    event.Entered task 16 16 (region 1) 0 both Copy ∷
    event.RegionMade (region 1) (object 1) 1 ∷
    event.Line 6 ∷
    event.Sent up (message.Init 1 16) ∷
    event.Entered task 0 16 (region 0) 0 both Share ∷
    event.Line 5 ∷
    event.TaskMade task host ∷
    event.Line 4 ∷
    []
