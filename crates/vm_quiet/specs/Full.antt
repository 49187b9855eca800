-- A history of one host with two frames, which are both wired: a load of fresh memory waits for a frame, and will go on waiting.
use Rattle.std.specs.Prelude.{◌∷◌, [], List, true}
use Rattle.vm_base.specs.declared.ids.HostId.{HostId}
use Rattle.vm_base.specs.declared.ids.ObjectId.{ObjectId}
use Rattle.vm_base.specs.declared.ids.RegionId.{RegionId}
use Rattle.vm_base.specs.declared.ids.TaskId.{TaskId}
use Rattle.vm_base.specs.declared.ids.Inherit.TheVariants.{Copy}
use Rattle.vm_model.specs.declared.event.Event.{Event}
use Rattle.vm_model.specs.declared.event.Event.TheVariants as event
use Rattle.vm_model.specs.declared.script.Header.{Header}
use Rattle.vm_legal.specs.Outside.{Outside, Untold}

-- pages of 16 bytes, one host of 2 frames, no declared object
abbrev pub header : Header
header = record { size = 16; slots = 4; frames = record { items = 2 ∷ []; room = 0 }; objects = record { items = []; room = 0 } }

-- nothing is told
abbrev pub outside : Outside
outside = record { files = Untold; paging = true }

abbrev pub host : HostId
host = record { 0 = 0 }

abbrev pub task : TaskId
task = record { 0 = 0 }

abbrev pub region : RegionId
region = record { 0 = 0 }

abbrev pub object : ObjectId
object = record { 0 = 0 }

-- the events, the newest first
abbrev pub history : List Event
history =
    event.BegunLoad task 0 1 ∷
    event.Line 6 ∷
    event.Wired host 2 ∷
    event.Line 5 ∷
    event.Entered task 0 16 region 0 (record { read = true; write = true }) Copy ∷
    event.RegionMade region object 1 ∷
    event.Line 4 ∷
    event.TaskMade task host ∷
    event.Line 3 ∷
    []
