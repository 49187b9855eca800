-- A worked run of two hosts: a task on each has a region; the one on host 0 loads, and the one on host 1 stores, pages out, and its pager answers.
use Rattle.std.specs.Prelude.{ℕ, List, [], ◌∷◌, true, false}
use Rattle.vm_base.specs.declared.ids.HostId.{HostId}
use Rattle.vm_base.specs.declared.ids.ObjectId.{ObjectId}
use Rattle.vm_base.specs.declared.ids.PageNo.{PageNo}
use Rattle.vm_base.specs.declared.ids.RegionId.{RegionId}
use Rattle.vm_base.specs.declared.ids.TaskId.{TaskId}
use Rattle.vm_base.specs.declared.ids.Prot.{Prot}
use Rattle.vm_base.specs.declared.ids.Inherit.TheVariants.{Copy}
use Rattle.vm_model.specs.declared.event.Event.{Event}
use Rattle.vm_model.specs.declared.event.Event.TheVariants as event
use Rattle.vm_model.specs.declared.message.Channel.TheVariants.{Up, Down}
use Rattle.vm_model.specs.declared.message.Message.TheVariants as message
use Rattle.vm_model.specs.declared.script.Header.{Header}
use Rattle.vm_legal.specs.Outside.{Outside, Untold}

abbrev pub header : Header
header = record { size = 16; slots = 1; frames = record { items = 8 ∷ 8 ∷ []; room = 0 }; objects = record { items = []; room = 0 } }

abbrev pub outside : Outside
outside = record { files = Untold; paging = true }

abbrev pub host : ℕ → HostId
host n = record { 0 = n }

abbrev pub task : ℕ → TaskId
task n = record { 0 = n }

abbrev pub region : ℕ → RegionId
region n = record { 0 = n }

abbrev pub object : ℕ → ObjectId
object n = record { 0 = n }

abbrev pub page : PageNo
page = record { 0 = 0 }

abbrev pub all : Prot
all = record { read = true; write = true }

-- both tasks, and what that on host 0 does
abbrev pub past : List Event
past =
    event.Loaded (task 0) (object 0) page 0
    ∷ event.Zeroed (host 0) (object 0) page
    ∷ event.BegunLoad (task 0) 64 1
    ∷ event.Line 4
    ∷ event.Entered (task 0) 64 16 (region 0) 0 all Copy
    ∷ event.RegionMade (region 0) (object 0) 1
    ∷ event.Line 3
    ∷ event.TaskMade (task 1) (host 1)
    ∷ event.Line 2
    ∷ event.TaskMade (task 0) (host 0)
    ∷ event.Line 1
    ∷ []

-- the task on host 1 gets a region
abbrev pub mapped : List Event
mapped = event.Entered (task 1) 64 16 (region 1) 0 all Copy ∷ event.RegionMade (region 1) (object 1) 1 ∷ event.Line 5 ∷ []

-- it stores
abbrev pub stored : List Event
stored = event.Stored (task 1) (object 1) page 0 1 9 ∷ event.Zeroed (host 1) (object 1) page ∷ event.BegunStore (task 1) 64 1 9 ∷ event.Line 6 ∷ mapped

abbrev pub bytes : List ℕ
bytes = 9 ∷ 0 ∷ 0 ∷ 0 ∷ 0 ∷ 0 ∷ 0 ∷ 0 ∷ 0 ∷ 0 ∷ 0 ∷ 0 ∷ 0 ∷ 0 ∷ 0 ∷ 0 ∷ []

-- its host pages out
abbrev pub paged_out : List Event
paged_out =
    event.Sent (Up (host 1) (object 1)) (message.Return 1 page true false bytes) ∷ event.Sent (Up (host 1) (object 1)) (message.Create 1 16) ∷ event.Line 7 ∷
    stored

-- and the pager hears of the object
abbrev pub others : List Event
others = event.Sent (Down (host 1) (object 1) 1) (message.Ready false 3) ∷ event.Taken (Up (host 1) (object 1)) (message.Create 1 16) ∷ event.Line 8 ∷ paged_out
