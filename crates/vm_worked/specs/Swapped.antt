-- A whole history that is legal, and not canonical: page 16 / hosts 1 4 / task 0 0 / allocate 0 0 32 / load 0 0 1 / load 0 16 1 / exit 0.
use Rattle.std.specs.Prelude.{◌∷◌, [], List, true}
use Rattle.vm_base.specs.declared.ids.Inherit.TheVariants.{Copy}
use Rattle.vm_base.specs.declared.ids.PageNo.{PageNo}
use Rattle.vm_model.specs.declared.command.Command.TheVariants as command
use Rattle.vm_model.specs.declared.command.Numbered.{Numbered}
use Rattle.vm_model.specs.declared.event.Event.{Event}
use Rattle.vm_model.specs.declared.event.Event.TheVariants as event
use Rattle.vm_model.specs.declared.script.Header.{Header}
use Rattle.vm_legal.specs.Outside.{Outside}
use Rattle.vm_quiet.specs.Full.{host, object, region, task}
use Rattle.vm_quiet.specs.Full as full

-- pages of 16 bytes, one host of 4 frames, no declared object
abbrev pub header : Header
header = record { size = 16; slots = 1024; frames = record { items = 4 ∷ []; room = 0 }; objects = record { items = []; room = 0 } }

-- nothing is told
abbrev pub outside : Outside
outside = full.outside

abbrev pub first : PageNo
first = record { 0 = 0 }

abbrev pub second : PageNo
second = record { 0 = 1 }

-- the commands, the newest first
abbrev pub commands : List Numbered
commands =
    record { line = 7; command = command.Exit task } ∷
    record { line = 6; command = command.Load task 16 1 } ∷
    record { line = 5; command = command.Load task 0 1 } ∷
    record { line = 4; command = command.Allocate task 0 32 } ∷
    record { line = 3; command = command.Task task host } ∷
    []

-- the events, the newest first: the task ends, and of its object the second page goes before the first
abbrev pub history : List Event
history =
    event.Dropped host object first ∷
    event.Dropped host object second ∷
    event.TaskEnded task ∷
    event.Line 7 ∷
    event.Loaded task object second 0 ∷
    event.Zeroed host object second ∷
    event.BegunLoad task 16 1 ∷
    event.Line 6 ∷
    event.Loaded task object first 0 ∷
    event.Zeroed host object first ∷
    event.BegunLoad task 0 1 ∷
    event.Line 5 ∷
    event.Entered task 0 32 region 0 (record { read = true; write = true }) Copy ∷
    event.RegionMade region object 2 ∷
    event.Line 4 ∷
    event.TaskMade task host ∷
    event.Line 3 ∷
    []
