-- A history in which a task copies a page of a file that is here, and begins a store on the file.
use Rattle.std.specs.Prelude.{◌∷◌, [], List, false}
use Rattle.vm_base.specs.declared.ids.Inherit.TheVariants.{Copy, Share}
use Rattle.vm_base.specs.declared.ids.ObjectKind.TheVariants.{File}
use Rattle.vm_model.specs.declared.event.Event.{Event}
use Rattle.vm_model.specs.declared.event.Event.TheVariants as event
use Rattle.vm_model.specs.declared.message.Message.TheVariants as message
use Rattle.vm_model.specs.declared.script.Header.{Header}
use Rattle.vm_worked.specs.Beside.{both, down, host, object, page, region, task, up, zero_page}

-- pages of 16 bytes, one host of 4 frames, a file of one page
abbrev pub header : Header
header =
    record {
      size = 16;
      slots = 1024;
      frames = record { items = 4 ∷ []; room = 0 };
      objects = record { items = record { name = 102 ∷ []; kind = File; pages = 1 } ∷ []; room = 0 };
    }

-- the event that copies the file's page up into its copy, and the one that ends the store
abbrev pub push : Event
push = event.Raised host (object 0) page (object 1) page

abbrev pub store : Event
store = event.Stored task (object 0) page 0 1 90

-- the events, the newest first
abbrev pub history : List Event
history =
    event.BegunStore task 0 1 90 ∷
    event.Line 9 ∷
    event.Entered task 16 16 (region 1) 0 both Copy ∷
    event.Delayed (region 1) (region 0) 0 1 (object 1) ∷
    event.Line 8 ∷
    event.Loaded task (object 0) page 0 ∷
    event.Taken down (message.Supply page 0 false zero_page) ∷
    event.Sent down (message.Supply page 0 false zero_page) ∷
    event.Taken up (message.Request 1 page 1) ∷
    event.Sent up (message.Request 1 page 1) ∷
    event.Taken down (message.Ready false 2) ∷
    event.Sent down (message.Ready false 2) ∷
    event.Taken up (message.Init 1 16) ∷
    event.Line 7 ∷
    event.BegunLoad task 0 1 ∷
    event.Line 6 ∷
    event.Sent up (message.Init 1 16) ∷
    event.Entered task 0 16 (region 0) 0 both Share ∷
    event.Line 5 ∷
    event.TaskMade task host ∷
    event.Line 4 ∷
    []
