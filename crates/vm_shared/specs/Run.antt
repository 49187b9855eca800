-- A history of two hosts that map one shared page: two read it, one wants to write while its unlock crosses what the other does, the other ends
-- its control while it is awaited and maps the page again, and at last the page is copied page by page.
use Rattle.std.specs.Prelude.{◌∷◌, [], List, true}
use Rattle.vm_base.specs.declared.ids.ObjectId.{ObjectId}
use Rattle.vm_base.specs.declared.ids.ObjectKind.TheVariants.{Shared}
use Rattle.vm_base.specs.declared.ids.RegionId.{RegionId}
use Rattle.vm_base.specs.declared.ids.Inherit.TheVariants.{Share}
use Rattle.vm_model.specs.declared.event.Event.{Event}
use Rattle.vm_model.specs.declared.event.Event.TheVariants as event
use Rattle.vm_model.specs.declared.script.Header.{Header}
use Rattle.vm_legal.specs.Outside.{Outside, Untold}
use Rattle.vm_coherence.specs.Crossing.{object, page, task}
use Rattle.vm_coherence.specs.Remapping.{both, remapping}

-- two hosts of eight frames, and a shared object of one page
abbrev pub header : Header
header =
    record {
      size = 16;
      slots = 1;
      frames = record { items = 8 ∷ 8 ∷ []; room = 0 };
      objects = record { items = record { name = 115 ∷ []; kind = Shared; pages = 1 } ∷ []; room = 0 };
    }

abbrev pub outside : Outside
outside = record { files = Untold; paging = true }

-- what the slow copy fills
abbrev pub copied_region : RegionId
copied_region = record { 0 = 1 }

abbrev pub copied_object : ObjectId
copied_object = record { 0 = 1 }

-- the events, the newest first
abbrev pub history : List Event
history =
    event.Entered (task 0) 64 16 copied_region 0 both Share ∷
    event.CopyEnded (task 0) ∷
    event.CopiedPage (task 0) page object page copied_object ∷
    event.RegionMade copied_region copied_object 1 ∷
    event.BegunCopy (task 0) 0 16 64 ∷
    event.Line 20 ∷
    remapping
