-- A history in which a slow copy of two pages has read the first and asks for the second, and the first is then
-- reclaimed.
use Rattle.std.specs.Prelude.{◌∷◌, [], List, false}
use Rattle.vm_base.specs.declared.ids.PageNo.{PageNo}
use Rattle.vm_base.specs.declared.ids.Inherit.TheVariants.{Share}
use Rattle.vm_model.specs.declared.message.Channel.TheVariants.{Up, Down}
use Rattle.vm_model.specs.declared.message.Message.TheVariants as message
use Rattle.vm_model.specs.declared.event.Event.{Event}
use Rattle.vm_model.specs.declared.event.Event.TheVariants as event
use Rattle.vm_coherence.specs.Crossing.{host, task, object, page, zeros}
use Rattle.vm_coherence.specs.Remapping.{region, both}

abbrev pub second_page : PageNo
second_page = record { 0 = 1 }

-- the newest event first: two pages are mapped
abbrev pub mapped : List Event
mapped = event.Entered (task 0) 0 32 region 0 both Share ∷ event.Line 5 ∷ event.TaskMade (task 0) (host 0) ∷ event.Line 4 ∷ []

-- they are to be copied
abbrev pub begun : List Event
begun =
    event.RegionMade (record { 0 = 1 }) (record { 0 = 1 }) 2 ∷
    event.BegunCopy (task 0) 0 32 64 ∷
    event.Line 7 ∷
    event.Taken (Down (host 0) object 1) (message.Ready false 0) ∷
    event.Sent (Down (host 0) object 1) (message.Ready false 0) ∷
    event.Taken (Up (host 0) object) (message.Init 1 16) ∷
    event.Line 6 ∷
    event.Sent (Up (host 0) object) (message.Init 1 16) ∷
    mapped

-- the first was copied, and the second is asked for
abbrev pub copying : List Event
copying =
    event.Sent (Up (host 0) object) (message.Request 1 second_page 1) ∷
    event.CopiedPage (task 0) page object page (record { 0 = 1 }) ∷
    event.Taken (Down (host 0) object 1) (message.Supply page 2 false zeros) ∷
    event.Sent (Down (host 0) object 1) (message.Supply page 2 false zeros) ∷
    event.Taken (Up (host 0) object) (message.Request 1 page 1) ∷
    event.Line 8 ∷
    event.Sent (Up (host 0) object) (message.Request 1 page 1) ∷
    begun

-- the first page is reclaimed
abbrev pub reclaimed : List Event
reclaimed = event.Dropped (host 0) object page ∷ event.Line 9 ∷ copying

-- the host asks for it again, though the slow copy has read it
abbrev pub read_again : List Event
read_again = event.Sent (Up (host 0) object) (message.Request 1 page 1) ∷ reclaimed
