-- Pages that went to their pagers and came back.
use Rattle.std.specs.Prelude.{◌≡◌, ◌≤◌, true, List}
use Rattle.vm_model.specs.declared.event.Event.{Event}
use Rattle.vm_model.specs.declared.event.Event.TheVariants as event
use Rattle.vm_model.specs.declared.message.Channel.TheVariants.{Down}
use Rattle.vm_model.specs.declared.message.Message.TheVariants as message
use Rattle.vm_model.specs.declared.script.Header.{Header}
use Rattle.vm_model.specs.Named.{named}
use Rattle.vm_legal.specs.Returned.{was_returned}

-- a page of temporary memory that a host takes from its pager is one that the host had returned
abbrev pub TakesReturned : Header → Event → List Event → Type 0
TakesReturned header (event.Taken (Down host object control) (message.Supply page lock precious bytes)) past =
    named header ≤ object.0 → was_returned host.0 object.0 page.0 past ≡ true
TakesReturned header other past = Unit {0}
