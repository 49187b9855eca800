-- Accesses that fail, where no device does.
use Rattle.std.specs.Prelude.{◌≡◌, ◌≤◌, ◌||◌, Bool, true, false, List, [], ◌∷◌}
use Rattle.vm_model.specs.declared.event.Event.{Event}
use Rattle.vm_model.specs.declared.event.Event.TheVariants as event
use Rattle.vm_model.specs.declared.script.Header.{Header}
use Rattle.vm_model.specs.Named.{named}
use Rattle.vm_legal.specs.Outside.{is_wild}
use Rattle.vm_legal.specs.Steps.{lacks_slot}

-- the event tells that a call of a backing failed
abbrev pub is_device_event : Event → Bool
is_device_event (event.DeviceFailed who way object page) = true
is_device_event other = false

-- some event passes the test
abbrev pub ever : (Event → Bool) → List Event → Bool
ever test [] = false
ever test (e ∷ past) = test e || ever test past

-- an access that fails, but for one to a wild object, is to a page of temporary memory for which there was no slot
abbrev pub FailsUnslotted : Header → Event → List Event → Type 0
FailsUnslotted header (event.Failed task object page) past =
    is_wild header object.0 ≡ false → (named header ≤ object.0) × (ever (lacks_slot object.0 page.0) past ≡ true)
FailsUnslotted header other past = Unit {0}
