-- What an event takes for granted.
use Rattle.std.specs.Prelude.{ℕ, ◌≡◌, true, List, Some}
use Rattle.vm_model.specs.declared.message.Channel.TheVariants.{Up}
use Rattle.vm_model.specs.declared.message.Message.TheVariants as message
use Rattle.vm_model.specs.declared.event.Event.{Event}
use Rattle.vm_model.specs.declared.event.Event.TheVariants as event
use Rattle.vm_model.specs.declared.script.Header.{Header}
use Rattle.vm_model.specs.Controls.{live_control}
use Rattle.vm_model.specs.Local.{local}
use Rattle.vm_model.specs.Tasks.{host_of}

-- A page that is copied is here, a task that stores or copies lives, and what a host asks or ends is its live
-- control's.
abbrev pub IsFounded : Header → Event → List Event → Type 0
IsFounded header (event.Raised at lower lower_page upper upper_page) past =
    (local header at.0 (record { object = lower.0; page = lower_page.0 }) past).here ≡ true
IsFounded header (event.CopiedPage task page object object_page target) past =
    (host : ℕ) × (host_of task.0 past ≡ Some host) × ((local header host (record { object = object.0; page = object_page.0 }) past).here ≡ true)
IsFounded header (event.Stored task object page at bytes value) past = (host : ℕ) × (host_of task.0 past ≡ Some host)
IsFounded header (event.Sent (Up at object) (message.Request control page access)) past =
    live_control at.0 object.0 past ≡ Some control
IsFounded header (event.Sent (Up at object) (message.Terminate control)) past =
    live_control at.0 object.0 past ≡ Some control
IsFounded header other past = Unit {0}
