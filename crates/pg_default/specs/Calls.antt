-- The calls of the backing that the answer to a message makes.
use Rattle.std.specs.Prelude.{List, [], ◌∷◌, Option, Result, Ok, Err}
use Rattle.pg_default.specs.Answers.{became}
use Rattle.pg_slots.specs.Calls.{PutMakes, ReadsSlot}
use Rattle.pg_slots.specs.Slots.{SlotTable, held_at}
use Rattle.pg_slots.specs.declared.slot_row.Held.{Held}
use Rattle.vm_base.specs.Listing.{Listed}
use Rattle.vm_base.specs.declared.failure.Failed.{Failed}
use Rattle.vm_base.specs.declared.failure.NoMemory.{NoMemory}
use Rattle.vm_base.specs.declared.ids.ObjectId.{ObjectId}
use Rattle.vm_model.specs.declared.event.Event.{Event}
use Rattle.vm_model.specs.declared.event.Event.TheVariants as event
use Rattle.vm_model.specs.declared.message.Message.{Message}
use Rattle.vm_model.specs.declared.message.Message.TheVariants as message
use Rattle.vm_outside.specs.Calls.{Call, Made}

-- a request whose page is supplied, or whose read failed, makes one read, and any other none
abbrev pub RequestMakes : {P : Type 0} → (Call → P → P → Type 0) → SlotTable → Option Held → List Event → P → P → Type 0
RequestMakes called slots has (event.Sent channel (message.Supply page lock precious bytes) ∷ past) before after =
    ReadsSlot called slots has (Ok tt) before after
RequestMakes called slots has (event.Sent channel (message.Error page reason) ∷ event.DeviceFailed who way object p ∷ past) before after =
    (e : Failed) × ReadsSlot called slots has (Err e) before after
RequestMakes called slots has events before after = Made called [] before after

-- a request makes one read or no call, a return what its put makes, and any other message no call
abbrev pub PagerMakes : {P : Type 0} → (Call → P → P → Type 0) → Message → ObjectId → SlotTable → Result (Listed Event) NoMemory → P → P → Type 0
PagerMakes called (message.Request control page access) object slots (Ok events) before after =
    RequestMakes called slots (held_at slots object.0 page.0) events.items before after
PagerMakes called (message.Return control page dirty keep bytes) object slots (Ok events) before after =
    PutMakes called slots object.0 page.0 bytes (Ok (became events.items)) before after
PagerMakes called (message.Return control page dirty keep bytes) object slots (Err e) before after =
    PutMakes called slots object.0 page.0 bytes (Err e) before after
PagerMakes called m object slots result before after = Made called [] before after
