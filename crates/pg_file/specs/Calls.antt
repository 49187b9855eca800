-- The calls of the files that the answer to a message makes.
use Rattle.std.specs.Prelude.{ℕ, ◌≡◌, ◌<◌, ◌≤◌, ◌*◌, ◌⊎◌, Bool, List, [], ◌∷◌, Option, Some, Result, Ok, Err}
use Rattle.vm_base.specs.Listing.{Listed}
use Rattle.vm_base.specs.declared.failure.Failed.{Failed}
use Rattle.vm_base.specs.declared.failure.NoMemory.{NoMemory}
use Rattle.vm_base.specs.declared.failure.WriteStop.TheVariants as stop
use Rattle.vm_model.specs.declared.event.Event.{Event}
use Rattle.vm_model.specs.declared.event.Event.TheVariants as event
use Rattle.vm_model.specs.declared.message.Message.{Message}
use Rattle.vm_model.specs.declared.message.Message.TheVariants as message
use Rattle.vm_outside.specs.Calls.{AsksLength, Call, Made, Reads, Writes}
use Rattle.pg_file.specs.declared.found.Found.{Found}
use Rattle.pg_file.specs.declared.found.Found.TheVariants as found
use Rattle.pg_file.specs.Answers.{is_stored, write_answer}
use Rattle.pg_file.specs.Files.{FileTable}

-- the length was asked once, and told that the file reaches the page; then the page was read once, answered so
abbrev pub ReadsPage : {F : Type 0} → (Call → F → F → Type 0) → List ℕ → ℕ → ℕ → Result (Unit {0}) Failed → F → F → Type 0
ReadsPage called name at size answer before after =
    (long : ℕ) × (at < long) × Made called (AsksLength name (Ok (Some long)) ∷ Reads name at size answer ∷ []) before after

-- the length was asked once, and told that the file ends before the page, or that there is none; no other call was made
abbrev pub FindsEnd : {F : Type 0} → (Call → F → F → Type 0) → List ℕ → ℕ → F → F → Type 0
FindsEnd called name at before after =
    (told : Option ℕ) × ((long : ℕ) → told ≡ Some long → long ≤ at)
    × Made called (AsksLength name (Ok told) ∷ []) before after

-- the length was asked once, and failed, and no other call was made; or it was told, and the one read failed
abbrev pub FailsOnce : {F : Type 0} → (Call → F → F → Type 0) → List ℕ → ℕ → ℕ → F → F → Type 0
FailsOnce called name at size before after =
    ((e : Failed) × Made called (AsksLength name (Err e) ∷ []) before after)
    ⊎ ((e : Failed) × ReadsPage called name at size (Err e) before after)

-- the calls by which a page is found; a lost one is not looked for, and without memory no call is made
abbrev pub FindMakes : {F : Type 0} → (Call → F → F → Type 0) → List ℕ → ℕ → ℕ → Result Found NoMemory → F → F → Type 0
FindMakes called name at size (Ok (found.Page bytes)) before after = ReadsPage called name at size (Ok tt) before after
FindMakes called name at size (Ok found.Absent) before after = FindsEnd called name at before after
FindMakes called name at size (Ok found.Failed) before after = FailsOnce called name at size before after
FindMakes called name at size (Ok found.Lost) before after = Made called [] before after
FindMakes called name at size (Err e) before after = Made called [] before after

-- one write stores a page; where memory ended, it was one write that found none, or no call
abbrev pub StoreMakes : {F : Type 0} → (Call → F → F → Type 0) → List ℕ → ℕ → List ℕ → Result Bool NoMemory → F → F → Type 0
StoreMakes called name at bytes (Ok stored) before after = Made called (Writes name at bytes (write_answer stored) ∷ []) before after
StoreMakes called name at bytes (Err e) before after =
    Made called [] before after ⊎ Made called (Writes name at bytes (Err stop.NoMemory) ∷ []) before after

-- the calls of a request, as the events tell what was found of its page
abbrev pub RequestMakes : {F : Type 0} → (Call → F → F → Type 0) → List ℕ → ℕ → ℕ → List Event → F → F → Type 0
RequestMakes called name at size (event.Sent channel (message.Supply page lock precious bytes) ∷ past) before after =
    ReadsPage called name at size (Ok tt) before after
RequestMakes called name at size (event.Sent channel (message.Unavailable page) ∷ past) before after =
    FindsEnd called name at before after
RequestMakes called name at size (event.Sent channel (message.Error page reason) ∷ event.DeviceFailed who way object p ∷ past) before after =
    FailsOnce called name at size before after
RequestMakes called name at size events before after = Made called [] before after

-- a request asks the length once and makes at most one read, or no call; a return makes one write; any other message
-- makes no call
abbrev pub FileMakes : {F : Type 0} → (Call → F → F → Type 0) → Message → FileTable → Result (Listed Event) NoMemory → F → F → Type 0
FileMakes called (message.Request control page access) table (Ok events) before after =
    RequestMakes called table.name (page.0 * table.size) table.size events.items before after
FileMakes called (message.Return control page dirty keep bytes) table (Ok events) before after =
    StoreMakes called table.name (page.0 * table.size) bytes (Ok (is_stored events.items)) before after
FileMakes called (message.Return control page dirty keep bytes) table (Err e) before after =
    StoreMakes called table.name (page.0 * table.size) bytes (Err e) before after
FileMakes called m table result before after = Made called [] before after
