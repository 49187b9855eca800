-- Memory is one: every host and task sees what was done to it in one order.
use Rattle.std.specs.Prelude.{ℕ, ◌≡◌, ◌||◌, Bool, List, [], ◌∷◌, true, Some, None}
use Rattle.vm_base.specs.Entries.{entry_at}
use Rattle.vm_base.specs.declared.entry.Entry.{Entry}
use Rattle.vm_model.specs.Bytes.{number_at}
use Rattle.vm_model.specs.Moments.{EachEvent}
use Rattle.vm_model.specs.Tasks.{entries_of}
use Rattle.vm_model.specs.Waiting.{Access, Loading, Storing, waiting}
use Rattle.vm_model.specs.declared.event.Event.{Event}
use Rattle.vm_model.specs.declared.event.Event.TheVariants as event
use Rattle.vm_model.specs.declared.script.Header.{Header}
use Rattle.vm_legal.specs.Outside.{Outside, is_private_from, is_shared}
use Rattle.vm_order.specs.Operations.{Load, Operation, copied_from, memory, operations}

-- of these regions loads read what was done: of all but wild ones, and of temporary ones only where the outside tells
abbrev pub is_read : Header → Outside → ℕ → List Operation → Bool
is_read header outside region past = is_private_from header outside region (copied_from header region past) || is_shared header region

-- each load answers what the operations before it left where it reads
abbrev pub LoadsRead : Header → Outside → List Operation → Type 0
LoadsRead header outside [] = Unit {0}
LoadsRead header outside (Load task region page address bytes value ∷ past) =
    (is_read header outside region past ≡ true → value ≡ number_at (memory header outside past region page) header.size address bytes)
    × LoadsRead header outside past
LoadsRead header outside (other ∷ past) = LoadsRead header outside past

-- what ends is the access with which a task waits: it has begun, and hasn't ended; and an entry of the task has its address
pub record EndsAccess (header : Header) (task address : ℕ) (access : Access) (past : List Event) : Type 0 where
  pub waits : waiting task past ≡ Some access
  pub entry : Entry
  pub found : entry_at address (entries_of header.size task past) ≡ Some entry

-- A task begins an access only while it waits for none; and each load and store that ends is one operation.
abbrev pub IsOneAtATime : Header → Event → List Event → Type 0
IsOneAtATime header (event.BegunLoad task address bytes) past = waiting task.0 past ≡ None
IsOneAtATime header (event.BegunStore task address bytes value) past = waiting task.0 past ≡ None
IsOneAtATime header (event.BegunCopy task address bytes to) past = waiting task.0 past ≡ None
IsOneAtATime header (event.Loaded task object page value) past = (address : ℕ) × (bytes : ℕ) × EndsAccess header task.0 address (Loading address bytes) past
IsOneAtATime header (event.Stored task object page at bytes value) past = (address : ℕ) × EndsAccess header task.0 address (Storing address bytes value) past
IsOneAtATime header other past = Unit {0}

-- Memory is linearizable: each load and each store takes effect at one moment between its beginning and its end, that of its end; in the order of these
-- moments each load reads what was stored last. A task has one access at a time, so that order keeps the order of each task: memory is sequentially
-- consistent.
pub record IsOneMemory (header : Header) (outside : Outside) (history : List Event) : Type 0 where
  pub reads : LoadsRead header outside (operations header outside history)
  pub tasks : EachEvent (IsOneAtATime header) history
