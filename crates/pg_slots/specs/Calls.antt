-- The calls of the backing that a put and a get make.
use Rattle.std.specs.Prelude.{ℕ, ◌≡◌, ◌*◌, ◌⊎◌, List, [], ◌∷◌, Option, Some, Result, Ok, Err}
use Rattle.vm_base.specs.declared.failure.Failed.{Failed}
use Rattle.vm_base.specs.declared.failure.NoMemory.{NoMemory}
use Rattle.vm_base.specs.declared.failure.WriteStop.{WriteStop}
use Rattle.vm_base.specs.declared.failure.WriteStop.TheVariants as stop
use Rattle.vm_outside.specs.Calls.{Call, Made, Reads, Writes}
use Rattle.pg_slots.specs.Contents.{area_name}
use Rattle.pg_slots.specs.Slots.{GoesTo, SlotTable}
use Rattle.pg_slots.specs.declared.answers.Got.{Got}
use Rattle.pg_slots.specs.declared.answers.Got.TheVariants as got
use Rattle.pg_slots.specs.declared.answers.Put.{Put}
use Rattle.pg_slots.specs.declared.answers.Put.TheVariants as put
use Rattle.pg_slots.specs.declared.slot_row.Held.{Held}
use Rattle.pg_slots.specs.declared.slot_row.Held.TheVariants as held

-- the one call is a write of a page to the slot that it goes to, answered so
abbrev pub WritesSlot : {P : Type 0} → (Call → P → P → Type 0) → SlotTable → ℕ → ℕ → List ℕ → Result (Unit {0}) WriteStop → P → P → Type 0
WritesSlot called slots object page bytes answer before after =
    (s : ℕ) × GoesTo slots object page s
    × Made called (Writes (area_name slots.host) (s * slots.size) bytes answer ∷ []) before after

-- a put makes one write, and no call where it has no slot; where memory ended, one write that found none, or no call
abbrev pub PutMakes : {P : Type 0} → (Call → P → P → Type 0) → SlotTable → ℕ → ℕ → List ℕ → Result Put NoMemory → P → P → Type 0
PutMakes called slots object page bytes (Ok put.Kept) before after = WritesSlot called slots object page bytes (Ok tt) before after
PutMakes called slots object page bytes (Ok put.Failed) before after =
    WritesSlot called slots object page bytes (Err stop.Failed) before after
PutMakes called slots object page bytes (Ok put.NoSlot) before after = Made called [] before after
PutMakes called slots object page bytes (Err e) before after =
    Made called [] before after ⊎ WritesSlot called slots object page bytes (Err stop.NoMemory) before after

-- the one call is a read of a page from the slot that it is in, answered so
abbrev pub ReadsSlot : {P : Type 0} → (Call → P → P → Type 0) → SlotTable → Option Held → Result (Unit {0}) Failed → P → P → Type 0
ReadsSlot called slots has answer before after =
    (s : ℕ) × (has ≡ Some (held.Kept s))
    × Made called (Reads (area_name slots.host) (s * slots.size) slots.size answer ∷ []) before after

-- a get makes one read of a page that is kept, and no call for any other or where memory ended
abbrev pub GetMakes : {P : Type 0} → (Call → P → P → Type 0) → SlotTable → Option Held → Result Got NoMemory → P → P → Type 0
GetMakes called slots has (Ok (got.Page bytes)) before after = ReadsSlot called slots has (Ok tt) before after
GetMakes called slots has (Ok got.Failed) before after = (e : Failed) × ReadsSlot called slots has (Err e) before after
GetMakes called slots has answer before after = Made called [] before after
