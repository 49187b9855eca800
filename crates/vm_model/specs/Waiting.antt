-- Accesses that have begun and not ended.
use Rattle.std.specs.Prelude.{ℕ, ◌+◌, ◌*◌, List, [], ◌∷◌, if◌then◌else◌, ◌==◌, Bool, true, false, Option, Some, None}
use Rattle.vm_model.specs.declared.event.Event.{Event}
use Rattle.vm_model.specs.declared.event.Event.TheVariants as event

-- what a task waits to do
pub data Access : Type 0 where
  Loading : (address : ℕ) → (bytes : ℕ) → Access
  Storing : (address : ℕ) → (bytes : ℕ) → (value : ℕ) → Access
  -- a slow copy of so many bytes from `address` to `to`
  Copying : (address : ℕ) → (bytes : ℕ) → (to : ℕ) → Access

-- the access with which a task waits
abbrev pub waiting : ℕ → List Event → Option Access
waiting task [] = None
waiting task (event.TaskMade made host ∷ past) = if made.0 == task then None else waiting task past
waiting task (event.TaskEnded gone ∷ past) = if gone.0 == task then None else waiting task past
waiting task (event.BegunLoad owner address bytes ∷ past) =
    if owner.0 == task then Some (Loading address bytes) else waiting task past
waiting task (event.BegunStore owner address bytes value ∷ past) =
    if owner.0 == task then Some (Storing address bytes value) else waiting task past
waiting task (event.BegunCopy owner address bytes to ∷ past) =
    if owner.0 == task then Some (Copying address bytes to) else waiting task past
waiting task (event.Loaded owner object page value ∷ past) = if owner.0 == task then None else waiting task past
waiting task (event.Stored owner object page at bytes value ∷ past) =
    if owner.0 == task then None else waiting task past
waiting task (event.CopyEnded owner ∷ past) = if owner.0 == task then None else waiting task past
waiting task (event.Failed owner object page ∷ past) = if owner.0 == task then None else waiting task past
waiting task (e ∷ past) = waiting task past

-- the next page of a task's slow copy, from 0 on
abbrev pub next_page : ℕ → List Event → ℕ
next_page task [] = 0
next_page task (event.BegunCopy owner address bytes to ∷ past) = if owner.0 == task then 0 else next_page task past
next_page task (event.CopiedPage owner page object object_page target ∷ past) =
    if owner.0 == task then page.0 + 1 else next_page task past
next_page task (e ∷ past) = next_page task past

-- the newest event is the beginning of the task's slow copy
abbrev pub begins_copy : ℕ → List Event → Bool
begins_copy task (event.BegunCopy owner address bytes to ∷ past) = owner.0 == task
begins_copy task other = false

-- the region that a slow copy fills, and the object under it
pub record Target : Type 0 where
  pub region : ℕ
  pub object : ℕ

-- that of the task's newest slow copy: it is made right behind the beginning
abbrev pub copy_target : ℕ → List Event → Option Target
copy_target task [] = None
copy_target task (event.BegunCopy owner address bytes to ∷ past) =
    if owner.0 == task then None else copy_target task past
copy_target task (event.RegionMade region object pages ∷ past) =
    if begins_copy task past then Some (record { region = region.0; object = object.0 }) else copy_target task past
copy_target task (e ∷ past) = copy_target task past

-- the region is the target of a slow copy
abbrev pub is_target : ℕ → Option Target → Bool
is_target region None = false
is_target region (Some target) = target.region == region

-- the access fills the region
abbrev pub fills : ℕ → Option Access → Option Target → Bool
fills region None target = false
fills region (Some (Copying address bytes to)) target = is_target region target
fills region (Some other) target = false

-- the address that an access is about now: of a slow copy that of its next page
abbrev pub address_of : ℕ → ℕ → Access → ℕ
address_of size next (Loading address bytes) = address
address_of size next (Storing address bytes value) = address
address_of size next (Copying address bytes to) = address + next * size

abbrev pub is_store : Access → Bool
is_store (Storing address bytes value) = true
is_store other = false
