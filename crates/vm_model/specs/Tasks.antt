-- Tasks and their entries.
use Rattle.std.specs.Prelude.{ℕ, ◌+◌, List, [], ◌∷◌, if◌then◌else◌, ◌==◌, ◌&&◌, ◌||◌, nat_lt, not, Bool, true, false, Option, Some, None}
use Rattle.vm_base.specs.declared.entry.Entry.{Entry}
use Rattle.vm_base.specs.declared.ids.Inherit.{Inherit}
use Rattle.vm_base.specs.declared.ids.Inherit.TheVariants.{Share, Copy, Never}
use Rattle.vm_base.specs.Entries.{entered, removed, protected, inherited}
use Rattle.vm_model.specs.declared.event.Event.{Event}
use Rattle.vm_model.specs.declared.event.Event.TheVariants.{TaskMade, TaskEnded, Entered, Removed, Protected, Inherited}

-- the host of a living task
abbrev pub host_of : ℕ → List Event → Option ℕ
host_of task [] = None
host_of task (TaskMade made host ∷ past) = if made.0 == task then Some host.0 else host_of task past
host_of task (TaskEnded gone ∷ past) = if gone.0 == task then None else host_of task past
host_of task (event ∷ past) = host_of task past

-- the entries of a task, by rising address, for a page size
abbrev pub entries_of : ℕ → ℕ → List Event → List Entry
entries_of size task [] = []
entries_of size task (TaskMade made host ∷ past) = if made.0 == task then [] else entries_of size task past
entries_of size task (TaskEnded gone ∷ past) = if gone.0 == task then [] else entries_of size task past
entries_of size task (Entered owner address bytes region offset prot inherit ∷ past) =
    if owner.0 == task then entered (record { address = address; bytes = bytes; region = region; offset = offset; prot = prot; inherit = inherit })
    (entries_of size task past) else entries_of size task past
entries_of size task (Removed owner address bytes ∷ past) =
    if owner.0 == task then removed size address bytes (entries_of size task past) else entries_of size task past
entries_of size task (Protected owner address bytes prot ∷ past) =
    if owner.0 == task then protected size address bytes prot (entries_of size task past) else entries_of size task past
entries_of size task (Inherited owner address bytes inherit ∷ past) =
    if owner.0 == task then inherited size address bytes inherit (entries_of size task past)
    else entries_of size task past
entries_of size task (event ∷ past) = entries_of size task past

-- one of the entries is on the region
abbrev pub has_entry : ℕ → List Entry → Bool
has_entry region [] = false
has_entry region (row ∷ rows) = row.region.0 == region || has_entry region rows

-- a forked task gets the entry
abbrev pub is_shared : Inherit → Bool
is_shared Share = true
is_shared Copy = false
is_shared Never = false

-- a forked task gets an entry on a copy
abbrev pub is_copied : Inherit → Bool
is_copied Share = false
is_copied Copy = true
is_copied Never = false

-- the entries that a fork shares
abbrev pub shared : List Entry → List Entry
shared [] = []
shared (row ∷ rows) = if is_shared row.inherit then row ∷ shared rows else shared rows

-- how many entries a fork copies
abbrev pub copies : List Entry → ℕ
copies [] = 0
copies (row ∷ rows) = if is_copied row.inherit then copies rows + 1 else copies rows

-- how many of them are on regions below a number
abbrev pub copies_below : ℕ → List Entry → ℕ
copies_below count [] = 0
copies_below count (row ∷ rows) = if is_copied row.inherit && nat_lt row.region.0 count then copies_below count rows + 1 else copies_below count rows

-- a fork copies an entry on the region
abbrev pub copies_from : ℕ → List Entry → Bool
copies_from region [] = false
copies_from region (row ∷ rows) = (is_copied row.inherit && row.region.0 == region) || copies_from region rows

-- how many regions a fork marks that had no mark
abbrev pub new_marks : (ℕ → Bool) → List Entry → ℕ
new_marks marked [] = 0
new_marks marked (row ∷ rows) =
    if is_copied row.inherit && (not (copies_from row.region.0 rows) && not (marked row.region.0)) then new_marks marked rows + 1 else new_marks marked rows

-- how many regions a fork copies from
abbrev pub sources : List Entry → ℕ
sources [] = 0
sources (row ∷ rows) =
    if is_copied row.inherit && not (copies_from row.region.0 rows) then sources rows + 1 else sources rows
