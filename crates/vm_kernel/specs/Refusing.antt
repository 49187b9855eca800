-- Why a kernel refuses a command, from what it keeps.
use Rattle.std.specs.Prelude.{ℕ, ◌+◌, ◌/◌, ◌%◌, ◌<◌, ◌==◌, ◌&&◌, ◌||◌, if◌then◌else◌, Bool, false, not, List, [], ◌∷◌, length, nat_le, nat_lt, reverse}
use Rattle.std.specs.Prelude.{Option, Some, None, IsSome, is_some, slice_get}
use Rattle.vm_base.specs.declared.code.Code.{Code}
use Rattle.vm_base.specs.declared.code.Code.TheVariants.{Blocked, InvalidAddress, InvalidArgument, NoSpace, ProtectionFailure, ResourceShortage, TableFull}
use Rattle.vm_base.specs.declared.code.Code.TheVariants.{WrongHost}
use Rattle.vm_base.specs.declared.entry.Entry.{Entry}
use Rattle.vm_base.specs.declared.ids.ObjectKind.{ObjectKind}
use Rattle.vm_base.specs.declared.ids.ObjectKind.TheVariants.{Temp}
use Rattle.vm_base.specs.declared.ids.Access.{Access}
use Rattle.vm_base.specs.declared.ids.Access.TheVariants as need
use Rattle.vm_base.specs.Entries.{allows, entry_at, is_range, meets_range, most_entries}
use Rattle.vm_base.specs.Limits.{most_objects, most_pages, most_regions}
use Rattle.vm_model.specs.declared.command.Command.{Command}
use Rattle.vm_model.specs.declared.command.Command.TheVariants as command
use Rattle.vm_model.specs.declared.event.Event.{Event}
use Rattle.vm_model.specs.declared.script.Declared.{Declared}
use Rattle.vm_model.specs.declared.script.Header.{Header}
use Rattle.vm_model.specs.Named.{pages_kept}
use Rattle.vm_model.specs.Tasks.{copies, copies_below, host_of, is_copied, new_marks}
use Rattle.vm_legal.specs.Outside.{is_file_kind, is_wild_kind, kind_in}
use Rattle.vm_legal.specs.Refusal.{access_refusal, code_where, is_elsewhere}
use Rattle.vm_frames.specs.Frames.{free}
use Rattle.vm_maps.specs.declared.change.MapChange.{MapChange}
use Rattle.vm_maps.specs.Judge.{judged}
use Rattle.vm_maps.specs.Maps.{Mapped, entries_in, rows_in}
use Rattle.vm_shadow.specs.Chains.{ChainTable, region_at}
use Rattle.vm_shadow.specs.declared.ids.Ids.{Ids}
use Rattle.vm_shadow.specs.declared.region_row.RegionRow.{RegionRow}
use Rattle.vm_waits.specs.Waits.{entry}
use Rattle.vm_kernel.specs.Changes.{inheritance, protection, removal}
use Rattle.vm_kernel.specs.declared.parts.Parts.{Parts}

-- the command makes a task, and one with that number lives, on whichever host
abbrev pub takes_name : Command → List Event → Bool
takes_name (command.Task task host) past = is_some (host_of task.0 past)
takes_name (command.Fork task child) past = is_some (host_of child.0 past)
takes_name other past = false

-- a task of the host that has no access that waits does what later tests say
abbrev pub acting_in : Parts → ℕ → Option Code → Option Code
acting_in k task later = code_where (is_some (entry k.waits.rows task)) Blocked later

-- the objects that there are, and those that marked regions may still get
abbrev pub object_total : Ids → ℕ
object_total ids = ids.next_object + ids.marks

-- the code of an allocation of a task with these entries
abbrev pub range_code : ℕ → List Entry → Ids → ℕ → ℕ → Option Code
range_code size rows ids address bytes =
    code_where (not (is_range size address bytes) || nat_lt most_pages (bytes / size)) InvalidArgument
    (code_where (meets_range address bytes rows) NoSpace
    (code_where (nat_lt most_entries (length rows + 1) || (nat_le most_regions ids.next_region || nat_le most_objects (object_total ids))) TableFull None))

-- the pages of a declared object
abbrev pub pages_declared : Parts → ℕ → ℕ
pages_declared k object = pages_kept (slice_get (reverse k.declared.items) object)

-- the code of a mapping of a declared object by a task, which may belong to another host
abbrev pub map_code : Parts → Bool → ℕ → ℕ → ℕ → ℕ → ℕ → Option Code
map_code k elsewhere task address bytes object offset =
    code_where (not (is_range k.size address bytes) || nat_lt (pages_declared k object) (offset + bytes / k.size)) InvalidArgument
    (code_where elsewhere WrongHost
    (code_where (meets_range address bytes (rows_in task k.maps)) NoSpace
    (code_where (nat_lt most_entries (length (rows_in task k.maps) + 1)) TableFull None)))

-- the command maps a file that belongs to another host
abbrev pub maps_elsewhere : Header → ℕ → Command → List Event → Bool
maps_elsewhere header h (command.Map task address bytes object offset) past = is_elsewhere header object.0 (Some h) past
maps_elsewhere header h other past = false

-- the region has a copy mark
abbrev pub is_marked : ChainTable → ℕ → Bool
is_marked chains r = mark_in (region_at chains r)
  where
    mark_in : Option RegionRow → Bool
    mark_in None = false
    mark_in (Some row) = row.marked

-- the kind of a region: that of a declared object, of which these are the declarations, or temporary
abbrev pub kind_among : List Declared → ℕ → ObjectKind
kind_among declared r = if nat_lt r (length declared) then kind_in (slice_get (reverse declared) r) else Temp

-- a copy of the region gives it no mark: it is one of so many declared objects', or has one
abbrev pub takes_no_mark : ℕ → ChainTable → ℕ → Bool
takes_no_mark declared chains r = nat_lt r declared || is_marked chains r

-- where so many objects are declared, a fork of these entries makes too many regions, or leaves too few objects: for delayed copies, and for those that are
-- marked
abbrev pub makes_too_many : ℕ → ChainTable → List Entry → Ids → Bool
makes_too_many declared chains rows ids =
    nat_lt most_regions (ids.next_region + copies rows) || nat_lt most_objects
    (object_total ids + copies rows + new_marks (takes_no_mark declared chains) rows + copies_below declared rows)

-- the code of a fork of a task with these entries
abbrev pub fork_code : ℕ → ChainTable → List Entry → Ids → Option Code
fork_code declared chains rows ids = code_where (makes_too_many declared chains rows ids) TableFull None

-- what a copy of the region takes of the objects: of a file one and its mark, of another declared object one, of temporary memory its mark and the one that
-- the region may get
abbrev pub copy_cost : List Declared → ChainTable → ℕ → ℕ
copy_cost declared chains r = if is_file_kind (kind_among declared r) then 2 else if takes_no_mark (length declared) chains r then 1 else 2

-- one copy of the region more is too much
abbrev pub is_copy_full : List Declared → ChainTable → Ids → ℕ → Bool
is_copy_full declared chains ids source =
    nat_le most_regions ids.next_region || nat_lt most_objects (object_total ids + copy_cost declared chains source)

-- the region has temporary pages, or those of a file: the copies of its pages are delayed
abbrev pub is_paged : List Declared → ℕ → Bool
is_paged declared r = not (nat_lt r (length declared)) || is_file_kind (kind_among declared r)

-- an entry on a wild object is not copied from, nor one on a shared object to another task
abbrev pub is_uncopied : List Declared → Bool → ℕ → Bool
is_uncopied declared own r = is_wild_kind (kind_among declared r) || (not (is_paged declared r) && not own)

-- an entry on a shared or wild object has an address of the range
abbrev pub meets_uncopied : List Declared → ℕ → ℕ → List Entry → Bool
meets_uncopied declared address bytes [] = false
meets_uncopied declared address bytes (row ∷ rows) =
    (not (is_paged declared row.region.0) && meets_range address bytes (row ∷ [])) || meets_uncopied declared address bytes rows

-- the code of a copy from an entry of a task, to itself or to another with these entries, of a range whose numbers are right
abbrev pub source_code : Parts → Ids → Bool → List Entry → ℕ → ℕ → ℕ → Option Entry → Option Code
source_code k ids own rows address bytes to None = Some InvalidAddress
source_code k ids own rows address bytes to (Some row) =
    code_where (is_uncopied k.declared.items own row.region.0) InvalidArgument
    (code_where (nat_lt (row.address + row.bytes) (address + bytes)) InvalidAddress
    (code_where (not (allows need.Load row.prot)) ProtectionFailure
    (code_where (meets_range to bytes rows) NoSpace
    (code_where (nat_lt most_entries (length rows + 1) || is_copy_full k.declared.items k.chains ids row.region.0) TableFull None))))

-- the code of a copy from a task to another, or to itself
abbrev pub copy_code : Parts → Ids → ℕ → ℕ → ℕ → ℕ → ℕ → Option Code
copy_code k ids task target address bytes to =
    code_where (not (is_range k.maps.size address bytes && is_range k.maps.size to bytes) || nat_lt most_pages (bytes / k.maps.size)) InvalidArgument
    (source_code k ids (task == target) (rows_in target k.maps) address bytes to (entry_at address (rows_in task k.maps)))

-- the code of a load or store of so many bytes, of a task with these entries
abbrev pub access_code : List Entry → ℕ → ℕ → Access → Option Code
access_code rows address bytes what = code_where (not (address % bytes == 0)) InvalidArgument (access_refusal what (entry_at address rows))

-- the code of a change of a task's entries
abbrev pub change_code : Parts → ℕ → MapChange → Option Code
change_code k task change = acting_in k task (judged k.maps.size change (rows_in task k.maps))

-- the code of a command that changes the range of a task
abbrev pub changing_code : Parts → Command → Option Code
changing_code k (command.Deallocate task address bytes) = change_code k task.0 (removal address bytes)
changing_code k (command.Protect task address bytes prot) = change_code k task.0 (protection address bytes prot)
changing_code k (command.Inherit task address bytes inherit) =
    acting_in k task.0
    (code_where (is_copied inherit && meets_uncopied k.declared.items address bytes (rows_in task.0 k.maps)) InvalidArgument
    (judged k.maps.size (inheritance address bytes inherit) (rows_in task.0 k.maps)))
changing_code k other = None

-- the code of a command; what it maps may belong to another host
abbrev pub code_of : Parts → Ids → Bool → Command → Option Code
code_of k ids elsewhere (command.Fork task child) = acting_in k task.0 (fork_code (length k.declared.items) k.chains (rows_in task.0 k.maps) ids)
code_of k ids elsewhere (command.Exit task) = acting_in k task.0 None
code_of k ids elsewhere (command.Allocate task address bytes) = acting_in k task.0 (range_code k.size (rows_in task.0 k.maps) ids address bytes)
code_of k ids elsewhere (command.Map task address bytes object offset) = acting_in k task.0 (map_code k elsewhere task.0 address bytes object.0 offset)
code_of k ids elsewhere (command.Load task address size) = acting_in k task.0 (access_code (rows_in task.0 k.maps) address size need.Load)
code_of k ids elsewhere (command.Store task address size value) = acting_in k task.0 (access_code (rows_in task.0 k.maps) address size need.Store)
code_of k ids elsewhere (command.Copy task address bytes target to) =
    acting_in k task.0 (acting_in k target.0 (copy_code k ids task.0 target.0 address bytes to))
code_of k ids elsewhere (command.Wire host frames) = code_where (nat_lt (free k.memory.frames) frames) ResourceShortage None
code_of k ids elsewhere (command.Unwire host frames) = code_where (nat_lt k.memory.frames.wired frames) InvalidArgument None
code_of k ids elsewhere other = changing_code k other

-- The tasks of the command are in the maps, what it maps is one of so many declared objects, and an access is of some bytes.
abbrev pub IsForHere : Mapped → ℕ → Command → Type 0
IsForHere maps declared (command.Fork task child) = IsSome (entries_in task.0 maps)
IsForHere maps declared (command.Allocate task address bytes) = IsSome (entries_in task.0 maps)
IsForHere maps declared (command.Map task address bytes object offset) = IsSome (entries_in task.0 maps) × (object.0 < declared)
IsForHere maps declared (command.Deallocate task address bytes) = IsSome (entries_in task.0 maps)
IsForHere maps declared (command.Protect task address bytes prot) = IsSome (entries_in task.0 maps)
IsForHere maps declared (command.Inherit task address bytes inherit) = IsSome (entries_in task.0 maps)
IsForHere maps declared (command.Load task address size) = IsSome (entries_in task.0 maps) × (0 < size)
IsForHere maps declared (command.Store task address size value) = IsSome (entries_in task.0 maps) × (0 < size)
IsForHere maps declared (command.Copy task address bytes target to) = IsSome (entries_in task.0 maps) × IsSome (entries_in target.0 maps)
IsForHere maps declared other = Unit {0}
