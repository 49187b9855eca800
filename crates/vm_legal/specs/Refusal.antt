-- Why a command is refused: the first test that holds.
use Rattle.std.specs.Prelude.{ℕ, ◌+◌, ◌/◌, ◌%◌, Bool, true, false, not, ◌&&◌, ◌||◌, List, [], ◌∷◌, length, if◌then◌else◌, ◌==◌, nat_lt, nat_le, is_some}
use Rattle.std.specs.Prelude.{is_none, Option, Some, None}
use Rattle.vm_base.specs.declared.code.Code.{Code}
use Rattle.vm_base.specs.declared.code.Code.TheVariants.{NoSuchName, NameTaken, Blocked, InvalidArgument, WrongHost, InvalidAddress, ProtectionFailure, NoSpace}
use Rattle.vm_base.specs.declared.code.Code.TheVariants.{ResourceShortage, EmptyPort, TableFull}
use Rattle.vm_base.specs.declared.entry.Entry.{Entry}
use Rattle.vm_base.specs.declared.ids.Access.{Access}
use Rattle.vm_base.specs.declared.ids.Access.TheVariants as need
use Rattle.vm_base.specs.Entries.{allows, entry_at, inherited, is_mapped, is_range, meets_range, most_entries, protected, removed}
use Rattle.vm_base.specs.Limits.{most_objects, most_pages, most_regions}
use Rattle.vm_model.specs.declared.event.Event.{Event}
use Rattle.vm_model.specs.declared.command.Command.{Command}
use Rattle.vm_model.specs.declared.command.Command.TheVariants as command
use Rattle.vm_model.specs.declared.script.Header.{Header}
use Rattle.vm_model.specs.Controls.{live_control}
use Rattle.vm_model.specs.Local.{is_on}
use Rattle.vm_model.specs.Named.{declared_pages, named}
use Rattle.vm_model.specs.Tasks.{copies, copies_below, entries_of, host_of, is_copied, new_marks}
use Rattle.vm_model.specs.Waiting.{waiting}
use Rattle.vm_model.specs.Regions.{marked_regions, next_region, next_object, region_of}
use Rattle.vm_model.specs.Channels.{queue}
use Rattle.vm_model.specs.declared.message.Message.{Message}
use Rattle.vm_legal.specs.Frames.{frames_free, frames_wired}
use Rattle.vm_legal.specs.Licences.{is_paged}
use Rattle.vm_legal.specs.Outside.{is_file, is_wild}
use Rattle.vm_legal.specs.Undelivered.{is_made}
use Rattle.vm_legal.specs.Used.{in_use}

-- this code where the test holds, else what the later tests say
abbrev pub code_where : Bool → Code → Option Code → Option Code
code_where test code later = if test then Some code else later

-- the task lives, and has no access that waits
abbrev pub acting : List Event → ℕ → Option Code → Option Code
acting past task later = code_where (is_none (host_of task past)) NoSuchName (code_where (is_some (waiting task past)) Blocked later)

-- one entry, region and object more is too much
abbrev pub is_full : Header → ℕ → List Event → Bool
is_full header task past =
    nat_lt most_entries (length (entries_of header.size task past) + 1) || (nat_le most_regions (next_region header past) || nat_le most_objects
    (next_object header past + marked_regions header past))

-- more entries than a task may have
abbrev pub are_too_many : List Entry → Bool
are_too_many rows = nat_lt most_entries (length rows)

-- the region has a copy mark
abbrev pub has_copy_mark : Header → List Event → ℕ → Bool
has_copy_mark header past region = (region_of header region past).mark

-- a copy of the region gives it no mark: it is a declared object's, or has one
abbrev pub takes_no_mark : Header → List Event → ℕ → Bool
takes_no_mark header past region = nat_lt region (named header) || has_copy_mark header past region

-- so many regions, marks of regions and objects of delayed copies more, by a fork, are too much
abbrev pub is_fork_full : Header → List Entry → List Event → Bool
is_fork_full header rows past =
    nat_lt most_regions (next_region header past + copies rows) || nat_lt most_objects
    (next_object header past + marked_regions header past + copies rows + new_marks (takes_no_mark header past) rows + copies_below (named header) rows)

-- One region more is too much: of a file with its object and its mark, of another declared object with its object, of temporary memory with its mark and
-- the one of the region that it copies.
abbrev pub is_copy_full : Header → ℕ → List Event → Bool
is_copy_full header source past =
    nat_le most_regions (next_region header past) || nat_lt most_objects (next_object header past + marked_regions header past + copy_cost
    (is_file header source) (nat_lt source (named header)) (has_copy_mark header past source))
  where
    copy_cost : Bool → Bool → Bool → ℕ
    copy_cost true declared marked = 2
    copy_cost false true marked = 1
    copy_cost false false true = 1
    copy_cost false false false = 2

abbrev pub same_host : Option ℕ → Option ℕ → Bool
same_host None other = false
same_host (Some host) other = is_on host other

-- a file's object belongs to the host of its first entry
abbrev pub is_elsewhere : Header → ℕ → Option ℕ → List Event → Bool
is_elsewhere header object None past = false
is_elsewhere header object (Some host) past = is_file header object && not (in_use header host object past)

-- a range is not copied from an entry on a wild object, nor from one on a shared object to another task
abbrev pub is_uncopied : Header → Bool → Option Entry → Bool
is_uncopied header own None = false
is_uncopied header own (Some entry) = is_wild header entry.region.0 || (not (is_paged header entry.region.0) && not own)

-- why a copy of a range in this entry is refused, if its numbers are right
abbrev pub copy_refusal : Header → ℕ → ℕ → ℕ → ℕ → List Event → Option Entry → Option Code
copy_refusal header address bytes target to past None = Some InvalidAddress
copy_refusal header address bytes target to past (Some entry) =
    code_where (nat_lt (entry.address + entry.bytes) (address + bytes)) InvalidAddress
    (code_where (not (allows need.Load entry.prot)) ProtectionFailure
    (code_where (meets_range to bytes (entries_of header.size target past)) NoSpace
    (code_where (nat_lt most_entries (length (entries_of header.size target past) + 1) || is_copy_full header entry.region.0 past) TableFull None)))

-- an entry on a shared or wild object has an address of the range
abbrev pub meets_uncopied : Header → ℕ → ℕ → List Entry → Bool
meets_uncopied header address bytes [] = false
meets_uncopied header address bytes (row ∷ rows) =
    (not (is_paged header row.region.0) && meets_range address bytes (row ∷ [])) || meets_uncopied header address bytes rows

-- the entry of an address must be there, and allow the access
abbrev pub access_refusal : Access → Option Entry → Option Code
access_refusal what None = Some InvalidAddress
access_refusal what (Some entry) = if allows what entry.prot then None else Some ProtectionFailure

-- nothing is there
abbrev pub is_empty : List Message → Bool
is_empty [] = true
is_empty (m ∷ more) = false

abbrev pub refusal : Header → List Event → Command → Option Code
refusal header past (command.Task task host) = code_where (is_some (host_of task.0 past)) NameTaken None
refusal header past (command.Allocate task address bytes) =
    acting past task.0
    (code_where (not (is_range header.size address bytes) || nat_lt most_pages (bytes / header.size)) InvalidArgument
    (code_where (meets_range address bytes (entries_of header.size task.0 past)) NoSpace
    (code_where (is_full header task.0 past) TableFull None)))
refusal header past (command.Load task address size) =
    acting past task.0
    (code_where (not (address % size == 0)) InvalidArgument
    (access_refusal need.Load (entry_at address (entries_of header.size task.0 past))))
refusal header past (command.Store task address size value) =
    acting past task.0
    (code_where (not (address % size == 0)) InvalidArgument
    (access_refusal need.Store (entry_at address (entries_of header.size task.0 past))))
refusal header past (command.Fork task child) =
    code_where (is_none (host_of task.0 past)) NoSuchName
    (code_where (is_some (host_of child.0 past)) NameTaken
    (code_where (is_some (waiting task.0 past)) Blocked
    (code_where (is_fork_full header (entries_of header.size task.0 past) past) TableFull None)))
refusal header past (command.Exit task) = acting past task.0 None
refusal header past (command.Deallocate task address bytes) =
    acting past task.0
    (code_where (not (is_range header.size address bytes)) InvalidArgument
    (code_where (are_too_many (removed header.size address bytes (entries_of header.size task.0 past))) TableFull None))
refusal header past (command.Protect task address bytes prot) =
    acting past task.0
    (code_where (not (is_range header.size address bytes)) InvalidArgument
    (code_where (not (is_mapped header.size address bytes (entries_of header.size task.0 past))) InvalidAddress
    (code_where (are_too_many (protected header.size address bytes prot (entries_of header.size task.0 past))) TableFull None)))
refusal header past (command.Inherit task address bytes inherit) =
    acting past task.0
    (code_where (not (is_range header.size address bytes) || (is_copied inherit && meets_uncopied header address bytes
    (entries_of header.size task.0 past))) InvalidArgument
    (code_where (not (is_mapped header.size address bytes (entries_of header.size task.0 past))) InvalidAddress
    (code_where (are_too_many (inherited header.size address bytes inherit (entries_of header.size task.0 past))) TableFull None)))
refusal header past (command.Wire host count) = code_where (nat_lt (frames_free header host.0 past) count) ResourceShortage None
refusal header past (command.Unwire host count) = code_where (nat_lt (frames_wired host.0 past) count) InvalidArgument None
refusal header past (command.Take channel) = code_where (not (is_made channel past)) NoSuchName (code_where (is_empty (queue channel past)) EmptyPort None)
refusal header past (command.Map task address bytes object offset) =
    acting past task.0
    (code_where (not (is_range header.size address bytes) || nat_lt (declared_pages header object.0) (offset + bytes / header.size)) InvalidArgument
    (code_where (is_elsewhere header object.0 (host_of task.0 past) past) WrongHost
    (code_where (meets_range address bytes (entries_of header.size task.0 past)) NoSpace
    (code_where (nat_lt most_entries (length (entries_of header.size task.0 past) + 1)) TableFull None))))
refusal header past (command.Copy task address bytes target to) =
    code_where (is_none (host_of task.0 past) || is_none (host_of target.0 past)) NoSuchName
    (code_where (is_some (waiting task.0 past) || is_some (waiting target.0 past)) Blocked
    (code_where (not (is_range header.size address bytes && is_range header.size to bytes) ||
    (nat_lt most_pages (bytes / header.size) || (not (same_host (host_of task.0 past) (host_of target.0 past))
    || is_uncopied header (task.0 == target.0) (entry_at address (entries_of header.size task.0 past))))) InvalidArgument
    (copy_refusal header address bytes target.0 to past (entry_at address (entries_of header.size task.0 past)))))
refusal header past (command.Clean object page count flush) =
    code_where (not (is_file header object.0) || (count == 0 || nat_lt (declared_pages header object.0) (page.0 + count))) InvalidArgument None
refusal header past (command.Cache object cache) = code_where (not (is_file header object.0)) InvalidArgument None
refusal header past (command.Say host object m) =
    code_where (is_none (live_control host.0 object.0 past)) NoSuchName (code_where (not (is_wild header object.0)) InvalidArgument None)
refusal header past (command.Settle count) = None
refusal header past (command.Pageout host count) = None
refusal header past (command.FailFiles count) = None
refusal header past (command.FailPaging count) = None
