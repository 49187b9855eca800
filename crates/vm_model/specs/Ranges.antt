-- The ranges that the numbers of a script keep.
use Rattle.std.specs.Prelude.{ℕ, ◌≡◌, ◌≤◌, ◌<◌, ◌+◌, ◌^◌, ◌⊎◌, List, [], ◌∷◌, length}
use Rattle.std.specs.List.{All}
use Rattle.vm_base.specs.declared.ids.HostId.{HostId}
use Rattle.vm_base.specs.declared.ids.ObjectId.{ObjectId}
use Rattle.vm_base.specs.declared.ids.TaskId.{TaskId}
use Rattle.vm_base.specs.Limits.{address_end, last_page, least_frames, most_frames, most_hosts, most_objects, most_pages, most_slots, most_tasks}
use Rattle.vm_base.specs.Pages.{IsPageSize, IsAccessSize}
use Rattle.vm_model.specs.Limits.{most_calls, most_script_lines, most_takings}
use Rattle.vm_model.specs.declared.command.Command.{Command}
use Rattle.vm_model.specs.declared.command.Command.TheVariants as commands
use Rattle.vm_model.specs.declared.command.Numbered.{Numbered}
use Rattle.vm_model.specs.declared.message.Channel.{Channel}
use Rattle.vm_model.specs.declared.message.Channel.TheVariants.{Up, Down}
use Rattle.vm_model.specs.declared.message.Message.{Message}
use Rattle.vm_model.specs.declared.message.Message.TheVariants as messages
use Rattle.vm_model.specs.declared.script.Header.{Header}
use Rattle.vm_model.specs.declared.script.Script.{Script}
use Rattle.vm_model.specs.Named.{AreNamedOnce}

abbrev pub IsBetween : ℕ → ℕ → ℕ → Type 0
IsBetween least most number = (least ≤ number) × (number ≤ most)

abbrev pub IsTask : TaskId → Type 0
IsTask task = task.0 < most_tasks

-- the host is one of so many
abbrev pub IsHost : ℕ → HostId → Type 0
IsHost hosts host = host.0 < hosts

-- the object is one of so many that are declared
abbrev pub IsDeclared : ℕ → ObjectId → Type 0
IsDeclared objects object = object.0 < objects

-- bytes of a task, from an address on
pub record IsRange (owner : TaskId) (start size : ℕ) : Type 0 where
  pub task : IsTask owner
  pub address : start < address_end
  pub bytes : size ≤ address_end

-- an access of a task at an address
pub record IsAccess (owner : TaskId) (at bytes : ℕ) : Type 0 where
  pub task : IsTask owner
  pub address : at < address_end
  pub size : IsAccessSize bytes

abbrev pub IsChannel : ℕ → Channel → Type 0
IsChannel hosts (Up host object) = IsHost hosts host × (object.0 < most_objects)
IsChannel hosts (Down host object control) = IsHost hosts host × (object.0 < most_objects) × (control < 2 ^ 32)

-- a message that a script can say, where a page has so many bytes
abbrev pub IsSaid : ℕ → Message → Type 0
IsSaid size (messages.Ready cache strategy) = strategy ≤ 3
IsSaid size (messages.Supply page lock precious bytes) = (page.0 ≤ last_page) × (lock ≤ 3) × (length bytes ≡ size)
IsSaid size (messages.Unavailable page) = page.0 ≤ last_page
IsSaid size (messages.Error page reason) = (page.0 ≤ last_page) × (reason < 2 ^ 32)
IsSaid size (messages.Lock page count returns flush lock reply) =
    (page.0 ≤ last_page) × (count ≤ most_pages) × (returns ≤ 2) × ((lock ≤ 3) ⊎ (lock ≡ 8))
IsSaid size (messages.Attributes cache strategy reply) = strategy ≤ 3
IsSaid size (messages.Destroy reason) = reason < 2 ^ 32
IsSaid size message = ⊥

-- a command, where so many hosts and objects are declared and a page has so many bytes
abbrev pub IsCommand : ℕ → ℕ → ℕ → Command → Type 0
IsCommand hosts objects size (commands.Task task host) = IsTask task × IsHost hosts host
IsCommand hosts objects size (commands.Fork task child) = IsTask task × IsTask child
IsCommand hosts objects size (commands.Exit task) = IsTask task
IsCommand hosts objects size (commands.Allocate task address bytes) = IsRange task address bytes
IsCommand hosts objects size (commands.Map task address bytes object offset) =
    IsRange task address bytes × IsDeclared objects object × (offset ≤ most_pages)
IsCommand hosts objects size (commands.Deallocate task address bytes) = IsRange task address bytes
IsCommand hosts objects size (commands.Protect task address bytes prot) = IsRange task address bytes
IsCommand hosts objects size (commands.Inherit task address bytes inherit) = IsRange task address bytes
IsCommand hosts objects size (commands.Load task address bytes) = IsAccess task address bytes
IsCommand hosts objects size (commands.Store task address bytes value) =
    IsAccess task address bytes × (value < 256 ^ bytes)
IsCommand hosts objects size (commands.Copy task address bytes target to) =
    IsRange task address bytes × IsTask target × (to < address_end)
IsCommand hosts objects size (commands.Take channel) = IsChannel hosts channel
IsCommand hosts objects size (commands.Settle count) = count ≤ most_takings
IsCommand hosts objects size (commands.Pageout host count) = IsHost hosts host × (count ≤ most_frames)
IsCommand hosts objects size (commands.Clean object page count flush) =
    IsDeclared objects object × (page.0 ≤ most_pages) × (count ≤ most_pages)
IsCommand hosts objects size (commands.Cache object cache) = IsDeclared objects object
IsCommand hosts objects size (commands.Wire host count) = IsHost hosts host × (count ≤ most_frames)
IsCommand hosts objects size (commands.Unwire host count) = IsHost hosts host × (count ≤ most_frames)
IsCommand hosts objects size (commands.FailFiles count) = IsBetween 1 most_calls count
IsCommand hosts objects size (commands.FailPaging count) = IsBetween 1 most_calls count
IsCommand hosts objects size (commands.Say host object message) =
    IsHost hosts host × IsDeclared objects object × IsSaid size message

-- each number of a command is in its range under this header
abbrev pub InRange : Header → Command → Type 0
InRange header command = IsCommand (length header.frames.items) (length header.objects.items) header.size command

-- The lines of commands, the newest first: each is positive and below the one of the command behind it,
-- and all are below the limit.
abbrev pub RiseBelow : ℕ → List Numbered → Type 0
RiseBelow limit [] = Unit {0}
RiseBelow limit (command ∷ before) = (0 < command.line) × (command.line < limit) × RiseBelow command.line before

-- A script within the grammar's ranges, each of whose objects has a name of its own.
pub record KeepsRanges (script : Script) : Type 0 where
  pub size : IsPageSize script.header.size
  pub slots : script.header.slots ≤ most_slots
  pub hosts : IsBetween 1 most_hosts (length script.header.frames.items)
  pub frames : All (IsBetween least_frames most_frames) script.header.frames.items
  pub objects : length script.header.objects.items ≤ most_objects
  pub pages : All (λ object. IsBetween 1 most_pages object.pages) script.header.objects.items
  pub names : AreNamedOnce script.header.objects.items
  pub commands : All (λ numbered. InRange script.header numbered.command) script.commands.items
  pub rising : RiseBelow (script.lines + 1) script.commands.items
  pub lines : script.lines ≤ most_script_lines
