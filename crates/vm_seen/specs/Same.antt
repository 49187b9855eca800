-- The groups in which messages, events and commands are compared.
use Rattle.std.specs.Prelude.{Bool, true, false}
use Rattle.vm_model.specs.declared.command.Command.{Command}
use Rattle.vm_model.specs.declared.command.Command.TheVariants as command
use Rattle.vm_model.specs.declared.event.Event.{Event}
use Rattle.vm_model.specs.declared.event.Event.TheVariants as event
use Rattle.vm_model.specs.declared.message.Message.{Message}
use Rattle.vm_model.specs.declared.message.Message.TheVariants as message

-- the message says one thing of an object or a page
abbrev pub is_notice : Message → Bool
is_notice (message.Init control size) = true
is_notice (message.Create control size) = true
is_notice (message.Terminate control) = true
is_notice (message.Ready cache strategy) = true
is_notice (message.Destroy reason) = true
is_notice (message.Unavailable page) = true
is_notice (message.Error page reason) = true
is_notice other = false

-- a kernel asks or tells of pages
abbrev pub is_wish : Message → Bool
is_wish (message.Request control page access) = true
is_wish (message.Unlock control page access) = true
is_wish (message.Completed control page count) = true
is_wish other = false

-- the message carries a page
abbrev pub is_carrying : Message → Bool
is_carrying (message.Return control page dirty keep hex) = true
is_carrying (message.Supply page lock precious hex) = true
is_carrying other = false

-- the message is a pager's order, or answers one
abbrev pub is_order : Message → Bool
is_order (message.Lock page count returns flush lock reply) = true
is_order (message.Attributes cache strategy reply) = true
is_order (message.Changed control cache strategy) = true
is_order other = false

-- a step begins, a message is sent or taken, or something is lacking
abbrev pub is_of_steps : Event → Bool
is_of_steps (event.Line line) = true
is_of_steps (event.Refused code) = true
is_of_steps (event.Sent channel message) = true
is_of_steps (event.Taken channel message) = true
is_of_steps (event.Wired host count) = true
is_of_steps (event.DeviceFailed who way object page) = true
is_of_steps (event.NoSlot object page) = true
is_of_steps other = false

-- the event is of tasks, or entries come or go
abbrev pub is_of_tasks : Event → Bool
is_of_tasks (event.TaskMade task host) = true
is_of_tasks (event.TaskEnded task) = true
is_of_tasks (event.Entered task address bytes region offset prot inherit) = true
is_of_tasks (event.Removed task address bytes) = true
is_of_tasks other = false

-- entries change, an access fails or a copy ends
abbrev pub is_of_entries : Event → Bool
is_of_entries (event.Protected task address bytes prot) = true
is_of_entries (event.Inherited task address bytes inherit) = true
is_of_entries (event.CopyEnded task) = true
is_of_entries (event.Failed task object page) = true
is_of_entries other = false

-- an access begins
abbrev pub is_begun : Event → Bool
is_begun (event.BegunLoad task address size) = true
is_begun (event.BegunStore task address size value) = true
is_begun (event.BegunCopy task address bytes to) = true
is_begun other = false

-- a load or store ends
abbrev pub is_ended : Event → Bool
is_ended (event.Loaded task object page value) = true
is_ended (event.Stored task object page at size value) = true
is_ended other = false

-- the event is of regions, of objects or of copied pages
abbrev pub is_of_regions : Event → Bool
is_of_regions (event.RegionMade region object pages) = true
is_of_regions (event.RegionCopied region source offset pages) = true
is_of_regions (event.Delayed region source offset pages copy) = true
is_of_regions (event.Shadowed region new old) = true
is_of_regions (event.Unmarked region) = true
is_of_regions (event.Merged upper lower) = true
is_of_regions (event.CopiedPage task page object object_page target) = true
is_of_regions other = false

-- the event is of a host's page
abbrev pub is_of_pages : Event → Bool
is_of_pages (event.Dropped host object page) = true
is_of_pages (event.Zeroed host object page) = true
is_of_pages (event.Raised host lower lower_page upper upper_page) = true
is_of_pages other = false

-- the command begins or ends a task
abbrev pub is_of_life : Command → Bool
is_of_life (command.Task task host) = true
is_of_life (command.Fork task child) = true
is_of_life (command.Exit task) = true
is_of_life other = false

-- the command changes a range of a task's addresses
abbrev pub is_of_ranges : Command → Bool
is_of_ranges (command.Allocate task address bytes) = true
is_of_ranges (command.Map task address bytes object offset) = true
is_of_ranges (command.Deallocate task address bytes) = true
is_of_ranges (command.Protect task address bytes prot) = true
is_of_ranges (command.Inherit task address bytes inherit) = true
is_of_ranges other = false

-- the command is a load, a store or a copy
abbrev pub is_of_access : Command → Bool
is_of_access (command.Load task address size) = true
is_of_access (command.Store task address size value) = true
is_of_access (command.Copy task address bytes target to) = true
is_of_access other = false

-- the command sends messages or takes them
abbrev pub is_of_messages : Command → Bool
is_of_messages (command.Take channel) = true
is_of_messages (command.Settle count) = true
is_of_messages (command.Clean object page count flush) = true
is_of_messages (command.Cache object cache) = true
is_of_messages (command.Say host object message) = true
is_of_messages other = false

-- the command takes frames or gives them back, or makes a call fail
abbrev pub is_of_frames : Command → Bool
is_of_frames (command.Pageout host count) = true
is_of_frames (command.Wire host count) = true
is_of_frames (command.Unwire host count) = true
is_of_frames (command.FailFiles count) = true
is_of_frames (command.FailPaging count) = true
is_of_frames other = false
