-- Whom an event is of: what another host does is nothing to this one.
use Rattle.std.specs.Prelude.{ℕ, ◌≡◌, ◌==◌, ◌&&◌, ◌||◌, not, Bool, true, false, List, ◌∷◌}
use Rattle.vm_model.specs.declared.event.Event.{Event}
use Rattle.vm_model.specs.declared.event.Event.TheVariants as event
use Rattle.vm_model.specs.declared.message.Channel.TheVariants.{Up, Down}
use Rattle.vm_model.specs.declared.message.Message.{Message}
use Rattle.vm_model.specs.declared.message.Message.TheVariants as message
use Rattle.vm_model.specs.declared.script.Header.{Header}
use Rattle.vm_model.specs.Homes.{object_home}
use Rattle.vm_model.specs.Local.{is_on}
use Rattle.vm_legal.specs.Living.{lives_on}
use Rattle.vm_legal.specs.Used.{in_use}

-- the newest event is the beginning of a slow copy on the host
abbrev pub begins_here : ℕ → List Event → Bool
begins_here h (event.BegunCopy task address bytes to ∷ past) = lives_on h task.0 past
begins_here h other = false

-- its sender gets a frame back when it is taken
abbrev pub gives_frame : Message → Bool
gives_frame (message.Return control page dirty keep bytes) = not keep
gives_frame other = false

-- The event is the host's: of one of its tasks, of a region in use or an object that is at home there, or told by its kernel; and so is the taking of a return
-- that gives it a frame back. A region that is made is nobody's until its entry says whose it is, but that of a slow copy. What a pager says, and what its
-- device does, is no host's.
abbrev pub is_home : Header → ℕ → Event → List Event → Bool
is_home header h (event.Line line) past = false
is_home header h (event.Refused code) past = false
is_home header h (event.TaskMade task host) past = host.0 == h || lives_on h task.0 past
is_home header h (event.TaskEnded task) past = lives_on h task.0 past
is_home header h (event.RegionMade region object pages) past = begins_here h past
is_home header h (event.RegionCopied region source offset pages) past = in_use header h source.0 past
is_home header h (event.Delayed region source offset pages copy) past = in_use header h source.0 past
is_home header h (event.Entered task address bytes region offset prot inherit) past = lives_on h task.0 past
is_home header h (event.Removed task address bytes) past = lives_on h task.0 past
is_home header h (event.Protected task address bytes prot) past = lives_on h task.0 past
is_home header h (event.Inherited task address bytes inherit) past = lives_on h task.0 past
is_home header h (event.BegunLoad task address size) past = lives_on h task.0 past
is_home header h (event.BegunStore task address size value) past = lives_on h task.0 past
is_home header h (event.BegunCopy task address bytes to) past = lives_on h task.0 past
is_home header h (event.Loaded task object page value) past = lives_on h task.0 past
is_home header h (event.Stored task object page at size value) past = lives_on h task.0 past
is_home header h (event.CopiedPage task page object object_page target) past = lives_on h task.0 past
is_home header h (event.CopyEnded task) past = lives_on h task.0 past
is_home header h (event.Failed task object page) past = lives_on h task.0 past
is_home header h (event.Sent (Up host object) m) past = host.0 == h
is_home header h (event.Sent (Down host object control) m) past = false
is_home header h (event.Taken (Up host object) m) past = host.0 == h && gives_frame m
is_home header h (event.Taken (Down host object control) m) past = host.0 == h
is_home header h (event.Dropped host object page) past = host.0 == h
is_home header h (event.Zeroed host object page) past = host.0 == h
is_home header h (event.Raised host lower lower_page upper upper_page) past = host.0 == h
is_home header h (event.Shadowed region new old) past = in_use header h region.0 past
is_home header h (event.Unmarked region) past = in_use header h region.0 past
is_home header h (event.Merged upper lower) past = is_on h (object_home upper.0 past)
is_home header h (event.DeviceFailed who way object page) past = false
is_home header h (event.NoSlot object page) past = false
is_home header h (event.Wired host count) past = host.0 == h

-- the newest event is the beginning of a slow copy
abbrev pub starts_copy : List Event → Bool
starts_copy (event.BegunCopy task address bytes to ∷ past) = true
starts_copy other = false

-- the region was made just now, and is in use on every host until its entry stands behind it
abbrev pub is_open : ℕ → List Event → Bool
is_open region (event.RegionMade new object pages ∷ past) = region == new.0 && not (starts_copy past)
is_open region other = false

-- a task gets an entry on the region
abbrev pub enters : ℕ → Event → Bool
enters region (event.Entered task address bytes entered offset prot inherit) = region == entered.0
enters region other = false

-- behind a region that was made stands its entry
abbrev pub EntersNext : Event → List Event → Type 0
EntersNext e past = (region : ℕ) → is_open region past ≡ true → enters region e ≡ true

-- in use on the host, but for the one moment at which a region is in use everywhere
abbrev pub is_used : Header → ℕ → ℕ → List Event → Bool
is_used header h region past = in_use header h region past && not (is_open region past)

-- whosever the event is, it is this host's
abbrev pub IsOnlyOfHost : Header → ℕ → Event → List Event → Type 0
IsOnlyOfHost header g e past = (h : ℕ) → is_home header h e past ≡ true → h ≡ g
