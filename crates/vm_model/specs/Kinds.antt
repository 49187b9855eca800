-- What events are about. Each event is named here, and there is no row for the others: whoever adds one says what it is about.
use Rattle.vm_model.specs.declared.event.Event.{Event}
use Rattle.vm_model.specs.declared.event.Event.TheVariants as event

pub data About : Type 0 where
  -- a command begins, or is refused
  Lines : About
  -- a task begins, or ends
  Tasks : About
  -- a region is made
  Regions : About
  -- an entry comes, goes or changes
  Entries : About
  -- an access begins
  Beginnings : About
  -- an access gets on, or ends
  Accesses : About
  -- a message is sent
  Sendings : About
  -- a message is taken
  Takings : About
  -- a page of a host comes or goes, with no message
  Pages : About
  -- a marked region gets a new object over its top, or loses its mark
  Shadows : About
  -- an object is merged into its one shadow
  Merges : About
  -- a backing fails, or has no slot
  Backings : About
  -- frames are wired, or no more
  Wirings : About

abbrev pub about : Event → About
about (event.Line line) = Lines
about (event.Refused code) = Lines
about (event.TaskMade task host) = Tasks
about (event.TaskEnded task) = Tasks
about (event.RegionMade region object pages) = Regions
about (event.RegionCopied region source offset pages) = Regions
about (event.Delayed region source offset pages copy) = Regions
about (event.Entered task address bytes region offset prot inherit) = Entries
about (event.Removed task address bytes) = Entries
about (event.Protected task address bytes prot) = Entries
about (event.Inherited task address bytes inherit) = Entries
about (event.BegunLoad task address size) = Beginnings
about (event.BegunStore task address size value) = Beginnings
about (event.BegunCopy task address bytes to) = Beginnings
about (event.Loaded task object page value) = Accesses
about (event.Stored task object page at size value) = Accesses
about (event.CopiedPage task page object object_page target) = Accesses
about (event.CopyEnded task) = Accesses
about (event.Failed task object page) = Accesses
about (event.Sent channel m) = Sendings
about (event.Taken channel m) = Takings
about (event.Dropped host object page) = Pages
about (event.Zeroed host object page) = Pages
about (event.Raised host lower lower_page upper upper_page) = Pages
about (event.Shadowed region new old) = Shadows
about (event.Unmarked region) = Shadows
about (event.Merged upper lower) = Merges
about (event.DeviceFailed who way object page) = Backings
about (event.NoSlot object page) = Backings
about (event.Wired host count) = Wirings
