-- What the commands make of a history: a group of events for each. Commands too have the newest first.
use Rattle.std.specs.Prelude.{ℕ, ◌+◌, ◌-◌, ◌/◌, ◌≡◌, ◌&&◌, ◌⊎◌, Bool, false, not, true, List, [], ◌∷◌, ◌++◌, length, reverse, if◌then◌else◌, nat_lt, Option}
use Rattle.std.specs.Prelude.{MatchOption, IfNone, None, Some}
use Rattle.vm_base.specs.declared.entry.Entry.{Entry}
use Rattle.vm_base.specs.declared.ids.Inherit.{Inherit}
use Rattle.vm_base.specs.declared.ids.Inherit.TheVariants.{Share, Copy, Never}
use Rattle.vm_base.specs.Entries.{entry_at, page_at}
use Rattle.vm_base.specs.declared.ids.HostId.{HostId}
use Rattle.vm_base.specs.declared.ids.ObjectId.{ObjectId}
use Rattle.vm_base.specs.declared.ids.PageNo.{PageNo}
use Rattle.vm_base.specs.declared.ids.RegionId.{RegionId}
use Rattle.vm_base.specs.declared.ids.TaskId.{TaskId}
use Rattle.vm_model.specs.declared.event.Event.{Event}
use Rattle.vm_model.specs.declared.event.Event.TheVariants as event
use Rattle.vm_model.specs.declared.command.Command.{Command}
use Rattle.vm_model.specs.declared.command.Command.TheVariants as command
use Rattle.vm_model.specs.declared.command.Numbered.{Numbered}
use Rattle.vm_model.specs.declared.message.Channel.{Channel}
use Rattle.vm_model.specs.declared.message.Channel.TheVariants.{Up, Down}
use Rattle.vm_model.specs.declared.message.Message.{Message}
use Rattle.vm_model.specs.declared.message.Message.TheVariants as message
use Rattle.vm_model.specs.declared.script.Header.{Header}
use Rattle.vm_model.specs.Channels.{queue}
use Rattle.vm_model.specs.Controls.{last_control, live_control}
use Rattle.vm_model.specs.Kinds.{About, about, Accesses, Backings, Beginnings, Entries, Lines, Merges, Pages, Regions, Sendings, Shadows, Takings, Tasks}
use Rattle.vm_model.specs.Kinds.{Wirings}
use Rattle.vm_model.specs.Regions.{next_region, next_object}
use Rattle.vm_model.specs.Server.{first}
use Rattle.vm_model.specs.Named.{named}
use Rattle.vm_model.specs.Tasks.{host_of, entries_of}
use Rattle.vm_legal.specs.Frames.{frames_wired}
use Rattle.vm_legal.specs.Licences.{AllLicensed, IsOwed}
use Rattle.vm_legal.specs.Outside.{Outside, is_file}
use Rattle.vm_legal.specs.Pagers.{Known, known_below}
use Rattle.vm_legal.specs.Prompt.{IsExhausted}
use Rattle.vm_legal.specs.Reclaims.{IsReclaim}
use Rattle.vm_legal.specs.Refusal.{refusal}
use Rattle.vm_legal.specs.Steps.{departures, takings}
use Rattle.vm_legal.specs.Stretches.{EachIn, EachOf}
use Rattle.vm_legal.specs.Undelivered.{undelivered}

-- pages of a region are copied, none of them now: a file's in a delayed copy, over a new object, and temporary ones in a symmetric copy
abbrev pub copied_late : Bool → ℕ → ℕ → RegionId → ℕ → ℕ → Event
copied_late true next object source offset pages = event.Delayed (record { 0 = next }) source offset pages (record { 0 = object })
copied_late false next object source offset pages = event.RegionCopied (record { 0 = next }) source offset pages

-- what a child gets of an entry of the forked task, where the next region and the next object have these numbers: the same entry, where it is shared;
-- one on a copy of its pages, where it is copied, and is on a file or on temporary memory
abbrev pub inherits : Inherit → Header → TaskId → ℕ → ℕ → Entry → List Event
inherits Share header child next object row = event.Entered child row.address row.bytes row.region row.offset row.prot row.inherit ∷ []
inherits Copy header child next object row =
    copied_late (nat_lt row.region.0 (named header)) next object row.region row.offset (row.bytes / header.size)
    ∷ event.Entered child row.address row.bytes (record { 0 = next }) 0 row.prot row.inherit ∷ []
inherits Never header child next object row = []

-- the number of the next region behind that
abbrev pub next_behind : Inherit → ℕ → ℕ
next_behind Share next = next
next_behind Copy next = next + 1
next_behind Never next = next

-- the number of the next object behind that, for an entry on this region
abbrev pub object_behind : Inherit → Header → RegionId → ℕ → ℕ
object_behind Share header region object = object
object_behind Copy header region object = if nat_lt region.0 (named header) then object + 1 else object
object_behind Never header region object = object

-- what it gets of all of them, by rising address
abbrev pub inherits_all : Header → TaskId → ℕ → ℕ → List Entry → List Event
inherits_all header child next object [] = []
inherits_all header child next object (row ∷ rows) =
    inherits row.inherit header child next object row
    ++ inherits_all header child (next_behind row.inherit next) (object_behind row.inherit header row.region object) rows

-- a forked task is made on the host of the other, whose entries are these
abbrev pub fork_head : Header → ℕ → ℕ → TaskId → Option ℕ → List Entry → Option (List Event)
fork_head header next object child None rows = None
fork_head header next object child (Some host) rows =
    Some (event.TaskMade child (record { 0 = host }) ∷ inherits_all header child next object rows)

-- a task gets a range on a copy of pages of a file or of temporary memory, those at an address of an entry; a copy of another declared object's
-- region begins with a region of its own, into which its pages come later
abbrev pub copy_head : Header → ℕ → ℕ → TaskId → ℕ → ℕ → TaskId → ℕ → Option Entry → Option (List Event)
copy_head header next object task address bytes target to None = None
copy_head header next object task address bytes target to (Some row) =
    Some
    (if nat_lt row.region.0 (named header) && not (is_file header row.region.0)
    then event.BegunCopy task address bytes to ∷ event.RegionMade (record { 0 = next }) (record { 0 = object }) (bytes / header.size) ∷ []
    else
    copied_late (is_file header row.region.0) next object row.region (page_at header.size address row) (bytes / header.size)
    ∷ event.Entered target to bytes (record { 0 = next }) 0 (record { read = true; write = true }) Copy ∷ [])

-- the oldest message of a channel is taken, where there is one
abbrev pub take_head : Channel → Option Message → Option (List Event)
take_head channel None = None
take_head channel (Some m) = Some (event.Taken channel m ∷ [])

-- the message is sent to the control that lives
abbrev pub say_head : HostId → ObjectId → Message → Option ℕ → Option (List Event)
say_head host object m None = None
say_head host object m (Some control) = Some (event.Sent (Down host object control) m ∷ [])

-- a pager is told of the control of its object that begins on a host, where none lives there
abbrev pub opening : ℕ → ObjectId → ℕ → ℕ → Option ℕ → List Event
opening host object next size None = event.Sent (Up (record { 0 = host }) object) (message.Init next size) ∷ []
opening host object next size (Some control) = []

-- a task of a host gets an entry on the region of a declared object, and the object's pager is told of it
abbrev pub map_head : Header → TaskId → ℕ → ℕ → ObjectId → ℕ → List Event → Option ℕ → Option (List Event)
map_head header task address bytes object offset past None = None
map_head header task address bytes object offset past (Some host) =
    Some
    (event.Entered task address bytes (record { 0 = object.0 }) offset (record { read = true; write = true }) Share
    ∷ opening host object (last_control host object.0 past + 1) header.size (live_control host object.0 past))

-- a file's pager asks for so many pages, which it wants back as they are, where it knows a control
abbrev pub clean_head : ObjectId → PageNo → ℕ → Bool → Option Known → List Event
clean_head object page count flush None = []
clean_head object page count flush (Some known) =
    event.Sent (Down (record { 0 = known.host }) object known.control) (message.Lock page count 2 flush 8 true) ∷ []

-- a file's pager says whether the file stays, and that copies of it are delayed, where it knows a control
abbrev pub cache_head : ObjectId → Bool → Option Known → List Event
cache_head object cache None = []
cache_head object cache (Some known) = event.Sent (Down (record { 0 = known.host }) object known.control) (message.Attributes cache 2 true) ∷ []

-- the head of a command's group behind its line, in the order of writing; a command without one is never run
abbrev pub head : Header → List Event → Command → Option (List Event)
head header past (command.Task task host) = Some (event.TaskMade task host ∷ [])
head header past (command.Allocate task address bytes) =
    Some
    (event.RegionMade (record { 0 = next_region header past }) (record { 0 = next_object header past }) (bytes / header.size)
    ∷ event.Entered task address bytes (record { 0 = next_region header past }) 0 (record { read = true; write = true }) Copy ∷ [])
head header past (command.Load task address size) = Some (event.BegunLoad task address size ∷ [])
head header past (command.Store task address size value) = Some (event.BegunStore task address size value ∷ [])
head header past (command.Fork task child) =
    fork_head header (next_region header past) (next_object header past) child (host_of task.0 past) (entries_of header.size task.0 past)
head header past (command.Exit task) = Some (event.TaskEnded task ∷ [])
head header past (command.Deallocate task address bytes) = Some (event.Removed task address bytes ∷ [])
head header past (command.Protect task address bytes prot) = Some (event.Protected task address bytes prot ∷ [])
head header past (command.Inherit task address bytes inherit) = Some (event.Inherited task address bytes inherit ∷ [])
head header past (command.Take channel) = take_head channel (first (queue channel past))
head header past (command.Settle count) = Some []
head header past (command.Wire host count) = Some (event.Wired host (frames_wired host.0 past + count) ∷ [])
head header past (command.Unwire host count) = Some (event.Wired host (frames_wired host.0 past - count) ∷ [])
head header past (command.Pageout host count) = Some []
head header past (command.FailFiles count) = Some []
head header past (command.FailPaging count) = Some []
head header past (command.Say host object m) = say_head host object m (live_control host.0 object.0 past)
head header past (command.Map task address bytes object offset) = map_head header task address bytes object offset past (host_of task.0 past)
head header past (command.Copy task address bytes target to) =
    copy_head header (next_region header past) (next_object header past) task address bytes target to
    (entry_at address (entries_of header.size task.0 past))
head header past (command.Clean object page count flush) = Some (clean_head object page count flush (known_below (length header.frames.items) object.0 past))
head header past (command.Cache object cache) = Some (cache_head object cache (known_below (length header.frames.items) object.0 past))

-- what the events of heads, and lines, are about, and what follows from them
abbrev pub MayFollow : About → Type 0
MayFollow Lines = ⊥
MayFollow Tasks = ⊥
MayFollow Regions = ⊥
MayFollow Entries = ⊥
MayFollow Beginnings = ⊥
MayFollow Wirings = ⊥
MayFollow Accesses = Unit {0}
MayFollow Sendings = Unit {0}
MayFollow Takings = Unit {0}
MayFollow Pages = Unit {0}
MayFollow Shadows = Unit {0}
MayFollow Merges = Unit {0}
MayFollow Backings = Unit {0}

-- the event is no part of a head, nor a line; an entry is none where it is owed
abbrev pub IsConsequence : Event → List Event → Type 0
IsConsequence (event.Entered task address bytes region offset prot inherit) past = IsOwed (event.Entered task address bytes region offset prot inherit) past
IsConsequence e past = MayFollow (about e)

-- behind its line a group is the head of its command and what follows from it; its events are such as `all` wants them
pub record IsRunBy (all : Command → List Event → List Event → Type 0) (header : Header) (past : List Event) (numbered : Numbered) (first group : List Event) :
    Type 0 where
  pub more : List Event
  pub is : group ≡ more ++ reverse first
  pub follows : EachIn IsConsequence more (reverse first ++ event.Line numbered.line ∷ past)
  pub licensed : all numbered.command group (event.Line numbered.line ∷ past)

-- what stands behind the line of a command: its refusal alone, or what it makes
abbrev pub IsGroupBy : (all : Command → List Event → List Event → Type 0) → Header → List Event → Numbered → List Event → Type 0
IsGroupBy all header past numbered group =
    MatchOption (refusal header past numbered.command)
    (MatchOption (head header past numbered.command) ⊥ (λ first. IsRunBy all header past numbered first group))
    (λ code. group ≡ event.Refused code ∷ [])

-- each event of a group has its cause
abbrev pub IsRun : Header → Outside → List Event → Numbered → List Event → List Event → Type 0
IsRun header outside past numbered first group = IsRunBy (AllLicensed header outside) header past numbered first group

abbrev pub IsGroup : Header → Outside → List Event → Numbered → List Event → Type 0
IsGroup header outside past numbered group = IsGroupBy (AllLicensed header outside) header past numbered group

-- the reclaims of a pageout stand first in its group: behind them as many pages have gone as it wants, or nothing more can be reclaimed
pub record HasPagedOut (header : Header) (host count : ℕ) (group past : List Event) : Type 0 where
  pub later : List Event
  pub front : List Event
  pub is : group ≡ later ++ front
  pub reclaims : EachOf (IsReclaim host) front
  pub enough : (departures host (front ++ past) ≡ count) ⊎ IsExhausted header host past (front ++ past)

-- what else a command owes when its group ends, behind its line: a pageout has reclaimed its pages; and a settle has taken so many messages, or none is left
abbrev pub IsDone : Header → Command → List Event → List Event → Type 0
IsDone header (command.Pageout host count) group past = HasPagedOut header host.0 count group past
IsDone header (command.Settle count) group past = (takings (group ++ past) ≡ count) ⊎ (undelivered (group ++ past) ≡ [])
IsDone header (command.Load task address size) group past = Unit {0}
IsDone header (command.Store task address size value) group past = Unit {0}
IsDone header (command.Task task host) group past = Unit {0}
IsDone header (command.Fork task child) group past = Unit {0}
IsDone header (command.Exit task) group past = Unit {0}
IsDone header (command.Allocate task address bytes) group past = Unit {0}
IsDone header (command.Map task address bytes object offset) group past = Unit {0}
IsDone header (command.Deallocate task address bytes) group past = Unit {0}
IsDone header (command.Protect task address bytes prot) group past = Unit {0}
IsDone header (command.Inherit task address bytes inherit) group past = Unit {0}
IsDone header (command.Copy task address bytes target to) group past = Unit {0}
IsDone header (command.Take channel) group past = Unit {0}
IsDone header (command.Clean object page count flush) group past = Unit {0}
IsDone header (command.Cache object cache) group past = Unit {0}
IsDone header (command.Wire host count) group past = Unit {0}
IsDone header (command.Unwire host count) group past = Unit {0}
IsDone header (command.FailFiles count) group past = Unit {0}
IsDone header (command.FailPaging count) group past = Unit {0}
IsDone header (command.Say host object m) group past = Unit {0}

-- the group goes as far as its command does, unless that is refused
abbrev pub IsWholeBy : (done : Command → List Event → List Event → Type 0) → Header → List Event → Numbered → List Event → Type 0
IsWholeBy done header past numbered group = IfNone (refusal header past numbered.command) (done numbered.command group (event.Line numbered.line ∷ past))

abbrev pub IsWholeGroup : Header → List Event → Numbered → List Event → Type 0
IsWholeGroup header past numbered group = IsWholeBy (IsDone header) header past numbered group

-- the groups are those of the commands
abbrev pub FollowsBy : (all done : Command → List Event → List Event → Type 0) → Header → List Numbered → List Event → Type 0
FollowsBy all done header [] history = history ≡ []
FollowsBy all done header (numbered ∷ before) history =
    (past : List Event) × (group : List Event)
    × (history ≡ group ++ event.Line numbered.line ∷ past)
    × IsGroupBy all header past numbered group
    × IsWholeBy done header past numbered group
    × FollowsBy all done header before past

abbrev pub Follows : Header → Outside → List Numbered → List Event → Type 0
Follows header outside commands history = FollowsBy (AllLicensed header outside) (IsDone header) header commands history

-- a command is done, but that a settle may have more to take
abbrev pub SoFarBy : (done : Command → List Event → List Event → Type 0) → Command → List Event → List Event → Type 0
SoFarBy done (command.Settle count) group past = Unit {0}
SoFarBy done other group past = done other group past

abbrev pub IsDoneSoFar : Header → Command → List Event → List Event → Type 0
IsDoneSoFar header doing group past = SoFarBy (IsDone header) doing group past

abbrev pub IsWholeSoFar : Header → List Event → Numbered → List Event → Type 0
IsWholeSoFar header past numbered group = IsWholeBy (SoFarBy (IsDone header)) header past numbered group

-- the same, but that a settle that is last may have more to take
abbrev pub FollowsSoFarBy : (all done : Command → List Event → List Event → Type 0) → Header → List Numbered → List Event → Type 0
FollowsSoFarBy all done header [] history = history ≡ []
FollowsSoFarBy all done header (numbered ∷ before) history =
    (past : List Event) × (group : List Event)
    × (history ≡ group ++ event.Line numbered.line ∷ past)
    × IsGroupBy all header past numbered group
    × IsWholeBy (SoFarBy done) header past numbered group
    × FollowsBy all done header before past

abbrev pub FollowsSoFar : Header → Outside → List Numbered → List Event → Type 0
FollowsSoFar header outside commands history = FollowsSoFarBy (AllLicensed header outside) (IsDone header) header commands history

-- a head that was begun: the group is its first events
pub record IsBegun (first group : List Event) : Type 0 where
  pub rest : List Event
  pub is : reverse first ≡ rest ++ group

-- what stands behind the line of the last command, wherever the history ends: inside its head too, and in front of its refusal
abbrev pub IsCutGroup : Header → Outside → List Event → Numbered → List Event → Type 0
IsCutGroup header outside past numbered group =
    MatchOption (refusal header past numbered.command)
    (MatchOption (head header past numbered.command) ⊥
    (λ first. IsRun header outside past numbered first group
    ⊎ (IsBegun first group × AllLicensed header outside numbered.command group (event.Line numbered.line ∷ past))))
    (λ code. (group ≡ []) ⊎ (group ≡ event.Refused code ∷ []))

-- the same, but that the history may end behind any event
abbrev pub FollowsAnyCut : Header → Outside → List Numbered → List Event → Type 0
FollowsAnyCut header outside [] history = history ≡ []
FollowsAnyCut header outside (numbered ∷ before) history =
    (past : List Event) × (group : List Event)
    × (history ≡ group ++ event.Line numbered.line ∷ past)
    × IsCutGroup header outside past numbered group
    × Follows header outside before past
