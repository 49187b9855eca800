-- What a kernel's call adds to a history: a command's group, each event with its cause and its bytes, within the frames.
use Rattle.std.specs.Prelude.{ℕ, ◌<◌, ◌≡◌, ◌==◌, Bool, true, false, List, [], ◌∷◌, ◌++◌, length, reverse, Some, None}
use Rattle.vm_model.specs.declared.event.Event.{Event}
use Rattle.vm_model.specs.declared.event.Event.TheVariants as event
use Rattle.vm_model.specs.declared.command.Command.{Command}
use Rattle.vm_model.specs.declared.command.Command.TheVariants as command
use Rattle.vm_model.specs.declared.message.Channel.TheVariants.{Up, Down}
use Rattle.vm_model.specs.declared.message.Message.TheVariants as message
use Rattle.vm_model.specs.declared.script.Header.{Header}
use Rattle.vm_model.specs.Homes.{home_of, object_home}
use Rattle.vm_model.specs.Ranges.{InRange}
use Rattle.vm_legal.specs.Bytes.{OwnBytes}
use Rattle.vm_legal.specs.Follows.{IsConsequence, head}
use Rattle.vm_legal.specs.InTurn.{IsDoneInTurn, AllInTurn}
use Rattle.vm_legal.specs.Frames.{Suffice}
use Rattle.vm_legal.specs.Homes.{EntersNext, IsOnlyOfHost}
use Rattle.vm_legal.specs.Living.{lives_on}
use Rattle.vm_legal.specs.Outside.{Outside, is_file}
use Rattle.vm_legal.specs.Prompt.{PromptAt}
use Rattle.vm_legal.specs.Refusal.{refusal}
use Rattle.vm_legal.specs.Stretches.{AllInner, EachIn, EachOf, MomentsIn}
use Rattle.vm_shadow.specs.declared.ids.Ids.{Ids}
use Rattle.vm_kernel.specs.Plays.{Sparing}
use Rattle.vm_kernel.specs.Matches.{HasOrder, HasWaits, Matches, Rests, Works, host_id}
use Rattle.vm_kernel.specs.Serving.{HasQueue}
use Rattle.vm_supply.specs.declared.woken.Woken.TheVariants as woken
use Rattle.vm_waits.specs.Waits.{count_again}
use Rattle.vm_base.specs.declared.entry.Entry.{Entry}
use Rattle.vm_base.specs.declared.ids.ObjectId.{ObjectId}
use Rattle.vm_base.specs.declared.ids.PageNo.{PageNo}
use Rattle.vm_kernel.specs.declared.parts.Parts.{Parts}

-- the history in front of a call, up to and with the line of its command, the script's header, and what is told of the outside
pub record Given : Type 0 where
  pub header : Header
  pub host : ℕ
  pub outside : Outside
  pub past : List Event

-- the command is told where it is no argument
pub record Doing : Type 0 where
  pub header : Header
  pub host : ℕ
  pub outside : Outside
  pub past : List Event
  pub command : Command

-- what is done, and which page is spared where one is reclaimed
pub record DoingSparing : Type 0 where
  pub header : Header
  pub host : ℕ
  pub outside : Outside
  pub past : List Event
  pub command : Command
  pub by : Sparing

-- what a kernel says: to pagers alone, from its own host, and with whole pages; tasks are made there
abbrev pub KernelSays : ℕ → ℕ → Event → Type 0
KernelSays h size (event.Sent (Up host object) (message.Return control page dirty keep bytes)) = (host.0 ≡ h) × (length bytes ≡ size)
KernelSays h size (event.Sent (Up host object) (message.Init control bytes)) = host.0 ≡ h
KernelSays h size (event.Sent (Up host object) (message.Create control bytes)) = host.0 ≡ h
KernelSays h size (event.Sent (Up host object) (message.Request control page access)) = host.0 ≡ h
KernelSays h size (event.Sent (Up host object) (message.Unlock control page access)) = host.0 ≡ h
KernelSays h size (event.Sent (Up host object) (message.Completed control page count)) = host.0 ≡ h
KernelSays h size (event.Sent (Up host object) (message.Terminate control)) = host.0 ≡ h
KernelSays h size (event.Sent (Up host object) (message.Changed control cache strategy)) = host.0 ≡ h
KernelSays h size (event.Sent (Up host object) other) = ⊥
KernelSays h size (event.Sent (Down host object control) m) = ⊥
KernelSays h size (event.TaskMade task host) = host.0 ≡ h
KernelSays h size (event.DeviceFailed who way object page) = ⊥
KernelSays h size (event.NoSlot object page) = ⊥
KernelSays h size (event.Line line) = ⊥
KernelSays h size (event.Taken channel m) = ⊥
KernelSays h size other = Unit {0}

-- a pager is told of an object on the host of the region that it was made for, and of a file on that of the file's region
abbrev pub CreatesHere : Header → ℕ → Event → List Event → Type 0
CreatesHere header h (event.Sent (Up host object) (message.Create control size)) past = object_home object.0 past ≡ Some h
CreatesHere header h (event.Sent (Up host object) (message.Init control size)) past = is_file header object.0 ≡ true → home_of object.0 past ≡ Some h
CreatesHere header h other past = Unit {0}

-- whosever an event is, it is the kernel's; and behind a region that it makes stands its entry
pub record IsMine (header : Header) (h : ℕ) (e : Event) (past : List Event) : Type 0 where
  pub enters : EntersNext e past
  pub own : IsOnlyOfHost header h e past
  pub creates : CreatesHere header h e past

-- what some kernel says
pub record SomeKernelSays (header : Header) (e : Event) (past : List Event) : Type 0 where
  pub host : ℕ
  pub known : host < length header.frames.items
  pub says : KernelSays host header.size e
  pub creates : CreatesHere header host e past

-- events of one step: the head of its command, and what follows from it; each has its cause
pub record Grows (header : Header) (h : ℕ) (outside : Outside) (doing : Command) (past events : List Event) : Type 0 where
  pub first : List Event
  pub more : List Event
  pub head : head header past doing ≡ Some first
  pub is : events ≡ more ++ reverse first
  pub follows : EachIn IsConsequence more (reverse first ++ past)
  pub licensed : AllInTurn header outside doing events past
  pub own_bytes : EachIn (OwnBytes header) events past
  pub frames : MomentsIn (Suffice header h) events past
  pub inner : AllInner events
  pub said : EachOf (KernelSays h header.size) events
  pub mine : EachIn (IsMine header h) events past

-- the newest event is a line
pub record IsLined (past : List Event) : Type 0 where
  pub line : ℕ
  pub before : List Event
  pub is : past ≡ event.Line line ∷ before

-- the command acts on the host: it names it, or a task that lives there
abbrev pub acts_on : ℕ → Command → List Event → Bool
acts_on h (command.Task task host) past = host.0 == h
acts_on h (command.Fork task child) past = lives_on h task.0 past
acts_on h (command.Exit task) past = lives_on h task.0 past
acts_on h (command.Allocate task address bytes) past = lives_on h task.0 past
acts_on h (command.Map task address bytes object offset) past = lives_on h task.0 past
acts_on h (command.Deallocate task address bytes) past = lives_on h task.0 past
acts_on h (command.Protect task address bytes prot) past = lives_on h task.0 past
acts_on h (command.Inherit task address bytes inherit) past = lives_on h task.0 past
acts_on h (command.Load task address size) past = lives_on h task.0 past
acts_on h (command.Store task address size value) past = lives_on h task.0 past
acts_on h (command.Copy task address bytes target to) past = lives_on h task.0 past
acts_on h (command.Pageout host count) past = host.0 == h
acts_on h (command.Wire host count) past = host.0 == h
acts_on h (command.Unwire host count) past = host.0 == h
acts_on h other past = false

-- a copy goes to a task that lives on the host, too
abbrev pub targets_here : ℕ → Command → List Event → Bool
targets_here h (command.Copy task address bytes target to) past = lives_on h target.0 past
targets_here h other past = true

-- a kernel may run a command that acts on its host, is in its ranges and isn't refused; its line stands in front
pub record Starts (header : Header) (h : ℕ) (doing : Command) (past : List Event) (k : Parts) (ids : Ids) (events : List Event) : Type 0 where
  pub rests : Rests header h k ids past
  pub acts : acts_on h doing past ≡ true
  pub range : InRange header doing
  pub accepted : refusal header past doing ≡ None
  pub begins : IsLined past
  pub nothing : events ≡ []

-- a command was run, and its step has more to do only for those that wait for a frame
pub record Ran (header : Header) (h : ℕ) (outside : Outside) (doing : Command) (past : List Event) (k : Parts) (ids : Ids) (events : List Event) : Type 0 where
  pub rests : Rests header h k ids (events ++ past)
  pub grows : Grows header h outside doing past events
  pub done : IsDoneInTurn header doing events past

-- the head of a command is told, which asks no more than the accesses that are to be run again now
pub record HasBegun (header : Header) (h : ℕ) (outside : Outside) (doing : Command) (past : List Event) (k : Parts) (ids : Ids) (events : List Event) : Type 0
  where
    pub works : Works header h k ids woken.Nobody (events ++ past)
    pub grows : Grows header h outside doing past events
    pub done : (all : List Event) → IsDoneInTurn header doing all past

-- inside a command's step, with some entries that have just gone among the counts
pub record IsInStep (header : Header) (h : ℕ) (outside : Outside) (doing : Command) (past : List Event) (k : Parts) (ids : Ids) (gone : List Entry)
    (events : List Event) : Type 0 where
  pub begins : IsLined past
  pub matches : Matches header h k ids gone (events ++ past)
  pub waits : HasWaits header h k woken.Nobody (events ++ past)
  pub order : HasOrder k (events ++ past)
  pub idle : count_again k.waits.rows ≡ 0
  pub grows : Grows header h outside doing past events

-- events that follow from what stands in front of them, each with its cause and its bytes, within the frames
pub record LegalEvents (header : Header) (h : ℕ) (outside : Outside) (doing : Command) (past old new : List Event) : Type 0 where
  pub more : List Event
  pub is : new ≡ more ++ old
  pub follows : EachIn IsConsequence more (old ++ past)
  pub licensed : AllInTurn header outside doing more (old ++ past)
  pub own_bytes : EachIn (OwnBytes header) more (old ++ past)
  pub frames : MomentsIn (Suffice header h) more (old ++ past)
  pub inner : AllInner more
  pub said : EachOf (KernelSays h header.size) more
  pub mine : EachIn (IsMine header h) more (old ++ past)

-- what is told of a step that takes a message: the past in front of the step, and the taking
pub record Passing : Type 0 where
  pub header : Header
  pub host : ℕ
  pub outside : Outside
  pub past : List Event
  pub front : List Event
  pub command : Command

-- a kernel's part of such a step: the events behind the taking
pub record Passed (header : Header) (h : ℕ) (outside : Outside) (doing : Command) (past : List Event) (k : Parts) (ids : Ids) (events : List Event) : Type 0
  where
    pub rests : Rests header h k ids (events ++ past)
    pub goes : LegalEvents header h outside doing past [] events

-- the frame queue was served at the end of a step: it goes no further, and nobody of the host waits in vain
pub record Served (header : Header) (h : ℕ) (outside : Outside) (doing : Command) (past old : List Event) (k : Parts) (ids : Ids) (new : List Event) : Type 0
  where
    pub rests : Rests header h k ids (new ++ past)
    pub goes : LegalEvents header h outside doing past old new
    pub queue : HasQueue header h k (new ++ past)
    pub prompt : PromptAt header h (new ++ past)

-- the return of a page that the host didn't keep was taken
pub record IsLaundered (h : ℕ) (front : List Event) : Type 0 where
  pub object : ObjectId
  pub control : ℕ
  pub page : PageNo
  pub dirty : Bool
  pub bytes : List ℕ
  pub is : front ≡ event.Taken (Up (host_id h) object) (message.Return control page dirty false bytes) ∷ []
