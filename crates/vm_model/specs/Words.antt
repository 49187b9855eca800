-- What one event is to one place of one host, in few cases: every fact of a place is computed from these.
use Rattle.std.specs.Prelude.{ℕ, zero, suc, ◌+◌, ◌/◌, ◌%◌, ◌==◌, ◌&&◌, List, Bool, true, false, if◌then◌else◌, nat_le, nat_lt, replicate}
use Rattle.vm_model.specs.declared.message.Channel.TheVariants.{Up, Down}
use Rattle.vm_model.specs.declared.message.Message.{Message}
use Rattle.vm_model.specs.declared.message.Message.TheVariants as message
use Rattle.vm_model.specs.declared.event.Event.{Event}
use Rattle.vm_model.specs.declared.event.Event.TheVariants as event

-- a message of the place on the way up; messages of other places are OtherUp
pub data UpWord : Type 0 where
  Asking : (control : ℕ) → (access : ℕ) → UpWord
  Unlocking : (access : ℕ) → UpWord
  Returning : (dirty : Bool) → (keep : Bool) → (bytes : List ℕ) → UpWord
  -- a lock is done
  Doing : (control : ℕ) → (count : ℕ) → UpWord
  -- the control ends
  Ending : (control : ℕ) → UpWord
  OtherUp : UpWord

-- a message of the place on the way down
pub data DownWord : Type 0 where
  Supplying : (lock : ℕ) → (precious : Bool) → (bytes : List ℕ) → DownWord
  Locking : (count : ℕ) → (returns : ℕ) → (flush : Bool) → (lock : ℕ) → (reply : Bool) → DownWord
  -- unavailable
  Lacking : DownWord
  -- error
  Failing : DownWord
  Readying : DownWord
  OtherDown : DownWord

pub data ActEffect : Type 0 where
  -- a control begins, ready at once or by a message
  Opens : (control : ℕ) → (ready : Bool) → ActEffect
  SendsUp : (control : ℕ) → (word : UpWord) → ActEffect
  TakenUp : (word : UpWord) → ActEffect
  SentDown : (control : ℕ) → (word : DownWord) → ActEffect
  TakesDown : (control : ℕ) → (word : DownWord) → ActEffect
  -- a page of these bytes is put into the host: of zeros, or copied from another place
  Puts : (bytes : List ℕ) → (dirty : Bool) → ActEffect
  Drops : ActEffect
  -- an access of a task begins, of `size` bytes from `at` on in the page
  Begins : (task : ℕ) → (store : Bool) → (at : ℕ) → (size : ℕ) → (value : ℕ) → ActEffect
  Loads : (task : ℕ) → (value : ℕ) → ActEffect
  Stores : (task : ℕ) → (at : ℕ) → (size : ℕ) → (value : ℕ) → ActEffect
  Fails : (task : ℕ) → ActEffect
  -- a slow copy of a task begins, over so many pages that are this one
  BeginsCopy : (task : ℕ) → (times : ℕ) → ActEffect
  -- it has copied one of them
  Copies : (task : ℕ) → ActEffect
  -- if a slow copy of a task is under way, it ends
  EndsCopy : (task : ℕ) → ActEffect
  StepBegins : ActEffect
  Nothing : ActEffect

-- an event of the place: the host, and what the event is to it
pub record Act : Type 0 where
  pub host : ℕ
  pub effect : ActEffect

-- the page is one of `count` pages
abbrev pub in_range : ℕ → ℕ → ℕ → Bool
in_range p page count = nat_le page p && nat_lt p (page + count)

abbrev pub up_word : ℕ → Message → UpWord
up_word p (message.Request control page access) = if page.0 == p then Asking control access else OtherUp
up_word p (message.Unlock control page access) = if page.0 == p then Unlocking access else OtherUp
up_word p (message.Return control page dirty keep bytes) = if page.0 == p then Returning dirty keep bytes else OtherUp
up_word p (message.Completed control page count) = if in_range p page.0 count then Doing control count else OtherUp
up_word p (message.Terminate control) = Ending control
up_word p m = OtherUp

abbrev pub control_of : Message → ℕ
control_of (message.Request control page access) = control
control_of (message.Unlock control page access) = control
control_of (message.Return control page dirty keep bytes) = control
control_of (message.Completed control page count) = control
control_of (message.Terminate control) = control
control_of m = 0

abbrev pub down_word : ℕ → Message → DownWord
down_word p (message.Supply page lock precious bytes) = if page.0 == p then Supplying lock precious bytes else OtherDown
down_word p (message.Lock page count returns flush lock reply) =
    if in_range p page.0 count then Locking count returns flush lock reply else OtherDown
down_word p (message.Unavailable page) = if page.0 == p then Lacking else OtherDown
down_word p (message.Error page reason) = if page.0 == p then Failing else OtherDown
down_word p (message.Ready cache strategy) = Readying
down_word p m = OtherDown

-- what a host sends up
abbrev pub sent_act_effect : ℕ → Message → ActEffect
sent_act_effect p (message.Init control size) = Opens control false
sent_act_effect p (message.Create control size) = Opens control false
sent_act_effect p m = SendsUp (control_of m) (up_word p m)

-- the effect on this host, if the event is of the place
abbrev pub act_if : Bool → ℕ → ActEffect → Act
act_if b host effect = record { host = host; effect = if b then effect else Nothing }

-- how many of the `count` pages of a range are the place, where `means` says it of each address
abbrev pub times_meant : ℕ → (ℕ → Bool) → ℕ → ℕ → ℕ
times_meant size means address zero = 0
times_meant size means address (suc count) =
    (if means address then 1 else 0) + times_meant size means (address + size) count

-- What an event is to page p of object o. The rest of the history comes in as functions: the host of
-- a task, whether an address of a task means the place, and the bytes that a host has of a place.
abbrev pub act_of : ℕ → ℕ → ℕ → (ℕ → ℕ) → (ℕ → ℕ → Bool) → (ℕ → ℕ → ℕ → List ℕ) → Event → Act
act_of size o p host_of means held (event.Sent (Up host object) m) = act_if (object.0 == o) host.0 (sent_act_effect p m)
act_of size o p host_of means held (event.Sent (Down host object control) m) =
    act_if (object.0 == o) host.0 (SentDown control (down_word p m))
act_of size o p host_of means held (event.Taken (Up host object) m) =
    record { host = host.0; effect = if object.0 == o then TakenUp (up_word p m) else StepBegins }
act_of size o p host_of means held (event.Taken (Down host object control) m) =
    record { host = host.0; effect = if object.0 == o then TakesDown control (down_word p m) else StepBegins }
act_of size o p host_of means held (event.Dropped host object page) = act_if (object.0 == o && page.0 == p) host.0 Drops
act_of size o p host_of means held (event.Zeroed host object page) =
    act_if (object.0 == o && page.0 == p) host.0 (Puts (replicate size 0) false)
act_of size o p host_of means held (event.Raised host lower lower_page upper upper_page) =
    act_if (upper.0 == o && upper_page.0 == p) host.0 (Puts (held host.0 lower.0 lower_page.0) true)
act_of size o p host_of means held (event.BegunCopy task address bytes to) =
    record { host = host_of task.0; effect = BeginsCopy task.0 (times_meant size (means task.0) address (bytes / size)) }
act_of size o p host_of means held (event.CopiedPage task page object object_page target) =
    record {
      host = host_of task.0;
      effect =
          if target.0 == o && page.0 == p then Puts (held (host_of task.0) object.0 object_page.0) true else
          (if object.0 == o && object_page.0 == p then Copies task.0 else Nothing);
    }
act_of size o p host_of means held (event.CopyEnded task) = record { host = host_of task.0; effect = EndsCopy task.0 }
act_of size o p host_of means held (event.BegunLoad task address bytes) =
    act_if (means task.0 address) (host_of task.0) (Begins task.0 false (address % size) bytes 0)
act_of size o p host_of means held (event.BegunStore task address bytes value) =
    act_if (means task.0 address) (host_of task.0) (Begins task.0 true (address % size) bytes value)
act_of size o p host_of means held (event.Loaded task object page value) =
    act_if (object.0 == o && page.0 == p) (host_of task.0) (Loads task.0 value)
act_of size o p host_of means held (event.Stored task object page at bytes value) =
    act_if (object.0 == o && page.0 == p) (host_of task.0) (Stores task.0 at bytes value)
act_of size o p host_of means held (event.Failed task object page) =
    record { host = host_of task.0; effect = if object.0 == o && page.0 == p then Fails task.0 else EndsCopy task.0 }
act_of size o p host_of means held (event.Line line) = record { host = 0; effect = StepBegins }
act_of size o p host_of means held e = record { host = 0; effect = Nothing }

-- what an act of one host is to all others: a step begins for them too
abbrev pub to_others : ActEffect → ActEffect
to_others (TakenUp word) = StepBegins
to_others (TakesDown control word) = StepBegins
to_others StepBegins = StepBegins
to_others e = Nothing

abbrev pub effect_on : ℕ → Act → ActEffect
effect_on h a = if a.host == h then a.effect else to_others a.effect
