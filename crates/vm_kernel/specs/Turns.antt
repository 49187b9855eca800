-- Frames in turn: accesses are run again in the order in which they began; who wants a frame and may have none joins the back of the queue, only fronts
-- leave, and while somebody queues they alone claim frames.
use Rattle.std.specs.Prelude.{◌≡◌, ◌≢◌, ◌⊎◌, ◌<◌, ◌≤◌, ℕ, suc, Bool, true, false, List, [], ◌∷◌, ◌++◌, reverse, Option, Some, if◌then◌else◌}
use Rattle.vm_base.specs.declared.ids.HostId.{HostId}
use Rattle.vm_base.specs.declared.ids.Inherit.TheVariants.{Copy}
use Rattle.vm_base.specs.declared.ids.ObjectId.{ObjectId}
use Rattle.vm_base.specs.declared.ids.PageKey.{PageKey}
use Rattle.vm_base.specs.declared.ids.PageNo.{PageNo}
use Rattle.vm_base.specs.declared.ids.RegionId.{RegionId}
use Rattle.vm_base.specs.declared.ids.TaskId.{TaskId}
use Rattle.vm_fault.specs.Walks.{wanted_number}
use Rattle.vm_legal.specs.Accesses.{Wants, begun_at}
use Rattle.vm_legal.specs.InTurn.{IsEnd}
use Rattle.vm_legal.specs.Frames.{frames_free}
use Rattle.vm_legal.specs.Stretches.{EachOf}
use Rattle.vm_model.specs.declared.event.Event.{Event}
use Rattle.vm_model.specs.declared.event.Event.TheVariants as event
use Rattle.vm_model.specs.declared.message.Channel.TheVariants.{Up}
use Rattle.vm_model.specs.declared.message.Message.TheVariants as message
use Rattle.vm_model.specs.declared.script.Header.{Header}
use Rattle.vm_waits.specs.Kept.{EachListedOnce}
use Rattle.vm_waits.specs.Waits.{WaitTable, entry, first_in_queue, is_again, is_frame, is_listed, queue_without}
use Rattle.vm_waits.specs.declared.waiting.On.TheVariants as on
use Rattle.vm_waits.specs.declared.waiting.Waiting.{Waiting}
use Rattle.vm_kernel.specs.Plays.{Paging, Plays, PlaysBy, SparesSource, paging}
use Rattle.vm_kernel.specs.declared.parts.Parts.{Parts}

-- the event is of no access that was run: none loads or stores, no page comes as zeros or from a region below, and none is asked for, nor its unlock
abbrev pub RunsNone : Event → Type 0
RunsNone (event.Zeroed host object page) = ⊥
RunsNone (event.Raised host lower lower_page upper upper_page) = ⊥
RunsNone (event.Sent (Up host object) (message.Request control page access)) = ⊥
RunsNone (event.CopiedPage task page object object_page target) = ⊥
RunsNone (event.Sent (Up host object) (message.Unlock control page access)) = ⊥
RunsNone (event.Loaded task object page value) = ⊥
RunsNone (event.Stored task object page at bytes value) = ⊥
RunsNone other = Unit {0}

-- what an answer of a pager brings with an event of its own: nothing, or a page of zeros
abbrev pub IsBrought : List Event → Type 0
IsBrought [] = Unit {0}
IsBrought (event.Zeroed host object page ∷ []) = Unit {0}
IsBrought other = ⊥

-- no access was run by these events, which stand behind what an answer brought
pub record RunsNoneYet (events : List Event) : Type 0 where
  pub late : List Event
  pub first : List Event
  pub is : events ≡ late ++ first
  pub none : EachOf RunsNone late
  pub brought : IsBrought first

-- pages that a task's slow copy made, each in a frame that it claimed; and whether there are any
pub data AreCopied (task : TaskId) : Bool → List Event → Type 0 where
  NoPage : AreCopied task false []
  OnePage : (page object_page : PageNo) → (object target : ObjectId) → (some : Bool) → (front : List Event) → AreCopied task some front
      → AreCopied task true (event.CopiedPage task page object object_page target ∷ front)

-- what stands first where a task's access is run, and whether it claimed frames: a shadow for the region of a store, or that its mark goes, or the pages of a
-- slow copy, or nothing
pub data IsFront (task : TaskId) : Bool → List Event → Type 0 where
  Shadow : (region : RegionId) → (new old : ObjectId) → IsFront task false (event.Shadowed region new old ∷ [])
  Unmark : (region : RegionId) → IsFront task false (event.Unmarked region ∷ [])
  Pages : (some : Bool) → (front : List Event) → AreCopied task some front → IsFront task some front

-- what a task's access did when it was run, and whether it claimed a frame: no more than make a shadow, take a mark, or copy pages; it found its page and
-- ended; it met an object without a control, and failed; it copied its last page and ended; it asked for the unlock of its page; it claimed one for a page of
-- zeros, or for a copy of its page, with which it ended; or it claimed one for a page that it asked for, on which it waits now, and none of those that were
-- run earlier
pub data Did (rows : List Waiting) (earlier : ℕ → Type 0) (task : TaskId) : Bool → List Event → Type 0 where
  Nothing : (claims : Bool) → (front : List Event) → IsFront task claims front → Did rows earlier task claims front
  Found : (front : List Event) → IsFront task false front → (end : Event) → IsEnd task.0 end → Did rows earlier task false (end ∷ front)
  Unserved : (object : ObjectId) → (page : PageNo) → Did rows earlier task false (event.Failed task object page ∷ [])
  Filled : (front : List Event) → AreCopied task true front → (address bytes : ℕ) → (region : RegionId)
      → Did rows earlier task true (event.Entered task address bytes region 0 (record { read = true; write = true }) Copy ∷ event.CopyEnded task ∷ front)
  ForUnlock : (claims : Bool) → (front : List Event) → IsFront task claims front → (host : HostId) → (key : PageKey) → (control access : ℕ)
      → Did rows earlier task claims (event.Sent (Up host key.object) (message.Unlock control key.page access) ∷ front)
  ForZeros : (front : List Event) → IsFront task false front → (end : Event) → (host : HostId) → (key : PageKey) → IsEnd task.0 end
      → Did rows earlier task true (end ∷ event.Zeroed host key.object key.page ∷ front)
  ForCopy : (front : List Event) → IsFront task false front → (end : Event) → (host : HostId) → (lower upper : PageKey) → IsEnd task.0 end
      → Did rows earlier task true (end ∷ event.Raised host lower.object lower.page upper.object upper.page ∷ front)
  ForAsked : (claims : Bool) → (front : List Event) → IsFront task claims front → (host : HostId) → (key : PageKey) → (control steps : ℕ) → (row : Waiting)
      → entry rows task.0 ≡ Some row → row.on ≡ on.Page key
      → ((t : ℕ) (w : Waiting) → earlier t → entry rows t ≡ Some w → w.on ≢ on.Page key)
      → Did rows earlier task true (event.Sent (Up host key.object) (message.Request control key.page (wanted_number row.want steps)) ∷ front)

-- Some accesses were run again, each once, in the order in which they began: from when on the next one began, the queue, and the events, which have the newest
-- first.
pub data Restarts (header : Header) (h : ℕ) (rows : List Waiting) (past : List Event) (old : List TaskId) : ℕ → List TaskId → List Event → Type 0 where
  -- none was run yet
  Start : (events : List Event) → RunsNoneYet events → Restarts header h rows past old 0 old events
  -- one wants a frame while somebody queues or none is free: it joins the back; a slow copy has copied pages only where nobody queues
  Joins : (task : TaskId) (from : ℕ) (queue : List TaskId) (claims : Bool) (front events : List Event) → Restarts header h rows past old from queue events
      → from ≤ begun_at task.0 (events ++ past) → IsFront task claims front
      → (claims ≡ true → queue ≡ []) → (wants : Wants header h ((front ++ events) ++ past)) → wants.task ≡ task.0 → (queue ≢ [])
      ⊎ (frames_free header h ((front ++ events) ++ past) ≡ 0)
      → Restarts header h rows past old (suc (begun_at task.0 (events ++ past))) (queue ++ task ∷ []) (front ++ events)
  -- one doesn't join, and claims a frame only where nobody queues
  Goes : (task : TaskId) (from : ℕ) (queue : List TaskId) (claims : Bool) (own events : List Event) → Restarts header h rows past old from queue events
      → from ≤ begun_at task.0 (events ++ past)
      → Did rows (λ t. begun_at t (events ++ past) < begun_at task.0 (events ++ past)) task claims own → (claims ≡ true → queue ≡ [])
      → Restarts header h rows past old (suc (begun_at task.0 (events ++ past))) queue (own ++ events)

-- so the queue became another
abbrev pub Restarted : Header → ℕ → List Waiting → List Event → List TaskId → List TaskId → List Event → Type 0
Restarted header h rows past old new events = (from : ℕ) × Restarts header h rows past old from new events

-- the first of a queue alone copies a page by this event, if anybody was run
abbrev pub RunsFront : Option TaskId → Event → Type 0
RunsFront first (event.CopiedPage task page object object_page target) = first ≡ Some task
RunsFront first e = RunsNone e

-- Those who left were run one after another, and nobody else was but who stood first then, who copied pages and stayed. Pages were reclaimed for
-- the one who stood first then, and none while one was run.
pub data ClaimsInTurn (header : Header) (past before : List Event) (old : Paging) (rows : List Waiting) : Option TaskId → List TaskId → List Event → Paging
    → Type 0 where
  -- nobody has left
  Stays : (first : Option TaskId) (late : List Event) (new : Paging) → EachOf (RunsFront first) late
      → PlaysBy header (SparesSource first) past before old (late ++ before) new → ClaimsInTurn header past before old rows first [] late new
  -- the last who left was run behind the others, and then somebody stands first, or nobody
  Leaves : (first : Option TaskId) (task : TaskId) (left : List TaskId) (claims : Bool) (late own early : List Event) (mid ran new : Paging)
      → ClaimsInTurn header past before old rows (Some task) left early mid → Did rows (λ t. is_listed t left ≡ true) task claims own
      → Plays header past (early ++ before) mid (own ++ (early ++ before)) ran
      → EachOf (RunsFront first) late → PlaysBy header (SparesSource first) past (own ++ (early ++ before)) ran (late ++ (own ++ (early ++ before))) new
      → ClaimsInTurn header past before old rows first (task ∷ left) (late ++ (own ++ early)) new

-- some left from the front of a queue in which nobody stood twice, nobody joined, and frames were claimed in turn
pub record LeavesInTurn (header : Header) (past : List Event) (old new : Parts) (before after : List Event) : Type 0 where
  pub left : List TaskId
  pub queue : old.waits.queue ≡ reverse left ++ new.waits.queue
  pub once : EachListedOnce old.waits.queue
  pub served : List Event
  pub told : after ≡ served ++ before
  pub turns : ClaimsInTurn header past before (paging old) new.waits.rows (first_in_queue new.waits.queue) left served (paging new)

-- the rows of those who don't queue are as they were
abbrev pub KeepsOthers : List TaskId → List Waiting → List Waiting → Type 0
KeepsOthers queue old new = (t : ℕ) → is_listed t queue ≡ false → entry new t ≡ entry old t

-- nobody joined or left, and no access was run by what was added
pub record QueueIsStill (old new : List TaskId) (before after : List Event) : Type 0 where
  pub queue : new ≡ old
  pub none : EachOf RunsNone before → EachOf RunsNone after

-- where an access that was run stands then: if it wants a frame, it is where it was in the queue, or behind all others; if not, nowhere
abbrev pub QueueAfter : Waiting → Bool → List TaskId → List TaskId → Type 0
QueueAfter was true old new = new ≡ (if is_frame was.on then old else old ++ was.task ∷ [])
QueueAfter was false old new = new ≡ queue_without was.task.0 old

-- nobody joined or left, and no access was run by what was added, whatever stood in front of it
pub record RunsNobody (old new : List TaskId) (before after : List Event) : Type 0 where
  pub queue : new ≡ old
  pub more : List Event
  pub told : after ≡ more ++ before
  pub none : EachOf RunsNone more

-- an access was run once: it claims no frame where it may not; if it wants one still, no more than a shadow was made, a mark taken, or pages copied; it is not
-- to be run again; and only its own row has changed
pub record RunsOnce (was : Waiting) (may_claim wants : Bool) (old new : WaitTable) (before after : List Event) : Type 0 where
  pub more : List Event
  pub told : after ≡ more ++ before
  pub claims : Bool
  pub did : Did new.rows (λ t. t ≢ was.task.0) was.task claims more
  pub none : may_claim ≡ false → claims ≡ false
  pub nothing : wants ≡ true → IsFront was.task claims more
  pub done : (w : Waiting) → entry new.rows was.task.0 ≡ Some w → is_again w.on ≡ false
  pub rest : (t : ℕ) → t ≢ was.task.0 → entry new.rows t ≡ entry old.rows t
  pub queue : QueueAfter was wants old.queue new.queue
