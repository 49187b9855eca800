-- Accesses are run, and the frame queue is served.
use Rattle.std.specs.Prelude.{ℕ, ◌+◌, ◌-◌, ◌<◌, ◌≤◌, ◌≡◌, ◌⊎◌, ◌||◌, ◌&&◌, ◌==◌, nat_lt, not, Bool, IfSome, true, false, List, [], ◌∷◌, ◌++◌, length, Option}
use Rattle.std.specs.Prelude.{Some}
use Rattle.std.specs.Prelude.{None, if◌then◌else◌}
use Rattle.vm_base.specs.declared.ids.FrameNo.{FrameNo}
use Rattle.vm_base.specs.declared.ids.PageKey.{PageKey}
use Rattle.vm_queues.specs.Kept.{is_frame as is_frame_of}
use Rattle.vm_queues.specs.Queues.{is_skipped}
use Rattle.vm_fault.specs.Rooms.{pages_left}
use Rattle.vm_frames.specs.Frames.{claimed, free}
use Rattle.vm_model.specs.declared.event.Event.{Event}
use Rattle.vm_model.specs.declared.script.Header.{Header}
use Rattle.vm_legal.specs.Accesses.{Wants}
use Rattle.vm_legal.specs.InTurn.{GoesNext}
use Rattle.vm_legal.specs.Frames.{frames_free, returns_out}
use Rattle.vm_legal.specs.Prompt.{HostIsFull, IsSource}
use Rattle.vm_legal.specs.Steps.{departures}
use Rattle.vm_pageout.specs.declared.answer.Reclaim.{Reclaim}
use Rattle.vm_pageout.specs.declared.answer.Reclaim.TheVariants as reclaim
use Rattle.vm_resident.specs.Resident.{ResidentTable, owner_of, page_key, row_at}
use Rattle.vm_resident.specs.declared.page_row.PageRow.{PageRow}
use Rattle.vm_waits.specs.Waits.{count_again, entry, is_again, is_frame, one_again, one_frame, queued}
use Rattle.vm_waits.specs.declared.waiting.On.{On}
use Rattle.vm_waits.specs.declared.waiting.On.TheVariants as on
use Rattle.vm_waits.specs.declared.waiting.Waiting.{Waiting}
use Rattle.vm_maps.specs.declared.place.Place.{Place}
use Rattle.vm_kernel.specs.Destroying.{place_led}
use Rattle.vm_kernel.specs.Plays.{IsKeptSource, Sparing, SparesSource, frame_here}
use Rattle.vm_kernel.specs.Taking.{page_waited}
use Rattle.vm_kernel.specs.Turns.{IsFront}
use Rattle.vm_kernel.specs.declared.attempt.Attempt.{Attempt}
use Rattle.vm_kernel.specs.declared.attempt.Attempt.TheVariants as attempt
use Rattle.vm_kernel.specs.declared.parts.Parts.{Parts}

-- how many pages the slow copies that wait have left
abbrev pub pages_to_copy : List Waiting → ℕ
pages_to_copy [] = 0
pages_to_copy (w ∷ ws) = pages_left w.want + pages_to_copy ws

-- an access was run: it has ended, or waits for something else than a frame
pub record LeavesFrameQueue (was : Waiting) (old new : Parts) : Type 0 where
  pub left : pages_to_copy new.waits.rows ≤ pages_to_copy old.waits.rows
  pub again : count_again new.waits.rows + one_again was.on ≡ count_again old.waits.rows
  pub queued : queued new.waits.rows + one_frame was.on ≡ queued old.waits.rows
  pub laundry : new.laundry ≡ old.laundry

-- the page is here
abbrev pub IsHere : Parts → PageKey → Type 0
IsHere k key = (row : PageRow) × (row_at k.memory.resident key.object.0 key.page.0 ≡ Some row) × (row.here ≡ true)

-- the page that an access is to copy that waits for a frame: it is here, and is where the walk of one that wants a frame ends
abbrev pub IsToCopy : Header → ℕ → Parts → Option PageKey → List Event → Type 0
IsToCopy header h k None past = Unit {0}
IsToCopy header h k (Some key) past = IsSource header h key.object.0 key.page.0 past × IsHere k key

-- it is the page that a reclaim spares as a source, if there is one
pub record IsTheSource (header : Header) (h : ℕ) (by : Sparing) (source : Option PageKey) (past : List Event) : Type 0 where
  pub is : IfSome source (λ key. IsKeptSource header h by key.object.0 key.page.0 past)
  pub only : (o p : ℕ) → IsKeptSource header h by o p past → source ≡ Some (page_key o p)

-- an access wants a frame, and stands in the queue; its region may have got an object of its own, or it has copied pages, each in a frame
pub record JoinsQueue (header : Header) (h : ℕ) (was : Waiting) (may_claim : Bool) (source : Option PageKey) (old new : Parts) (before after : List Event) :
    Type 0 where
  pub claims : Bool
  pub front : List Event
  pub prepared : IsFront was.task claims front
  pub same : after ≡ front ++ before
  pub wants : Wants header h after
  pub mine : wants.task ≡ was.task.0
  pub to_copy : IsToCopy header h new source after
  pub exact : IsTheSource header h (SparesSource (Some was.task)) source after
  pub none : may_claim ≡ true → free new.memory.frames ≡ 0
  pub again : count_again new.waits.rows + one_again was.on ≡ count_again old.waits.rows
  pub queued : queued new.waits.rows ≡ queued old.waits.rows + (1 - one_frame was.on)
  pub claimed : claimed new.memory.frames + pages_to_copy new.waits.rows ≡ claimed old.memory.frames + pages_to_copy old.waits.rows
  pub laundry : new.laundry ≡ old.laundry

-- an access was run, and it wants a frame or not
abbrev pub Attempts : Header → ℕ → Waiting → Bool → Attempt → Parts → Parts → List Event → List Event → Type 0
Attempts header h was may_claim (attempt.Wants source) old new before after = JoinsQueue header h was may_claim source old new before after
Attempts header h was may_claim attempt.Ran old new before after = LeavesFrameQueue was old new

abbrev pub wants_frame : Attempt → Bool
wants_frame (attempt.Wants source) = true
wants_frame attempt.Ran = false

-- some page was reclaimed, and is dropped or on its way; or each page that is here is one of those that are spared
pub record FreesWhere (h : ℕ) (Spares : ℕ → ℕ → PageRow → Type 0) (answer : Reclaim) (old new : Parts) (before after : List Event) : Type 0 where
  pub waits : new.waits ≡ old.waits
  pub freed : answer ≡ reclaim.Freed → (claimed old.memory.frames ≡ claimed new.memory.frames + 1) × (departures h after ≡ departures h before + 1)
  pub returned : answer ≡ reclaim.Returned → (claimed new.memory.frames ≡ claimed old.memory.frames) × (departures h after ≡ departures h before + 1)
      × (free new.memory.frames ≡ free old.memory.frames) × (0 < returns_out h after)
  pub nothing : answer ≡ reclaim.Nothing → (after ≡ before)
      × ((o p : ℕ) (row : PageRow) → row_at new.memory.resident o p ≡ Some row → row.here ≡ true → Spares o p row)
      × (free new.memory.frames ≡ free old.memory.frames)
  pub kept : (o p : ℕ) (row : PageRow) → row_at old.memory.resident o p ≡ Some row → row.here ≡ true → Spares o p row
      → row_at new.memory.resident o p ≡ Some row

-- those whose frames are skipped are spared
abbrev pub FreesBut : ℕ → List FrameNo → Reclaim → Parts → Parts → List Event → List Event → Type 0
FreesBut h skip answer old new before after = FreesWhere h (λ o p row. is_skipped skip row.frame.0 ≡ true) answer old new before after

-- one page is spared, and those of which an unlock is outstanding
abbrev pub FreesOrReturns : ℕ → Option PageKey → Reclaim → Parts → Parts → List Event → List Event → Type 0
FreesOrReturns h spared answer old new before after =
    FreesWhere h (λ o p row. (spared ≡ Some (page_key o p)) ⊎ (row.unlock_sent ≡ true)) answer old new before after

abbrev pub option_list : Option FrameNo → List FrameNo
option_list None = []
option_list (Some frame) = frame ∷ []

-- the frame of a page that is spared, if it is here
abbrev pub frame_spared : ResidentTable → Option PageKey → Option FrameNo
frame_spared resident None = None
frame_spared resident (Some key) = frame_here (row_at resident key.object.0 key.page.0)

-- the frames of the pages for whose unlocks accesses wait
abbrev pub frames_locked : ResidentTable → List Waiting → List FrameNo
frames_locked resident [] = []
frames_locked resident (w ∷ ws) = option_list (frame_spared resident (page_waited w.on)) ++ frames_locked resident ws

-- and of one more
abbrev pub frames_spared : ResidentTable → Option PageKey → List Waiting → List FrameNo
frames_spared resident spared rows = option_list (frame_spared resident spared) ++ frames_locked resident rows

abbrev pub is_unlocking : Option PageRow → Bool
is_unlocking None = false
is_unlocking (Some row) = row.unlock_sent

abbrev pub led_unlocking : ResidentTable → Option PageKey → Bool
led_unlocking resident None = false
led_unlocking resident (Some key) = is_unlocking (row_at resident key.object.0 key.page.0)

-- an unlock of the page in this frame is outstanding
abbrev pub awaits_unlock : ResidentTable → ℕ → Bool
awaits_unlock resident f = led_unlocking resident (owner_of resident f)

-- a reclaim spares this frame: it is that one, or an unlock of its page is outstanding
abbrev pub spares_frame : ResidentTable → Option FrameNo → ℕ → Bool
spares_frame resident one f = is_frame_of one f || awaits_unlock resident f

-- the frame of each page that is here and of which an unlock is outstanding is one of these
abbrev pub SkipLocked : ResidentTable → List FrameNo → Type 0
SkipLocked resident skip = (o p : ℕ) (row : PageRow) → row_at resident o p ≡ Some row → row.unlock_sent ≡ true → is_skipped skip row.frame.0 ≡ true

-- the frame queue is empty, or can't go on
abbrev pub QueueIsServed : Header → ℕ → Parts → List Event → Type 0
QueueIsServed header h k past = (queued k.waits.rows ≡ 0) ⊎ HostIsFull header h past

-- one access is to be run again, and no other
pub record IsNextAccess (task : ℕ) (rows : List Waiting) : Type 0 where
  pub some : count_again rows ≡ 0 → ⊥
  pub only : (t : ℕ) (w : Waiting) → entry rows t ≡ Some w → is_again w.on ≡ true → t ≡ task

-- where it finds its page, it has ended before anything else was done, and where it meets no control, it has failed
abbrev pub RunsFirst : Header → List Waiting → List Event → List Event → List Event → Type 0
RunsFirst header rows past before after = (task : ℕ) → IsNextAccess task rows → GoesNext header task past before after

-- somebody stands in the frame queue only while no frame is free
abbrev pub HasQueue : Header → ℕ → Parts → List Event → Type 0
HasQueue header h k past = (queued k.waits.rows ≡ 0) ⊎ (frames_free header h past ≡ 0)

-- an access is run that is to be run again, or that wants a frame
abbrev pub runs_now : On → Bool
runs_now reason = is_again reason || is_frame reason

-- an access on a declared region waits for a place of another object: that is the one to which it owes its page
abbrev pub is_pushing : ℕ → PageKey → Option Place → Bool
is_pushing declared key None = false
is_pushing declared key (Some place) = nat_lt place.region.0 declared && not (place.region.0 == key.object.0)

-- what an access waits for, where somebody's word on a page is outstanding
abbrev pub waits_at : Parts → Waiting → PageKey → On
waits_at k w key = if is_pushing (length k.declared.items) key (place_led k.maps w.task.0 w.want) then on.Push key else on.Page key
