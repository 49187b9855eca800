-- What becomes of one page of a host, and of its frame.
use Rattle.std.specs.Prelude.{ℕ, ◌+◌, ◌-◌, ◌<◌, ◌≡◌, ◌==◌, ◌&&◌, Bool, true, false, List, ◌++◌, Option, Some, None, IfSome, if◌then◌else◌, is_some, length, not}
use Rattle.std.specs.Prelude.{replicate, set}
use Rattle.vm_base.specs.declared.ids.FrameNo.{FrameNo}
use Rattle.vm_base.specs.declared.ids.Lock.{Lock}
use Rattle.vm_base.specs.declared.ids.PageKey.{PageKey}
use Rattle.vm_frames.specs.Frames.{FrameTable, claimed, frame_count, free, is_claimed, page_in}
use Rattle.vm_queues.specs.Queues.{Queues, added, is_queued, queues_except}
use Rattle.vm_resident.specs.Resident.{PutsOwner, PutsRow, owner_of, row_at}
use Rattle.vm_resident.specs.declared.page_row.PageRow.{PageRow}
use Rattle.vm_parts.specs.Locks.{lock_after}
use Rattle.vm_parts.specs.declared.parts.HostParts.{HostParts}

abbrev pub unlocked : Lock
unlocked = record { read = false; write = false }

-- the row of a page that is asked
abbrev pub asking_row : FrameNo → PageRow
asking_row frame = record { frame = frame; lock = unlocked; dirty = false; precious = false; here = false; unlock_sent = false }

-- the row of a page that has come, clean
abbrev pub clean_row : FrameNo → Lock → Bool → PageRow
clean_row frame lock precious = record { frame = frame; lock = lock; dirty = false; precious = precious; here = true; unlock_sent = false }

-- the row of a page that is asked: it has one, and isn't here
abbrev pub asked_row : Option PageRow → Option PageRow
asked_row None = None
asked_row (Some row) = if row.here then None else Some row

-- the page is here
abbrev pub is_here : Option PageRow → Bool
is_here None = false
is_here (Some row) = row.here

-- the page to which the frame of a row leads
abbrev pub led : PageKey → Option PageRow → Option PageKey
led key None = None
led key (Some row) = Some key

-- a row is that of a page in the frame
abbrev pub IsIn : FrameNo → Option PageRow → Type 0
IsIn frame row = IfSome row (λ r. r.frame ≡ frame)

abbrev pub one : Bool → ℕ
one is = if is then 1 else 0

-- these bytes, and zeros behind them
abbrev pub filled : ℕ → List ℕ → List ℕ
filled size bytes = bytes ++ replicate (size - length bytes) 0

-- one frame has these bytes now, and each other those that it had
pub record PutsPage (f : ℕ) (bytes : List ℕ) (old new : FrameTable) : Type 0 where
  pub at : (g : ℕ) → page_in new g ≡ (if f == g then bytes else page_in old g)

-- one frame is claimed now, or not, and each other as it was
pub record PutsClaim (f : ℕ) (is : Bool) (old new : FrameTable) : Type 0 where
  pub at : (g : ℕ) → is_claimed new g ≡ (if f == g then is else is_claimed old g)

-- the frames with one claimed or not, and with these bytes in it
abbrev pub with_frame : ℕ → Bool → List ℕ → FrameTable → FrameTable
with_frame f held bytes table = record { pages = set table.pages f bytes; claims = set table.claims f held; wired = table.wired }

-- A page and a frame change. The page had this row in the frame, or had none, and then the frame was free; it was on a list exactly where it was here.
-- Now it has that row, or none; the frame is claimed or not, and has these bytes; the lists are these. No other page or frame has changed.
pub record Changes (key : PageKey) (frame : FrameNo) (was now : Option PageRow) (held : Bool) (bytes : List ℕ) (lists : Queues) (old new : HostParts) : Type 0
  where
    pub found : row_at old.resident key.object.0 key.page.0 ≡ was
    pub was_in : IsIn frame was
    pub inside : frame.0 < frame_count old.frames
    pub had : is_claimed old.frames frame.0 ≡ is_some was
    pub owned : owner_of old.resident frame.0 ≡ led key was
    pub listed : is_queued old.queues frame.0 ≡ is_here was
    pub row : PutsRow key.object.0 key.page.0 now old.resident new.resident
    pub now_in : IsIn frame now
    pub owner : PutsOwner frame.0 (led key now) old.resident new.resident
    pub frames : new.frames ≡ with_frame frame.0 held bytes old.frames
    pub page : PutsPage frame.0 bytes old.frames new.frames
    pub claim : PutsClaim frame.0 held old.frames new.frames
    pub claims : claimed new.frames + one (is_some was) ≡ claimed old.frames + one held
    pub left : free new.frames + one held ≡ free old.frames + one (is_some was)
    pub queues : new.queues ≡ lists
    pub lists_are : (g : ℕ) → is_queued new.queues g ≡ (if frame.0 == g then is_here now else is_queued old.queues g)

-- a page that isn't here is asked, and holds a frame that was free
abbrev pub AsksPage : PageKey → FrameNo → HostParts → HostParts → Type 0
AsksPage key frame old new = Changes key frame None (Some (asking_row frame)) true (page_in old.frames frame.0) old.queues old new

-- a page of zeros has come into a frame that was free
abbrev pub Brings : PageKey → FrameNo → HostParts → HostParts → Type 0
Brings key frame old new = Changes key frame None (Some (clean_row frame unlocked false)) true (replicate old.buffers.size 0) (added frame.0 old.queues) old new

-- a copy of another page, with these bytes, has come into a frame that was free; it is dirty
abbrev pub RaisesPage : PageKey → FrameNo → List ℕ → HostParts → HostParts → Type 0
RaisesPage key frame bytes old new =
    Changes key frame None (Some (record (clean_row frame unlocked false) { dirty = true })) true bytes (added frame.0 old.queues) old new

-- a page that was asked has come into the frame that it held, with these bytes
abbrev pub FillsPage : PageKey → PageRow → Lock → Bool → List ℕ → HostParts → HostParts → Type 0
FillsPage key was lock precious bytes old new =
    Changes key was.frame (Some was) (Some (clean_row was.frame lock precious)) true bytes (added was.frame.0 old.queues) old new

-- a page that is here has these bytes, and is dirty
abbrev pub Writes : PageKey → PageRow → List ℕ → HostParts → HostParts → Type 0
Writes key row bytes old new = Changes key row.frame (Some row) (Some (record row { dirty = true })) true bytes old.queues old new

-- an unlock of a page that is here is outstanding
abbrev pub NotesUnlock : PageKey → PageRow → HostParts → HostParts → Type 0
NotesUnlock key row old new =
    Changes key row.frame (Some row) (Some (record row { unlock_sent = true })) true (page_in old.frames row.frame.0) old.queues old new

-- the row of a page that is given a lock, or keeps its own, and is clean and not precious where its pager has been sent it
abbrev pub relocked : Option Lock → Bool → PageRow → PageRow
relocked lock saved row =
    record row { lock = lock_after lock row.lock; dirty = not saved && row.dirty; precious = not saved && row.precious; unlock_sent = false }

-- a page that is here is locked so, and no unlock of it is outstanding any more
abbrev pub Relocks : PageKey → PageRow → Option Lock → Bool → HostParts → HostParts → Type 0
Relocks key row lock saved old new = Changes key row.frame (Some row) (Some (relocked lock saved row)) true (page_in old.frames row.frame.0) old.queues old new

-- a page that was asked is asked no more, and its frame is free
abbrev pub Cancels : PageKey → PageRow → HostParts → HostParts → Type 0
Cancels key was old new = Changes key was.frame (Some was) None false (page_in old.frames was.frame.0) old.queues old new

-- a page that was here has gone, and its frame stays claimed
abbrev pub Removes : PageKey → PageRow → HostParts → HostParts → Type 0
Removes key row old new = Changes key row.frame (Some row) None true (page_in old.frames row.frame.0) (queues_except row.frame.0 old.queues) old new

-- a page that was here has gone, and its frame is free
abbrev pub Discards : PageKey → PageRow → HostParts → HostParts → Type 0
Discards key row old new = Changes key row.frame (Some row) None false (page_in old.frames row.frame.0) (queues_except row.frame.0 old.queues) old new

-- A page that was here, with this row, is another page now, which had no row: all of the row goes there, in the same frame. The lists name pages by their
-- frames, so it keeps its place and its mark. No other page has changed.
pub record ShiftsPage (from to : PageKey) (row : PageRow) (old new : HostParts) : Type 0 where
  pub found : row_at old.resident from.object.0 from.page.0 ≡ Some row
  pub vacant : row_at old.resident to.object.0 to.page.0 ≡ None
  pub rows : (o p : ℕ) → row_at new.resident o p ≡ (if to.object.0 == o && to.page.0 == p then Some row else
      (if from.object.0 == o && from.page.0 == p then None else row_at old.resident o p))
  pub owner : PutsOwner row.frame.0 (Some to) old.resident new.resident
  pub frames : new.frames ≡ old.frames
  pub queues : new.queues ≡ old.queues
