-- Room for a step: what is still to be told at most where accesses are run again and the queue is served, and what there is room for.
use Rattle.std.specs.Prelude.{Bool, List, None, Option, Some, false, if◌then◌else◌, length, min, nat_lt, suc, true, zero, ℕ, ◌&&◌, ◌*◌, ◌+◌, ◌-◌}
use Rattle.std.specs.Prelude.{◌<◌, ◌==◌, ◌||◌, ◌≡◌, ◌≤◌}
use Rattle.vm_base.specs.declared.ids.PageKey.{PageKey}
use Rattle.vm_base.specs.Limits.{most_pages}
use Rattle.vm_base.specs.Listing.{Listed}
use Rattle.vm_frames.specs.Frames.{FrameTable, frame_count, free}
use Rattle.vm_maps.specs.Maps.{rows_in}
use Rattle.vm_model.specs.declared.command.Command.{Command}
use Rattle.vm_model.specs.declared.command.Command.TheVariants as command
use Rattle.vm_model.specs.declared.event.Event.{Event}
use Rattle.vm_model.specs.declared.message.Message.{Message}
use Rattle.vm_model.specs.declared.message.Message.TheVariants as message
use Rattle.vm_pageout.specs.declared.answer.Reclaim.{Reclaim}
use Rattle.vm_pageout.specs.declared.answer.Reclaim.TheVariants as reclaim
use Rattle.vm_parts.specs.Listed.{listed_pages}
use Rattle.vm_parts.specs.declared.parts.HostParts.{HostParts}
use Rattle.vm_resident.specs.Resident.{ResidentTable, owner_of, row_at}
use Rattle.vm_resident.specs.declared.page_row.PageRow.{PageRow}
use Rattle.vm_shadow.specs.declared.ids.Ids.{Ids}
use Rattle.vm_supply.specs.declared.woken.Woken.{Woken}
use Rattle.vm_supply.specs.declared.woken.Woken.TheVariants as woken
use Rattle.vm_terminate.specs.Counts.{live_below}
use Rattle.vm_waits.specs.Waits.{count_again, count_copies, one, queued}
use Rattle.vm_waits.specs.declared.waiting.Waiting.{Waiting}
use Rattle.vm_kernel.specs.declared.breadth.Breadth.{Breadth}
use Rattle.vm_kernel.specs.declared.breadth.Breadth.TheVariants as breadth
use Rattle.vm_kernel.specs.declared.parts.Parts.{Parts}

-- a page that is here is changed or precious: only a return lets it go
abbrev pub is_kept : ℕ → Option PageRow → Bool
is_kept f None = false
is_kept f (Some row) = row.frame.0 == f && (row.here && (row.dirty || row.precious))

-- the page in a frame is
abbrev pub keeps_at : ResidentTable → ℕ → Option PageKey → Bool
keeps_at resident f None = false
keeps_at resident f (Some key) = is_kept f (row_at resident key.object.0 key.page.0)

-- how many of the frames below a number have such a page
abbrev pub kept_below : ResidentTable → ℕ → ℕ
kept_below resident zero = 0
kept_below resident (suc f) = one (keeps_at resident f (owner_of resident f)) + kept_below resident f

-- how many frames have none
abbrev pub loose_frames : HostParts → ℕ
loose_frames parts = frame_count parts.frames - kept_below parts.resident (frame_count parts.frames)

-- one where no frame is free
abbrev pub one_if_full : FrameTable → ℕ
one_if_full frames = one (free frames == 0)

-- the accesses that are to be run: those to be run again, and those that wait for a frame
abbrev pub to_run : List Waiting → ℕ
to_run rows = count_again rows + queued rows

-- as many, where some slow copies wait
abbrev pub if_copies : ℕ → ℕ → ℕ
if_copies zero n = 0
if_copies (suc copies) n = n

-- What is still to be told, at most: three events for each access that is to be run, and the shadow of each region that is marked; and where slow copies wait,
-- for each frame that may get another page the end of the page that it has and the page that a slow copy puts there.
abbrev pub dues : Parts → ℕ
dues k = 3 * to_run k.waits.rows + k.chains.marked + 2 * if_copies (count_copies k.waits.rows) (loose_frames k.memory) + one_if_full k.memory.frames

-- There is room for what is still to be told, and for so many events more; each event comes with one row of a page at most, and a shadow with one object.
pub record HasRoom (more : ℕ) (k : Parts) (room : ℕ) : Type 0 where
  pub log : dues k + more ≤ room
  pub rows : dues k ≤ k.memory.resident.spare
  pub shadows : k.chains.marked ≤ k.chains.spare
  pub objects : k.chains.marked ≤ k.memory.objects.rows

-- each frame, where slow copies wait
abbrev pub frames_for_copies : Parts → ℕ
frames_for_copies k = if_copies (count_copies k.waits.rows) (frame_count k.memory.frames)

-- the same for as many accesses as wait, and whatever the frames have: what is enough behind anything that a command or a message does first
abbrev pub full_dues : Parts → ℕ
full_dues k = 3 * length k.waits.rows + k.chains.marked + 2 * frames_for_copies k + 1

-- there is room for that, for so many events more, and in each table for so many rows more
pub record IsRoomy (more rows_more : ℕ) (k : Parts) (room : ℕ) : Type 0 where
  pub log : full_dues k + more ≤ room
  pub rows : full_dues k + rows_more ≤ k.memory.resident.spare
  pub shadows : k.chains.marked + rows_more ≤ k.chains.spare
  pub objects : k.chains.marked + rows_more ≤ k.memory.objects.rows
  pub copies : rows_more ≤ k.copies.room

-- What a call in front of the accesses that are run has told and taken, where it had so much in hand and has so much left: no more events than it had in hand;
-- and no more rows, shadows, objects and copy objects than it makes.
pub record Spends (hand makes left : ℕ) (old : Parts) (before : Listed Event) (new : Parts) (after : Listed Event) : Type 0 where
  pub told : length after.items + (full_dues new + left) ≤ length before.items + (full_dues old + hand)
  pub room : before.room + (full_dues new + left) ≤ after.room + (full_dues old + hand)
  pub rows : old.memory.resident.spare + full_dues new ≤ new.memory.resident.spare + (full_dues old + makes)
  pub shadows : old.chains.spare + new.chains.marked ≤ new.chains.spare + (old.chains.marked + makes)
  pub objects : old.memory.objects.rows + new.chains.marked ≤ new.memory.objects.rows + (old.chains.marked + makes)
  pub copies : old.copies.room ≤ new.copies.room + makes

-- what the end of all regions would tell: each page that is here leaves, and each control that lives ends
abbrev pub leaving : Parts → Ids → ℕ
leaving k ids = listed_pages k.memory.queues + live_below k.memory.objects ids.next_object

-- the pages here that an end may send back: none where no object is declared
abbrev pub returning : Parts → ℕ
returning k = if length k.declared.items == 0 then 0 else listed_pages k.memory.queues

-- there is a buffer for each of them, and for one page more
abbrev pub HasBuffers : Parts → Type 0
HasBuffers k = returning k + 1 ≤ k.memory.buffers.count

-- how much a command may tell
abbrev pub breadth_of : Command → Breadth
breadth_of (command.Fork task child) = breadth.Entries task
breadth_of (command.Exit task) = breadth.Ends task
breadth_of (command.Deallocate task address bytes) = breadth.Ends task
breadth_of (command.Pageout host count) = breadth.Pages
breadth_of (command.Copy task address bytes target to) = breadth.Frames
breadth_of other = breadth.Few

-- how much the word of a pager may tell
abbrev pub word_breadth : Message → Breadth
word_breadth (message.Lock page count returns flush lock reply) = breadth.Pages
word_breadth (message.Error page reason) = breadth.Pages
word_breadth (message.Ready cache strategy) = breadth.Pages
word_breadth (message.Attributes cache strategy reply) = breadth.Pages
word_breadth (message.Destroy reason) = breadth.Pages
word_breadth other = breadth.Few

-- what a fork of a task tells and makes at most: it makes a task, and copies each entry
abbrev pub of_entries : ℕ → Parts → ℕ
of_entries task k = 1 + 4 * length (rows_in task k.maps)

-- What is told at most in front of the accesses that are run: some events; a fork makes a task and copies entries; a copy may wait for its pages, and then each
-- frame counts twice; an end takes each page and each control, and then one object may be merged for each entry of the task; a pageout reclaims each page, of
-- which a new pager may be told, a lock request may have each page given back, an error may end slow copies, and a flag that goes, or a pager, may end an
-- object.
abbrev pub front : Breadth → Parts → ℕ
front breadth.Few k = 5
front (breadth.Entries task) k = of_entries task.0 k
front breadth.Frames k = 2 * frame_count k.memory.frames + 5
front breadth.Pages k = 2 * frame_count k.memory.frames + length k.memory.objects.entries + 1
front (breadth.Ends task) k = 2 * frame_count k.memory.frames + length k.memory.objects.entries + 1 + length (rows_in task.0 k.maps)

-- what the word itself tells at most: a lock request has each page given back, and has its reply; a flag that goes may end an object, and so does a pager
abbrev pub heeding : Message → Parts → Ids → ℕ
heeding (message.Lock page count returns flush lock reply) k ids = listed_pages k.memory.queues + 1
heeding (message.Ready cache strategy) k ids = 1 + leaving k ids
heeding (message.Attributes cache strategy reply) k ids = 1 + leaving k ids
heeding (message.Destroy reason) k ids = listed_pages k.memory.queues + 1
heeding other k ids = 1

-- the word may end an object
abbrev pub may_end : Message → Bool
may_end (message.Ready cache strategy) = true
may_end (message.Attributes cache strategy reply) = true
may_end other = false

-- and what the end of those tells whom it fails
abbrev pub waking : Woken → Parts → Ids → ℕ
waking (woken.Fails key) k ids = leaving k ids
waking other k ids = 0

-- a word that fails accesses may tell of pages, and leaves these and the objects
pub record Dies (m : Message) (old new : Parts) : Type 0 where
  pub breadth : word_breadth m ≡ breadth.Pages
  pub stays : may_end m ≡ false
  pub queues : new.memory.queues ≡ old.memory.queues
  pub objects : new.memory.objects ≡ old.memory.objects

-- how many rows of each table that takes, at most
abbrev pub making : Breadth → Parts → ℕ
making breadth.Few k = 5
making (breadth.Entries task) k = of_entries task.0 k
making breadth.Frames k = 2 * frame_count k.memory.frames + 5
making breadth.Pages k = 0
making (breadth.Ends task) k = 0

-- how many events a step adds on the host at most
abbrev pub most : Breadth → Parts → ℕ
most breadth k = full_dues k + front breadth k + 2

-- there is room for a step in the tables of a host
pub record IsReady (breadth : Breadth) (k : Parts) : Type 0 where
  pub rows : full_dues k + making breadth k ≤ k.memory.resident.spare
  pub shadows : k.chains.marked + making breadth k ≤ k.chains.spare
  pub objects : k.chains.marked + making breadth k ≤ k.memory.objects.rows
  pub copies : making breadth k ≤ k.copies.room
  pub mark : 0 < k.memory.objects.marks
  pub access : 0 < k.waits.room
  pub buffers : HasBuffers k

-- there is room for so many events and rows in front of the accesses that are run, and behind those in the log for so many events more
pub record HasMore (first makes more : ℕ) (k : Parts) (room : ℕ) : Type 0 where
  pub tables : IsRoomy first makes k room
  pub log : full_dues k + (first + more) ≤ room

-- the room of each table of a host
pub record Rooms : Type 0 where
  pub rows : ℕ
  pub objects : ℕ
  pub marks : ℕ
  pub shadows : ℕ
  pub copies : ℕ
  pub buffers : ℕ
  pub accesses : ℕ

abbrev pub memory_with : Rooms → HostParts → HostParts
memory_with rooms memory = record {
  frames = memory.frames;
  resident = record memory.resident { spare = rooms.rows };
  queues = memory.queues;
  objects = record memory.objects { rows = rooms.objects; marks = rooms.marks };
  buffers = record memory.buffers { count = rooms.buffers };
}

-- the kernel with other rooms
abbrev pub with_rooms : Rooms → Parts → Parts
with_rooms rooms k = record k {
  memory = memory_with rooms k.memory;
  chains = record k.chains { spare = rooms.shadows };
  copies = record k.copies { room = rooms.copies };
  waits = record k.waits { room = rooms.accesses };
}

-- a frame has come free, and each page that is kept stays: an event was told, and no buffer was taken
pub record FreesFrame (old new : HostParts) (before after : ℕ) : Type 0 where
  pub log : before ≤ after + 1
  pub buffers : old.buffers.count ≤ new.buffers.count
  pub loose : loose_frames new ≡ loose_frames old
  pub free : free new.frames ≡ free old.frames + 1

-- what a reclaim leaves of the room: it tells two events at most, and takes one buffer at most
pub record LeavesRoom (answer : Reclaim) (old new : Parts) (before after : ℕ) : Type 0 where
  pub log : before ≤ after + 2
  pub buffers : old.memory.buffers.count ≤ new.memory.buffers.count + 1
  pub freed : answer ≡ reclaim.Freed → FreesFrame old.memory new.memory before after
  pub rows : old.memory.resident.spare ≤ new.memory.resident.spare
  pub objects : old.memory.objects.rows ≤ new.memory.objects.rows
  pub chains : new.chains ≡ old.chains
  pub copies : new.copies ≡ old.copies
  pub none : answer ≡ reclaim.Nothing → listed_pages new.memory.queues ≡ listed_pages old.memory.queues
  pub fewer : (answer ≡ reclaim.Nothing → ⊥) → listed_pages new.memory.queues + 1 ≡ listed_pages old.memory.queues

-- what a reclaim takes of the kernel's own parts is there still: a buffer
pub record KeepsSpare (old new : Parts) : Type 0 where
  pub buffers : new.memory.buffers ≡ old.memory.buffers

-- there is room to serve the queue: for what is still to be told, for a page that is returned, and for so many events more
pub record ServeRoom (more : ℕ) (k : Parts) (room : ℕ) : Type 0 where
  pub has : HasRoom (more + 2) k room
  pub buffers : 0 < k.memory.buffers.count

-- somebody stands in the frame queue of the host
abbrev pub has_queue : Parts → Bool
has_queue k = nat_lt 0 (queued k.waits.rows)

-- what a host tells at most where it serves its queue: what is still to be told, and a page that is returned at last; and nothing where nobody stands in it
abbrev pub own_dues : Parts → ℕ
own_dues k = if has_queue k then dues k + 2 else 0

-- there is room in a host's tables to serve its queue
pub record CanServeOn (k : Parts) : Type 0 where
  pub rows : dues k ≤ k.memory.resident.spare
  pub shadows : k.chains.marked ≤ k.chains.spare
  pub objects : k.chains.marked ≤ k.memory.objects.rows
  pub buffers : 0 < k.memory.buffers.count

-- there is room for a host to serve its queue, for which it wants none where nobody stands in it, and in the log for so many events more
pub record MayServe (more : ℕ) (k : Parts) (room : ℕ) : Type 0 where
  pub tables : has_queue k ≡ true → CanServeOn k
  pub log : own_dues k + more ≤ room

-- the front wanted a frame: there is room to serve on, or it has to wait, and then there is room for so many events more
pub record StopsRoom (stops : Bool) (more : ℕ) (k : Parts) (room : ℕ) : Type 0 where
  pub on : stops ≡ false → ServeRoom more k room
  pub off : stops ≡ true → more ≤ room

abbrev pub rooms_of : Parts → Rooms
rooms_of k = record {
  rows = k.memory.resident.spare;
  objects = k.memory.objects.rows;
  marks = k.memory.objects.marks;
  shadows = k.chains.spare;
  copies = k.copies.room;
  buffers = k.memory.buffers.count;
  accesses = k.waits.room;
}

-- one kernel with the rooms of another
abbrev pub with_rooms_of : Parts → Parts → Parts
with_rooms_of new old = with_rooms (rooms_of new) old

-- the kernel with so many buffers
abbrev pub with_buffers : ℕ → Parts → Parts
with_buffers count k = record k { memory = record k.memory { buffers = record k.memory.buffers { count = count } } }

-- the kernel with room for so many further rows of pages
abbrev pub with_rows : ℕ → Parts → Parts
with_rows n k = record k { memory = record k.memory { resident = record k.memory.resident { spare = n } } }

-- there is room for the pages of so many objects, beside so many rows
abbrev pub HasRowsFor : ℕ → ℕ → Parts → Type 0
HasRowsFor objects n k = n + objects * most_pages ≤ k.memory.resident.spare

-- there are buffers for the pages that a command returns in front of the accesses that are run, and for one more
abbrev pub HasReturns : Command → Parts → Type 0
HasReturns (command.Pageout host count) k = min count (listed_pages k.memory.queues) + 1 ≤ k.memory.buffers.count
HasReturns other k = Unit {0}
