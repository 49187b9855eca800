-- A kernel that has room for a step.
use Rattle.vm_kernel.proofs.Common.{Err, Event, Header, List, Mapped, Ok, OnOk, Parts, Result, Rests, Starts, ap, arith, frame_count, length, refl, rows_in}
use Rattle.vm_kernel.proofs.Common.{subst, sym, ℕ, ◌*◌, ◌+◌}
use Rattle.vm_kernel.proofs.Common.{◌∙◌, ◌≡◌, ◌≤◌}
use Rattle.vm_kernel.proofs.room.OtherRoom.{rests_roomier}
use Rattle.vm_kernel.specs.declared.breadth.Breadth.{Breadth}
use Rattle.vm_kernel.specs.declared.breadth.Breadth.TheVariants as wide
use Rattle.vm_kernel.specs.Rooms.{HasMore, IsReady, front, if_copies, making, most, returning, rooms_of, with_buffers, with_rooms_of}
use Rattle.vm_model.specs.declared.command.Command.{Command}
use Rattle.vm_shadow.specs.declared.ids.Ids.{Ids}
use Rattle.vm_waits.specs.Waits.{count_copies}

-- as much may be told in front where the maps are the same, and there are as many frames and objects
pub front_same : (breadth : Breadth) (k new : Parts) → new.maps ≡ k.maps → frame_count new.memory.frames ≡ frame_count k.memory.frames
    → length new.memory.objects.entries ≡ length k.memory.objects.entries → front breadth new ≡ front breadth k
front_same wide.Few k new maps frames known = refl
front_same (wide.Entries task) k new maps frames known = ap (λ (z : Mapped). 1 + 4 * length (rows_in task.0 z)) maps
front_same wide.Frames k new maps frames known = omega (arith, frames)
front_same wide.Pages k new maps frames known = omega (arith, frames, known)
front_same (wide.Ends task) k new maps frames known =
    let rows = ap (λ (z : Mapped). length (rows_in task.0 z)) maps in omega (arith, frames, known, rows)

-- and as much is made
pub making_same : (breadth : Breadth) (k new : Parts) → new.maps ≡ k.maps → frame_count new.memory.frames ≡ frame_count k.memory.frames
    → making breadth new ≡ making breadth k
making_same wide.Few k new maps frames = refl
making_same (wide.Entries task) k new maps frames = ap (λ (z : Mapped). 1 + 4 * length (rows_in task.0 z)) maps
making_same wide.Frames k new maps frames = omega (arith, frames)
making_same wide.Pages k new maps frames = refl
making_same (wide.Ends task) k new maps frames = refl

-- a frame that is given back leaves the room
module _ (breadth : Breadth) (k new : Parts) (is : new ≡ record k { memory = record k.memory { frames = new.memory.frames }; laundry = new.laundry })
    (frames : frame_count new.memory.frames ≡ frame_count k.memory.frames) where
  front_washed : front breadth new ≡ front breadth k
  front_washed = front_same breadth k new (ap (λ (z : Parts). z.maps) is) frames (ap (λ (z : Parts). length z.memory.objects.entries) is)

  copied_washed : if_copies (count_copies new.waits.rows) (frame_count new.memory.frames) ≡ if_copies (count_copies k.waits.rows) (frame_count k.memory.frames)
  copied_washed =
      ap (λ (z : Parts). if_copies (count_copies z.waits.rows) (frame_count new.memory.frames)) is ∙ ap (if_copies (count_copies k.waits.rows)) frames

  pub most_washed : most breadth new ≡ most breadth k
  most_washed =
      let rows = ap (λ (z : Parts). length z.waits.rows) is in
      let marked = ap (λ (z : Parts). z.chains.marked) is in
      let copied = copied_washed in
      let same = front_washed in
      omega (arith, rows, marked, copied, same)

  pub ready_washed : IsReady breadth k → IsReady breadth new
  ready_washed was =
      let spare = ap (λ (z : Parts). z.memory.resident.spare) is in
      let shadows = ap (λ (z : Parts). z.chains.spare) is in
      let marked = ap (λ (z : Parts). z.chains.marked) is in
      let objects = ap (λ (z : Parts). z.memory.objects.rows) is in
      let copies = ap (λ (z : Parts). z.copies.room) is in
      let marks = ap (λ (z : Parts). z.memory.objects.marks) is in
      let room = ap (λ (z : Parts). z.waits.room) is in
      let count = ap (λ (z : Parts). z.memory.buffers.count) is in
      let here = ap returning is in
      let rows = ap (λ (z : Parts). length z.waits.rows) is in
      let copied = copied_washed in
      let made = making_same breadth k new (ap (λ (z : Parts). z.maps) is) frames in
      record {
        rows = omega (arith, was.rows, rows, copied, marked, made, spare);
        shadows = omega (arith, was.shadows, marked, made, shadows);
        objects = omega (arith, was.objects, marked, made, objects);
        copies = omega (arith, was.copies, made, copies);
        mark = omega (arith, was.mark, marks);
        access = omega (arith, was.access, room);
        buffers = omega (arith, was.buffers, here, count);
      }

-- more buffers leave it, and all that the kernel stands for
module _ (k : Parts) (count : ℕ) where
  pub rests_buffers : (header : Header) (h : ℕ) (ids : Ids) (past : List Event) → Rests header h k ids past → Rests header h (with_buffers count k) ids past
  rests_buffers header h ids past rests = rests_roomier header h (record (rooms_of k) { buffers = count }) k ids past rests

  pub starts_buffers : (header : Header) (h : ℕ) (doing : Command) (past : List Event) (ids : Ids) (events : List Event)
      → Starts header h doing past k ids events → Starts header h doing past (with_buffers count k) ids events
  starts_buffers header h doing past ids events was = record {
    rests = rests_buffers header h ids (past) was.rests;
    acts = was.acts;
    range = was.range;
    accepted = was.accepted;
    begins = was.begins;
    nothing = was.nothing;
  }

  pub front_buffers : (breadth : Breadth) → front breadth (with_buffers count k) ≡ front breadth k
  front_buffers breadth = front_same breadth k (with_buffers count k) refl refl refl

  pub most_buffers : (breadth : Breadth) → most breadth (with_buffers count k) ≡ most breadth k
  most_buffers breadth = let same = front_buffers breadth in omega (arith, same)

  making_buffers : (breadth : Breadth) → making breadth (with_buffers count k) ≡ making breadth k
  making_buffers breadth = making_same breadth k (with_buffers count k) refl refl

  pub ready_buffers : (breadth : Breadth) → k.memory.buffers.count ≤ count → IsReady breadth k → IsReady breadth (with_buffers count k)
  ready_buffers breadth more was =
      let made = making_buffers breadth in
      record {
        rows = omega (arith, was.rows, made);
        shadows = omega (arith, was.shadows, made);
        objects = omega (arith, was.objects, made);
        copies = omega (arith, was.copies, made);
        mark = was.mark;
        access = was.access;
        buffers = omega (arith, was.buffers, more);
      }

-- there is room for what comes first, and for so many events more
pub ready_more : (breadth : Breadth) (k : Parts) (room more : ℕ) → IsReady breadth k → most breadth k + more ≤ room
    → HasMore (front breadth k) (making breadth k) (more + 2) k room
ready_more breadth k room more ready log = record {
  tables = record {
    log = omega (arith, log);
    rows = ready.rows;
    shadows = ready.shadows;
    objects = ready.objects;
    copies = ready.copies;
  };
  log = omega (arith, log);
}

-- one kernel with more buffers than another has its rooms, and is else as it was
pub buffers_rooms : (k new : Parts) (count : ℕ) → new ≡ with_buffers count k → new ≡ with_rooms_of new k
buffers_rooms k new count is = subst (λ (z : Parts). z ≡ with_rooms_of z k) (sym is) refl

pub always : {A B : Type 0} (r : Result A B) (P : Type 0) → P → OnOk r P
always (Ok x) P p = p
always (Err e) P p = tt
