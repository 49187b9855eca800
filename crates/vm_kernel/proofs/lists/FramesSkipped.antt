-- A page is reclaimed: so much room is left.
use Rattle.vm_kernel.proofs.Common.{Bool, ChainTable, Event, FrameNo, Header, HostId, HostParts, Ids, LaundryList, List, None, ObjectRow, Page, PageKey}
use Rattle.vm_kernel.proofs.Common.{PageRow, PagerState, Parts, Queues, Reclaim, ReclaimEffects, Rests, Some, WaitTable, [], ap, arith, controlled, false}
use Rattle.vm_kernel.proofs.Common.{frame_count, free, has_page, inl, inr, is_queued, is_skipped, length, refl, sends, some_is, sym, told_from, true, ℕ}
use Rattle.vm_kernel.proofs.Common.{◌&&◌, ◌++◌, ◌*◌, ◌+◌, ◌<◌, ◌==◌, ◌||◌, ◌∙◌, ◌∷◌, ◌≡◌, ◌≤◌, ◌⊎◌}
use Rattle.vm_kernel.proofs.room.RunPays.{loose_moves}
use Rattle.vm_kernel.specs.Rooms.{IsRoomy, LeavesRoom, Spends, frames_for_copies, if_copies, is_kept, loose_frames}
use Rattle.vm_base.specs.Listing.{Listed}
use Rattle.vm_copies.specs.Copies.{CopyTable}
use Rattle.std.specs.Prelude.{min}
use Rattle.vm_pageout.specs.Reclaims.{IsFreed, creation_events}
use Rattle.vm_pageout.specs.declared.answer.Reclaim.TheVariants as reclaim
use Rattle.vm_parts.specs.Listed.{listed_pages}
use Rattle.vm_waits.specs.Waits.{count_copies, one}
use Rattle.std.proofs.lemmas.List.{length-append}
use Rattle.vm_model.specs.declared.message.Message.TheVariants as message
use Rattle.vm_objects.specs.declared.row.PagerState.TheVariants as state

-- a page that is neither dirty nor precious isn't kept
clean_kept : (row : PageRow) → row.dirty ≡ false → row.precious ≡ false → one (is_kept row.frame.0 (Some row)) ≡ 0
clean_kept row clean plain =
    ap (λ b. one (row.frame.0 == row.frame.0 && (row.here && (b || row.precious)))) clean ∙ ap (λ b. one (row.frame.0 == row.frame.0 && (row.here && b))) plain
    ∙ by (row.frame.0 == row.frame.0) row.here
  where
    by : (a b : Bool) → one (a && (b && false)) ≡ 0
    by true true = refl
    by true false = refl
    by false b = refl

-- a frame has come free
freed_loose : {host : HostId} {skip : List FrameNo} {old new : HostParts} {was now : LaundryList} {before after : List Event}
    → IsFreed host skip old new was now before after → (loose_frames new ≡ loose_frames old) × (free new.frames ≡ free old.frames + 1)
freed_loose {old = old} {new = new} is =
    let moved : loose_frames new + one (is_kept is.row.frame.0 None) ≡ loose_frames old + one (is_kept is.row.frame.0 (Some is.row)) = loose_moves is.page in
    let none = clean_kept is.row is.clean is.plain in
    let gone : one (is_kept is.row.frame.0 None) ≡ 0 = refl in
    let left : free new.frames + 0 ≡ free old.frames + 1 = is.page.left in
    (omega (arith, moved, none, gone), omega (arith, left))

-- where no page is listed there is none to reclaim
pub none_listed : (lists : Queues) (f : ℕ) → listed_pages lists ≡ 0 → is_queued lists f ≡ true → ⊥
none_listed lists f none is =
    let both = length-append lists.inactive lists.active in
    by (lists.inactive ++ lists.active) (omega (arith, both, none)) is
  where
    by : (pages : List Page) → length pages ≡ 0 → has_page pages f ≡ true → ⊥
    by [] empty has = let bad : false ≡ true = has in cc
    by (page ∷ pages) empty has = omega (arith, empty)

-- two events are told at most, and one where the page is dropped
creation_most : (host : HostId) (key : PageKey) (size : ℕ) (row : ObjectRow) (events : List Event)
    → length (creation_events host key size row events) ≤ length events + 1
creation_most host key size row events = by row.state (sends host key (message.Create (controlled row).control size))
  where
    by : (told : PagerState) (e : Event) → length (told_from told e events) ≤ length events + 1
    by state.Without e = omega arith
    by state.Sent e = omega arith
    by state.Ready e = omega arith

pub reclaims_few : (answer : Reclaim) (host : HostId) (skip : List FrameNo) (old new : HostParts) (was now : LaundryList) (before after : List Event)
    → ReclaimEffects answer host skip old new was now before after → length after ≤ length before + 2
reclaims_few reclaim.Freed host skip old new was now before after is =
    let told = ap length is.events in
    omega (arith, told)
reclaims_few reclaim.Returned host skip old new was now before after is =
    let told = ap length is.events in
    let most = creation_most host is.key old.buffers.size is.object before in
    omega (arith, told, most)
reclaims_few reclaim.Nothing host skip old new was now before after is =
    let told = ap length is.events in
    omega (arith, told)

pub reclaims_single : (answer : Reclaim) (host : HostId) (skip : List FrameNo) (old new : HostParts) (was now : LaundryList) (before after : List Event)
    → ReclaimEffects answer host skip old new was now before after → answer ≡ reclaim.Freed → length after ≤ length before + 1
reclaims_single reclaim.Freed host skip old new was now before after is freed =
    let told = ap length is.events in
    omega (arith, told)
reclaims_single reclaim.Returned host skip old new was now before after is freed = absurd (let clash : reclaim.Returned ≡ reclaim.Freed = freed in cc)
reclaims_single reclaim.Nothing host skip old new was now before after is freed = absurd (let clash : reclaim.Nothing ≡ reclaim.Freed = freed in cc)

-- where a page is listed that isn't skipped, one is reclaimed
pub some_reclaimed : (answer : Reclaim) (host : HostId) (skip : List FrameNo) (old new : HostParts) (was now : LaundryList) (before after : List Event) (f : ℕ)
    → ReclaimEffects answer host skip old new was now before after → is_queued old.queues f ≡ true → is_skipped skip f ≡ false
    → answer ≡ reclaim.Nothing → ⊥
some_reclaimed reclaim.Freed host skip old new was now before after f is listed unskipped nothing = let clash : reclaim.Freed ≡ reclaim.Nothing = nothing in cc
some_reclaimed reclaim.Returned host skip old new was now before after f is listed unskipped nothing =
    let clash : reclaim.Returned ≡ reclaim.Nothing = nothing in cc
some_reclaimed reclaim.Nothing host skip old new was now before after f is listed unskipped nothing =
    let bad : true ≡ false = sym (is.skipped f listed) ∙ unskipped in cc

-- a page was dropped or went back
pub not_nothing : (answer : Reclaim) → (answer ≡ reclaim.Freed) ⊎ (answer ≡ reclaim.Returned) → answer ≡ reclaim.Nothing → ⊥
not_nothing answer (inl freed) nothing = let clash : reclaim.Freed ≡ reclaim.Nothing = sym freed ∙ nothing in cc
not_nothing answer (inr returned) nothing = let clash : reclaim.Returned ≡ reclaim.Nothing = sym returned ∙ nothing in cc

-- what a call of a reclaim leaves, once a victim was looked for
pub leaves_of : (answer : Reclaim) (host : HostId) (skip : List FrameNo) (k k2 : Parts) (was now : LaundryList) (before after : List Event) (room left : ℕ)
    → ReclaimEffects answer host skip k.memory k2.memory was now before after
    → room ≤ left + 2 → k.memory.buffers.count ≤ k2.memory.buffers.count + 1 → k.memory.resident.spare ≤ k2.memory.resident.spare
    → (answer ≡ reclaim.Freed → room ≤ left + 1) → (answer ≡ reclaim.Freed → k.memory.buffers.count ≤ k2.memory.buffers.count) → k2.chains ≡ k.chains
    → k2.copies ≡ k.copies
    → (answer ≡ reclaim.Nothing → listed_pages k2.memory.queues ≡ listed_pages k.memory.queues)
    × ((answer ≡ reclaim.Nothing → ⊥) → listed_pages k2.memory.queues + 1 ≡ listed_pages k.memory.queues) → LeavesRoom answer k k2 room left
leaves_of reclaim.Freed host skip k k2 was now before after room left is log buffers rows single whole chains copies listed =
    let all = freed_loose is in
    record {
      log = log;
      buffers = buffers;
      freed = λ same. record { log = single same; buffers = whole same; loose = all.0; free = all.1 };
      rows = rows;
      objects = by (ap (λ z. z.rows) is.objects);
      chains = chains;
      copies = copies;
      none = listed.0;
      fewer = listed.1;
    }
  where
    by : {a b : ℕ} → b ≡ a → a ≤ b
    by e = omega (arith, e)
leaves_of reclaim.Returned host skip k k2 was now before after room left is log buffers rows single whole chains copies listed =
    record {
      log = log;
      buffers = buffers;
      freed = λ bad. absurd (let clash : reclaim.Returned ≡ reclaim.Freed = bad in cc);
      rows = rows;
      objects = by is.rooms.rows;
      chains = chains;
      copies = copies;
      none = listed.0;
      fewer = listed.1;
    }
  where
    by : {a b : ℕ} → b ≡ a → a ≤ b
    by e = omega (arith, e)
leaves_of reclaim.Nothing host skip k k2 was now before after room left is log buffers rows single whole chains copies listed =
    record {
      log = log;
      buffers = buffers;
      freed = λ bad. absurd (let clash : reclaim.Nothing ≡ reclaim.Freed = bad in cc);
      rows = rows;
      objects = by (ap (λ z. z.rows) is.objects);
      chains = chains;
      copies = copies;
      none = listed.0;
      fewer = listed.1;
    }
  where
    by : {a b : ℕ} → b ≡ a → a ≤ b
    by e = omega (arith, e)

-- a victim was looked for first, which changes the order of the lists alone
pub leaves_looked : (answer : Reclaim) (k k2 : Parts) (queues : Queues) (before after : ℕ) → listed_pages queues ≡ listed_pages k.memory.queues
    → LeavesRoom answer (record k { memory = record k.memory { queues = queues } }) k2 before after → LeavesRoom answer k k2 before after
leaves_looked answer k k2 queues before after same r =
    record {
      log = r.log;
      buffers = r.buffers;
      freed = λ is. let f = r.freed is in record { log = f.log; buffers = f.buffers; loose = f.loose; free = f.free };
      rows = r.rows;
      objects = r.objects;
      chains = r.chains;
      copies = r.copies;
      none = λ nothing. r.none nothing ∙ same;
      fewer = λ apart. r.fewer apart ∙ same;
    }

-- what reclaims have taken since a pageout began: two events and a buffer at most for each page that they took off the lists
pub record Reclaimed (done : ℕ) (old new : Parts) (before after : Listed Event) : Type 0 where
  pub accesses : length new.waits.rows ≡ length old.waits.rows
  pub frames : frames_for_copies new ≡ frames_for_copies old
  pub told : length after.items + 2 * listed_pages new.memory.queues ≤ length before.items + 2 * listed_pages old.memory.queues
  pub room : before.room + 2 * listed_pages new.memory.queues ≤ after.room + 2 * listed_pages old.memory.queues
  pub rows : old.memory.resident.spare ≤ new.memory.resident.spare
  pub objects : old.memory.objects.rows ≤ new.memory.objects.rows
  pub shadows : new.chains.spare ≡ old.chains.spare
  pub marked : new.chains.marked ≡ old.chains.marked
  pub copies : new.copies.room ≡ old.copies.room
  pub each : old.memory.buffers.count ≤ new.memory.buffers.count + done
  pub listed : old.memory.buffers.count + listed_pages new.memory.queues ≤ new.memory.buffers.count + listed_pages old.memory.queues

pub none_reclaimed : (k : Parts) (log : Listed Event) → Reclaimed 0 k k log log
none_reclaimed k log =
    record {
      accesses = refl;
      frames = refl;
      told = omega arith;
      room = omega arith;
      rows = omega arith;
      objects = omega arith;
      shadows = refl;
      marked = refl;
      copies = refl;
      each = omega arith;
      listed = omega arith;
    }

-- no frame comes or goes
pub same_frames : (header : Header) (h : ℕ) (k k2 : Parts) (ids ids2 : Ids) (past past2 : List Event) → Rests header h k ids past → Rests header h k2 ids2 past2
    → frame_count k2.memory.frames ≡ frame_count k.memory.frames
same_frames header h k k2 ids ids2 past past2 rests rests2 =
    some_is (frame_count k2.memory.frames) (frame_count k.memory.frames) (sym rests2.matches.core.pages.counted.total ∙ rests.matches.core.pages.counted.total)

-- one more was reclaimed
pub one_reclaimed : (answer : Reclaim) (done : ℕ) (first k k2 : Parts) (begun log log2 : Listed Event) → Reclaimed done first k begun log
    → LeavesRoom answer k k2 log.room log2.room → (answer ≡ reclaim.Nothing → ⊥) → k2.waits ≡ k.waits
    → frame_count k2.memory.frames ≡ frame_count k.memory.frames
    → length log2.items ≤ length log.items + 2 → Reclaimed (done + 1) first k2 begun log2
one_reclaimed answer done first k k2 begun log log2 was leaves some waits frames few =
    let fewer = leaves.fewer some in
    let accesses : length k2.waits.rows ≡ length k.waits.rows = ap (λ (z : WaitTable). length z.rows) waits in
    let chains : k2.chains.spare ≡ k.chains.spare = ap (λ (z : ChainTable). z.spare) leaves.chains in
    let had = was in
    let left = leaves.log in
    let buffers = leaves.buffers in
    let rows = leaves.rows in
    let objects = leaves.objects in
    let each = was.each in
    let listed = was.listed in
    let told = was.told in
    let room = was.room in
    let rows0 = was.rows in
    let objects0 = was.objects in
    record {
      accesses = accesses ∙ was.accesses;
      frames =
          (ap (λ (z : WaitTable). if_copies (count_copies z.rows) (frame_count k2.memory.frames)) waits ∙ ap (if_copies (count_copies k.waits.rows)) frames)
          ∙ was.frames;
      told = omega (arith, fewer, few, told);
      room = omega (arith, fewer, left, room);
      rows = omega (arith, rows, rows0);
      objects = omega (arith, objects, objects0);
      shadows = chains ∙ was.shadows;
      marked = ap (λ (z : ChainTable). z.marked) leaves.chains ∙ was.marked;
      copies = ap (λ (z : CopyTable). z.room) leaves.copies ∙ was.copies;
      each = omega (arith, each, buffers);
      listed = omega (arith, listed, buffers, fewer);
    }

-- or none was left to be reclaimed
pub all_reclaimed : (answer : Reclaim) (done : ℕ) (first k k2 : Parts) (begun log log2 : Listed Event) → Reclaimed done first k begun log
    → LeavesRoom answer k k2 log.room log2.room → answer ≡ reclaim.Nothing → k2.waits ≡ k.waits → frame_count k2.memory.frames ≡ frame_count k.memory.frames
    → log2 ≡ log
    → k2.memory.buffers ≡ k.memory.buffers → Reclaimed done first k2 begun log2
all_reclaimed answer done first k k2 begun log log2 was leaves nothing waits frames same buffers =
    let none = leaves.none nothing in
    let accesses : length k2.waits.rows ≡ length k.waits.rows = ap (λ (z : WaitTable). length z.rows) waits in
    let chains : k2.chains.spare ≡ k.chains.spare = ap (λ (z : ChainTable). z.spare) leaves.chains in
    let items : length log2.items ≡ length log.items = ap (λ (z : Listed Event). length z.items) same in
    let place : log2.room ≡ log.room = ap (λ (z : Listed Event). z.room) same in
    let count : k2.memory.buffers.count ≡ k.memory.buffers.count = ap (λ z. z.count) buffers in
    let rows = leaves.rows in
    let objects = leaves.objects in
    let each = was.each in
    let listed = was.listed in
    let told = was.told in
    let room = was.room in
    let rows0 = was.rows in
    let objects0 = was.objects in
    record {
      accesses = accesses ∙ was.accesses;
      frames =
          (ap (λ (z : WaitTable). if_copies (count_copies z.rows) (frame_count k2.memory.frames)) waits ∙ ap (if_copies (count_copies k.waits.rows)) frames)
          ∙ was.frames;
      told = omega (arith, none, items, told);
      room = omega (arith, none, place, room);
      rows = omega (arith, rows, rows0);
      objects = omega (arith, objects, objects0);
      shadows = chains ∙ was.shadows;
      marked = ap (λ (z : ChainTable). z.marked) leaves.chains ∙ was.marked;
      copies = ap (λ (z : CopyTable). z.room) leaves.copies ∙ was.copies;
      each = omega (arith, each, count);
      listed = omega (arith, listed, count, none);
    }

-- so that is what a pageout spends
pub reclaimed_spends : (done : ℕ) (k k2 : Parts) (before after : Listed Event) → Reclaimed done k k2 before after
    → Spends (2 * listed_pages k.memory.queues) 0 0 k before k2 after
reclaimed_spends done k k2 before after was =
    let accesses = was.accesses in
    let frames = was.frames in
    let told = was.told in
    let room = was.room in
    let rows = was.rows in
    let objects = was.objects in
    let shadows = was.shadows in
    let marked = was.marked in
    let copies = was.copies in
    record {
      told = omega (arith, accesses, frames, told, marked);
      room = omega (arith, accesses, frames, room, marked);
      rows = omega (arith, accesses, frames, rows, marked);
      shadows = omega (arith, shadows, marked);
      objects = omega (arith, objects, marked);
      copies = omega (arith, copies);
    }

-- a buffer is left for the frame queue
pub reclaimed_spare : (done count : ℕ) (k k2 : Parts) (before after : Listed Event) → Reclaimed done k k2 before after → done ≤ count
    → min count (listed_pages k.memory.queues) + 1 ≤ k.memory.buffers.count → 0 < k2.memory.buffers.count
reclaimed_spare done count k k2 before after was most enough =
    let each = was.each in
    let listed = was.listed in
    omega (arith, each, listed, most, enough)

-- and there is room to reclaim one more, if there is one
pub reclaimed_room : (done : ℕ) (k k2 : Parts) (ids : Ids) (before after : Listed Event) → Reclaimed done k k2 before after
    → IsRoomy (2 * listed_pages k.memory.queues) 0 k before.room → 0 < listed_pages k2.memory.queues → 2 ≤ after.room
reclaimed_room done k k2 ids before after was roomy some =
    let room = was.room in
    let log = roomy.log in
    omega (arith, room, log, some)
