-- What merges spend: an event each, and a row for each page that moves. For these there is room in front of all changes.
use Rattle.std.specs.Prelude.{Bool, true, false, ◌==◌, if◌then◌else◌}
use Rattle.vm_base.specs.Limits.{most_pages}
use Rattle.vm_base.specs.Listing.{Listed}
use Rattle.vm_base.specs.declared.ids.ObjectId.{ObjectId}
use Rattle.vm_base.specs.declared.ids.PageKey.{PageKey}
use Rattle.vm_kernel.proofs.Common.{ChainTable, Command, EachOf, Entry, Err, Event, Header, HostParts, Ids, List, MapChange, Ok, OnOk, Parts, Rests, Result}
use Rattle.vm_kernel.proofs.Common.{Starts, [], ap}
use Rattle.vm_kernel.proofs.Common.{arith, by_address, cut, entries_in, frame_count, length, length-reverse, rows_in, Some, unwrap_or, length-append, max, min}
use Rattle.vm_kernel.proofs.Common.{nat_lt, parts_for, parts_in, of_both, subst, sym, ℕ, ◌*◌, ◌+◌, ◌-◌, ◌<◌, ◌∙◌, ◌∷◌, ◌≡◌, ◌≤◌, ◌^◌}
use Rattle.std.specs.Prelude.{IsOk, OnErr}
use Rattle.vm_kernel.proofs.room.CallsSpend.{never_err}
use Rattle.vm_kernel.proofs.room.EndsSpend.{framed}
use Rattle.vm_kernel.proofs.steps.EventsGrow.{on_ok}
use Rattle.vm_kernel.proofs.room.OtherRoom.{rests_roomier}
use Rattle.vm_kernel.proofs.space.EntriesAtBoundary.{one_at_most}
use Rattle.vm_kernel.specs.Endings.{IsMerge, MergesOnly}
use Rattle.vm_kernel.specs.Rooms.{HasBuffers, HasRowsFor, IsRoomy, Spends, full_dues, leaving, rooms_of, with_rows}
use Rattle.vm_kernel.specs.Turns.{QueueIsStill, RunsNone}
use Rattle.vm_merge.specs.Merges.{MergeInTurn, MergeState, NoneLeft, OneFirst}
use Rattle.vm_model.specs.declared.event.Event.TheVariants as event
use Rattle.vm_parts.proofs.Lists.{except_fewer}
use Rattle.vm_parts.specs.Listed.{listed_pages}
use Rattle.vm_parts.specs.Merging.{Goes, MovesUp, Next, NoMore, PageMerges, PagesMerge}
use Rattle.vm_resident.specs.declared.page_row.PageRow.{PageRow}

-- merges list no page more

page_lists : {upper : ObjectId} {shift pages : ℕ} {key : PageKey} {row : PageRow} (old new : HostParts) → PageMerges upper shift pages key row old new
    → listed_pages new.queues ≤ listed_pages old.queues
page_lists old new (MovesUp to place inside shifts) = let same = ap listed_pages shifts.queues in omega (arith, same)
page_lists {row = row} old new (Goes hidden discards) =
    let same = ap listed_pages discards.queues in
    let active = except_fewer row.frame.0 old.queues.active in
    let inactive = except_fewer row.frame.0 old.queues.inactive in
    omega (arith, same, active, inactive)

pages_list : {upper lower : ObjectId} {shift pages : ℕ} (from : ℕ) (old new : HostParts) → PagesMerge upper lower shift pages from old new
    → listed_pages new.queues ≤ listed_pages old.queues
pages_list from old new (NoMore _ _ none) = omega arith
pages_list from old new (Next _ page row _ mid _ least none found same one rest) =
    let first = page_lists old mid one in let more = pages_list (page.0 + 1) mid new rest in omega (arith, first, more)

pub merges_list : (old new : MergeState) → MergeInTurn old new → listed_pages new.parts.queues ≤ listed_pages old.parts.queues
merges_list old new (NoneLeft _ thin) = omega arith
merges_list old new (OneFirst upper lower _ mid _ one fit buffers rest) =
    let pages = pages_list 0 old.parts one.moved one.pages in
    let same = ap (λ (z : HostParts). listed_pages z.queues) one.rest in
    let more = merges_list mid new rest in
    omega (arith, pages, same, more)

-- and run nobody

merge_quiet : (e : Event) → IsMerge e → RunsNone e
merge_quiet (event.Merged upper lower) is = tt
merge_quiet other is = absurd is

merges_quiet : (events : List Event) → EachOf IsMerge events → EachOf RunsNone events
merges_quiet [] all = tt
merges_quiet (e ∷ events) all = (merge_quiet e all.0, merges_quiet events all.1)

pub merges_still : (k new : Parts) (before after : List Event) → new.waits ≡ k.waits → MergesOnly before after
    → QueueIsStill k.waits.queue new.waits.queue before after
merges_still k new before after same only = record {
  queue = ap (λ z. z.queue) same;
  none = λ all. subst (EachOf RunsNone) (sym only.is) (of_both RunsNone only.more before (merges_quiet only.more only.each) all);
}

-- as many buffers are left as may be wanted
pub merges_buffers : (k new : Parts) → new.declared ≡ k.declared → new.memory.buffers ≡ k.memory.buffers
    → listed_pages new.memory.queues ≤ listed_pages k.memory.queues → HasBuffers k → HasBuffers new
merges_buffers k new declared buffers fewer has =
    subst (λ (n : ℕ). (if length new.declared.items == 0 then 0 else listed_pages new.memory.queues) + 1 ≤ n) (sym (ap (λ z. z.count) buffers))
    (subst (λ (d : _). (if length d.items == 0 then 0 else listed_pages new.memory.queues) + 1 ≤ k.memory.buffers.count) (sym declared)
    (by (length k.declared.items == 0) has))
  where
    by : (b : Bool) → (if b then 0 else listed_pages k.memory.queues) + 1 ≤ k.memory.buffers.count
        → (if b then 0 else listed_pages new.memory.queues) + 1 ≤ k.memory.buffers.count
    by true had = had
    by false had = omega (arith, had, fewer)

-- what the merges of so many losers spend
pub merges_spend : (n losers : ℕ) (k : Parts) (parts : HostParts) (chains : ChainTable) (before mid after : Listed Event) → HasRowsFor losers n k
    → mid.items ≡ before.items → before.room ≤ mid.room → length after.items ≤ length mid.items + losers → mid.room ≤ after.room + losers
    → k.memory.resident.spare ≤ parts.resident.spare + losers * most_pages → k.memory.objects.rows ≤ parts.objects.rows → k.chains.spare ≤ chains.spare
    → chains.marked ≡ k.chains.marked → frame_count parts.frames ≡ frame_count k.memory.frames
    → Spends losers 0 0 (with_rows n k) before (record k { memory = parts; chains = chains }) after
merges_spend n losers k parts chains before mid after has same kept told log spare objects shadows marked frames =
    let items = ap length same in
    let count = framed k frames in
    record {
      told = omega (arith, items, told, marked, count);
      room = omega (arith, kept, log, marked, count);
      rows = by (losers * most_pages) has spare;
      shadows = omega (arith, shadows, marked);
      objects = omega (arith, objects, marked);
      copies = omega arith;
    }
  where
    by : (m : ℕ) → n + m ≤ k.memory.resident.spare → k.memory.resident.spare ≤ parts.resident.spare + m
        → n + full_dues (record k { memory = parts; chains = chains }) ≤ parts.resident.spare + (full_dues k + 0)
    by m had left = let count = framed k frames in omega (arith, had, left, marked, count)

-- fewer objects, fewer rows
rows_fewer : (losers gone : ℕ) → losers ≤ gone → losers * most_pages ≤ gone * most_pages
rows_fewer losers gone few = omega (arith, few)

module _ (old mid new : Parts) (before between after : Listed Event) where
  -- a sweep, and then merges
  pub sweep_spends : (a n gone losers : ℕ) → Spends a 0 0 old before mid between → HasRowsFor gone n old → losers ≤ gone
      → losers * most_pages ≤ mid.memory.resident.spare
      → ((m : ℕ) → HasRowsFor losers m mid → Spends losers 0 0 (with_rows m mid) between new after)
      → Spends (a + gone) 0 0 (with_rows n old) before new after
  sweep_spends a n gone losers first has few rows next =
      let last = next (mid.memory.resident.spare - losers * most_pages) (omega (arith, rows)) in
      record {
        told = omega (arith, first.told, last.told, few);
        room = omega (arith, first.room, last.room, few);
        rows = by (losers * most_pages) (gone * most_pages) (rows_fewer losers gone few) has rows first.rows last.rows;
        shadows = omega (arith, first.shadows, last.shadows);
        objects = omega (arith, first.objects, last.objects);
        copies = omega (arith, first.copies, last.copies);
      }
    where
      by : (less more : ℕ) → less ≤ more → n + more ≤ old.memory.resident.spare → less ≤ mid.memory.resident.spare
          → old.memory.resident.spare + full_dues mid ≤ mid.memory.resident.spare + (full_dues old + 0)
          → (mid.memory.resident.spare - less) + full_dues new ≤ new.memory.resident.spare + (full_dues mid + 0)
          → n + full_dues new ≤ new.memory.resident.spare + (full_dues old + 0)
      by less more fewer had rows first last = omega (arith, fewer, had, rows, first, last)

  -- there is room for the merges behind it
  pub merge_rows : (a n gone losers : ℕ) → Spends a 0 0 old before mid between → HasRowsFor gone n old → losers ≤ gone
      → IsRoomy (a + gone) 0 (with_rows n old) before.room → losers * most_pages ≤ mid.memory.resident.spare
  merge_rows a n gone losers first has few roomy =
      by (losers * most_pages) (gone * most_pages) (rows_fewer losers gone few) has first.rows roomy.rows
    where
      by : (less more : ℕ) → less ≤ more → n + more ≤ old.memory.resident.spare
          → old.memory.resident.spare + full_dues mid ≤ mid.memory.resident.spare + (full_dues old + 0) → full_dues old + 0 ≤ n
          → less ≤ mid.memory.resident.spare
      by less more fewer had first room = omega (arith, fewer, had, first, room)

  pub merge_log : (a n gone losers : ℕ) → Spends a 0 0 old before mid between → losers ≤ gone → IsRoomy (a + gone) 0 (with_rows n old) before.room
      → losers ≤ between.room
  merge_log a n gone losers first few roomy = omega (arith, first.room, few, roomy.log)

-- the rows that a loser each takes can be counted
pub rows_small : (gone losers : ℕ) → gone ≤ 256 → losers ≤ gone → losers * most_pages < 2 ^ 32
rows_small gone losers small few = omega (arith, small, few)

-- room for the sweep is where there is room for that and for merges
pub sweep_roomy : (a n gone : ℕ) (k : Parts) (room : ℕ) → HasRowsFor gone n k → IsRoomy (a + gone) 0 (with_rows n k) room → IsRoomy a 0 k room
sweep_roomy a n gone k room has had =
    record { log = omega (arith, had.log); rows = by (gone * most_pages) has had.rows; shadows = had.shadows; objects = had.objects; copies = had.copies }
  where
    by : (more : ℕ) → n + more ≤ k.memory.resident.spare → full_dues k + 0 ≤ n → full_dues k + 0 ≤ k.memory.resident.spare
    by more has rows = omega (arith, has, rows)

-- what follows from one fact, and from others that have premises
pub ok_all : {A B : Type 0} (r : Result A B) (P : Type 0) (Q S : ℕ → Type 0) (T : Type 0) → (P → ((m : ℕ) → Q m → S m) → T) → OnOk r P
    → ((m : ℕ) → Q m → OnOk r (S m)) → OnOk r T
ok_all (Ok x) P Q S T f p s = f p s
ok_all (Err e) P Q S T f p s = tt

-- an end of entries, and all behind it

module _ (k mid new : Parts) (ids : Ids) (before between after : Listed Event) where
  pub ends_spend : (n gone left : ℕ) → Spends (1 + leaving k ids) 0 (leaving k ids) k before mid between → left ≡ leaving k ids → gone ≤ n
      → Spends (left + gone) 0 0 mid between new after → Spends (1 + leaving k ids + n) 0 0 k before new after
  ends_spend n gone left first same few last = record {
    told = omega (arith, first.told, last.told, same, few);
    room = omega (arith, first.room, last.room, same, few);
    rows = omega (arith, first.rows, last.rows);
    shadows = omega (arith, first.shadows, last.shadows);
    objects = omega (arith, first.objects, last.objects);
    copies = omega (arith, first.copies, last.copies);
  }

  pub ends_roomy : (n gone left : ℕ) → Spends (1 + leaving k ids) 0 (leaving k ids) k before mid between → left ≡ leaving k ids → gone ≤ n
      → IsRoomy (1 + leaving k ids + n) 0 k before.room → IsRoomy (left + gone) 0 mid between.room
  ends_roomy n gone left first same few had = record {
    log = omega (arith, first.room, had.log, same, few);
    rows = omega (arith, first.rows, had.rows);
    shadows = omega (arith, first.shadows, had.shadows);
    objects = omega (arith, first.objects, had.objects);
    copies = omega (arith, first.copies, had.copies);
  }

-- a kernel with room for further rows stands as it did
pub starts_roomier : (header : Header) (h : ℕ) (doing : Command) (past : List Event) (k more : Parts) (ids : Ids) (events : List Event)
    → more ≡ with_rows more.memory.resident.spare k → Starts header h doing past k ids events → Starts header h doing past more ids events
starts_roomier header h doing past k more ids events is s = record {
  rests = subst (λ (z : Parts). Rests header h z ids past) (sym is)
      (rests_roomier header h (record (rooms_of k) { rows = more.memory.resident.spare }) k ids past s.rests);
  acts = s.acts;
  range = s.range;
  accepted = s.accepted;
  begins = s.begins;
  nothing = s.nothing;
}

-- and with the room that it had it is what it was
pub rows_back : (k more : Parts) → more ≡ with_rows more.memory.resident.spare k → with_rows k.memory.resident.spare more ≡ k
rows_back k more is = ap (with_rows k.memory.resident.spare) is

-- no more parts of entries lie in a range than there are entries
cut_once : (size from to : ℕ) (row : Entry) → length (cut size from to row) ≤ 1
cut_once size from to row = one_at_most _ (nat_lt (max from row.address) (min to (row.address + row.bytes)))

pub parts_few : (size address bytes : ℕ) (rows : List Entry) → length (parts_in size address bytes rows) ≤ length rows
parts_few size address bytes [] = omega arith
parts_few size address bytes (row ∷ rows) =
    let one = cut_once size address (address + bytes) row in
    let rest = parts_few size address bytes rows in
    let both = length-append (cut size address (address + bytes) row) (parts_in size address bytes rows) in
    omega (arith, one, rest, both)

-- room for many is room for fewer
pub rows_enough : (few many n : ℕ) (k : Parts) → few ≤ many → HasRowsFor many n k → HasRowsFor few n k
rows_enough few many n k less has = by (few * most_pages) (many * most_pages) (rows_fewer few many less) has
  where
    by : (a b : ℕ) → a ≤ b → n + b ≤ k.memory.resident.spare → n + a ≤ k.memory.resident.spare
    by a b fewer had = omega (arith, fewer, had)

-- with more rows a kernel runs nobody, and has its buffers and its list

pub still_more : (k more new : Parts) (e : Event) (before between after : List Event) → more ≡ with_rows more.memory.resident.spare k
    → between ≡ e ∷ before → RunsNone e → QueueIsStill more.waits.queue new.waits.queue between after
    → QueueIsStill k.waits.queue new.waits.queue before after
still_more k more new e before between after is told none still =
    record { queue = still.queue ∙ ap (λ (z : Parts). z.waits.queue) is; none = λ all. still.none (subst (EachOf RunsNone) (sym told) (none, all)) }

pub buffers_more : (k more : Parts) → more ≡ with_rows more.memory.resident.spare k → HasBuffers k → HasBuffers more
buffers_more k more is has = subst HasBuffers (sym is) has

-- whatever a call answers, where it fails this holds
pub any_err : {A B : Type 0} (r : Result A B) (P : Type 0) → P → OnErr r P
any_err (Ok x) P p = tt
any_err (Err e) P p = p

-- all entries of a task go
pub all_gone : (task : ℕ) (k more : Parts) (gone : Listed Entry) → more ≡ with_rows more.memory.resident.spare k
    → entries_in task more.maps ≡ Some (by_address gone) → length gone.items ≡ length (rows_in task k.maps)
all_gone task k more gone is entries =
    sym (length-reverse gone.items) ∙ (sym (ap (λ z. length (unwrap_or z [])) entries) ∙ ap (λ (z : Parts). length (rows_in task z.maps)) is)

-- no more parts of them than there are
pub parts_gone : (task : ℕ) (k more : Parts) (change : MapChange) (gone : Listed Entry) → more ≡ with_rows more.memory.resident.spare k
    → by_address gone ≡ parts_for more.maps task change → length gone.items ≤ length (rows_in task k.maps)
parts_gone task k more change gone is taken =
    let count = length-reverse gone.items in
    let parts = ap length taken in
    let few = parts_few more.maps.size change.address change.bytes (rows_in task more.maps) in
    let same = ap (λ (z : Parts). length (rows_in task z.maps)) is in
    omega (arith, count, parts, few, same)

-- an end of entries in a kernel with room for merges, and all behind it

module _ {A B : Type 0} (r : Result A B) (k mid more new : Parts) (ids : Ids) (before between after : Listed Event) where
  pub ends_ok : (n gone : ℕ) → Spends (1 + leaving k ids) 0 (leaving k ids) k before mid between → with_rows k.memory.resident.spare more ≡ mid
      → leaving more ids ≡ leaving k ids → gone ≤ n → HasRowsFor gone k.memory.resident.spare more
      → ((m : ℕ) → HasRowsFor gone m more → OnOk r (Spends (leaving more ids + gone) 0 0 (with_rows m more) between new after))
      → OnOk r (Spends (1 + leaving k ids + n) 0 0 k before new after)
  ends_ok n gone first is same few rows last =
      on_ok r _ _
      (λ next. ends_spend k mid new ids before between after n gone (leaving more ids) first same few
      (subst (λ (z : Parts). Spends (leaving more ids + gone) 0 0 z between new after) is next)) (last k.memory.resident.spare rows)

  pub ends_err : (n gone : ℕ) → Spends (1 + leaving k ids) 0 (leaving k ids) k before mid between → with_rows k.memory.resident.spare more ≡ mid
      → leaving more ids ≡ leaving k ids → gone ≤ n → HasRowsFor gone k.memory.resident.spare more → n ≤ 256
      → ((m : ℕ) → HasRowsFor gone m more → gone ≤ 256 → IsRoomy (leaving more ids + gone) 0 (with_rows m more) between.room → HasBuffers more → IsOk r)
      → IsRoomy (1 + leaving k ids + n) 0 k before.room → HasBuffers more → (P : Type 0) → OnErr r P
  ends_err n gone first is same few rows small succeeds room has P =
      never_err r P (succeeds k.memory.resident.spare rows (omega (arith, small, few))
      (subst (λ (z : Parts). IsRoomy (leaving more ids + gone) 0 z between.room) (sym is)
      (ends_roomy k mid new ids before between after n gone (leaving more ids) first same few room)) has)
