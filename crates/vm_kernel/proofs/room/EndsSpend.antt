-- What the end of a region or an object spends, and that there are buffers for it.
use Rattle.vm_kernel.proofs.Common.{Bool, ChainTable, EndsObject, Entry, Err, Event, Header, HostParts, Ids, IsBrought, IsWhole, LaundryList, List, Mapped}
use Rattle.vm_kernel.proofs.Common.{Matches, ObjectId, ObjectRow, ObjectTable, Ok, OnOk, Parts, Result, Some, Temp, Woken, [], ap, arith}
use Rattle.vm_kernel.proofs.Common.{frame_count, inl, inr, length, named, object_at, refl, region_at, subst, sym, ℕ, ◌++◌, ◌+◌, ◌<◌}
use Rattle.vm_kernel.proofs.Common.{◌∙◌, ◌∷◌, ◌≡◌, ◌≤◌}
use Rattle.std.proofs.lemmas.Bool.Decides.{eqb_tells}
use Rattle.vm_base.specs.Listing.{Listed}
use Rattle.vm_copies.specs.Copies.{CopyTable}
use Rattle.std.proofs.lemmas.List.{length-map}
use Rattle.std.specs.Prelude.{IfSome, if◌then◌else◌, map}
use Rattle.vm_kernel.proofs.room.RunPays.{copies_fewer}
use Rattle.vm_kernel.specs.Rooms.{HasBuffers, IsRoomy, Spends, if_copies, leaving}
use Rattle.vm_kernel.proofs.space.RegionEnds.{LosesRegion, if_some}
use Rattle.vm_locks.specs.Rooms.{LeavesRoom}
use Rattle.vm_model.specs.declared.event.Event.TheVariants as event
use Rattle.vm_objects.specs.Objects.{SameRooms}
use Rattle.vm_parts.specs.Listed.{listed_pages}
use Rattle.vm_state.proofs.Referring.{small_object}
use Rattle.vm_terminate.proofs.Living.{same_put}
use Rattle.vm_terminate.specs.Counts.{EndBelow, HasBuffers as EnoughBuffers, UsesRoom, live_below}
use Rattle.vm_terminate.specs.Finishes.{EndsWith, Further, Itself}
use Rattle.vm_waits.proofs.Copies.{copies_less, copies_woken}
use Rattle.vm_waits.specs.Waits.{WaitTable, count_copies, rows_without, woken}
use Rattle.vm_waits.specs.declared.waiting.On.{On}
use Rattle.vm_waits.specs.declared.waiting.Waiting.{Waiting}

module _ (old new : Parts) (before after : Listed Event) where
  -- what is left is less
  pub spends_less : (a b n : ℕ) → Spends a 0 b old before new after → n ≤ b → Spends a 0 n old before new after
  spends_less a b n is less =
      record {
        told = omega (arith, is.told, less);
        room = omega (arith, is.room, less);
        rows = is.rows;
        shadows = is.shadows;
        objects = is.objects;
        copies = is.copies;
      }

  -- there is room behind a call for what is left
  pub roomy_on : (a b : ℕ) → Spends a 0 b old before new after → IsRoomy a 0 old before.room → IsRoomy b 0 new after.room
  roomy_on a b is had = record {
    log = omega (arith, is.room, had.log);
    rows = omega (arith, is.rows, had.rows);
    shadows = omega (arith, is.shadows, had.shadows);
    objects = omega (arith, is.objects, had.objects);
    copies = omega (arith, is.copies, had.copies);
  }

  -- or with more in hand
  pub spends_hand : (a b n : ℕ) → Spends a 0 b old before new after → a ≤ n → Spends n 0 b old before new after
  spends_hand a b n is more =
      record {
        told = omega (arith, is.told, more);
        room = omega (arith, is.room, more);
        rows = is.rows;
        shadows = is.shadows;
        objects = is.objects;
        copies = is.copies;
      }

-- room for some is room for fewer
pub roomy_fewer : (a i n j : ℕ) (k : Parts) (room : ℕ) → IsRoomy a i k room → n ≤ a → j ≤ i → IsRoomy n j k room
roomy_fewer a i n j k room had fewer less =
    record {
      log = omega (arith, had.log, fewer);
      rows = omega (arith, had.rows, less);
      shadows = omega (arith, had.shadows, less);
      objects = omega (arith, had.objects, less);
      copies = omega (arith, had.copies, less);
    }

-- each object that ends is one of those made
pub ends_made : (header : Header) (h : ℕ) (past : List Event) (who : Woken) (k : Parts) (ids : Ids) (rest : List Entry) (object : ℕ)
    → EndsObject header h who k ids rest object past → EndBelow ids.next_object k.chains k.memory.objects object
ends_made header h past who k ids rest object e = each
  where
    made : (o : ℕ) (row : ObjectRow) → object_at k.memory.objects o ≡ Some row → o < ids.next_object
    made o row known =
        let small = small_object e.runs.matches.core.objects.regions o row known in let next = e.runs.matches.core.objects.regions.object in omega
        (arith, small, next)

    each : (o : ℕ) → EndsWith k.chains k.memory.objects object o → o < ids.next_object
    each _ Itself = made object e.row e.known
    each _ (Further o row known over shadow is one) = made row.under.0 known is

-- a host keeps its frames
pub frames_kept : (header : Header) (h : ℕ) (k l : Parts) (ids ids2 : Ids) (gone gone2 : List Entry) (past past2 : List Event)
    → Matches header h k ids gone past → Matches header h l ids2 gone2 past2 → frame_count l.memory.frames ≡ frame_count k.memory.frames
frames_kept header h k l ids ids2 gone gone2 past past2 m n =
    let both : Some (frame_count l.memory.frames) ≡ Some (frame_count k.memory.frames) = sym n.core.pages.counted.total ∙ m.core.pages.counted.total in
    cc

-- so they count for as much
pub framed : (k : Parts) {n m : ℕ} → n ≡ m → if_copies (count_copies k.waits.rows) n ≡ if_copies (count_copies k.waits.rows) m
framed k same = ap (if_copies (count_copies k.waits.rows)) same

-- where nothing is declared each object is temporary
pub all_temporary : (header : Header) (h : ℕ) (k : Parts) (ids : Ids) (gone : List Entry) (past : List Event) → Matches header h k ids gone past
    → length k.declared.items ≡ 0 → (o : ℕ) (row : ObjectRow) → object_at k.memory.objects o ≡ Some row → row.kind ≡ Temp
all_temporary header h k ids gone past m none o row found =
    let count : named header ≡ 0 = ap length (sym m.core.setting.objects) ∙ none in
    ((m.core.objects.kinds.kinds o row found).temporary (omega (arith, count))).kind

-- there are buffers for the end of an object
pub enough_buffers : (header : Header) (h : ℕ) (k : Parts) (ids : Ids) (gone : List Entry) (past : List Event) (object : ℕ) → Matches header h k ids gone past
    → HasBuffers k → EnoughBuffers k.chains k.memory object
enough_buffers header h k ids gone past object m has o row ends found other = elim (eqb_tells (length k.declared.items) 0) [
  | inl none ↦ absurd (other (all_temporary header h k ids gone past m none.1 o row found))
  | inr some ↦ let has2 : listed_pages k.memory.queues + 1 ≤ k.memory.buffers.count = rw some.0 at has in omega (arith, has2)
]

-- and as many are left as may be wanted
pub buffers_left : (header : Header) (h : ℕ) (k : Parts) (ids : Ids) (gone : List Entry) (past : List Event) (object n : ℕ) (memory : HostParts)
    (chains : ChainTable) (copies : CopyTable) (laundry : LaundryList) (before after : ℕ) → Matches header h k ids gone past
    → UsesRoom n k.memory memory k.chains chains before after
    → (((o : ℕ) (row : ObjectRow) → EndsWith k.chains k.memory.objects object o → object_at k.memory.objects o ≡ Some row → row.kind ≡ Temp)
    → k.memory.buffers.count ≤ memory.buffers.count)
    → HasBuffers k → HasBuffers (record k { memory = memory; chains = chains; copies = copies; laundry = laundry })
buffers_left header h k ids gone past object n memory chains copies laundry before after m uses saved has = elim (eqb_tells (length k.declared.items) 0) [
  | inl none ↦
      let kept = saved (λ o row ends found. all_temporary header h k ids gone past m none.1 o row found) in
      rw none.0 (let had : 0 + 1 ≤ k.memory.buffers.count = rw none.0 at has in omega (arith, had, kept))
  | inr some ↦
      rw some.0 (let had : listed_pages k.memory.queues + 1 ≤ k.memory.buffers.count = rw some.0 at has in omega (arith, had, uses.buffers))
]

-- the end of an object spends what left
pub ended_spends : (header : Header) (h : ℕ) (past : List Event) (who : Woken) (k : Parts) (ids : Ids) (rest : List Entry) (memory : HostParts)
    (chains : ChainTable) (copies : CopyTable) (laundry : LaundryList) (before after : Listed Event)
    → Matches header h k ids rest (before.items ++ past)
    → IsWhole header h who (record k { memory = memory; chains = chains; copies = copies; laundry = laundry }) ids rest (after.items ++ past)
    → UsesRoom ids.next_object k.memory memory k.chains chains before.room after.room
    → length after.items + (listed_pages memory.queues + live_below memory.objects ids.next_object) ≤ length
    before.items + (listed_pages k.memory.queues + live_below k.memory.objects ids.next_object)
    → k.copies.room ≤ copies.room
    → Spends (leaving k ids) 0 (leaving (record k { memory = memory; chains = chains; copies = copies; laundry = laundry }) ids) k before
    (record k { memory = memory; chains = chains; copies = copies; laundry = laundry }) after
ended_spends header h past who k ids rest memory chains copies laundry before after m whole uses told room =
    let frames = framed k (frames_kept header h k (record k { memory = memory; chains = chains; copies = copies; laundry = laundry }) ids ids rest rest
    (before.items ++ past)
    (after.items ++ past) m whole.runs.matches) in
    record {
      told = omega (arith, frames, told, uses.marked);
      room = omega (arith, frames, uses.log, uses.marked);
      rows = omega (arith, frames, uses.rows, uses.fewer, uses.live, uses.marked);
      shadows = omega (arith, uses.shadows, uses.fewer, uses.live, uses.marked);
      objects = omega (arith, uses.objects, uses.fewer, uses.live, uses.marked);
      copies = omega (arith, room);
    }

-- what follows from one fact, and from another that has a premise
pub premised_ok : {A B : Type 0} (r : Result A B) (P E Q T : Type 0) → (P → (E → Q) → T) → OnOk r P → (E → OnOk r Q) → OnOk r T
premised_ok (Ok x) P E Q T f p q = f p q
premised_ok (Err e) P E Q T f p q = tt

-- a region goes, and its top has a reference less: nothing is spent
pub region_spends : (k : Parts) (ids : Ids) (r left : ℕ) (object : ObjectId) (chains : ChainTable) (objects : ObjectTable) (log : Listed Event)
    → LosesRegion k r left object chains objects → k.chains.spare ≤ chains.spare
    → IfSome (region_at k.chains r) (λ row. chains.marked + (if row.marked then 1 else 0) ≡ k.chains.marked) → SameRooms k.memory.objects objects
    → Spends (leaving k ids) 0 (leaving (record k { memory = record k.memory { objects = objects }; chains = chains }) ids) k log
    (record k { memory = record k.memory { objects = objects }; chains = chains }) log
region_spends k ids r left object chains objects log loses spare marks rooms =
    let live = same_put k.memory.objects objects loses.row.top.0 loses.was (record (loses.was) { references = left }) loses.known loses.put refl
    ids.next_object in
    let rows = rooms.rows in
    let fewer : chains.marked ≤ k.chains.marked = let less = if_some (region_at k.chains r) _ loses.row loses.found marks in omega (arith, less) in
    record {
      told = omega (arith, live, fewer);
      room = omega (arith, live, fewer);
      rows = omega (arith, live, fewer);
      shadows = omega (arith, live, spare, fewer);
      objects = omega (arith, live, rows, fewer);
      copies = omega arith;
    }

-- a region's count of entries costs nothing
pub count_spends : (k : Parts) (ids : Ids) (chains : ChainTable) (log : Listed Event) → (chains.spare ≡ k.chains.spare) × (chains.marked ≡ k.chains.marked)
    → Spends (leaving k ids) 0 (leaving k ids) k log (record k { chains = chains }) log
count_spends k ids chains log same =
    let spare = same.0 in
    let marked = same.1 in
    record {
      told = omega (arith, marked);
      room = omega (arith, marked);
      rows = omega (arith, marked);
      shadows = omega (arith, spare, marked);
      objects = omega (arith, marked);
      copies = omega arith;
    }

-- the end of a task takes its event
pub exit_spends : (k : Parts) (ids : Ids) (maps : Mapped) (before after : Listed Event) (e : Event) → after.items ≡ e ∷ before.items
    → before.room ≤ after.room + 1 → Spends (1 + leaving k ids) 0 (leaving k ids) k before (record k { maps = maps }) after
exit_spends k ids maps before after e told room =
    let one : length after.items ≡ length before.items + 1 = rw told (omega arith) in
    record { told = omega (arith, one); room = omega (arith, room); rows = omega arith; shadows = omega arith; objects = omega arith; copies = omega arith }

-- with a row no slow copy comes
pub copies_dropped : (t : ℕ) (old new : List Waiting) → new ≡ rows_without t old → count_copies new ≤ count_copies old
copies_dropped t old new rows = subst (λ (z : List Waiting). count_copies z ≤ count_copies old) (sym rows) (copies_less t old)

-- an access that fails takes its event, and leaves its row
pub failed_spends : (k : Parts) (ids : Ids) (waits : WaitTable) (before after : Listed Event) (e : Event) → length waits.rows + 1 ≡ length k.waits.rows
    → count_copies waits.rows ≤ count_copies k.waits.rows → after.items ≡ e ∷ before.items → before.room ≤ after.room + 1
    → Spends (leaving k ids) 0 (leaving k ids) k before (record k { waits = waits }) after
failed_spends k ids waits before after e less copies told room =
    let one : length after.items ≡ length before.items + 1 = rw told (omega arith) in
    let fewer = copies_fewer (count_copies waits.rows) (count_copies k.waits.rows) (frame_count k.memory.frames) copies in
    record {
      told = omega (arith, one, less, fewer);
      room = omega (arith, room, less, fewer);
      rows = omega (arith, less, fewer);
      shadows = omega arith;
      objects = omega arith;
      copies = omega arith;
    }

-- those that are woken wait in as many rows, and are as many slow copies
woken_rows : (test : On → Bool) (old new : List Waiting) → new ≡ map (woken test) old → length new ≡ length old
woken_rows test old new rows = ap length rows ∙ length-map old (woken test)

woken_copies : (test : On → Bool) (old new : List Waiting) → new ≡ map (woken test) old → count_copies new ≡ count_copies old
woken_copies test old new rows = ap count_copies rows ∙ copies_woken test old

pub woken_spends : (n : ℕ) (k : Parts) (waits : WaitTable) (log : Listed Event) (test : On → Bool) → waits.rows ≡ map (woken test) k.waits.rows
    → Spends n 0 0 k log (record k { waits = waits }) log
woken_spends n k waits log test rows =
    let same = woken_rows test k.waits.rows waits.rows rows in
    let copies = ap (λ c. if_copies c (frame_count k.memory.frames)) (woken_copies test k.waits.rows waits.rows rows) in
    record {
      told = omega (arith, same, copies);
      room = omega (arith, same, copies);
      rows = omega (arith, same, copies);
      shadows = omega arith;
      objects = omega arith;
      copies = omega arith;
    }

-- a lock request that is obeyed takes an event for each page that is here, and one for the reply
pub obeyed_spends : (header : Header) (h : ℕ) (past past2 : List Event) (k : Parts) (ids : Ids) (memory : HostParts) (laundry : LaundryList) (waits : WaitTable)
    (before after : Listed Event) → Matches header h k ids [] past
    → Matches header h (record k { memory = memory; laundry = laundry; waits = waits }) ids [] past2 → LeavesRoom k.memory memory before.room after.room
    → length after.items ≤ length before.items + listed_pages k.memory.queues + 1 → (test : On → Bool) → waits.rows ≡ map (woken test) k.waits.rows
    → Spends (listed_pages k.memory.queues + 1) 0 0 k before (record k { memory = memory; laundry = laundry; waits = waits }) after
obeyed_spends header h past past2 k ids memory laundry waits before after m n leaves told test rows =
    let same = woken_rows test k.waits.rows waits.rows rows in
    let frames = ap (λ c. if_copies c (frame_count memory.frames)) (woken_copies test k.waits.rows waits.rows rows)
    ∙ framed k (frames_kept header h k (record k { memory = memory; laundry = laundry; waits = waits }) ids ids [] [] past past2 m n) in
    record {
      told = omega (arith, frames, told, same);
      room = omega (arith, frames, leaves.log, same);
      rows = omega (arith, frames, leaves.rows, same);
      shadows = omega arith;
      objects = omega (arith, leaves.objects);
      copies = omega arith;
    }

-- an answer brings one event at most
pub brought_few : (events : List Event) → IsBrought events → length events ≤ 1
brought_few [] brought = omega arith
brought_few (e ∷ []) brought = omega arith
brought_few (e ∷ other ∷ more) brought = absurd (two e brought)
  where
    two : (e : Event) → IsBrought (e ∷ other ∷ more) → ⊥
    two (event.Zeroed host object page) brought = brought
    two another brought = brought

pub heard_spends : (header : Header) (h : ℕ) (past past2 : List Event) (k : Parts) (ids : Ids) (memory : HostParts) (before after : Listed Event)
    → Matches header h k ids [] past → Matches header h (record k { memory = memory }) ids [] past2 → IsBrought after.items → before.room ≤ after.room + 1
    → k.memory.resident.spare ≤ memory.resident.spare → k.memory.objects.rows ≤ memory.objects.rows → Spends 1 0 0 k before (record k { memory = memory }) after
heard_spends header h past past2 k ids memory before after m n brought room rows objects =
    let frames = framed k (frames_kept header h k (record k { memory = memory }) ids ids [] [] past past2 m n) in
    let few = brought_few after.items brought in
    record {
      told = omega (arith, frames, few);
      room = omega (arith, frames, room);
      rows = omega (arith, frames, rows);
      shadows = omega arith;
      objects = omega (arith, objects);
      copies = omega arith;
    }
