-- What the parts of a step spend in front of the accesses that are run, and what they leave for those.
use Rattle.vm_kernel.proofs.Common.{Bool, Command, Err, Event, Header, Ids, List, Matches, ObjectTable, Ok, On, OnOk, PageKey, Parts, Result, TaskId, WaitTable}
use Rattle.vm_kernel.proofs.Common.{Waiting, [], ap, arith, false, frame_count, length, length-append, one_again, one_frame, refl, returns_out, rows_in, subst}
use Rattle.vm_kernel.proofs.Common.{sym, true, ℕ, ◌*◌, ◌++◌, ◌+◌, ◌<◌, ◌∙◌, ◌∷◌, ◌≡◌, ◌≤◌}
use Rattle.std.specs.Prelude.{IsOk, OnErr}
use Rattle.vm_base.specs.Listing.{Listed}
use Rattle.vm_kernel.proofs.room.EndsSpend.{roomy_fewer}
use Rattle.vm_kernel.proofs.memory.FramesHeld.{room_once}
use Rattle.vm_kernel.proofs.controls.LiveControls.{live_known}
use Rattle.vm_kernel.proofs.room.RunPays.{copies_more}
use Rattle.vm_kernel.specs.Rooms.{Dies, HasBuffers, HasMore, HasRoom, KeepsSpare, Spends, breadth_of, dues, front, full_dues, heeding}
use Rattle.vm_kernel.specs.Rooms.{if_copies, leaving, loose_frames, making, may_end, one_if_full, to_run, waking, word_breadth}
use Rattle.vm_kernel.specs.declared.breadth.Breadth.{Breadth}
use Rattle.vm_kernel.specs.declared.breadth.Breadth.TheVariants as wide
use Rattle.vm_model.specs.declared.message.Message.{Message}
use Rattle.vm_model.specs.declared.message.Message.TheVariants as message
use Rattle.vm_parts.specs.Listed.{listed_pages}
use Rattle.vm_queues.specs.Queues.{EachOnce}
use Rattle.vm_supply.specs.declared.woken.Woken.{Woken}
use Rattle.vm_supply.specs.declared.woken.Woken.TheVariants as who
use Rattle.vm_terminate.specs.Counts.{live_below}
use Rattle.vm_waits.proofs.Copies.{copies_begun}
use Rattle.vm_waits.specs.Waits.{count_copies, one}
use Rattle.vm_waits.specs.Wants.{is_copying}
use Rattle.vm_waits.specs.declared.waiting.On.TheVariants as on

pub spare_none : (k : Parts) → KeepsSpare k k
spare_none k = record { buffers = refl }

pub spare_both : (old mid new : Parts) → KeepsSpare old mid → KeepsSpare mid new → KeepsSpare old new
spare_both old mid new first next = record { buffers = next.buffers ∙ first.buffers }

-- what holds whatever a call answers
pub any_ok : {A B : Type 0} (r : Result A B) (P : Type 0) → P → OnOk r P
any_ok (Ok x) P p = p
any_ok (Err e) P p = tt

-- each access that waits is run once at most
run_once : (reason : On) → one_again reason + one_frame reason ≤ 1
run_once on.Again = omega arith
run_once (on.Ready object) = omega arith
run_once (on.Page key) = omega arith
run_once (on.Push key) = omega arith
run_once on.Frame = omega arith

pub run_few : (rows : List Waiting) → to_run rows ≤ length rows
run_few [] = omega arith
run_few (w ∷ ws) =
    let here = run_once w.on in
    let rest = run_few ws in
    omega (arith, here, rest)

one_few : (b : Bool) → one b ≤ 1
one_few true = omega arith
one_few false = omega arith

pub dues_full : (k : Parts) → dues k ≤ full_dues k
dues_full k =
    by (to_run k.waits.rows) (length k.waits.rows) (if_copies (count_copies k.waits.rows) (loose_frames k.memory))
    (if_copies (count_copies k.waits.rows) (frame_count k.memory.frames)) (one_if_full k.memory.frames) (run_few k.waits.rows)
    (copies_more (count_copies k.waits.rows) _ _ (omega arith)) (one_few _)
  where
    by : (run rows loose frames full : ℕ) → run ≤ rows → loose ≤ frames → full ≤ 1
        → 3 * run + k.chains.marked + 2 * loose + full ≤ 3 * rows + k.chains.marked + 2 * frames + 1
    by run rows loose frames full few most once = omega (arith, few, most, once)

-- each page that is here has its own frame
pub listed_few : {header : Header} {h : ℕ} {k : Parts} {ids : Ids} {past : List Event} → Matches header h k ids [] past
    → EachOnce (k.memory.queues.inactive ++ k.memory.queues.active) → listed_pages k.memory.queues ≤ frame_count k.memory.frames
listed_few {header} {h} {k} {ids} {past} m once =
    let fits = m.core.pages.counted.fits in
    let few = room_once k.memory k.laundry (returns_out h past) m.core.fits.parts m.core.pages.washed (omega (arith, fits)) once in
    omega (arith, few, m.core.pages.washed.room)

-- so an end takes less than there is in front
end_few : (k : Parts) (ids : Ids) → listed_pages k.memory.queues ≤ frame_count k.memory.frames → 1 + leaving k ids ≤ front wide.Pages k
end_few k ids listed =
    by (listed_pages k.memory.queues) (live_below k.memory.objects ids.next_object) (frame_count k.memory.frames) (length k.memory.objects.entries) listed
    (live_known k.memory.objects ids.next_object)
  where
    by : (listed live frames known : ℕ) → listed ≤ frames → live ≤ known → 1 + (listed + live) ≤ 2 * frames + known + 1
    by listed live frames known few fewer = omega (arith, few, fewer)

pub leaving_few : {header : Header} {h : ℕ} {k : Parts} {ids : Ids} {past : List Event} → Matches header h k ids [] past
    → EachOnce (k.memory.queues.inactive ++ k.memory.queues.active) → 1 + leaving k ids ≤ front wide.Pages k
leaving_few {k = k} {ids = ids} m once = end_few k ids (listed_few m once)

-- and with an object for each entry of a task less than where these may be merged
pub ending_few : {header : Header} {h : ℕ} {k : Parts} {ids : Ids} {past : List Event} (task : TaskId) → Matches header h k ids [] past
    → EachOnce (k.memory.queues.inactive ++ k.memory.queues.active) → 1 + leaving k ids + length (rows_in task.0 k.maps) ≤ front (wide.Ends task) k
ending_few {k = k} {ids = ids} task m once =
    by (leaving k ids) (2 * frame_count k.memory.frames) (length k.memory.objects.entries) (length (rows_in task.0 k.maps)) (leaving_few m once)
  where
    by : (leave frames known rows : ℕ) → 1 + leave ≤ frames + known + 1 → 1 + leave + rows ≤ frames + known + 1 + rows
    by leave frames known rows few = omega (arith, few)

-- room for some is room for fewer
pub more_fewer : (a i n j more : ℕ) (k : Parts) (room : ℕ) → HasMore a i more k room → n ≤ a → j ≤ i → HasMore n j more k room
more_fewer a i n j more k room had fewer less = record {
  tables = roomy_fewer a i n j k room had.tables fewer less;
  log = omega (arith, had.log, fewer);
}

module _ (old new : Parts) (before after : Listed Event) where
  -- enough is left for the accesses
  pub room_behind : (cost makes more : ℕ) → Spends cost makes 0 old before new after → HasMore cost makes more old before.room → HasRoom more new after.room
  room_behind cost makes more is had = record {
    log = omega (arith, dues_full new, is.room, had.log);
    rows = omega (arith, dues_full new, is.rows, had.tables.rows);
    shadows = omega (arith, is.shadows, had.tables.shadows);
    objects = omega (arith, is.objects, had.tables.objects);
  }

  -- and no more was told than that
  pub told_behind : (cost makes most : ℕ) → cost ≤ most → Spends cost makes 0 old before new after
      → length after.items + dues new ≤ length before.items + (full_dues old + most)
  told_behind cost makes most few is = by (dues new) (full_dues new) (full_dues old) (dues_full new) is.told
    where
      by : (due full first : ℕ) → due ≤ full → length after.items + (full + 0) ≤ length before.items + (first + cost)
          → length after.items + due ≤ length before.items + (first + most)
      by due full first fewer told = omega (arith, few, fewer, told)

-- what a command leaves
abbrev pub Leaves : ℕ → Parts → ℕ → Type 0
Leaves more k room = HasRoom more k room × (0 < k.memory.buffers.count)

module _ {A B : Type 0} (r : Result A B) (old new : Parts) (before after : Listed Event) where
  pub few_ok : (cost makes most : ℕ) → cost ≤ most → OnOk r (Spends cost makes 0 old before new after)
      → OnOk r (length after.items + dues new ≤ length before.items + (full_dues old + most))
  few_ok cost makes most few spends = by r spends
    where
      by : (r : Result A B) → OnOk r (Spends cost makes 0 old before new after)
          → OnOk r (length after.items + dues new ≤ length before.items + (full_dues old + most))
      by (Ok x) is = told_behind old new before after cost makes most few is
      by (Err e) is = tt

  -- a command that keeps its buffers
  pub kept_ok : (cost makes most all more : ℕ) → cost ≤ most → makes ≤ all → OnOk r (Spends cost makes 0 old before new after) → OnOk r (KeepsSpare old new)
      → HasMore most all more old before.room → HasBuffers old → OnOk r (Leaves more new after.room)
  kept_ok cost makes most all more few less spends kept had has = by r spends kept
    where
      by : (r : Result A B) → OnOk r (Spends cost makes 0 old before new after) → OnOk r (KeepsSpare old new) → OnOk r (Leaves more new after.room)
      by (Ok x) is keeps =
          let buffers = ap (λ z. z.count) keeps.buffers in
          (room_behind old new before after cost makes more is (more_fewer most all cost makes more old before.room had few less), omega (arith, buffers, has))
      by (Err e) is keeps = tt

  -- one that ends what it can
  pub ended_ok : (cost most all more : ℕ) → cost ≤ most → OnOk r (Spends cost 0 0 old before new after) → OnOk r (HasBuffers old → HasBuffers new)
      → HasMore most all more old before.room → HasBuffers old → OnOk r (Leaves more new after.room)
  ended_ok cost most all more few spends buffers had has = by r spends buffers
    where
      by : (r : Result A B) → OnOk r (Spends cost 0 0 old before new after) → OnOk r (HasBuffers old → HasBuffers new) → OnOk r (Leaves more new after.room)
      by (Ok x) is leaves =
          let left = leaves has in
          (room_behind old new before after cost 0 more is (more_fewer most all cost 0 more old before.room had few (omega arith)), omega (arith, left))
      by (Err e) is leaves = tt

-- a load or a store is no slow copy
begun_copies : (old mid new : List Waiting) (w : Waiting) → new ≡ mid ++ w ∷ [] → mid ≡ old → is_copying w.want ≡ false
    → count_copies new ≡ count_copies old
begun_copies old mid new w is same none =
    let more = copies_begun mid w in
    let whole : count_copies new ≡ count_copies (mid ++ w ∷ []) = ap count_copies is in
    let were : count_copies mid ≡ count_copies old = ap count_copies same in
    let zero : one (is_copying w.want) ≡ 0 = ap one none in
    omega (arith, more, whole, were, zero)

pub begun_more : {old mid new : List Waiting} (w : Waiting) → new ≡ mid ++ w ∷ [] → mid ≡ old → length new ≡ length old + 1
begun_more {mid = mid} w is same = ap length is ∙ (length-append mid (w ∷ []) ∙ ap (λ z. length z + 1) same)

-- an access that begins tells one event, and runs once
pub begun_spends : {mid : List Waiting} {e : Event} (w : Waiting) (k : Parts) (waits : WaitTable) (before after : Listed Event)
    → waits.rows ≡ mid ++ w ∷ [] → mid ≡ k.waits.rows → is_copying w.want ≡ false → after.items ≡ e ∷ before.items → before.room ≤ after.room + 1
    → Spends 4 4 0 k before (record k { waits = waits }) after
begun_spends {mid = mid} w k waits before after is same none told room =
    let more = begun_more w is same in
    let copies = begun_copies k.waits.rows mid waits.rows w is same none in
    let one : length after.items ≡ length before.items + 1 = rw told (omega arith) in
    let framed = ap (λ n. if_copies n (frame_count k.memory.frames)) copies in
    record {
      told = omega (arith, one, more, framed);
      room = omega (arith, room, more, framed);
      rows = omega (arith, more, framed);
      shadows = omega arith;
      objects = omega arith;
      copies = omega arith;
    }

pub few_behind : {a b c : ℕ} → a ≤ b → b ≤ c → a ≤ c
few_behind {a} {b} {c} first next = omega (arith, first, next)

-- what the accesses that are run keep, behind one that began
pub spare_behind : (k : Parts) (waits : WaitTable) (new : Parts) → KeepsSpare (record k { waits = waits }) new
    → k.memory.buffers.count ≤ new.memory.buffers.count
spare_behind k waits new keeps = let buffers = ap (λ z. z.count) keeps.buffers in omega (arith, buffers)

-- what any command tells is below that in front
pub up_to_front : (k : Parts) (told n most : ℕ) → n ≤ most → told + (full_dues k + n) ≤ told + (full_dues k + most)
up_to_front k told n most few = omega (arith, few)

-- what a command does in front goes by what it is
pub few_in : (command doing : Command) (k : Parts) (n : ℕ) → command ≡ doing → n ≤ front (breadth_of doing) k → n ≤ front (breadth_of command) k
few_in command doing k n is few = subst (λ (z : Command). n ≤ front (breadth_of z) k) (sym is) few

pub made_in : (command doing : Command) (k : Parts) (n : ℕ) → command ≡ doing → n ≤ making (breadth_of doing) k → n ≤ making (breadth_of command) k
made_in command doing k n is few = subst (λ (z : Command). n ≤ making (breadth_of z) k) (sym is) few

pub on_err : {A B : Type 0} (r : Result A B) (P Q : Type 0) → (P → Q) → OnErr r P → OnErr r Q
on_err (Ok x) P Q f p = tt
on_err (Err e) P Q f p = f p

pub ok_has : {A B : Type 0} (r : Result A B) (P : Type 0) → IsOk r → OnOk r P → P
ok_has (Ok x) P ok p = p
ok_has (Err e) P ok p = absurd (let bad : false ≡ true = ok in cc)

-- an access that began leaves what was there
pub begun_leaves : {A B : Type 0} (r : Result A B) (more : ℕ) (old new : Parts) (room : ℕ) → OnOk r (HasRoom more new room)
    → OnOk r (old.memory.buffers.count ≤ new.memory.buffers.count) → HasBuffers old → OnOk r (Leaves more new room)
begun_leaves (Ok x) more old new room left keeps has = (left, omega (arith, keeps, has))
begun_leaves (Err e) more old new room left keeps has = tt

-- what the accesses that are run leave behind what keeps its buffers
pub leaves_behind : {A B : Type 0} (r : Result A B) (more : ℕ) (old mid new : Parts) (room : ℕ) → HasRoom more new room → KeepsSpare old mid
    → OnOk r (KeepsSpare mid new) → HasBuffers old → OnOk r (Leaves more new room)
leaves_behind (Ok x) more old mid new room left first next has =
    let keeps = spare_both old mid new first next in
    let buffers = ap (λ z. z.count) keeps.buffers in
    (left, omega (arith, buffers, has))
leaves_behind (Err e) more old mid new room left first next has = tt

pub out_few : (k : Parts) → listed_pages k.memory.queues ≤ frame_count k.memory.frames → 2 * listed_pages k.memory.queues ≤ front wide.Pages k
out_few k few = by (listed_pages k.memory.queues) (frame_count k.memory.frames) (length k.memory.objects.entries) few
  where
    by : (listed frames known : ℕ) → listed ≤ frames → 2 * listed ≤ 2 * frames + known + 1
    by listed frames known few = omega (arith, few)

listed_below : (k : Parts) → listed_pages k.memory.queues ≤ frame_count k.memory.frames → listed_pages k.memory.queues + 1 ≤ front wide.Pages k
listed_below k few = by (listed_pages k.memory.queues) (frame_count k.memory.frames) (length k.memory.objects.entries) few
  where
    by : (listed frames known : ℕ) → listed ≤ frames → listed + 1 ≤ 2 * frames + known + 1
    by listed frames known few = omega (arith, few)

-- what a word tells is below that in front
pub word_few : (m : Message) (k : Parts) (ids : Ids) → listed_pages k.memory.queues ≤ frame_count k.memory.frames
    → heeding m k ids ≤ front (word_breadth m) k
word_few (message.Lock page count returns flush lock reply) k ids few = listed_below k few
word_few (message.Ready cache strategy) k ids few = end_few k ids few
word_few (message.Attributes cache strategy reply) k ids few = end_few k ids few
word_few (message.Destroy reason) k ids few = listed_below k few
word_few (message.Error page reason) k ids few = omega arith
word_few other k ids few = omega arith

pub heeds_one : (m : Message) (k : Parts) (ids : Ids) → 1 ≤ heeding m k ids
heeds_one (message.Lock page count returns flush lock reply) k ids = omega arith
heeds_one (message.Ready cache strategy) k ids = omega arith
heeds_one (message.Attributes cache strategy reply) k ids = omega arith
heeds_one other k ids = omega arith

heeds_few : (m : Message) (k : Parts) (ids : Ids) → may_end m ≡ false → heeding m k ids ≤ listed_pages k.memory.queues + 1
heeds_few (message.Lock page count returns flush lock reply) k ids stays = omega arith
heeds_few (message.Ready cache strategy) k ids stays = absurd (let bad : true ≡ false = stays in cc)
heeds_few (message.Attributes cache strategy reply) k ids stays = absurd (let bad : true ≡ false = stays in cc)
heeds_few other k ids stays = omega arith

-- and so is what it tells with the end of those whom it fails
pub word_costs : (m : Message) (woken : Woken) (k mid : Parts) (ids : Ids) → listed_pages k.memory.queues ≤ frame_count k.memory.frames
    → ((key : PageKey) → woken ≡ who.Fails key → Dies m k mid) → heeding m k ids + waking woken mid ids ≤ front (word_breadth m) k
word_costs m (who.Fails key) k mid ids few dies =
    let is = dies key refl in
    let listed : listed_pages mid.memory.queues ≡ listed_pages k.memory.queues = ap listed_pages is.queues in
    let live : live_below mid.memory.objects ids.next_object ≤ length k.memory.objects.entries = subst
    (λ (z : ObjectTable). live_below mid.memory.objects ids.next_object ≤ length z.entries) is.objects (live_known mid.memory.objects ids.next_object) in
    subst (λ (z : Breadth). heeding m k ids + leaving mid ids ≤ front z k) (sym is.breadth)
    (by (heeding m k ids) (listed_pages k.memory.queues) (listed_pages mid.memory.queues) (live_below mid.memory.objects ids.next_object)
    (frame_count k.memory.frames) (length k.memory.objects.entries) (heeds_few m k ids is.stays) listed live few)
  where
    by : (told listed there live frames known : ℕ) → told ≤ listed + 1 → there ≡ listed → live ≤ known → listed ≤ frames
        → told + (there + live) ≤ 2 * frames + known + 1
    by told listed there live frames known first same fewer few = omega (arith, first, same, fewer, few)
word_costs m other k mid ids few dies = let told = word_few m k ids few in omega (arith, told)
