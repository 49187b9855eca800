-- What there is room for suffices for a run of an access, and behind it there is room for what is then still to be told.
use Rattle.vm_kernel.proofs.Common.{ChainTable, Event, Fit, HostParts, Ids, List, None, On, Option, PageKey, Parts, Reclaim, Some, WaitTable, Waiting, Want, ap}
use Rattle.vm_kernel.proofs.Common.{arith, count_again, entry, false, free, is_again, is_frame, length, map, none_again, none_queued, one_again, one_frame}
use Rattle.vm_kernel.proofs.Common.{queued, refl, subst, suc, sym, true, zero, ℕ, ◌*◌, ◌+◌, ◌-◌, ◌<◌, ◌==◌, ◌||◌, ◌∙◌, ◌≡◌, ◌≤◌}
use Rattle.std.proofs.Common.{Bool}
use Rattle.std.proofs.lemmas.List.{length-map}
use Rattle.std.specs.Prelude.{min}
use Rattle.vm_fault.specs.Faults.{FaultState, Runs}
use Rattle.vm_fault.specs.Rooms.{TakesRoom, pages_left}
use Rattle.vm_fault.specs.Rooms as run
use Rattle.vm_fault.specs.Walks.{is_copying}
use Rattle.vm_fault.specs.declared.step.FaultStep.{FaultStep}
use Rattle.vm_fault.specs.declared.step.FaultStep.TheVariants as step
use Rattle.vm_kernel.proofs.memory.PagesKept.{free_loose}
use Rattle.vm_kernel.proofs.room.RunPays.{PaysRun, copies_fewer, cost, cost_of_end, frames_due, runs_due}
use Rattle.vm_kernel.proofs.steps.FaultStates.{state_of, with_state}
use Rattle.vm_kernel.specs.Rooms.{HasRoom, KeepsSpare, LeavesRoom, ServeRoom, dues, if_copies, loose_frames, one_if_full, to_run}
use Rattle.vm_kernel.specs.Serving.{runs_now}
use Rattle.vm_kernel.specs.Slow.{DidNothing, EndsCopyIn, EndsWant}
use Rattle.vm_pageout.specs.declared.answer.Reclaim.TheVariants as reclaim
use Rattle.vm_waits.proofs.Copies.{copies_less, copies_rewanted, copies_some, copies_turned}
use Rattle.vm_waits.specs.Waits.{EachOnce, count_copies, one, rewanted, rows_without, turned}
use Rattle.vm_waits.specs.declared.waiting.Destination.{Destination}
use Rattle.vm_waits.specs.declared.waiting.On.TheVariants as on
use Rattle.vm_waits.specs.declared.waiting.Want.TheVariants as want

-- events were told, and no more was taken than was due for them
pub room_after : {more : ℕ} {k k2 : Parts} {room room2 : ℕ} (before after : ℕ) → HasRoom more k room → after + dues k2 ≤ before + dues k
    → room + before ≤ room2 + after
    → k.memory.resident.spare + before ≤ k2.memory.resident.spare + after → k.chains.spare + k2.chains.marked ≤ k2.chains.spare + k.chains.marked
    → k.memory.objects.rows + k2.chains.marked ≤ k2.memory.objects.rows + k.chains.marked → HasRoom more k2 room2
room_after {more} {k} {k2} {room} {room2} before after has paid log rows shadows objects =
    let all = has.log in
    let each = has.rows in
    let some = has.shadows in
    let few = has.objects in
    record {
      log = by (dues k2) (dues k) room room2 more paid log all;
      rows = by_rows (dues k2) (dues k) k.memory.resident.spare k2.memory.resident.spare paid rows each;
      shadows = omega (arith, shadows, some);
      objects = omega (arith, objects, few);
    }
  where
    by : (d2 d r r2 m : ℕ) → after + d2 ≤ before + d → r + before ≤ r2 + after → d + m ≤ r → d2 + m ≤ r2
    by d2 d r r2 m a b c = omega (arith, a, b, c)

    by_rows : (d2 d r r2 : ℕ) → after + d2 ≤ before + d → r + before ≤ r2 + after → d ≤ r → d2 ≤ r2
    by_rows d2 d r r2 a b c = omega (arith, a, b, c)

-- an access that is run is among those that are to be
pub runs_one : (w : Waiting) → runs_now w.on ≡ true → one_again w.on + one_frame w.on ≡ 1
runs_one w runs = by w.on runs
  where
    by : (reason : On) → runs_now reason ≡ true → one_again reason + one_frame reason ≡ 1
    by on.Again is = refl
    by (on.Ready object) is = absurd (let bad : false ≡ true = is in cc)
    by (on.Page key) is = absurd (let bad : false ≡ true = is in cc)
    by (on.Push key) is = absurd (let bad : false ≡ true = is in cc)
    by on.Frame is = refl

pub some_run : (rows : List Waiting) (w : Waiting) → entry rows w.task.0 ≡ Some w → runs_now w.on ≡ true → 0 < to_run rows
some_run rows w is runs = by (count_again rows) (queued rows) refl refl
  where
    or_both : (a b : Bool) → (a || b) ≡ true → a ≡ false → b ≡ true
    or_both true b one none = absurd (let bad : true ≡ false = none in cc)
    or_both false b one none = one

    by : (a q : ℕ) → count_again rows ≡ a → queued rows ≡ q → 0 < count_again rows + queued rows
    by zero zero again frames =
        absurd (let bad : false ≡ true = sym (none_queued rows w.task.0 w frames is)
        ∙ or_both (is_again w.on) (is_frame w.on) runs (none_again rows w.task.0 w again is) in cc)
    by (suc a) q again frames = omega (arith, again)
    by zero (suc q) again frames = omega (arith, frames)

-- what is due, for the frames and for the rest
dues_are : (k : Parts) → dues k ≡ 3 * to_run k.waits.rows + k.chains.marked + frames_due (count_copies k.waits.rows) k.memory
dues_are k = omega arith

-- what is due for the frames where fewer slow copies wait
due_fewer : (few copies : ℕ) (parts : HostParts) → few ≤ copies → frames_due few parts ≤ frames_due copies parts
due_fewer few copies parts le = let less = copies_fewer few copies (loose_frames parts) le in omega (arith, less)

-- there is room for its run
pub room_to_run : {more : ℕ} {k : Parts} {room : ℕ} (what : Want) → HasRoom more k room → Fit k.memory → 0 < to_run k.waits.rows
    → (is_copying what ≡ true → 0 < count_copies k.waits.rows) → run.HasRoom what k.memory k.chains room
room_to_run {more} {k} {room} what has fit some copies =
    let all = has.log in
    let each = has.rows in
    let left = left_due what copies in
    record {
      log =
          by (to_run k.waits.rows) k.chains.marked (if_copies (count_copies k.waits.rows) (loose_frames k.memory)) (free k.memory.frames) (pages_left what) room
          (one_if_full k.memory.frames) all some left;
      rows =
          by_rows (to_run k.waits.rows) k.chains.marked (if_copies (count_copies k.waits.rows) (loose_frames k.memory)) (free k.memory.frames) (pages_left what)
          k.memory.resident.spare (one_if_full k.memory.frames) each some left;
      shadows = has.shadows;
      objects = has.objects;
    }
  where
    by_copies : (n : ℕ) → 0 < n → (a b : ℕ) → a ≤ b → a ≤ if_copies n b
    by_copies zero less a b le = absurd (omega (arith, less))
    by_copies (suc n) less a b le = le

    left_due : (w : Want) → (is_copying w ≡ true → 0 < count_copies k.waits.rows)
        → min (pages_left w) (free k.memory.frames) ≤ if_copies (count_copies k.waits.rows) (loose_frames k.memory)
    left_due (want.Load address n) some_copy = omega arith
    left_due (want.Store address n number) some_copy = omega arith
    left_due (want.CopyTo address pages target next) some_copy =
        let loose = free_loose k.memory fit in
        by_copies (count_copies k.waits.rows) (some_copy refl) _ _ (omega (arith, loose))

    by : (n m l f p r x : ℕ) → 3 * n + m + 2 * l + x + more ≤ r → 0 < n → min p f ≤ l → 3 + min p f ≤ r
    by n m l f p r x a b c = omega (arith, a, b, c)

    by_rows : (n m l f p r x : ℕ) → 3 * n + m + 2 * l + x ≤ r → 0 < n → min p f ≤ l → 1 + min p f ≤ r
    by_rows n m l f p r x a b c = omega (arith, a, b, c)

-- what an access that isn't to be run any more has told was due, with those events that its end tells besides
pub few_left : {ids : Ids} {before : List Event} (k k2 : Parts) (answer : FaultStep) (w : Waiting) (new : FaultState) (extra : ℕ) (after : List Event)
    → PaysRun (count_copies k.waits.rows) (cost answer w.want) (state_of k ids before) new → cost answer w.want + extra ≤ 3 → runs_now w.on ≡ true
    → count_again k2.waits.rows + one_again w.on ≡ count_again k.waits.rows → queued k2.waits.rows + one_frame w.on ≡ queued k.waits.rows
    → count_copies k2.waits.rows ≤ count_copies k.waits.rows → k2.memory ≡ new.parts → k2.chains.marked ≡ new.chains.marked
    → length after ≡ length new.events + extra → length after + dues k2 ≤ length before + dues k
few_left {ids} {before} k k2 answer w new extra after pays costs runs again frames copies memory marks told =
    let one = runs_one w runs in
    let paid = pays.pays in
    let due : frames_due (count_copies k.waits.rows) k2.memory ≡ frames_due (count_copies k.waits.rows) new.parts = ap (frames_due (count_copies k.waits.rows))
    memory in
    let less = due_fewer (count_copies k2.waits.rows) (count_copies k.waits.rows) k2.memory copies in
    let more_dues = dues_are k2 in
    let had_dues = dues_are k in
    let sum =
    by (length after) (length new.events) (length before) extra (count_again k2.waits.rows) (queued k2.waits.rows) (count_again k.waits.rows)
    (queued k.waits.rows) (one_again w.on) (one_frame w.on) new.chains.marked k.chains.marked
    (frames_due (count_copies k.waits.rows) k2.memory) (frames_due (count_copies k.waits.rows) new.parts) (frames_due (count_copies k.waits.rows) k.memory)
    (cost answer w.want) told again frames one due paid costs in
    omega (arith, more_dues, had_dues, sum, less, marks)
  where
    by : (a e b x c2 q2 c q u v m2 m f2 f1 f t : ℕ) → a ≡ e + x → c2 + u ≡ c → q2 + v ≡ q → u + v ≡ 1 → f2 ≡ f1 → e + (m2 + f1) ≤ b + (m + f) + t → t + x ≤ 3
        → a + (3 * (c2 + q2) + m2 + f2) ≤ b + (3 * (c + q) + m + f)
    by a e b x c2 q2 c q u v m2 m f2 f1 f t i j k2 l n o p = omega (arith, i, j, k2, l, n, o, p)

-- so much room is left behind it
pub room_left : {more : ℕ} {k k2 : Parts} {ids : Ids} {room room2 : ℕ} {before : List Event} (answer : FaultStep) (w : Waiting) (new : FaultState)
    (room1 extra : ℕ) (after : List Event) → HasRoom more k room → PaysRun (count_copies k.waits.rows) (cost answer w.want) (state_of k ids before) new
    → TakesRoom (state_of k ids before) new room room1 → cost answer w.want + extra ≤ 3 → runs_now w.on ≡ true
    → count_again k2.waits.rows + one_again w.on ≡ count_again k.waits.rows → queued k2.waits.rows + one_frame w.on ≡ queued k.waits.rows
    → count_copies k2.waits.rows ≤ count_copies k.waits.rows
    → k2.memory ≡ new.parts → (k2.chains.spare ≡ new.chains.spare) × (k2.chains.marked ≡ new.chains.marked) → length after ≡ length new.events + extra
    → room1 + length new.events ≤ room2 + length after → HasRoom more k2 room2
room_left {more} {k} {k2} {ids} {room} {room2} {before} answer w new room1 extra after has pays takes costs runs again frames copies memory chains told last =
    let log = takes.log in
    let rows = takes.rows in
    let spare : k2.memory.resident.spare ≡ new.parts.resident.spare = ap (λ (z : HostParts). z.resident.spare) memory in
    let shadows = takes.shadows in
    let objects = takes.objects in
    let under = chains.0 in
    let marks = chains.1 in
    let few : k2.memory.objects.rows ≡ new.parts.objects.rows = ap (λ (z : HostParts). z.objects.rows) memory in
    room_after (length before) (length after) has (few_left k k2 answer w new extra after pays costs runs again frames copies memory marks told)
    (omega (arith, log, last)) (omega (arith, rows, spare, told)) (omega (arith, shadows, under, marks)) (omega (arith, objects, few, marks))

-- an access that fails tells one event, and takes nothing but its row away

pub room_to_fail : {more : ℕ} {k : Parts} {room : ℕ} → HasRoom more k room → 0 < to_run k.waits.rows → 0 < room
room_to_fail {k = k} has some = let all = has.log in let due = dues_are k in omega (arith, all, some, due)

pub few_failed : (k : Parts) (w : Waiting) (waits : WaitTable) (before after : ℕ) → runs_now w.on ≡ true
    → count_again waits.rows + one_again w.on ≡ count_again k.waits.rows → queued waits.rows + one_frame w.on ≡ queued k.waits.rows
    → waits.rows ≡ rows_without w.task.0 k.waits.rows → after ≡ suc before → after + dues (record k { waits = waits }) ≤ before + dues k
few_failed k w waits before after runs again frames goes told =
    let one = runs_one w runs in
    let fewer : count_copies waits.rows ≤ count_copies k.waits.rows = subst (λ (z : List Waiting). count_copies z ≤ count_copies k.waits.rows) (sym goes)
    (copies_less w.task.0 k.waits.rows) in
    let less = due_fewer (count_copies waits.rows) (count_copies k.waits.rows) k.memory fewer in
    let more_dues = dues_are (record k { waits = waits }) in
    let had_dues = dues_are k in
    omega (arith, one, again, frames, less, more_dues, had_dues, told)

pub room_failed : {more : ℕ} (k : Parts) (w : Waiting) (waits : WaitTable) (before after room room2 : ℕ) → HasRoom more k room → runs_now w.on ≡ true
    → count_again waits.rows + one_again w.on ≡ count_again k.waits.rows → queued waits.rows + one_frame w.on ≡ queued k.waits.rows
    → waits.rows ≡ rows_without w.task.0 k.waits.rows → after ≡ suc before → room ≤ room2 + 1 → HasRoom more (record k { waits = waits }) room2
room_failed k w waits before after room room2 has runs again frames goes told last =
    room_after before after has (few_failed k w waits before after runs again frames goes told) (omega (arith, told, last)) (omega (arith, told))
    (omega arith) (omega arith)

-- what the end of an access tells besides: two events where it is a slow copy
pub record TellsEnd (w : Waiting) (old new : Parts) (before after : List Event) : Type 0 where
  pub extra : ℕ
  pub told : length after ≡ length before + extra
  pub costs : cost_of_end w.want + extra ≤ 3
  pub memory : new.memory ≡ old.memory

pub tells_end : (w : Waiting) (old new : Parts) (before after : List Event) → EndsCopyIn w old new before after → TellsEnd w old new before after
tells_end w old new before after did = by w.want w.destination refl did
  where
    nothing : (what : Want) → w.want ≡ what → DidNothing old new before after → TellsEnd w old new before after
    nothing what is none =
        let most = costs_most what in
        let same : cost_of_end w.want ≡ cost_of_end what = ap cost_of_end is in
        let told : length after ≡ length before = ap length none.told in
        record { extra = 0; told = omega (arith, told); costs = omega (arith, most, same); memory = ap (λ (z : Parts). z.memory) none.same }
      where
        costs_most : (what2 : Want) → cost_of_end what2 ≤ 3
        costs_most (want.Load address n) = omega arith
        costs_most (want.Store address n value) = omega arith
        costs_most (want.CopyTo address pages target next) = omega arith

    by : (what : Want) (destination : Option Destination) → w.want ≡ what → EndsWant w.task what destination old new before after
        → TellsEnd w old new before after
    by (want.Load address n) destination is none = nothing (want.Load address n) is none
    by (want.Store address n value) destination is none = nothing (want.Store address n value) is none
    by (want.CopyTo address pages target next) None is none = nothing (want.CopyTo address pages target next) is none
    by (want.CopyTo address pages target next) (Some to) is maps =
        let same : cost_of_end w.want ≡ 0 = ap cost_of_end is in
        let told : length after ≡ suc (suc (length before)) = ap length maps.told in
        record { extra = 2; told = omega (arith, told); costs = omega (arith, same); memory = maps.memory }

-- there is room for that, behind a run
pub room_to_end : {more : ℕ} {k : Parts} {ids : Ids} {room : ℕ} {before : List Event} (answer : FaultStep) (w : Waiting) (new : FaultState) (room1 : ℕ)
    → HasRoom more k room → PaysRun (count_copies k.waits.rows) (cost answer w.want) (state_of k ids before) new
    → TakesRoom (state_of k ids before) new room room1
    → 0 < to_run k.waits.rows → cost answer w.want ≡ cost_of_end w.want → is_copying w.want ≡ true → 2 ≤ room1
room_to_end {more} {k} {ids} {room} {before} answer w new room1 has pays takes some same copying =
    let none : cost_of_end w.want ≡ 0 = copy_free w.want copying in
    let paid = pays.pays in
    let log = takes.log in
    let all = has.log in
    let had_dues = dues_are k in
    omega (arith, none, same, paid, log, all, some, had_dues)
  where
    copy_free : (what : Want) → is_copying what ≡ true → cost_of_end what ≡ 0
    copy_free (want.Load address n) is = absurd (let bad : false ≡ true = is in cc)
    copy_free (want.Store address n value) is = absurd (let bad : false ≡ true = is in cc)
    copy_free (want.CopyTo address pages target next) is = refl

-- an access that wants a frame is among those that are to be run still: all that it has told was due
pub few_wanting : {ids : Ids} {before : List Event} (k k2 : Parts) (source : Option PageKey) (w : Waiting) (new : FaultState)
    → PaysRun (count_copies k.waits.rows) (cost (step.NeedFrame source) w.want) (state_of k ids before) new → to_run k2.waits.rows ≡ to_run k.waits.rows
    → count_copies k2.waits.rows ≤ count_copies k.waits.rows → k2.memory ≡ new.parts → k2.chains ≡ new.chains
    → length new.events + dues k2 ≤ length before + dues k
few_wanting {ids} {before} k k2 source w new pays same copies memory chains =
    let paid = pays.pays in
    let due : frames_due (count_copies k.waits.rows) k2.memory ≡ frames_due (count_copies k.waits.rows) new.parts = ap (frames_due (count_copies k.waits.rows))
    memory in
    let less = due_fewer (count_copies k2.waits.rows) (count_copies k.waits.rows) k2.memory copies in
    let marks : k2.chains.marked ≡ new.chains.marked = ap (λ (z : ChainTable). z.marked) chains in
    let more_dues = dues_are k2 in
    let had_dues = dues_are k in
    omega (arith, more_dues, had_dues, paid, due, less, same, marks)

-- so much room is left behind it
pub room_wanting : {more : ℕ} {k k2 : Parts} {ids : Ids} {room : ℕ} {before : List Event} (source : Option PageKey) (w : Waiting) (new : FaultState) (room2 : ℕ)
    → HasRoom more k room → PaysRun (count_copies k.waits.rows) (cost (step.NeedFrame source) w.want) (state_of k ids before) new
    → TakesRoom (state_of k ids before) new room room2 → to_run k2.waits.rows ≡ to_run k.waits.rows → count_copies k2.waits.rows ≤ count_copies k.waits.rows
    → k2.memory ≡ new.parts → k2.chains ≡ new.chains → HasRoom more k2 room2
room_wanting {more} {k} {k2} {ids} {room} {before} source w new room2 has pays takes same copies memory chains =
    let log = takes.log in
    let rows = takes.rows in
    let spare : k2.memory.resident.spare ≡ new.parts.resident.spare = ap (λ (z : HostParts). z.resident.spare) memory in
    let shadows = takes.shadows in
    let under : k2.chains.spare ≡ new.chains.spare = ap (λ (z : ChainTable). z.spare) chains in
    let marks : k2.chains.marked ≡ new.chains.marked = ap (λ (z : ChainTable). z.marked) chains in
    let objects = takes.objects in
    let few : k2.memory.objects.rows ≡ new.parts.objects.rows = ap (λ (z : HostParts). z.objects.rows) memory in
    room_after (length before) (length new.events) has (few_wanting k k2 source w new pays same copies memory chains) (omega (arith, log))
    (omega (arith, rows, spare)) (omega (arith, shadows, under, marks)) (omega (arith, objects, few, marks))

-- the buffers

pub keeps_both : {a b c : Parts} → KeepsSpare a b → KeepsSpare b c → KeepsSpare a c
keeps_both one two = record { buffers = two.buffers ∙ one.buffers }

pub keeps_none : (k : Parts) → KeepsSpare k k
keeps_none k = record { buffers = refl }

pub run_spare : {copies most : ℕ} {ids : Ids} {before : List Event} (k : Parts) (new : FaultState) (waits2 : WaitTable)
    → PaysRun copies most (state_of k ids before) new → KeepsSpare k (record (with_state k new) { waits = waits2 })
run_spare k new waits2 pays = record { buffers = pays.buffers }

-- the queue is served with what was kept
pub serve_spare : {more : ℕ} {k k2 : Parts} {room room2 : ℕ} → ServeRoom more k room → KeepsSpare k k2 → HasRoom (more + 2) k2 room2 → ServeRoom more k2 room2
serve_spare {k = k} {k2 = k2} had keeps has =
    let some = had.buffers in
    let same : k2.memory.buffers.count ≡ k.memory.buffers.count = ap (λ z. z.count) keeps.buffers in
    record { has = has; buffers = omega (arith, some, same) }

-- a page was reclaimed for the front: its event is paid by the frame that has come free where none was
pub freed_few : {k k2 : Parts} {room room2 : ℕ} (before after : ℕ) → free k.memory.frames ≡ 0 → LeavesRoom reclaim.Freed k k2 room room2 → k2.waits ≡ k.waits
    → after ≤ before + 1 → after + dues k2 ≤ before + dues k
freed_few {k} {k2} {room} {room2} before after none leaves waits told =
    let freed = leaves.freed refl in
    let same : to_run k2.waits.rows ≡ to_run k.waits.rows = ap (λ (z : WaitTable). to_run z.rows) waits in
    let loose : if_copies (count_copies k2.waits.rows) (loose_frames k2.memory) ≡ if_copies (count_copies k.waits.rows) (loose_frames k.memory) = ap
    (λ (z : WaitTable). if_copies (count_copies z.rows) (loose_frames k2.memory)) waits ∙ ap (if_copies (count_copies k.waits.rows)) freed.loose in
    let full : one_if_full k.memory.frames ≡ 1 = ap (λ n. one (n == 0)) none in
    let some_free : one_if_full k2.memory.frames ≡ 0 = ap (λ n. one (n == 0)) (freed.free ∙ ap (λ n. n + 1) none) in
    let marks : k2.chains.marked ≡ k.chains.marked = ap (λ (z : ChainTable). z.marked) leaves.chains in
    omega (arith, same, loose, full, some_free, told, marks)

-- so there is room to serve on
pub freed_room : {more : ℕ} {k k2 : Parts} {room room2 : ℕ} → ServeRoom more k room → free k.memory.frames ≡ 0 → LeavesRoom reclaim.Freed k k2 room room2
    → k2.waits ≡ k.waits → ServeRoom more k2 room2
freed_room {more} {k} {k2} {room} {room2} had none leaves waits =
    let freed = leaves.freed refl in
    let some = had.buffers in
    let kept = freed.buffers in
    let log = freed.log in
    let rows = leaves.rows in
    let objects = leaves.objects in
    let chains : k2.chains.spare ≡ k.chains.spare = ap (λ (z : ChainTable). z.spare) leaves.chains in
    let marks : k2.chains.marked ≡ k.chains.marked = ap (λ (z : ChainTable). z.marked) leaves.chains in
    record {
      has =
          room_after 0 1 had.has (freed_few 0 1 none leaves waits (omega arith)) (omega (arith, log)) (omega (arith, rows)) (omega (arith, chains, marks))
          (omega (arith, objects, marks));
      buffers = omega (arith, some, kept);
    }

-- or it has to wait
pub waits_room : {more : ℕ} {k k2 : Parts} {room room2 : ℕ} (answer : Reclaim) → ServeRoom more k room → LeavesRoom answer k k2 room room2 → more ≤ room2
waits_room answer had leaves =
    let all = had.has.log in
    let log = leaves.log in
    omega (arith, all, log)

-- what was told, one after the other
pub few_both : (a b c d e f : ℕ) → b + e ≤ a + d → c + f ≤ b + e → c + f ≤ a + d
few_both a b c d e f one two = omega (arith, one, two)

-- as much is left where it is served to its end, or nothing happens
pub served_room : {more : ℕ} {k : Parts} {room : ℕ} → ServeRoom more k room → more ≤ room
served_room had = let all = had.has.log in omega (arith, all)

-- nobody is served where nobody queues
pub front_runs : (rows : List Waiting) (w : Waiting) → queued rows ≡ 0 → entry rows w.task.0 ≡ Some w → is_frame w.on ≡ true → ⊥
front_runs rows w none is runs = let bad : false ≡ true = sym (none_queued rows w.task.0 w none is) ∙ runs in cc

-- what a run has paid
pub pays_run : {may : Bool} {last : Want} {new : FaultState} (k : Parts) (ids : Ids) (w : Waiting) (events : List Event) (answer : FaultStep)
    → entry k.waits.rows w.task.0 ≡ Some w → Runs k.maps k.host w.task may answer w.want last (state_of k ids events) new
    → PaysRun (count_copies k.waits.rows) (cost answer w.want) (state_of k ids events) new
pays_run k ids w events answer is runs = runs_due (count_copies k.waits.rows) (copies_some k.waits.rows w.task.0 w is) runs

-- as many slow copies wait behind it, or one fewer
pub copies_turn : (t : ℕ) (what : Want) (reason : On) (old mid new : List Waiting) (was : Waiting) → EachOnce old → entry old t ≡ Some was
    → mid ≡ map (rewanted t what) old → new ≡ map (turned t reason) mid → is_copying what ≡ is_copying was.want → count_copies new ≤ count_copies old
copies_turn t what reason old mid new was once is rows turns kind =
    let first : count_copies mid + one (is_copying was.want) ≡ count_copies old + one (is_copying what) = ap (λ z. count_copies z + one (is_copying was.want))
    rows ∙ copies_rewanted t what old was once is in
    let same : one (is_copying what) ≡ one (is_copying was.want) = ap one kind in
    let last : count_copies new ≡ count_copies mid = ap count_copies turns ∙ copies_turned t reason mid in
    omega (arith, first, same, last)

pub copies_on : (t : ℕ) (what : Want) (old new : List Waiting) (was : Waiting) → EachOnce old → entry old t ≡ Some was → new ≡ map (rewanted t what) old
    → is_copying what ≡ is_copying was.want → count_copies new ≤ count_copies old
copies_on t what old new was once is rows kind =
    let first : count_copies new + one (is_copying was.want) ≡ count_copies old + one (is_copying what) = ap (λ z. count_copies z + one (is_copying was.want))
    rows ∙ copies_rewanted t what old was once is in
    let same : one (is_copying what) ≡ one (is_copying was.want) = ap one kind in
    omega (arith, first, same)

pub copies_gone : (t : ℕ) (what : Want) (old mid new : List Waiting) (was : Waiting) → EachOnce old → entry old t ≡ Some was → mid ≡ map (rewanted t what) old
    → new ≡ rows_without t mid → is_copying what ≡ is_copying was.want → count_copies new ≤ count_copies old
copies_gone t what old mid new was once is rows goes kind =
    let first = copies_on t what old mid was once is rows kind in
    let last : count_copies new ≤ count_copies mid = subst (λ (z : List Waiting). count_copies z ≤ count_copies mid) (sym goes) (copies_less t mid) in
    omega (arith, first, last)

pub cost_most : (answer : FaultStep) (what : Want) → cost answer what + 0 ≤ 3
cost_most (step.Done value) (want.Load address n) = omega arith
cost_most (step.Done value) (want.Store address n number) = omega arith
cost_most (step.Done value) (want.CopyTo address pages target next) = omega arith
cost_most (step.Ask key) what = omega arith
cost_most (step.Unlock key) what = omega arith
cost_most (step.WaitReady object) what = omega arith
cost_most (step.WaitAnswer key) what = omega arith
cost_most (step.NeedFrame source) what = omega arith

-- rows that are changed where they stand, or one of them gone
pub as_many : (f g : Waiting → Waiting) (rows mid new : List Waiting) → mid ≡ map f rows → new ≡ map g mid → length new ≤ length rows
as_many f g rows mid new one two =
    let first : length mid ≡ length rows = ap length one ∙ length-map rows f in
    let last : length new ≡ length mid = ap length two ∙ length-map mid g in
    omega (arith, first, last)

pub as_many_once : (f : Waiting → Waiting) (rows new : List Waiting) → new ≡ map f rows → length new ≤ length rows
as_many_once f rows new one =
    let first : length new ≡ length rows = ap length one ∙ length-map rows f in
    omega (arith, first)

pub one_fewer : (f : Waiting → Waiting) (rows mid new : List Waiting) → mid ≡ map f rows → length new + 1 ≡ length mid → length new ≤ length rows
one_fewer f rows mid new one two =
    let first : length mid ≡ length rows = ap length one ∙ length-map rows f in
    omega (arith, first, two)

-- whoever joins the queue, or stays in it, is to be run still
pub as_many_run : (w : Waiting) (old new : List Waiting) → runs_now w.on ≡ true → count_again new + one_again w.on ≡ count_again old
    → queued new ≡ queued old + (1 - one_frame w.on) → to_run new ≡ to_run old
as_many_run w old new runs again frames =
    let one = runs_one w runs in
    omega (arith, one, again, frames)
