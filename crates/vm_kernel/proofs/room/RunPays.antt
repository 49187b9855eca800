-- What running an access pays for what it tells: each event comes out of what was due, but for three where it ends or waits for a pager.
use Rattle.vm_kernel.proofs.Common.{Bool, ChainTable, Changes, Event, FrameNo, HostId, HostParts, List, Mapped, None, ObjectId, Option, PageKey, PageRow}
use Rattle.vm_kernel.proofs.Common.{Queues, RegionId, RegionRow, Some, TaskId, Want, ap, arith, false, frame_count, free, inl, inr, length, length-set, refl}
use Rattle.vm_kernel.proofs.Common.{suc, true}
use Rattle.vm_kernel.proofs.Common.{zero, ℕ, ◌&&◌, ◌*◌, ◌+◌, ◌-◌, ◌<◌, ◌==◌, ◌||◌, ◌∙◌, ◌∷◌, ◌≡◌, ◌≤◌}
use Rattle.vm_fault.specs.Faults.{AfterZeros, AtOnce, Comes, Copied, Ended, FaultState, Faulted, GoesOn, Hits, NothingChanges, Prepares, Raised, References}
use Rattle.vm_fault.specs.Faults.{Runs, Stops, WritesPage, want_after}
use Rattle.vm_fault.specs.Walks.{is_copying, is_storing}
use Rattle.vm_fault.specs.declared.step.FaultStep.{FaultStep}
use Rattle.vm_fault.specs.declared.step.FaultStep.TheVariants as step
use Rattle.vm_kernel.proofs.memory.PagesKept.{kept_most, kept_one}
use Rattle.vm_kernel.proofs.memory.PagesShown.{itself}
use Rattle.vm_kernel.specs.Rooms.{if_copies, is_kept, kept_below, loose_frames, one_if_full}
use Rattle.vm_parts.specs.Changes.{clean_row, unlocked}
use Rattle.vm_waits.specs.Waits.{one}
use Rattle.vm_waits.specs.Wants.{with_page_done}
use Rattle.vm_waits.specs.declared.waiting.Want.TheVariants as want
use Rattle.vm_fault.specs.Faults.{Pushed}

-- what is due for the frames, where so many slow copies wait
abbrev pub frames_due : ℕ → HostParts → ℕ
frames_due copies parts = 2 * if_copies copies (loose_frames parts) + one_if_full parts.frames

-- and for the marks
abbrev pub state_due : ℕ → FaultState → ℕ
state_due copies s = s.chains.marked + frames_due copies s.parts

-- so much is paid by others, at most, for what is told meanwhile; no buffer is taken
pub record Pays (copies most : ℕ) (old new : HostParts) (before after : ℕ) : Type 0 where
  pub pays : after + frames_due copies new ≤ before + frames_due copies old + most
  pub buffers : new.buffers ≡ old.buffers

full_most : (b : Bool) → one b ≤ 1
full_most true = omega arith
full_most false = omega arith

-- a change of one page makes as much of the frames without a page that is kept as of that page
pub loose_moves : {key : PageKey} {frame : FrameNo} {was now : Option PageRow} {held : Bool} {bytes : List ℕ} {lists : Queues} {old new : HostParts}
    → Changes key frame was now held bytes lists old new
    → loose_frames new + one (is_kept frame.0 now) ≡ loose_frames old + one (is_kept frame.0 was)
loose_moves {key} {frame} {was} {now} {held} {bytes} {lists} {old} {new} c =
    let count : frame_count new.frames ≡ frame_count old.frames = ap frame_count c.frames ∙ length-set old.frames.claims frame.0 held in
    let same : kept_below new.resident (frame_count new.frames) ≡ kept_below new.resident (frame_count old.frames) = ap (kept_below new.resident) count in
    let moved = kept_one c (frame_count old.frames) c.inside in
    let most = kept_most old.resident (frame_count old.frames) in
    let most2 = kept_most new.resident (frame_count old.frames) in
    by (frame_count new.frames) (frame_count old.frames) (kept_below new.resident (frame_count new.frames)) (kept_below new.resident (frame_count old.frames))
    (kept_below old.resident (frame_count old.frames)) (one (is_kept frame.0 was)) (one (is_kept frame.0 now)) count same moved most most2
  where
    by : (n2 n a b c x y : ℕ) → n2 ≡ n → a ≡ b → b + x ≡ c + y → c ≤ n → b ≤ n → (n2 - a) + y ≡ (n - c) + x
    by n2 n a b c x y e f g l m = omega (arith, e, f, g, l, m)

-- as many, or fewer
pub copies_more : (copies a b : ℕ) → a ≤ b → if_copies copies a ≤ if_copies copies b
copies_more zero a b le = omega arith
copies_more (suc copies) a b le = le

pub copies_fewer : (few copies n : ℕ) → few ≤ copies → if_copies few n ≤ if_copies copies n
copies_fewer zero copies n le = omega arith
copies_fewer (suc few) zero n le = absurd (omega (arith, le))
copies_fewer (suc few) (suc copies) n le = omega arith

pub copies_all : (copies n : ℕ) → if_copies copies n ≤ n
copies_all zero n = omega arith
copies_all (suc copies) n = omega arith

-- a page comes into a frame that was free
pub comes_due : {key : PageKey} {frame : FrameNo} {row : PageRow} {bytes : List ℕ} {lists : Queues} {old new : HostParts} (copies : ℕ)
    → Changes key frame None (Some row) true bytes lists old new
    → frames_due copies new + 2 * if_copies copies (one (is_kept frame.0 (Some row))) ≤ frames_due copies old + 1
comes_due {key} {frame} {row} {bytes} {lists} {old} {new} copies c =
    let moved : loose_frames new + one (is_kept frame.0 (Some row)) ≡ loose_frames old + one (is_kept frame.0 None) = loose_moves c in
    let none : one (is_kept frame.0 None) ≡ 0 = refl in
    let most : one_if_full new.frames ≤ 1 = full_most (free new.frames == 0) in
    by copies (loose_frames new) (loose_frames old) (one (is_kept frame.0 (Some row))) (one_if_full new.frames) (one_if_full old.frames) moved most
  where
    by : (n a b x f g : ℕ) → a + x ≡ b + 0 → f ≤ 1 → (2 * if_copies n a + f) + 2 * if_copies n x ≤ (2 * if_copies n b + g) + 1
    by zero a b x f g e m = omega (arith, m)
    by (suc n) a b x f g e m = omega (arith, e, m)

-- a page that has a frame changes there
pub stays_due : {key : PageKey} {frame : FrameNo} {was now : PageRow} {bytes : List ℕ} {lists : Queues} {old new : HostParts} (copies : ℕ)
    → Changes key frame (Some was) (Some now) true bytes lists old new
    → frames_due copies new + 2 * if_copies copies (one (is_kept frame.0 (Some now))) ≡ frames_due copies old + 2 * if_copies copies
    (one (is_kept frame.0 (Some was)))
stays_due {key} {frame} {was} {now} {bytes} {lists} {old} {new} copies c =
    let moved : loose_frames new + one (is_kept frame.0 (Some now)) ≡ loose_frames old + one (is_kept frame.0 (Some was)) = loose_moves c in
    let left : free new.frames + 1 ≡ free old.frames + 1 = c.left in
    let same : free new.frames ≡ free old.frames = omega (arith, left) in
    by copies (loose_frames new) (loose_frames old) (one (is_kept frame.0 (Some now))) (one (is_kept frame.0 (Some was))) (one_if_full new.frames)
    (one_if_full old.frames) moved (ap (λ n. one (n == 0)) same)
  where
    by : (n a b x y f g : ℕ) → a + x ≡ b + y → f ≡ g → (2 * if_copies n a + f) + 2 * if_copies n x ≡ (2 * if_copies n b + g) + 2 * if_copies n y
    by zero a b x y f g e m = omega (arith, m)
    by (suc n) a b x y f g e m = omega (arith, e, m)

dirty_more : (a b c d : Bool) → one (a && (b && (c || d))) ≤ one (a && (b && (true || d)))
dirty_more false b c d = omega arith
dirty_more true false c d = omega arith
dirty_more true true true d = omega arith
dirty_more true true false true = omega arith
dirty_more true true false false = omega arith

-- a page that was copied from another is kept
raised_kept : (frame : FrameNo) → one (is_kept frame.0 (Some (record (clean_row frame unlocked false) { dirty = true }))) ≡ 1
raised_kept frame = ap (λ b. one (b && true)) (itself frame.0)

-- the page in a frame is marked, and nothing is due for that
refers_due : (copies : ℕ) (frame : FrameNo) (old new : HostParts) → References frame old new → (frames_due copies new ≡ frames_due copies old)
    × (new.buffers ≡ old.buffers)
refers_due copies frame old new refers = (ap (frames_due copies) refers.is, ap (λ (z : HostParts). z.buffers) refers.is)

-- an access that ends with a page that is here
hits_due : (copies : ℕ) (task : TaskId) (what : Want) (key : PageKey) (frame : FrameNo) (at value : ℕ) (e : Event) (old new : HostParts)
    → Hits task what key frame at value e old new → (frames_due copies new ≤ frames_due copies old) × (new.buffers ≡ old.buffers)
hits_due copies task (want.Load address n) key frame at value e old new hits =
    let same = refers_due copies frame old new hits.1 in
    let due = same.0 in
    (omega (arith, due), same.1)
hits_due copies task (want.CopyTo address pages target next) key frame at value e old new hits = absurd hits
hits_due copies task (want.Store address n number) key frame at value e old new hits =
    let mid = hits.1.0 in
    let wrote : WritesPage key frame at n number old mid = hits.1.1 in
    let row = wrote.row in
    let same = refers_due copies frame mid new hits.1.2 in
    let due : frames_due copies new ≡ frames_due copies mid = same.0 in
    let stays : frames_due copies mid + 2 * if_copies copies (one (is_kept row.frame.0 (Some (record row { dirty = true })))) ≡ frames_due copies old + 2 *
    if_copies copies (one (is_kept row.frame.0 (Some row))) = stays_due copies wrote.page in
    let more = copies_more copies _ _ (dirty_more (row.frame.0 == row.frame.0) row.here row.dirty row.precious) in (
      by (frames_due copies new) (frames_due copies mid) (frames_due copies old) (if_copies copies
          (one (is_kept row.frame.0 (Some (record row { dirty = true }))))) (if_copies copies (one (is_kept row.frame.0 (Some row)))) due stays more,
      same.1
          ∙ wrote.plan.buffers,
    )
  where
    by : (a b c x y : ℕ) → a ≡ b → b + 2 * x ≡ c + 2 * y → y ≤ x → a ≤ c
    by a b c x y e f m = omega (arith, e, f, m)

-- what is paid by others where an access ends
abbrev pub cost_of_end : Want → ℕ
cost_of_end (want.Load address size) = 3
cost_of_end (want.Store address size value) = 3
cost_of_end (want.CopyTo address pages target next) = 0

abbrev pub cost : FaultStep → Want → ℕ
cost (step.Done value) what = cost_of_end what
cost (step.Ask key) what = 3
cost (step.Unlock key) what = 3
cost (step.WaitReady object) what = 3
cost (step.WaitAnswer key) what = 3
cost (step.NeedFrame source) what = 0

hit_costs : (task : TaskId) (what : Want) (key : PageKey) (frame : FrameNo) (at value : ℕ) (e : Event) (old new : HostParts)
    → Hits task what key frame at value e old new → cost_of_end what ≡ 3
hit_costs task (want.Load address n) key frame at value e old new hits = refl
hit_costs task (want.Store address n number) key frame at value e old new hits = refl
hit_costs task (want.CopyTo address pages target next) key frame at value e old new hits = absurd hits

ended_due : (copies : ℕ) (host : HostId) (task : TaskId) (what : Want) (top : PageKey) (at value : ℕ) (mid new : FaultState)
    → (is_copying what ≡ true → 0 < copies) → Ended host task what top at value mid.parts new.parts mid.chains mid.copies new.copies mid.events new.events
    → Pays copies (cost_of_end what) mid.parts new.parts (length mid.events) (length new.events)
ended_due copies host task what top at value mid new some (AtOnce steps key row finds only opens owes e hits same told) =
    let costs : cost_of_end what ≡ 3 = hit_costs task what key row.frame at value e mid.parts new.parts hits in
    let due = hits_due copies task what key row.frame at value e mid.parts new.parts hits in
    let less = due.0 in
    let more : length new.events ≡ length (e ∷ mid.events) = ap length told in
    record { pays = omega (arith, costs, less, more); buffers = due.1 }
ended_due copies host task what top at value mid new some
    (Pushed row finds stores opens place owed none frame copied raises plan e hits notes told) =
    let costs : cost_of_end what ≡ 3 = hit_costs task what top row.frame at value e copied new.parts hits in
    let come : frames_due copies copied + 2 * if_copies copies (one (is_kept frame.0
    (Some (record (clean_row frame unlocked false) { dirty = true })))) ≤ frames_due copies mid.parts + 1 = comes_due copies raises in
    let due = hits_due copies task what top row.frame at value e copied new.parts hits in
    let less = due.0 in
    let more : length new.events ≡ suc (suc (length mid.events)) = ap length told in
    record { pays = omega (arith, costs, come, less, more); buffers = due.1 ∙ plan.buffers }
ended_due copies host task what top at value mid new some
    (Raised steps key row finds stores opens frame copied hit raises plan e hits refers notes told) =
    let costs : cost_of_end what ≡ 3 = hit_costs task what top frame at value e copied hit hits in
    let come : frames_due copies copied + 2 * if_copies copies (one (is_kept frame.0
    (Some (record (clean_row frame unlocked false) { dirty = true })))) ≤ frames_due copies mid.parts + 1 = comes_due copies raises in
    let due = hits_due copies task what top frame at value e copied hit hits in
    let less = due.0 in
    let last = refers_due copies row.frame hit new.parts refers in
    let same = last.0 in
    let more : length new.events ≡ suc (suc (length mid.events)) = ap length told in
    record { pays = omega (arith, costs, come, less, same, more); buffers = last.1 ∙ (due.1 ∙ plan.buffers) }
ended_due copies host task what top at value mid new some (AfterZeros sinks frame brought brings plan e hits notes told) =
    let costs : cost_of_end what ≡ 3 = hit_costs task what top frame at value e brought new.parts hits in
    let come : frames_due copies brought + 2 * if_copies copies (one (is_kept frame.0 (Some (clean_row frame unlocked false)))) ≤ frames_due copies
    mid.parts + 1 = comes_due copies brings in
    let due = hits_due copies task what top frame at value e brought new.parts hits in
    let less = due.0 in
    let more : length new.events ≡ suc (suc (length mid.events)) = ap length told in
    record { pays = omega (arith, costs, come, less, more); buffers = due.1 ∙ plan.buffers }
ended_due copies host task what top at value mid new some
    (Copied address pages next target is steps key row finds out none made same) =
    let come : frames_due copies made.copied + 2 * if_copies copies (one (is_kept made.frame.0
    (Some (record (clean_row made.frame unlocked false) { dirty = true })))) ≤ frames_due copies mid.parts + 1 = comes_due copies made.page in
    let kept : if_copies copies (one (is_kept made.frame.0 (Some (record (clean_row made.frame unlocked false) { dirty = true })))) ≡ 1 = by_copies copies
    (some (ap is_copying is)) _ (raised_kept made.frame) in
    let first = refers_due copies made.frame made.copied made.hit made.marks in
    let last = refers_due copies row.frame made.hit new.parts made.source in
    let same = first.0 in
    let same2 = last.0 in
    let more : length new.events ≡ suc (length mid.events) = ap length made.told in
    record { pays = omega (arith, come, kept, same, same2, more); buffers = last.1 ∙ (first.1 ∙ made.plan.buffers) }
  where
    by_copies : (n : ℕ) → 0 < n → (x : ℕ) → x ≡ 1 → if_copies n x ≡ 1
    by_copies zero less x is = absurd (omega (arith, less))
    by_copies (suc n) less x is = is

nothing_due : (copies : ℕ) (old new : FaultState) (most : ℕ) → NothingChanges old new
    → Pays copies most old.parts new.parts (length old.events) (length new.events)
nothing_due copies old new most none =
    let due : frames_due copies new.parts ≡ frames_due copies old.parts = ap (frames_due copies) none.parts in
    let told : length new.events ≡ length old.events = ap length none.told in
    record { pays = omega (arith, due, told); buffers = ap (λ (z : HostParts). z.buffers) none.parts }

comes_to : (copies : ℕ) (host : HostId) (task : TaskId) (what : Want) (may : Bool) (top : PageKey) (at : ℕ) (answer : FaultStep) (mid new : FaultState)
    → (is_copying what ≡ true → 0 < copies) → Comes host task what may top at answer mid new
    → Pays copies (cost answer what) mid.parts new.parts (length mid.events) (length new.events)
comes_to copies host task what may top at (step.Done value) mid new some ended = ended_due copies host task what top at value mid new some ended
comes_to copies host task what may top at (step.Ask key) mid new some asks =
    let come = comes_due copies asks.0.page in
    let more : length new.events ≡ suc (length mid.events) = ap length asks.0.told in
    record { pays = omega (arith, come, more); buffers = asks.0.plan.buffers }
comes_to copies host task what may top at (step.Unlock key) mid new some asks =
    let row = asks.0.row in
    let stays : frames_due copies new.parts + 2 * if_copies copies (one (is_kept row.frame.0 (Some (record row { unlock_sent = true })))) ≡ frames_due copies
    mid.parts + 2 * if_copies copies (one (is_kept row.frame.0 (Some row))) = stays_due copies asks.0.page in
    let same : if_copies copies (one (is_kept row.frame.0 (Some (record row { unlock_sent = true })))) ≡ if_copies copies
    (one (is_kept row.frame.0 (Some row))) = refl in
    let more : length new.events ≡ suc (length mid.events) = ap length asks.0.told in
    record { pays = omega (arith, stays, same, more); buffers = asks.0.plan.buffers }
comes_to copies host task what may top at (step.WaitReady object) mid new some waits = nothing_due copies mid new 3 waits.1
comes_to copies host task what may top at (step.WaitAnswer key) mid new some waits = nothing_due copies mid new 3 waits.1
comes_to copies host task what may top at (step.NeedFrame source) mid new some needs = nothing_due copies mid new 0 needs.2

-- a shadow is paid by its mark, and so is what is told of a mark that goes
prepares_due : (copies : ℕ) (is : Bool) (region : RegionId) (row : RegionRow) (old mid : FaultState) → Prepares is region row old mid
    → (length mid.events + mid.chains.marked ≡ length old.events + old.chains.marked) × (frames_due copies mid.parts ≡ frames_due copies old.parts)
    × (mid.parts.buffers ≡ old.parts.buffers)
prepares_due copies true region row old mid (inl made) =
    let more : length mid.events ≡ suc (length old.events) = ap length made.told in
    let fewer = made.fewer in
    (omega (arith, more, fewer), ap (frames_due copies) made.parts, ap (λ (z : HostParts). z.buffers) made.parts)
prepares_due copies true region row old mid (inr loses) =
    let more : length mid.events ≡ suc (length old.events) = ap length loses.told in
    let fewer = loses.fewer in
    (omega (arith, more, fewer), ap (frames_due copies) loses.parts, ap (λ (z : HostParts). z.buffers) loses.parts)
prepares_due copies false region row old mid same = (
  ap (λ (z : FaultState). length z.events + z.chains.marked) same,
  ap (λ (z : FaultState). frames_due copies z.parts) same,
  ap (λ (z : FaultState). z.parts.buffers) same,
)

-- an access was run, where so many slow copies wait, and that was paid
pub record PaysRun (copies most : ℕ) (old new : FaultState) : Type 0 where
  pub pays : length new.events + state_due copies new ≤ length old.events + state_due copies old + most
  pub buffers : new.parts.buffers ≡ old.parts.buffers

faulted_due : {maps : Mapped} {host : HostId} {task : TaskId} {what : Want} {may : Bool} {answer : FaultStep} {old new : FaultState} (copies : ℕ)
    → (is_copying what ≡ true → 0 < copies) → Faulted maps host task what may answer old new → PaysRun copies (cost answer what) old new
faulted_due {maps} {host} {task} {what} {may} {answer} {old} {new} copies some f =
    let first = prepares_due copies (is_storing what && f.row.marked) f.entry.region f.row old f.mid f.prepares in
    let rest = comes_to copies host task what may f.top _ answer f.mid new some f.comes in
    let marks : new.chains.marked ≡ f.mid.chains.marked = ap (λ (z : ChainTable). z.marked) f.chains in
    let one = first.0 in
    let two = first.1 in
    let three = rest.pays in
    record { pays = omega (arith, marks, one, two, three); buffers = rest.buffers ∙ first.2 }

-- a slow copy pays for each page itself

copy_costs : (answer : FaultStep) (address pages : ℕ) (target : ObjectId) (next : ℕ)
    → cost answer (want.CopyTo address pages target (next + 1)) ≡ cost answer (want.CopyTo address pages target next)
copy_costs (step.Done value) address pages target next = refl
copy_costs (step.Ask key) address pages target next = refl
copy_costs (step.Unlock key) address pages target next = refl
copy_costs (step.WaitReady object) address pages target next = refl
copy_costs (step.WaitAnswer key) address pages target next = refl
copy_costs (step.NeedFrame source) address pages target next = refl

run_due : (copies : ℕ) (maps : Mapped) (host : HostId) (task : TaskId) (may : Bool) (answer : FaultStep) (what last : Want) (old new : FaultState)
    → (is_copying what ≡ true → 0 < copies) → Runs maps host task may answer what last old new → PaysRun copies (cost answer what) old new
run_due copies maps host task may answer what last old new some (Stops _ _ _ faulted over) = faulted_due copies some faulted
run_due copies maps host task may answer (want.Load address n) last old new some (GoesOn _ _ value _ mid _ faulted more rest) =
    absurd (let bad : false ≡ true = more in cc)
run_due copies maps host task may answer (want.Store address n number) last old new some (GoesOn _ _ value _ mid _ faulted more rest) =
    absurd (let bad : false ≡ true = more in cc)
run_due copies maps host task may answer (want.CopyTo address pages target next) last old new some (GoesOn _ _ value _ mid _ faulted more rest) =
    let first = faulted_due copies some faulted in
    let then = run_due copies maps host task may answer (want.CopyTo address pages target (next + 1)) last mid new some rest in
    let same = copy_costs answer address pages target next in
    let paid = first.pays in
    let paid2 = then.pays in
    record { pays = omega (arith, paid, paid2, same); buffers = then.buffers ∙ first.buffers }

pub runs_due : {maps : Mapped} {host : HostId} {task : TaskId} {may : Bool} {answer : FaultStep} {what last : Want} {old new : FaultState} (copies : ℕ)
    → (is_copying what ≡ true → 0 < copies) → Runs maps host task may answer what last old new → PaysRun copies (cost answer what) old new
runs_due {maps} {host} {task} {may} {answer} {what} {last} {old} {new} copies some runs = run_due copies maps host task may answer what last old new some runs

-- it stays one of its kind
pub runs_kind : {maps : Mapped} {host : HostId} {task : TaskId} {may : Bool} {answer : FaultStep} {what last : Want} {old new : FaultState}
    → Runs maps host task may answer what last old new → is_copying last ≡ is_copying what
runs_kind {maps} {host} {task} {may} {answer} {what} {last} {old} {new} runs = go what last old runs
  where
    done : (w : Want) → is_copying (with_page_done w) ≡ is_copying w
    done (want.Load address n) = refl
    done (want.Store address n number) = refl
    done (want.CopyTo address pages target next) = refl

    after : (a : FaultStep) (w : Want) → is_copying (want_after a w) ≡ is_copying w
    after (step.Done value) w = done w
    after (step.Ask key) w = refl
    after (step.Unlock key) w = refl
    after (step.WaitReady object) w = refl
    after (step.WaitAnswer key) w = refl
    after (step.NeedFrame source) w = refl

    go : (w l : Want) (s : FaultState) → Runs maps host task may answer w l s new → is_copying l ≡ is_copying w
    go w l s (Stops _ _ _ faulted over) = after answer w
    go w l s (GoesOn _ _ value _ mid _ faulted more rest) = go (with_page_done w) l mid rest ∙ done w
