-- What running an access once claims.
use Rattle.std.specs.Prelude.{◌≡◌, ◌≢◌, ◌⊎◌, ◌&&◌, ◌<◌, ◌≤◌, ◌==◌, ℕ, Bool, true, false, List, [], ◌∷◌, ◌++◌, length, Option, Some, None, if◌then◌else◌}
use Rattle.std.proofs.Common.{◌∙◌, ap, arith, inl, inr, refl, subst, sym}
use Rattle.std.proofs.lemmas.Bool.Decides.{eqb_tells}
use Rattle.vm_state.proofs.Filling.{KeepsAway}
use Rattle.vm_base.specs.declared.ids.FrameNo.{FrameNo}
use Rattle.vm_base.specs.declared.ids.HostId.{HostId}
use Rattle.vm_base.specs.declared.ids.Inherit.TheVariants.{Copy}
use Rattle.vm_base.specs.declared.ids.ObjectId.{ObjectId}
use Rattle.vm_base.specs.declared.ids.PageKey.{PageKey}
use Rattle.vm_base.specs.declared.ids.RegionId.{RegionId}
use Rattle.vm_base.specs.declared.ids.TaskId.{TaskId}
use Rattle.vm_fault.specs.Faults.{AfterZeros, AtOnce, Copied, Ended, FaultState, Hits, Prepares, Raised, References, Runs}
use Rattle.vm_fault.specs.Walks.{is_copying, is_storing, wanted_number}
use Rattle.vm_fault.specs.declared.step.FaultStep.{FaultStep}
use Rattle.vm_fault.specs.declared.step.FaultStep.TheVariants as step
use Rattle.vm_frames.specs.Frames.{free}
use Rattle.vm_legal.specs.InTurn.{IsEnd}
use Rattle.vm_maps.specs.Maps.{Mapped}
use Rattle.vm_model.specs.Waiting.{Access}
use Rattle.vm_model.specs.declared.event.Event.{Event}
use Rattle.vm_model.specs.declared.event.Event.TheVariants as event
use Rattle.vm_model.specs.declared.message.Channel.TheVariants.{Up}
use Rattle.vm_model.specs.declared.message.Message.TheVariants as message
use Rattle.vm_objects.specs.Objects.{ObjectTable}
use Rattle.vm_parts.proofs.Rows.{some_is}
use Rattle.vm_parts.specs.declared.parts.HostParts.{HostParts}
use Rattle.vm_resident.specs.Resident.{ResidentTable, row_at}
use Rattle.vm_shadow.specs.Chains.{ChainTable}
use Rattle.vm_shadow.specs.declared.region_row.RegionRow.{RegionRow}
use Rattle.vm_state.proofs.Waiting.{awaited_row}
use Rattle.vm_state.specs.Waiters.{HasWaiters, Reason, is_woken}
use Rattle.vm_supply.specs.declared.woken.Woken.TheVariants as woken
use Rattle.vm_waits.proofs.Entries.{puts_here}
use Rattle.vm_waits.specs.Waits.{PutsEntry, WaitTable, entry, is_again, is_frame, one_again, queue_without, with_on, with_want}
use Rattle.vm_waits.specs.declared.waiting.On.{On}
use Rattle.vm_waits.specs.declared.waiting.On.TheVariants as on
use Rattle.vm_waits.specs.declared.waiting.Waiting.{Waiting}
use Rattle.vm_waits.specs.declared.waiting.Want.{Want}
use Rattle.vm_waits.specs.declared.waiting.Want.TheVariants as want
use Rattle.vm_kernel.specs.Turns.{AreCopied, Did, Filled, ForAsked, ForCopy, ForUnlock, ForZeros, Found, IsFront, NoPage, Nothing, OnePage, Pages, QueueAfter}
use Rattle.vm_kernel.specs.Turns.{RunsOnce, Shadow, Unmark, Unserved}
use Rattle.vm_kernel.proofs.steps.PageByPage.{PageDone, Pagewise, page_done, pagewise}
use Rattle.vm_copies.specs.Copies.{CopyTable}
use Rattle.vm_fault.specs.Faults.{Pushed}
use Rattle.vm_kernel.proofs.Common.{Parts, if◌then◌else◌}
use Rattle.vm_kernel.specs.Destroying.{place_led}
use Rattle.vm_kernel.specs.Serving.{is_pushing, waits_at}
use Rattle.vm_state.specs.Passed.{Unmet}

-- what stands first: a shadow claims no frame, and each page of a slow copy one; and no row of a page has gone
pub record Front (task : TaskId) (copying : Bool) (s mid : FaultState) : Type 0 where
  pub claims : Bool
  pub front : List Event
  pub is : IsFront task claims front
  pub told : mid.events ≡ front ++ s.events
  pub spent : claims ≡ true → free mid.parts.frames < free s.parts.frames
  pub frames : free mid.parts.frames ≤ free s.parts.frames
  pub plain : copying ≡ false → claims ≡ false
  pub rows : KeepsAway mid.parts.resident s.parts.resident

some_copied : {task : TaskId} {front : List Event} (some : Bool) → AreCopied task some front → some ≡ true → 0 < length front
some_copied false NoPage bad = absurd (let clash : false ≡ true = bad in cc)
some_copied true (OnePage page object_page object target some front copied) is = omega arith

not_some : (some copying : Bool) → (some ≡ true → copying ≡ true) → copying ≡ false → some ≡ false
not_some false copying copies other = refl
not_some true copying copies other = absurd (let bad : true ≡ false = sym (copies refl) ∙ other in cc)

stores_plain : (what : Want) (marked : Bool) → (is_storing what && marked) ≡ true → is_copying what ≡ false
stores_plain (want.Load address n) marked bad = absurd (let clash : false ≡ true = bad in cc)
stores_plain (want.Store address n number) marked stores = refl
stores_plain (want.CopyTo address pages target next) marked bad = absurd (let clash : false ≡ true = bad in cc)

front_of : {maps : Mapped} {host : HostId} {task : TaskId} {may : Bool} {answer : FaultStep} {what last : Want} {s new : FaultState}
    (p : Pagewise maps host task may answer what last s new) (is : Bool) (region : RegionId) (row : RegionRow) (mid : FaultState)
    → (is ≡ true → is_copying p.at ≡ false) → Prepares is region row p.mid mid → Front task (is_copying what) s mid
front_of {s = s} p true region row mid plain (inl makes) =
    let start : p.mid ≡ s = (p.so.none (not_some p.so.some (is_copying p.at) p.so.copies (plain refl))).0 in
    let frames : mid.parts.frames ≡ s.parts.frames = ap (λ (z : HostParts). z.frames) makes.parts ∙ ap (λ (z : FaultState). z.parts.frames) start in
    let rows : mid.parts.resident ≡ s.parts.resident = ap (λ (z : HostParts). z.resident) makes.parts ∙ ap (λ (z : FaultState). z.parts.resident) start in
    let even : free mid.parts.frames ≡ free s.parts.frames = ap free frames in
    let e : Event = event.Shadowed region makes.object row.top in
    record {
      claims = false;
      front = e ∷ [];
      is = Shadow region makes.object row.top;
      told = makes.told ∙ ap (λ (z : FaultState). e ∷ z.events) start;
      spent = λ bad. absurd (let clash : false ≡ true = bad in cc);
      frames = omega (arith, even);
      plain = λ other. refl;
      rows = λ o q none. ap (λ z. row_at z o q) (sym rows) ∙ none;
    }
front_of {s = s} p true region row mid plain (inr loses) =
    let start : p.mid ≡ s = (p.so.none (not_some p.so.some (is_copying p.at) p.so.copies (plain refl))).0 in
    let frames : mid.parts.frames ≡ s.parts.frames = ap (λ (z : HostParts). z.frames) loses.parts ∙ ap (λ (z : FaultState). z.parts.frames) start in
    let rows : mid.parts.resident ≡ s.parts.resident = ap (λ (z : HostParts). z.resident) loses.parts ∙ ap (λ (z : FaultState). z.parts.resident) start in
    let even : free mid.parts.frames ≡ free s.parts.frames = ap free frames in
    let e : Event = event.Unmarked region in
    record {
      claims = false;
      front = e ∷ [];
      is = Unmark region;
      told = loses.told ∙ ap (λ (z : FaultState). e ∷ z.events) start;
      spent = λ bad. absurd (let clash : false ≡ true = bad in cc);
      frames = omega (arith, even);
      plain = λ other. refl;
      rows = λ o q none. ap (λ z. row_at z o q) (sym rows) ∙ none;
    }
front_of {s = s} p false region row mid plain same =
    let frames = p.so.frames in
    let even : free mid.parts.frames ≡ free p.mid.parts.frames = ap (λ (z : FaultState). free z.parts.frames) same in
    record {
      claims = p.so.some;
      front = p.so.front;
      is = Pages p.so.some p.so.front p.so.copied;
      told = ap (λ (z : FaultState). z.events) same ∙ p.so.told;
      spent = λ is. let some = some_copied p.so.some p.so.copied is in omega (arith, frames, even, some);
      frames = omega (arith, frames, even);
      plain = λ other. not_some p.so.some (is_copying p.at) p.so.copies (p.so.kind ∙ other);
      rows = λ o q none. p.so.rows o q (ap (λ (z : FaultState). row_at z.parts.resident o q) (sym same) ∙ none);
    }

-- the front of a run, by whatever it came to
pub front_in : {maps : Mapped} {host : HostId} {task : TaskId} {may : Bool} {answer : FaultStep} {what last : Want} {s new : FaultState}
    (p : Pagewise maps host task may answer what last s new) → Front task (is_copying what) s p.ran.mid
front_in p = front_of p (is_storing p.at && p.ran.row.marked) p.ran.entry.region p.ran.row p.ran.mid (stores_plain p.at p.ran.row.marked) p.ran.prepares

plain_front : {task : TaskId} {s mid : FaultState} (f : Front task false s mid) → IsFront task false f.front
plain_front {task = task} f = subst (λ (z : Bool). IsFront task z f.front) (f.plain refl) f.is

-- its events, and whether it claims a frame
record RanBy (rows : List Waiting) (task : TaskId) (may : Bool) (before after : List Event) : Type 0 where
  more : List Event
  told : after ≡ more ++ before
  claims : Bool
  did : Did rows (λ t. t ≢ task.0) task claims more
  none : may ≡ false → claims ≡ false

end_of : (task : TaskId) (what : Want) (key : PageKey) (frame : FrameNo) (at value : ℕ) (e : Event) (old new : HostParts)
    → Hits task what key frame at value e old new → IsEnd task.0 e
end_of task (want.Load address n) key frame at value e old new hits = subst (λ (z : Event). IsEnd task.0 z) (sym hits.2) refl
end_of task (want.CopyTo address pages target next) key frame at value e old new hits = absurd hits
end_of task (want.Store address n number) key frame at value e old new hits = subst (λ (z : Event). IsEnd task.0 z) (sym hits.2) refl

refers_free : (frame : FrameNo) (old new : HostParts) → References frame old new → free new.frames ≡ free old.frames
refers_free frame old new refers = ap (λ (z : HostParts). free z.frames) refers.is

hits_free : (task : TaskId) (what : Want) (key : PageKey) (frame : FrameNo) (at value : ℕ) (e : Event) (old new : HostParts)
    → Hits task what key frame at value e old new → free new.frames ≡ free old.frames
hits_free task (want.Load address n) key frame at value e old new hits = refers_free frame old new hits.1
hits_free task (want.CopyTo address pages target next) key frame at value e old new hits = absurd hits
hits_free task (want.Store address n number) key frame at value e old new hits =
    let touched : free new.frames ≡ free hits.1.0.frames = refers_free frame hits.1.0 new hits.1.2 in
    let left = hits.1.1.page.left in
    let wrote : free hits.1.0.frames ≡ free old.frames = omega (arith, left) in
    touched ∙ wrote

-- a load or a store has ended
ended_by : (rows : List Waiting) (host : HostId) (task : TaskId) (what : Want) (may : Bool) (top : PageKey) (at value : ℕ) (s mid new : FaultState)
    → is_copying what ≡ false → Front task false s mid
    → Ended host task what top at value mid.parts new.parts mid.chains mid.copies new.copies mid.events new.events
    → (may ≡ false → free new.parts.frames ≡ free s.parts.frames)
    → RanBy rows task may s.events new.events
ended_by rows host task what may top at value s mid new other f
    (Copied address pages next target is steps key row finds out is_none copies same) kept =
    absurd (let bad : true ≡ false = sym (ap is_copying is) ∙ other in cc)
ended_by rows host task what may top at value s mid new other f (AtOnce steps key row finds stores opens owes e hits same told) kept =
    record {
      more = e ∷ f.front;
      told = told ∙ ap (λ z. e ∷ z) f.told;
      claims = false;
      did = Found f.front (plain_front f) e (end_of task what key row.frame at value e mid.parts new.parts hits);
      none = λ bar. refl;
    }
ended_by rows host task what may top at value s mid new other f
    (Pushed row finds stores opens place owed absent frame copied raises plan e hits notes told) kept =
    let raised = event.Raised host top.object top.page place.object place.page in
    record {
      more = e ∷ raised ∷ f.front;
      told = told ∙ ap (λ z. e ∷ raised ∷ z) f.told;
      claims = true;
      did = ForCopy f.front (plain_front f) e host top place (end_of task what top row.frame at value e copied new.parts hits);
      none = λ bar.
          let even = kept bar in
          let less = raises.left in
          let same = hits_free task what top row.frame at value e copied new.parts hits in
          let was = f.frames in
          absurd (omega (arith, even, less, same, was));
    }
ended_by rows host task what may top at value s mid new other f
    (Raised steps key row finds stores opens frame copied hit raises plan e hits refers notes told) kept =
    let raised = event.Raised host key.object key.page top.object top.page in
    record {
      more = e ∷ raised ∷ f.front;
      told = told ∙ ap (λ z. e ∷ raised ∷ z) f.told;
      claims = true;
      did = ForCopy f.front (plain_front f) e host key top (end_of task what top frame at value e copied hit hits);
      none = λ bar.
          let even = kept bar in
          let less = raises.left in
          let same = hits_free task what top frame at value e copied hit hits in
          let last = refers_free row.frame hit new.parts refers in
          let was = f.frames in
          absurd (omega (arith, even, less, same, last, was));
    }
ended_by rows host task what may top at value s mid new other f (AfterZeros sinks frame brought brings plan e hits notes told) kept =
    let zeroed = event.Zeroed host top.object top.page in
    record {
      more = e ∷ zeroed ∷ f.front;
      told = told ∙ ap (λ z. e ∷ zeroed ∷ z) f.told;
      claims = true;
      did = ForZeros f.front (plain_front f) e host top (end_of task what top frame at value e brought new.parts hits);
      none = λ bar.
          let even = kept bar in
          let less = brings.left in
          let same = hits_free task what top frame at value e brought new.parts hits in
          let was = f.frames in
          absurd (omega (arith, even, less, same, was));
    }

-- the rows of others are as they were
puts_rest : (task : TaskId) (x : Option Waiting) (old new : List Waiting) → PutsEntry task.0 x old new → (t : ℕ) → t ≢ task.0 → entry new t ≡ entry old t
puts_rest task x old new put t apart = elim (eqb_tells task.0 t) [
  | inl same ↦ absurd (apart (sym same.1))
  | inr other ↦ put.at t ∙ rw other.0 refl
]

-- a task's row has changed twice
pub puts_again : (t : ℕ) (x y : Option Waiting) (old mid new : List Waiting) → PutsEntry t x old mid → PutsEntry t y mid new → PutsEntry t y old new
puts_again t x y old mid new one two = record { at = λ u. both (t == u) (entry old u) (entry mid u) (entry new u) (one.at u) (two.at u) }
  where
    both : (b : Bool) (was there now : Option Waiting) → there ≡ (if b then x else was) → now ≡ (if b then y else there) → now ≡ (if b then y else was)
    both true was there now first second = second
    both false was there now first second = second ∙ first

-- it is not to be run again
done_by : (t : ℕ) (x : Option Waiting) (old new : List Waiting) → PutsEntry t x old new → ((v : Waiting) → x ≡ Some v → is_again v.on ≡ false) → (v : Waiting)
    → entry new t ≡ Some v → is_again v.on ≡ false
done_by t x old new put none v is = none v (sym (puts_here t x old new put) ∙ is)

turned_done : (w v : Waiting) (reason : On) → is_again reason ≡ false → Some (with_on w reason) ≡ Some v → is_again v.on ≡ false
turned_done w v reason none is = subst (λ (z : Waiting). is_again z.on ≡ false) (some_is (with_on w reason) v is) none

-- a load or a store has ended
pub once_done : (w : Waiting) (may : Bool) (value : ℕ) {maps : Mapped} {host : HostId} {last : Want} {s new : FaultState} (waits waits2 : WaitTable)
    → is_copying w.want ≡ false → Runs maps host w.task may (step.Done value) w.want last s new
    → (may ≡ false → free new.parts.frames ≡ free s.parts.frames) → PutsEntry w.task.0 None waits.rows waits2.rows
    → waits2.queue ≡ queue_without w.task.0 waits.queue → RunsOnce w may false waits waits2 s.events new.events
once_done w may value {host = host} {s = s} {new = new} waits waits2 other runs kept put queue =
    let p = pagewise runs in
    let f : Front w.task false s p.ran.mid = subst (λ (z : Bool). Front w.task z s p.ran.mid) other (front_in p) in
    let r = ended_by waits2.rows host w.task p.at may p.ran.top _ value s p.ran.mid new (p.so.kind ∙ other) f p.ran.comes kept in
    record {
      more = r.more;
      told = r.told;
      claims = r.claims;
      did = r.did;
      none = r.none;
      nothing = λ bad. absurd (let clash : false ≡ true = bad in cc);
      done = done_by w.task.0 None waits.rows waits2.rows put (λ v bad. absurd (let clash : None ≡ Some v = bad in cc));
      rest = puts_rest w.task None waits.rows waits2.rows put;
      queue = queue;
    }

-- an access that met an object without a control has failed
pub once_unserved : (w : Waiting) (may : Bool) (key : PageKey) (waits waits2 : WaitTable) (before after : List Event)
    → after ≡ event.Failed w.task key.object key.page ∷ before → PutsEntry w.task.0 None waits.rows waits2.rows
    → waits2.queue ≡ queue_without w.task.0 waits.queue → RunsOnce w may false waits waits2 before after
once_unserved w may key waits waits2 before after told put queue =
    record {
      more = event.Failed w.task key.object key.page ∷ [];
      told = told;
      claims = false;
      did = Unserved key.object key.page;
      none = λ bar. refl;
      nothing = λ bad. absurd (let clash : false ≡ true = bad in cc);
      done = done_by w.task.0 None waits.rows waits2.rows put (λ v bad. absurd (let clash : None ≡ Some v = bad in cc));
      rest = puts_rest w.task None waits.rows waits2.rows put;
      queue = queue;
    }

-- a slow copy has copied its last page, and what it made is entered
pub once_filled : (w : Waiting) (may : Bool) (value : ℕ) {maps : Mapped} {host : HostId} {last : Want} {s new : FaultState} (waits waits2 : WaitTable)
    (address bytes : ℕ) (region : RegionId) (after : List Event) → is_copying w.want ≡ true
    → Runs maps host w.task may (step.Done value) w.want last s new → (may ≡ false → free new.parts.frames ≡ free s.parts.frames)
    → after ≡ event.Entered w.task address bytes region 0 (record { read = true; write = true }) Copy ∷ event.CopyEnded w.task ∷ new.events
    → PutsEntry w.task.0 None waits.rows waits2.rows → waits2.queue ≡ queue_without w.task.0 waits.queue
    → RunsOnce w may false waits waits2 s.events after
once_filled w may value {s = s} {new = new} waits waits2 address bytes region after copying runs kept told put queue =
    let p = pagewise runs in
    let one : PageDone w.task p.mid new = page_done (p.so.kind ∙ copying) p.ran in
    let page : Event = event.CopiedPage w.task one.page one.object one.object_page one.target in
    let enters : Event = event.Entered w.task address bytes region 0 (record { read = true; write = true }) Copy in
    record {
      more = enters ∷ event.CopyEnded w.task ∷ page ∷ p.so.front;
      told = told ∙ ap (λ (z : List Event). enters ∷ event.CopyEnded w.task ∷ z) (one.told ∙ ap (λ z. page ∷ z) p.so.told);
      claims = true;
      did = Filled (page ∷ p.so.front) (OnePage one.page one.object_page one.object one.target p.so.some p.so.front p.so.copied) address bytes region;
      none = λ bar.
          let even = kept bar in
          let less = one.frames in
          let was = p.so.frames in
          absurd (omega (arith, even, less, was));
      nothing = λ bad. absurd (let clash : false ≡ true = bad in cc);
      done = done_by w.task.0 None waits.rows waits2.rows put (λ v bad. absurd (let clash : None ≡ Some v = bad in cc));
      rest = puts_rest w.task None waits.rows waits2.rows put;
      queue = queue;
    }

-- who claims no frame has copied no page
front_bar : {task : TaskId} {copying : Bool} {s mid : FaultState} (f : Front task copying s mid) (claims : Bool) → f.claims ≡ claims
    → free s.parts.frames ≤ free mid.parts.frames → claims ≡ false
front_bar f false is even = refl
front_bar f true is even = let spent = f.spent is in absurd (omega (arith, even, spent))

-- no more than a shadow was made, or pages were copied
stayed : (w : Waiting) (copying may wants : Bool) (s mid new : FaultState) (waits waits2 : WaitTable) → Front w.task copying s mid → new.events ≡ mid.events
    → new.parts ≡ mid.parts → (may ≡ false → free new.parts.frames ≡ free s.parts.frames)
    → ((t : ℕ) → t ≢ w.task.0 → entry waits2.rows t ≡ entry waits.rows t) → QueueAfter w wants waits.queue waits2.queue
    → ((v : Waiting) → entry waits2.rows w.task.0 ≡ Some v → is_again v.on ≡ false)
    → RunsOnce w may wants waits waits2 s.events new.events
stayed w copying may wants s mid new waits waits2 f told parts kept rest queue done =
    record {
      more = f.front;
      told = told ∙ f.told;
      claims = f.claims;
      did = Nothing f.claims f.front f.is;
      none = λ bar.
          let even = kept bar in
          let same : free new.parts.frames ≡ free mid.parts.frames = ap (λ (z : HostParts). free z.frames) parts in
          front_bar f f.claims refl (omega (arith, even, same));
      nothing = λ want. f.is;
      done = done;
      rest = rest;
      queue = queue;
    }

-- an access joins the queue
pub once_joins : (w : Waiting) (may : Bool) (source : Option PageKey) {maps : Mapped} {host : HostId} {last : Want} {s new : FaultState}
    (waits waits2 : WaitTable) → Runs maps host w.task may (step.NeedFrame source) w.want last s new
    → (may ≡ false → free new.parts.frames ≡ free s.parts.frames) → is_frame w.on ≡ false
    → PutsEntry w.task.0 (Some (with_on (with_want w last) on.Frame)) waits.rows waits2.rows → waits2.queue ≡ waits.queue ++ w.task ∷ []
    → RunsOnce w may true waits waits2 s.events new.events
once_joins w may source {last = last} {s = s} {new = new} waits waits2 runs kept other put queue =
    let p = pagewise runs in
    let row = with_on (with_want w last) on.Frame in
    stayed w (is_copying w.want) may true s p.ran.mid new waits waits2 (front_in p) p.ran.comes.2.told p.ran.comes.2.parts kept
    (puts_rest w.task (Some row) waits.rows waits2.rows put) (rw other queue)
    (done_by w.task.0 (Some row) waits.rows waits2.rows put (λ v. turned_done (with_want w last) v on.Frame refl))

-- or stands there already
pub once_queued : (w : Waiting) (may : Bool) (source : Option PageKey) {maps : Mapped} {host : HostId} {last : Want} {s new : FaultState}
    (waits waits2 : WaitTable) → Runs maps host w.task may (step.NeedFrame source) w.want last s new
    → (may ≡ false → free new.parts.frames ≡ free s.parts.frames) → w.on ≡ on.Frame → PutsEntry w.task.0 (Some (with_want w last)) waits.rows waits2.rows
    → waits2.queue ≡ waits.queue → RunsOnce w may true waits waits2 s.events new.events
once_queued w may source {last = last} {s = s} {new = new} waits waits2 runs kept frame put queue =
    let p = pagewise runs in
    let is : is_frame w.on ≡ true = ap is_frame frame in
    stayed w (is_copying w.want) may true s p.ran.mid new waits waits2 (front_in p) p.ran.comes.2.told p.ran.comes.2.parts kept
    (puts_rest w.task (Some (with_want w last)) waits.rows waits2.rows put) (rw is queue)
    (done_by w.task.0 (Some (with_want w last)) waits.rows waits2.rows put (λ v there. subst (λ (z : Waiting). is_again z.on ≡ false)
    (some_is (with_want w last) v there) (ap is_again frame)))

-- what an access waits for that neither ended nor wants a frame
abbrev pub WaitsOn : FaultStep → On → Type 0
WaitsOn (step.Done value) reason = ⊥
WaitsOn (step.Ask key) reason = reason ≡ on.Page key
WaitsOn (step.Unlock key) reason = reason ≡ on.Page key
WaitsOn (step.WaitReady object) reason = reason ≡ on.Ready object
WaitsOn (step.WaitAnswer key) reason = (reason ≡ on.Page key) ⊎ (reason ≡ on.Push key)
WaitsOn (step.NeedFrame source) reason = ⊥

pub waits_ready : (answer : FaultStep) (reason : On) (object : ObjectId) → answer ≡ step.WaitReady object → reason ≡ on.Ready object → WaitsOn answer reason
waits_ready answer reason object is at = subst (λ (z : FaultStep). WaitsOn z reason) (sym is) at

pub waits_page : (answer : FaultStep) (reason : On) (key : PageKey) → (answer ≡ step.Ask key) ⊎ (answer ≡ step.Unlock key)
    → reason ≡ on.Page key → WaitsOn answer reason
waits_page answer reason key (inl is) at = subst (λ (z : FaultStep). WaitsOn z reason) (sym is) at
waits_page answer reason key (inr is) at = subst (λ (z : FaultStep). WaitsOn z reason) (sym is) at

pub waits_word : (k : Parts) (w : Waiting) (answer : FaultStep) (reason : On) (key : PageKey) → answer ≡ step.WaitAnswer key → reason ≡ waits_at k w key
    → WaitsOn answer reason
waits_word k w answer reason key is at =
    subst (λ (z : FaultStep). WaitsOn z reason) (sym is) (by (is_pushing (length k.declared.items) key (place_led k.maps w.task.0 w.want)) at)
  where
    by : (b : Bool) → reason ≡ (if b then on.Push key else on.Page key) → (reason ≡ on.Page key) ⊎ (reason ≡ on.Push key)
    by true same = inr same
    by false same = inl same

-- so it isn't to be run again
pub word_over : (k : Parts) (w : Waiting) (key : PageKey) → one_again (waits_at k w key) ≡ 0
word_over k w key = by (is_pushing (length k.declared.items) key (place_led k.maps w.task.0 w.want))
  where
    by : (b : Bool) → one_again (if b then on.Push key else on.Page key) ≡ 0
    by true = refl
    by false = refl

not_again : (reason : On) (key : PageKey) → (reason ≡ on.Page key) ⊎ (reason ≡ on.Push key) → is_again reason ≡ false
not_again reason key (inl same) = ap is_again same
not_again reason key (inr same) = ap is_again same

-- nobody waits for a page that has no row
unasked : {copies : CopyTable} {stays : PageKey → Type 0} {unmet : PageKey → Unmet} (maps : Mapped) (chains : ChainTable) (resident : ResidentTable)
    (objects : ObjectTable)
    (rows : List Waiting)
    (waiting_at : ℕ → Option Access) (key : PageKey) (t : ℕ) (v : Waiting)
    → HasWaiters maps chains copies resident objects rows (is_woken woken.Nobody) waiting_at stays unmet
    → row_at resident key.object.0 key.page.0 ≡ None → entry rows t ≡ Some v → v.on ≢ on.Page key
unasked {copies = copies} maps chains resident objects rows waiting_at key t v has absent found waits =
    let reason : Reason maps chains copies resident objects t v.want (on.Page key) = subst (λ (z : On). Reason maps chains copies resident objects t v.want z)
    waits
    (has.reasons t v found refl) in
    awaited_row resident v.want key.object.0 key.page.0 reason.1 (λ row there is. let bad : None ≡ Some row = sym absent ∙ there in absurd (cc))

-- an access waits for a word of a pager
pub once_turned : {stays : PageKey → Type 0} {unmet : PageKey → Unmet} (w : Waiting) (may : Bool) (answer : FaultStep) (reason : On) {maps : Mapped}
    {host : HostId} {last : Want}
    {s new : FaultState} (objects : ObjectTable) (waits waits2 : WaitTable) (waiting_at : ℕ → Option Access) → WaitsOn answer reason
    → HasWaiters maps s.chains s.copies s.parts.resident objects waits.rows (is_woken woken.Nobody) waiting_at stays unmet
    → Runs maps host w.task may answer w.want last s new → (may ≡ false → free new.parts.frames ≡ free s.parts.frames)
    → PutsEntry w.task.0 (Some (with_on (with_want w last) reason)) waits.rows waits2.rows → waits2.queue ≡ queue_without w.task.0 waits.queue
    → RunsOnce w may false waits waits2 s.events new.events
once_turned w may (step.Done value) reason objects waits waits2 waiting_at why has runs kept put queue = absurd why
once_turned w may (step.NeedFrame source) reason objects waits waits2 waiting_at why has runs kept put queue = absurd why
once_turned w may (step.WaitReady object) reason {last = last} {s = s} {new = new} objects waits waits2 waiting_at why has runs kept put queue =
    let p = pagewise runs in
    let row = with_on (with_want w last) reason in
    stayed w (is_copying w.want) may false s p.ran.mid new waits waits2 (front_in p) p.ran.comes.1.told p.ran.comes.1.parts kept
    (puts_rest w.task (Some row) waits.rows waits2.rows put) queue
    (done_by w.task.0 (Some row) waits.rows waits2.rows put (λ v. turned_done (with_want w last) v reason (ap is_again why)))
once_turned w may (step.WaitAnswer key) reason {last = last} {s = s} {new = new} objects waits waits2 waiting_at why has runs kept put queue =
    let p = pagewise runs in
    let row = with_on (with_want w last) reason in
    stayed w (is_copying w.want) may false s p.ran.mid new waits waits2 (front_in p) p.ran.comes.1.told p.ran.comes.1.parts kept
    (puts_rest w.task (Some row) waits.rows waits2.rows put) queue
    (done_by w.task.0 (Some row) waits.rows waits2.rows put (λ v. turned_done (with_want w last) v reason (not_again reason key why)))
once_turned w may (step.Unlock key) reason {host = host} {last = last} {s = s} {new = new} objects waits waits2 waiting_at why has runs kept put queue =
    let p = pagewise runs in
    let row = with_on (with_want w last) reason in
    let first = front_in p in
    let asks = p.ran.comes.0 in
    let number = wanted_number p.at asks.steps in
    let e : Event = event.Sent (Up host key.object) (message.Unlock asks.object.control key.page number) in
    record {
      more = e ∷ first.front;
      told = asks.told ∙ ap (λ (z : List Event). e ∷ z) first.told;
      claims = first.claims;
      did = ForUnlock first.claims first.front first.is host key asks.object.control number;
      none = λ bar.
          let even = kept bar in
          let noted = asks.page.left in
          front_bar first first.claims refl (omega (arith, even, noted));
      nothing = λ bad. absurd (let clash : false ≡ true = bad in cc);
      done = done_by w.task.0 (Some row) waits.rows waits2.rows put (λ v. turned_done (with_want w last) v reason (ap is_again why));
      rest = puts_rest w.task (Some row) waits.rows waits2.rows put;
      queue = queue;
    }
once_turned w may (step.Ask key) reason {maps = maps} {host = host} {last = last} {s = s} {new = new} objects waits waits2 waiting_at why has runs kept put
    queue =
    let p = pagewise runs in
    let first = front_in p in
    let asked = p.ran.comes.0 in
    let absent : row_at s.parts.resident key.object.0 key.page.0 ≡ None = first.rows key.object.0 key.page.0 asked.comes.absent in
    let row : Waiting = with_on (with_want w last) reason in
    let rest = puts_rest w.task (Some row) waits.rows waits2.rows put in
    let there : entry waits2.rows w.task.0 ≡ Some row = puts_here w.task.0 (Some row) waits.rows waits2.rows put in
    let number = wanted_number row.want asked.steps in
    let e : Event = event.Sent (Up host key.object) (message.Request asked.object.control key.page number) in
    let told : new.events ≡ e ∷ p.ran.mid.events =
    subst (λ (z : Want). new.events ≡ event.Sent (Up host key.object) (message.Request asked.object.control key.page (wanted_number z asked.steps)) ∷
    p.ran.mid.events) (sym p.last_is) asked.told in
    record {
      more = e ∷ first.front;
      told = told ∙ ap (λ (z : List Event). e ∷ z) first.told;
      claims = true;
      did = ForAsked first.claims first.front first.is host key asked.object.control asked.steps row there why
          (λ t v apart is. unasked maps s.chains s.parts.resident objects waits.rows waiting_at key t v has absent (sym (rest t apart) ∙ is));
      none = λ bar.
          let even = kept bar in
          let less = asked.page.left in
          let was = first.frames in
          absurd (omega (arith, even, less, was));
      nothing = λ bad. absurd (let clash : false ≡ true = bad in cc);
      done = done_by w.task.0 (Some row) waits.rows waits2.rows put (λ v. turned_done (with_want w last) v reason (ap is_again why));
      rest = rest;
      queue = queue;
    }
