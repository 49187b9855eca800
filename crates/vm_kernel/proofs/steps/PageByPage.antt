-- A run of an access, page by page: the pages that a slow copy made first, and how it was run once behind them.
use Rattle.std.specs.Prelude.{◌≡◌, ◌+◌, ◌<◌, ◌≤◌, ◌&&◌, ℕ, Bool, true, false, List, [], ◌∷◌, ◌++◌, length, Option}
use Rattle.std.proofs.Common.{◌∙◌, ap, arith, inl, inr, refl, subst, sym}
use Rattle.std.proofs.lemmas.Bool.Decides.{nat_tests}
use Rattle.vm_state.proofs.Filling.{KeepsAway}
use Rattle.vm_base.proofs.Options.{none_of}
use Rattle.vm_base.specs.declared.ids.FrameNo.{FrameNo}
use Rattle.vm_base.specs.declared.ids.HostId.{HostId}
use Rattle.vm_base.specs.declared.ids.ObjectId.{ObjectId}
use Rattle.vm_base.specs.declared.ids.PageKey.{PageKey}
use Rattle.vm_base.specs.declared.ids.PageNo.{PageNo}
use Rattle.vm_base.specs.declared.ids.RegionId.{RegionId}
use Rattle.vm_base.specs.declared.ids.TaskId.{TaskId}
use Rattle.vm_fault.specs.Faults.{AfterZeros, AtOnce, Copied, Ended, FaultState, Faulted, GoesOn, Hits, Prepares, Raised, Runs, Stops, goes_on, has_more}
use Rattle.vm_fault.specs.Faults.{want_after}
use Rattle.vm_fault.specs.Rooms.{pages_left}
use Rattle.vm_fault.specs.Walks.{is_copying, is_storing}
use Rattle.vm_fault.specs.declared.step.FaultStep.{FaultStep}
use Rattle.vm_fault.specs.declared.step.FaultStep.TheVariants as step
use Rattle.vm_frames.specs.Frames.{claimed, free}
use Rattle.vm_maps.specs.Maps.{Mapped}
use Rattle.vm_model.specs.declared.event.Event.{Event}
use Rattle.vm_model.specs.declared.event.Event.TheVariants as event
use Rattle.vm_parts.proofs.Rows.{row_cases}
use Rattle.vm_parts.specs.declared.parts.HostParts.{HostParts}
use Rattle.vm_resident.specs.Resident.{row_at}
use Rattle.vm_shadow.specs.declared.region_row.RegionRow.{RegionRow}
use Rattle.vm_waits.specs.Wants.{with_page_done}
use Rattle.vm_waits.specs.declared.waiting.Want.{Want}
use Rattle.vm_waits.specs.declared.waiting.Want.TheVariants as want
use Rattle.vm_kernel.specs.Turns.{AreCopied, NoPage, OnePage}
use Rattle.vm_fault.specs.Faults.{Pushed}

-- a slow copy has made one page
pub record PageDone (task : TaskId) (old new : FaultState) : Type 0 where
  pub page : PageNo
  pub object_page : PageNo
  pub object : ObjectId
  pub target : ObjectId
  pub told : new.events ≡ event.CopiedPage task page object object_page target ∷ old.events
  pub frames : free new.parts.frames + 1 ≡ free old.parts.frames
  pub claims : claimed new.parts.frames ≡ claimed old.parts.frames + 1
  pub rows : KeepsAway new.parts.resident old.parts.resident
  pub objects : new.parts.objects ≡ old.parts.objects
  pub chains : new.chains ≡ old.chains
  pub ids : new.ids ≡ old.ids

-- an access that is a slow copy ends with no page that is here
no_hit : (task : TaskId) (what : Want) (key : PageKey) (frame : FrameNo) (at value : ℕ) (e : Event) (old new : HostParts) → is_copying what ≡ true
    → Hits task what key frame at value e old new → ⊥
no_hit task (want.Load address n) key frame at value e old new copying hits = let bad : false ≡ true = copying in cc
no_hit task (want.Store address n number) key frame at value e old new copying hits = let bad : false ≡ true = copying in cc
no_hit task (want.CopyTo address pages target next) key frame at value e old new copying hits = hits

no_store : (what : Want) → is_copying what ≡ true → is_storing what ≡ true → ⊥
no_store (want.Load address n) copying storing = let bad : false ≡ true = copying in cc
no_store (want.Store address n number) copying storing = let bad : false ≡ true = copying in cc
no_store (want.CopyTo address pages target next) copying storing = let bad : false ≡ true = storing in cc

-- nor does it make a shadow first, or take a mark
pub unprepared : (what : Want) (region : RegionId) (row : RegionRow) (old new : FaultState) → is_copying what ≡ true
    → Prepares (is_storing what && row.marked) region row old new → new ≡ old
unprepared (want.Load address n) region row old new copying same = same
unprepared (want.Store address n number) region row old new copying made = absurd (let bad : false ≡ true = copying in cc)
unprepared (want.CopyTo address pages target next) region row old new copying same = same

page_of : (host : HostId) (task : TaskId) (what : Want) (top : PageKey) (at value : ℕ) (mid new : FaultState) → is_copying what ≡ true
    → Ended host task what top at value mid.parts new.parts mid.chains mid.copies new.copies mid.events new.events → new.chains ≡ mid.chains → new.ids ≡ mid.ids
    → PageDone task mid new
page_of host task what top at value mid new copying (AtOnce steps key row finds stores opens owes e hits same told) chains ids =
    absurd (no_hit task what key row.frame at value e mid.parts new.parts copying hits)
page_of host task what top at value mid new copying
    (Raised steps key row finds stores opens frame copied hit raises plan e hits refers notes told) chains ids = absurd (no_store what copying stores)
page_of host task what top at value mid new copying
    (Pushed row finds stores opens place owed none frame copied raises plan e hits notes told) chains ids = absurd (no_store what copying stores)
page_of host task what top at value mid new copying (AfterZeros sinks frame brought brings plan e hits notes told) chains ids =
    absurd (no_hit task what top frame at value e brought new.parts copying hits)
page_of host task what top at value mid new copying
    (Copied address pages next target is steps key row finds out none copies same) chains ids =
    let hit : copies.hit.frames ≡ copies.copied.frames = ap (λ (z : HostParts). z.frames) copies.marks.is in
    let last : new.parts.frames ≡ copies.hit.frames = ap (λ (z : HostParts). z.frames) copies.source.is in
    let left = copies.page.left in
    let claims = copies.page.claims in
    let free_last : free new.parts.frames ≡ free copies.copied.frames = ap free (last ∙ hit) in
    let claims_last : claimed new.parts.frames ≡ claimed copies.copied.frames = ap claimed (last ∙ hit) in
    let rows : new.parts.resident ≡ copies.copied.resident = ap (λ (z : HostParts). z.resident) copies.source.is
    ∙ ap (λ (z : HostParts). z.resident) copies.marks.is in
    record {
      page = record { 0 = next };
      object_page = key.page;
      object = key.object;
      target = target;
      told = copies.told;
      frames = omega (arith, left, free_last);
      claims = omega (arith, claims, claims_last);
      rows = λ o p none. elim (row_cases target.0 next _ mid.parts.resident copies.copied.resident copies.page.row o p) [
        | inl now ↦ none_of (row_at copies.copied.resident o p) _ (ap (λ z. row_at z o p) (sym rows) ∙ none) now.is
        | inr other ↦ sym other.is ∙ (ap (λ z. row_at z o p) (sym rows) ∙ none)
      ];
      objects = ap (λ (z : HostParts). z.objects) copies.source.is ∙ (ap (λ (z : HostParts). z.objects) copies.marks.is ∙ copies.plan.objects);
      chains = chains;
      ids = ids;
    }

-- a slow copy was run once, and is to go on or has ended
pub page_done : {maps : Mapped} {host : HostId} {task : TaskId} {what : Want} {may : Bool} {value : ℕ} {old new : FaultState} → is_copying what ≡ true
    → Faulted maps host task what may (step.Done value) old new → PageDone task old new
page_done {maps = maps} {host = host} {task = task} {what = what} {value = value} {old = old} {new = new} copying f =
    subst (λ (z : FaultState). PageDone task z new) (unprepared what f.entry.region f.row old f.mid copying f.prepares)
    (page_of host task what f.top _ value f.mid new copying f.comes f.chains f.ids)

-- the pages that a slow copy has made so far: what is left to do, and what is as it was
pub record SoFar (task : TaskId) (what at : Want) (s mid : FaultState) : Type 0 where
  pub some : Bool
  pub front : List Event
  pub copied : AreCopied task some front
  pub told : mid.events ≡ front ++ s.events
  pub frames : free mid.parts.frames + length front ≡ free s.parts.frames
  pub claims : claimed mid.parts.frames ≡ claimed s.parts.frames + length front
  pub left : pages_left at + length front ≡ pages_left what
  pub none : (some ≡ false) → (mid ≡ s) × (at ≡ what)
  pub copies : some ≡ true → is_copying at ≡ true
  pub kind : is_copying at ≡ is_copying what
  pub rows : KeepsAway mid.parts.resident s.parts.resident
  pub objects : mid.parts.objects ≡ s.parts.objects
  pub chains : mid.chains ≡ s.chains
  pub ids : mid.ids ≡ s.ids

so_none : (task : TaskId) (what : Want) (s : FaultState) → SoFar task what what s s
so_none task what s = record {
  some = false;
  front = [];
  copied = NoPage;
  told = refl;
  frames = omega arith;
  claims = omega arith;
  left = omega arith;
  none = λ is. (refl, refl);
  copies = λ bad. absurd (let clash : false ≡ true = bad in cc);
  kind = refl;
  rows = λ o p none. none;
  objects = refl;
  chains = refl;
  ids = refl;
}

so_more : {maps : Mapped} {host : HostId} {task : TaskId} {may : Bool} {value : ℕ} (what at : Want) (s mid new : FaultState) → SoFar task what at s mid
    → Faulted maps host task at may (step.Done value) mid new → has_more at ≡ true → SoFar task what (with_page_done at) s new
so_more what (want.Load address n) s mid new so faulted more = absurd (let bad : false ≡ true = more in cc)
so_more what (want.Store address n number) s mid new so faulted more = absurd (let bad : false ≡ true = more in cc)
so_more {task = task} what (want.CopyTo address pages target next) s mid new so faulted more =
    let one : PageDone task mid new = page_done refl faulted in
    let e : Event = event.CopiedPage task one.page one.object one.object_page one.target in
    let less : next + 1 < pages = grind (arith, nat_tests) in
    let frames = so.frames in
    let frame = one.frames in
    let claims = so.claims in
    let claim = one.claims in
    let left = so.left in
    record {
      some = true;
      front = e ∷ so.front;
      copied = OnePage one.page one.object_page one.object one.target so.some so.front so.copied;
      told = one.told ∙ ap (λ z. e ∷ z) so.told;
      frames = omega (arith, frames, frame);
      claims = omega (arith, claims, claim);
      left = omega (arith, left, less);
      none = λ bad. absurd (let clash : true ≡ false = bad in cc);
      copies = λ is. refl;
      kind = so.kind;
      rows = λ o p none. so.rows o p (one.rows o p none);
      objects = one.objects ∙ so.objects;
      chains = one.chains ∙ so.chains;
      ids = one.ids ∙ so.ids;
    }

-- a run, page by page: the pages that a slow copy made first, and how the access was run once behind them
pub record Pagewise (maps : Mapped) (host : HostId) (task : TaskId) (may : Bool) (answer : FaultStep) (what last : Want) (s new : FaultState) : Type 0 where
  pub mid : FaultState
  pub at : Want
  pub so : SoFar task what at s mid
  pub ran : Faulted maps host task at may answer mid new
  pub over : goes_on answer at ≡ false
  pub last_is : last ≡ want_after answer at

pagewise_from : {maps : Mapped} {host : HostId} {task : TaskId} {may : Bool} {answer : FaultStep} {at last : Want} {mid new : FaultState} (what : Want)
    (s : FaultState) → SoFar task what at s mid → Runs maps host task may answer at last mid new
    → Pagewise maps host task may answer what last s new
pagewise_from what s so (Stops at mid new faulted over) = record { mid = mid; at = at; so = so; ran = faulted; over = over; last_is = refl }
pagewise_from what s so (GoesOn at last value mid next new faulted more rest) = pagewise_from what s (so_more what at s mid next so faulted more) rest

pub pagewise : {maps : Mapped} {host : HostId} {task : TaskId} {may : Bool} {answer : FaultStep} {what last : Want} {s new : FaultState}
    → Runs maps host task may answer what last s new → Pagewise maps host task may answer what last s new
pagewise {task = task} {what = what} {s = s} runs = pagewise_from what s (so_none task what s) runs

-- a load or a store was run once, from where it began
pub ran_at_once : {maps : Mapped} {host : HostId} {task : TaskId} {may : Bool} {answer : FaultStep} {what last : Want} {s new : FaultState}
    → is_copying what ≡ false → Runs maps host task may answer what last s new → Faulted maps host task what may answer s new
ran_at_once {what = want.Load address n} other (Stops what old new faulted over) = faulted
ran_at_once {what = want.Load address n} other (GoesOn what last value old mid new faulted more rest) = absurd (let bad : false ≡ true = more in cc)
ran_at_once {what = want.Store address n number} other (Stops what old new faulted over) = faulted
ran_at_once {what = want.Store address n number} other (GoesOn what last value old mid new faulted more rest) = absurd (let bad : false ≡ true = more in cc)
ran_at_once {what = want.CopyTo address pages target next} other runs = absurd (let bad : true ≡ false = other in cc)

-- what is left of it then
pub left_at_end : {maps : Mapped} {host : HostId} {task : TaskId} {may : Bool} {answer : FaultStep} {what last : Want} {s new : FaultState}
    → Pagewise maps host task may answer what last s new → pages_left last ≤ pages_left what
left_at_end {answer = answer} {what = what} p =
    let less = after_less answer p.at in
    let left = p.so.left in
    subst (λ (z : Want). pages_left z ≤ pages_left what) (sym p.last_is) (omega (arith, less, left))
  where
    done_less : (at : Want) → pages_left (with_page_done at) ≤ pages_left at
    done_less (want.Load address n) = omega arith
    done_less (want.Store address n number) = omega arith
    done_less (want.CopyTo address pages target next) = omega arith

    after_less : (answer : FaultStep) (at : Want) → pages_left (want_after answer at) ≤ pages_left at
    after_less (step.Done value) at = done_less at
    after_less (step.Ask key) at = omega arith
    after_less (step.Unlock key) at = omega arith
    after_less (step.WaitReady object) at = omega arith
    after_less (step.WaitAnswer key) at = omega arith
    after_less (step.NeedFrame source) at = omega arith

-- who wants a frame has claimed one for each page that it made
prepared_frames : (is : Bool) (region : RegionId) (row : RegionRow) (old mid : FaultState) → Prepares is region row old mid
    → mid.parts.frames ≡ old.parts.frames
prepared_frames true region row old mid (inl makes) = ap (λ (z : HostParts). z.frames) makes.parts
prepared_frames true region row old mid (inr loses) = ap (λ (z : HostParts). z.frames) loses.parts
prepared_frames false region row old mid same = ap (λ (z : FaultState). z.parts.frames) same

pub claims_and_left : {maps : Mapped} {host : HostId} {task : TaskId} {may : Bool} {source : Option PageKey} {what last : Want} {s new : FaultState}
    → Pagewise maps host task may (step.NeedFrame source) what last s new
    → claimed new.parts.frames + pages_left last ≡ claimed s.parts.frames + pages_left what
claims_and_left {what = what} {last = last} {s = s} {new = new} p =
    let f = p.ran in
    let frames : new.parts.frames ≡ p.mid.parts.frames = ap (λ (z : HostParts). z.frames) f.comes.2.parts
    ∙ prepared_frames (is_storing p.at && f.row.marked) f.entry.region f.row p.mid f.mid f.prepares in
    let same : claimed new.parts.frames ≡ claimed p.mid.parts.frames = ap claimed frames in
    let same_left : pages_left last ≡ pages_left p.at = ap pages_left p.last_is in
    let claims = p.so.claims in
    let left = p.so.left in
    omega (arith, same, same_left, claims, left)
