-- An object that its pager ends: its pages that are asked are asked no more, and no event says so, until its control ends.
use Rattle.vm_kernel.proofs.memory.PagesShown.{KeepsOthers, effect_on, pages_moved, row_elsewhere}
use Rattle.vm_kernel.proofs.Common.{AllReferred, Bool, Cancels, ChainTable, Elsewhere, Event, HasPages, Header, HostParts, Ids, List, Local, None, ObjectId}
use Rattle.vm_kernel.proofs.Common.{ObjectTable, OnlyLoses, PageKey, PageRow, Parts, ResidentTable, Some, TakesError, UsesAll, [], absent_at, ap, arith}
use Rattle.vm_kernel.proofs.Common.{eqb_tells, false, frame_here, if◌then◌else◌, inl, inr, is_some, length, local_after, nat_lt, nat_tests, refl, row_at}
use Rattle.vm_kernel.proofs.Common.{row_put, subst, suc, sym, true, ℕ, ◌&&◌, ◌+◌, ◌-◌, ◌<◌, ◌==◌, ◌∙◌, ◌∷◌, ◌≡◌}
use Rattle.vm_kernel.proofs.controls.AnswerEffects.{asked_shows}
use Rattle.vm_kernel.proofs.controls.CopiesAnswered.{copied_gone}
use Rattle.vm_kernel.proofs.lists.ListsAsTold.{frames_kept}
use Rattle.vm_kernel.proofs.memory.CoreChanges.{core_rerowed}
use Rattle.vm_kernel.proofs.memory.PageChanges.{fit_rerowed, same_objects}
use Rattle.vm_kernel.proofs.space.ObjectsEnd.{changes_beside, lost_one, of_state}
use Rattle.vm_kernel.specs.Destroying.{occurrences}
use Rattle.vm_kernel.specs.Matches.{ControlFacts, Core, MemoryFacts, SpaceFacts}
use Rattle.vm_model.specs.Local.{Ends as EndsControl}
use Rattle.vm_parts.specs.Changes.{one}
use Rattle.vm_state.proofs.Filling.{away_put, used_away}
use Rattle.vm_terminate.specs.Destroys.{NextAsked, NoneAsked, PagesCancel}
use Rattle.vm_terminate.specs.Finishes.{FinishState}

-- what a page shows where the control of its object ends
abbrev pub ends_at : ℕ → ℕ → ℕ → Local → Local
ends_at size o x was = local_after size (if o == x then EndsControl else Elsewhere) was

-- Some pages of an object that were asked have no row any more, and their frames are free: what is seen of them is what will be seen once its control has
-- ended.
pub record Clears (header : Header) (h o : ℕ) (k : Parts) (ids : Ids) (s : SpaceFacts) (c : ControlFacts) (m : MemoryFacts) (count : ℕ) : Type 0 where
  pub seen : ℕ → ℕ → Local
  pub held : ℕ
  pub core : Core header h k ids [] s c (record m { seen = seen; held = held })
  pub same : (x p : ℕ) → ends_at header.size o x (seen x p) ≡ ends_at header.size o x (m.seen x p)
  pub counts : held + count ≡ m.held

pub clears_none : {header : Header} {h : ℕ} {k : Parts} {ids : Ids} {s : SpaceFacts} {c : ControlFacts} {m : MemoryFacts} (o : ℕ)
    → Core header h k ids [] s c m → Clears header h o k ids s c m 0
clears_none {m = m} o core = record { seen = m.seen; held = m.held; core = core; same = λ x p. refl; counts = omega arith }

forgets : (size : ℕ) (a b : Bool) (was : Local)
    → local_after size (if a then EndsControl else Elsewhere) (local_after size (if a && b then TakesError else Elsewhere) was)
    ≡ local_after size (if a then EndsControl else Elsewhere) was
forgets size true true was = refl
forgets size true false was = refl
forgets size false b was = refl

-- one page more
pub clears_one : {header : Header} {h : ℕ} {k : Parts} {ids : Ids} {s : SpaceFacts} {c : ControlFacts} {m : MemoryFacts} {row : PageRow} {memory : HostParts}
    (key : PageKey) → Core header h k ids [] s c m → row.here ≡ false → Cancels key row k.memory memory → memory.objects ≡ k.memory.objects
    → memory.buffers ≡ k.memory.buffers → Clears header h key.object.0 (record k { memory = memory }) ids s c m 1
clears_one {header = header} {k = k} {m = m} {row = row} {memory = memory} key core is_away cancels objects buffers =
    let o = key.object.0 in
    let p = key.page.0 in
    let held = core.pages.counted.held in
    let less = cancels.claims in
    let shown : HasPages memory.frames memory.resident k.memory.objects (effect_on header.size key TakesError m.seen) = pages_moved header.size TakesError key
    row.frame _ _ _ _ _ k.memory memory k.memory.objects m.seen core.fits.parts core.pages.shown cancels
    (ap (local_after header.size TakesError) (asked_shows k.memory.frames row (absent_at k.memory.objects o p)
    (core.fits.plain o p row cancels.found is_away) is_away)) (λ x q apart. refl) in
    record {
      seen = effect_on header.size key TakesError m.seen;
      held = m.held - 1;
      core = core_rerowed key row.frame core cancels (record {
        fit = fit_rerowed core.fits.parts cancels (λ some. absurd (let bad : false ≡ true = some in cc)) refl (same_objects objects) buffers;
        objects = objects;
        buffers = buffers;
      }) tt shown (λ was. omega (arith, was, less)) (copied_gone core.copied o p (same_objects objects) cancels.row);
      same = λ x q. forgets header.size (o == x) (p == q) (m.seen x q);
      counts = omega (arith, held, less);
    }

clears_both : {header : Header} {h o : ℕ} {k k2 : Parts} {ids : Ids} {s : SpaceFacts} {c : ControlFacts} {m : MemoryFacts} {count : ℕ}
    → (first : Clears header h o k ids s c m 1) → Clears header h o k2 ids s c (record m { seen = first.seen; held = first.held }) count
    → Clears header h o k2 ids s c m (suc count)
clears_both first second =
    let one_more = first.counts in
    let rest = second.counts in
    record {
      seen = second.seen;
      held = second.held;
      core = second.core;
      same = λ x p. second.same x p ∙ first.same x p;
      counts = omega (arith, one_more, rest);
    }

-- what is left once no page of the object is asked
pub record AreCancelled (header : Header) (h : ℕ) (past : List Event) (start : Parts) (ids : Ids) (object : ObjectId) (asked : List ℕ) (s : SpaceFacts)
    (c : ControlFacts) (m : MemoryFacts) (old new : FinishState) : Type 0 where
  pub clears : Clears header h object.0 (of_state start new) ids s c m (length asked)
  pub used : UsesAll header (of_state start new) past
  pub objects : new.parts.objects ≡ old.parts.objects
  pub rest : new ≡ record old { parts = new.parts; events = new.events }
  pub events : new.events ≡ old.events
  pub none : (p : ℕ) → row_at new.parts.resident object.0 p ≡ None
  pub others : KeepsOthers object.0 old.parts.resident new.parts.resident
  pub pages : OnlyLoses old.parts.resident new.parts.resident
  pub frames : (o p : ℕ) → frame_here (row_at new.parts.resident o p) ≡ frame_here (row_at old.parts.resident o p)
  pub queues : new.parts.queues ≡ old.parts.queues
  pub listed : (p : ℕ) → occurrences p asked ≡ one (is_some (row_at old.parts.resident object.0 p))

pub pages_cancel : (header : Header) (h : ℕ) (past : List Event) (start : Parts) (ids : Ids) (object : ObjectId) (asked : List ℕ) (s : SpaceFacts)
    (c : ControlFacts) (m : MemoryFacts) (from : ℕ) (old new : FinishState) → Core header h (of_state start old) ids [] s c m
    → UsesAll header (of_state start old) past → ((q : ℕ) → q < from → row_at old.parts.resident object.0 q ≡ None) → PagesCancel object from asked old new
    → AreCancelled header h past start ids object asked s c m old new
pages_cancel header h past start ids object _ s c m _ _ _ core used low (NoneAsked from state none) =
    record {
      clears = clears_none object.0 core;
      used = used;
      objects = refl;
      rest = refl;
      events = refl;
      none = all;
      others = λ o p apart. refl;
      pages = λ o p row found. found;
      frames = λ o p. refl;
      queues = refl;
      listed = λ p. sym (ap (λ z. one (is_some z)) (all p));
    }
  where
    by_test : (p : ℕ) (b : Bool) → nat_lt p from ≡ b → row_at state.parts.resident object.0 p ≡ None
    by_test p true less = low p (grind (arith, nat_tests))
    by_test p false less = none p (grind (arith, nat_tests))

    all : (p : ℕ) → row_at state.parts.resident object.0 p ≡ None
    all p = by_test p (nat_lt p from) refl
pages_cancel header h past start ids object _ s c m _ _ _ core used low (NextAsked from page asked row old mid new le none found cancelled more) =
    whole (pages_cancel header h past start ids object asked s c (record m { seen = first.seen; held = first.held }) (suc page.0) mid new first_core used_mid
    next more)
  where
    key : PageKey
    key = record { object = object; page = page }

    base : Parts
    base = of_state start old

    memory : HostParts
    memory = record (mid.parts) { buffers = start.memory.buffers }

    cancels : Cancels key row base.memory memory
    cancels = changes_beside old.parts mid.parts start cancelled.page

    same : of_state start mid ≡ record base { memory = memory }
    same = ap (of_state start) cancelled.rest.is

    first : Clears header h object.0 (record base { memory = memory }) ids s c m 1
    first = clears_one key core cancelled.away cancels cancelled.rest.objects refl

    first_core : Core header h (of_state start mid) ids [] s c (record m { seen = first.seen; held = first.held })
    first_core = subst (λ (z : Parts). Core header h z ids [] s c (record m { seen = first.seen; held = first.held })) (sym same) first.core

    used_mid : UsesAll header (of_state start mid) past
    used_mid = subst (λ (z : Parts). UsesAll header z past) (sym same)
        (used_away old.parts.resident mid.parts.resident used
        (away_put object.0 page.0 None row old.parts.resident mid.parts.resident cancelled.page.found cancelled.page.row))

    gone : row_at mid.parts.resident object.0 page.0 ≡ None
    gone = row_put old.parts.resident mid.parts.resident object.0 page.0 None cancelled.page.row

    in_front : (q : ℕ) → q < page.0 → row_at old.parts.resident object.0 q ≡ None
    in_front q below = by (nat_lt q from) refl
      where
        by : (b : Bool) → nat_lt q from ≡ b → row_at old.parts.resident object.0 q ≡ None
        by true is = low q (grind (arith, nat_tests))
        by false is = none q (grind (arith, nat_tests)) below

    next : (q : ℕ) → q < suc page.0 → row_at mid.parts.resident object.0 q ≡ None
    next q below = elim (eqb_tells q page.0) [
      | inl this ↦ subst (λ (z : ℕ). row_at mid.parts.resident object.0 z ≡ None) (sym this.1) gone
      | inr apart ↦ row_elsewhere cancelled.page.row object.0 q (λ one two. apart.1 (sym two)) ∙ in_front q (let other = apart.1 in grind arith)
    ]

    listed : AreCancelled header h past start ids object asked s c (record m { seen = first.seen; held = first.held }) mid new → (p : ℕ)
        → occurrences p (page.0 ∷ asked) ≡ one (is_some (row_at old.parts.resident object.0 p))
    listed rest p = elim (eqb_tells page.0 p) [
      | inl this ↦
          let its = rest.listed p in
          let after : one (is_some (row_at mid.parts.resident object.0 p)) ≡ 0 = ap (λ z. one (is_some z))
          (subst (λ (z : ℕ). row_at mid.parts.resident object.0 z ≡ None) this.1 gone) in
          let before : one (is_some (row_at old.parts.resident object.0 p)) ≡ 1 = ap (λ z. one (is_some z))
          (subst (λ (z : ℕ). row_at old.parts.resident object.0 z ≡ Some row) this.1 found) in
          let here : one (page.0 == p) ≡ 1 = ap one this.0 in
          omega (arith, its, after, before, here)
      | inr apart ↦
          let its = rest.listed p in
          let kept : one (is_some (row_at mid.parts.resident object.0 p)) ≡ one (is_some (row_at old.parts.resident object.0 p)) = ap (λ z. one (is_some z))
          (row_elsewhere cancelled.page.row object.0 p (λ first second. apart.1 second)) in
          let other : one (page.0 == p) ≡ 0 = ap one apart.0 in
          omega (arith, its, kept, other)
    ]

    not_here : frame_here (Some row) ≡ None
    not_here = ap (λ (b : Bool). if b then Some row.frame else None) cancelled.away

    whole : AreCancelled header h past start ids object asked s c (record m { seen = first.seen; held = first.held }) mid new
        → AreCancelled header h past start ids object (page.0 ∷ asked) s c m old new
    whole rest = record {
      clears = clears_both first rest.clears;
      used = rest.used;
      objects = rest.objects ∙ cancelled.rest.objects;
      rest = rest.rest ∙ ap (λ (z : FinishState). record z { parts = new.parts; events = new.events }) cancelled.rest.is;
      events = rest.events ∙ cancelled.events;
      none = rest.none;
      others = λ o p apart. rest.others o p apart ∙ row_elsewhere cancelled.page.row o p (λ same also. apart same);
      pages = λ o p row found. lost_one object.0 page.0 old.parts.resident mid.parts.resident cancelled.page.row o p row (rest.pages o p row found);
      frames = λ o p. rest.frames o p
          ∙ frames_kept old.parts.resident mid.parts.resident object.0 page.0 None cancelled.page.row (sym (ap frame_here found ∙ not_here)) o p;
      queues = rest.queues ∙ cancelled.page.queues;
      listed = listed rest;
    }

-- fewer pages, and still each object in use is referred to
pub referred_less : (cs : ChainTable) (os : ObjectTable) (rs rs2 : ResidentTable) → OnlyLoses rs rs2 → AllReferred cs os rs → AllReferred cs os rs2
referred_less cs os rs rs2 loses all =
    record {
      live = all.live;
      pages = λ o p row found. all.pages o p row (loses o p row found);
      locks = λ o p row found. all.locks o p row (loses o p row found);
      shadows = all.shadows;
    }
