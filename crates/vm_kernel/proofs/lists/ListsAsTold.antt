-- The lists of pages are as the events say.
use Rattle.vm_kernel.proofs.Common.{AllSkipped, Bool, Changes, Does, Event, FrameNo, Header, HostParts, Ids, IsChosen, IsVictim, KeepsPages, List, None, Option}
use Rattle.vm_kernel.proofs.Common.{Page, PageKey, PageRow, PagerState, Paging, Parts, Plays, PutsRow, Queues, Reclaim, ReclaimEffects, ResidentTable, Rests}
use Rattle.vm_kernel.proofs.Common.{Some, Still, TaskId, Then, Up, Want, [], ap, balanced, balanced_done, cleared, controlled, false, frame_here}
use Rattle.vm_kernel.proofs.Common.{from_unreferenced, front_referenced_of, if◌then◌else◌, inl, inr, is_queued, is_skipped, looked, map, needs_none}
use Rattle.vm_kernel.proofs.Common.{none_needed, owed, page_in, paging, places_with_frame, queues_after_search, queues_except, referenced_front, refl, row_at}
use Rattle.vm_kernel.proofs.Common.{row_cases, sends, shortage, spared, spared_done, subst, sym, take, told_from, true, victim_frame, with_reference, ℕ, ◌&&◌}
use Rattle.vm_kernel.proofs.Common.{◌++◌, ◌==◌, ◌||◌, ◌∙◌, ◌∷◌, ◌≡◌}
use Rattle.std.proofs.lemmas.Bool.Decides.{eqb_tells}
use Rattle.vm_base.specs.declared.ids.HostId.{HostId}
use Rattle.vm_base.specs.declared.ids.RegionId.{RegionId}
use Rattle.vm_fault.specs.Faults.{AfterZeros, AtOnce, Copied, Ended, Faulted, FaultState, GoesOn, Hits, Prepares, Raised, References, Runs, Stops, copied_key}
use Rattle.vm_fault.specs.declared.step.FaultStep.{FaultStep}
use Rattle.vm_fault.specs.declared.step.FaultStep.TheVariants as step
use Rattle.vm_legal.specs.Walks.{Reach}
use Rattle.vm_maps.specs.Maps.{Mapped}
use Rattle.vm_model.specs.declared.event.Event.TheVariants as event
use Rattle.vm_model.specs.declared.message.Message.TheVariants as message
use Rattle.vm_objects.specs.declared.row.PagerState.TheVariants as state
use Rattle.vm_pageout.specs.declared.answer.Reclaim.TheVariants as reclaim
use Rattle.vm_queues.specs.Queues.{added, marked}
use Rattle.vm_shadow.specs.declared.region_row.RegionRow.{RegionRow}
use Rattle.vm_waits.specs.declared.waiting.Want.TheVariants as want
use Rattle.vm_legal.specs.Licences.{ReturnOn}
use Rattle.vm_kernel.specs.Plays.{AreSpared, Arrives, AsDestroyed, AsLocked, AsUnheld, AsUnreached, AsVictim, Departs, DepartsFrom, DoesBy, Looks, PlaysBy}
use Rattle.vm_kernel.specs.Plays.{Reclaims, ReclaimsNone, Sparing, uncreated}
use Rattle.vm_kernel.proofs.memory.PagesShown.{itself}
use Rattle.vm_fault.specs.Faults.{Pushed}

-- first some events, and then some more
pub plays_both : {header : Header} {by : Sparing} {past before mid : List Event} {old k : Paging} {after : List Event} {new : Paging}
    → PlaysBy header by past before old mid k → PlaysBy header by past mid k after new → PlaysBy header by past before old after new
plays_both one Still = one
plays_both one (Looks host events inner new rest searches) = Looks host events inner new (plays_both one rest) searches
plays_both one (Then e events inner new rest does) = Then e events inner new (plays_both one rest) does

pub plays_still : (header : Header) (by : Sparing) (past events : List Event) (k : Paging) → PlaysBy header by past events k events k
plays_still header by past events k = Still

-- where no page is reclaimed, none is wrongly

departs_any : {header : Header} {h : ℕ} {past : List Event} {object page : ℕ} {old new : Paging} (by : Sparing)
    → DepartsFrom header h ReclaimsNone past object page old new → DepartsFrom header h by past object page old new
departs_any by (AsVictim victim) = absurd victim.may
departs_any by (AsUnreached none departs) = AsUnreached none departs
departs_any by (AsUnheld unheld) = AsUnheld unheld
departs_any by (AsLocked locked) = AsLocked locked
departs_any by (AsDestroyed destroyed) = AsDestroyed destroyed

does_any : (header : Header) (by : Sparing) (past : List Event) (e : Event) (old new : Paging) → Does header past e old new → DoesBy header by past e old new
does_any header by past (event.Dropped host object page) old new does = departs_any by does
does_any header by past (event.Sent (Up host object) (message.Return control page dirty false bytes)) old new (inl victim) = absurd victim.may
does_any header by past (event.Sent (Up host object) (message.Return control page dirty false bytes)) old new (inr other) = inr other
does_any header by past other old new does = does

pub plays_any : {header : Header} {past before : List Event} {old : Paging} {after : List Event} {new : Paging} (by : Sparing)
    → Plays header past before old after new → PlaysBy header by past before old after new
plays_any by Still = Still
plays_any by (Looks host events mid new rest searches) = absurd searches.may
plays_any {header = header} {past = past} by (Then e events mid new rest does) =
    Then e events mid new (plays_any by rest) (does_any header by (events ++ past) e mid new does)

-- nothing has happened
pub plays_none : (header : Header) (past before after : List Event) (old new : Paging) → after ≡ before → new ≡ old → Plays header past before old after new
plays_none header past before after old new told same =
    subst (λ (z : List Event). Plays header past before old z new) (sym told) (subst (λ (z : Paging). Plays header past before old before z) (sym same) Still)

-- from the start of a call
pub called_plays : {header : Header} {past before after : List Event} {k now : Parts} {new : Paging} (by : Parts → Sparing) → k ≡ now → before ≡ []
    → PlaysBy header (by k) past before (paging k) after new → PlaysBy header (by now) past [] (paging now) after new
called_plays {header} {past} {before} {after} {k} {now} {new} by same none plays =
    subst (λ (z : Parts). PlaysBy header (by z) past [] (paging z) after new) same
    (subst (λ (z : List Event). PlaysBy header (by k) past z (paging k) after new) none plays)

-- one event
pub plays_one : (header : Header) (past before after : List Event) (e : Event) (old new : Paging) → after ≡ e ∷ before → Does header (before ++ past) e old new
    → Plays header past before old after new
plays_one header past before after e old new told does =
    subst (λ (z : List Event). Plays header past before old z new) (sym told) (Then e before old new Still does)

-- the same frames, and the same lists
pub same_paging : (old new : ℕ → ℕ → Option FrameNo) (q r : Queues) → ((o p : ℕ) → new o p ≡ old o p) → r ≡ q
    → ◌≡◌ {A = Paging} (record { frame_at = new; queues = r }) (record { frame_at = old; queues = q })
same_paging old new q r same lists = λ i. record { frame_at = λ o p. same o p i; queues = lists i }

-- nothing but an event that says nothing of the lists, or one that says what happened
pub plays_told : {header : Header} {past before after : List Event} {e : Event} {old new : Paging} → after ≡ e ∷ before → Does header (before ++ past) e old new
    → Plays header past before old after new
plays_told {header} {past} {before} {after} {e} {old} {new} told does = plays_one header past before after e old new told does

-- the same pages, and the same lists
pub lists_same : (k new : Parts) → new.memory.resident ≡ k.memory.resident → new.memory.queues ≡ k.memory.queues → paging new ≡ paging k
lists_same k new rows lists = same_paging _ _ _ _ (λ o p. ap (λ z. frame_here (row_at z o p)) rows) lists

push : (b : Bool) (x y : Option PageRow) → frame_here (if b then x else y) ≡ (if b then frame_here x else frame_here y)
push true x y = refl
push false x y = refl

-- one row is another now
pub frames_put : (old new : ResidentTable) (o p : ℕ) (x : Option PageRow) (frame : Option FrameNo) → PutsRow o p x old new → frame_here x ≡ frame
    → (o2 p2 : ℕ) → frame_here (row_at new o2 p2) ≡ places_with_frame o p frame (λ o3 p3. frame_here (row_at old o3 p3)) o2 p2
frames_put old new o p x frame put is o2 p2 =
    ap frame_here (put.at o2 p2) ∙ push (o == o2 && p == p2) x (row_at old o2 p2) ∙ ap (λ z. if o == o2 && p == p2 then z else frame_here (row_at old o2 p2)) is

-- one row is another now, with the page where it was
pub frames_kept : (old new : ResidentTable) (o p : ℕ) (x : Option PageRow) → PutsRow o p x old new → frame_here x ≡ frame_here (row_at old o p)
    → (o2 p2 : ℕ) → frame_here (row_at new o2 p2) ≡ frame_here (row_at old o2 p2)
frames_kept old new o p x put same o2 p2 = elim (row_cases o p x old new put o2 p2) [
  | inl now ↦ ap frame_here now.is ∙ same ∙ ap (λ z. frame_here (row_at old z p)) now.object ∙ ap (λ z. frame_here (row_at old o2 z)) now.page
  | inr other ↦ ap frame_here other.is
]

pub here_is : (x : Option PageRow) (row : PageRow) (frame : FrameNo) → x ≡ Some row → row.here ≡ true → row.frame ≡ frame → frame_here x ≡ Some frame
here_is x row frame found here is = ap frame_here found ∙ ap (λ (b : Bool). if b then Some row.frame else None) here ∙ ap Some is

-- a run changes no lists but those of the host's parts
abbrev pub paging_in : HostParts → Paging
paging_in parts = record { frame_at = λ o p. frame_here (row_at parts.resident o p); queues = parts.queues }

-- two marks, in either order

pub or_turned : (a b c : Bool) → (a || (b || c)) ≡ (b || (a || c))
or_turned true true c = refl
or_turned true false c = refl
or_turned false b c = refl

marked_turned : (f g : ℕ) (pages : List Page) → map (marked f) (map (marked g) pages) ≡ map (marked g) (map (marked f) pages)
marked_turned f g [] = refl
marked_turned f g (page ∷ pages) =
    λ i. record { frame = page.frame; referenced = or_turned (page.frame == f) (page.frame == g) page.referenced i } ∷ marked_turned f g pages i

pub references_turned : (f g : ℕ) (q : Queues) → with_reference f (with_reference g q) ≡ with_reference g (with_reference f q)
references_turned f g q = λ i. record { active = marked_turned f g q.active i; inactive = marked_turned f g q.inactive i; frames = q.frames }

-- the same mark twice

or_twice : (a b : Bool) → (a || (a || b)) ≡ (a || b)
or_twice true b = refl
or_twice false b = refl

marked_twice : (f : ℕ) (pages : List Page) → map (marked f) (map (marked f) pages) ≡ map (marked f) pages
marked_twice f [] = refl
marked_twice f (page ∷ pages) =
    λ i. record { frame = page.frame; referenced = or_twice (page.frame == f) page.referenced i } ∷ marked_twice f pages i

references_twice : (f : ℕ) (q : Queues) → with_reference f (with_reference f q) ≡ with_reference f q
references_twice f q = λ i. record { active = marked_twice f q.active i; inactive = marked_twice f q.inactive i; frames = q.frames }

-- a page's frame was marked, and each page is where it was
record Touches (frame : FrameNo) (old new : HostParts) : Type 0 where
  lists : new.queues ≡ with_reference frame.0 old.queues
  frames : (o p : ℕ) → frame_here (row_at new.resident o p) ≡ frame_here (row_at old.resident o p)

refers_touches : (frame : FrameNo) (old new : HostParts) → References frame old new → Touches frame old new
refers_touches frame old new refers = record { lists = refers.marks; frames = λ o p. ap (λ (z : HostParts). frame_here (row_at z.resident o p)) refers.is }

hit_touches : (task : TaskId) (what : Want) (key : PageKey) (frame : FrameNo) (at value : ℕ) (e : Event) (old new : HostParts)
    → Hits task what key frame at value e old new → Touches frame old new
hit_touches task (want.Load address n) key frame at value e old new hits = refers_touches frame old new hits.1
hit_touches task (want.CopyTo address pages target next) key frame at value e old new hits = absurd hits
hit_touches task (want.Store address n number) key frame at value e old new hits =
    let wrote = hits.1.1 in
    let touched = refers_touches frame hits.1.0 new hits.1.2 in
    record {
      lists = touched.lists ∙ ap (with_reference frame.0) wrote.page.queues;
      frames = λ o p.
          touched.frames o p
          ∙ frames_kept old.resident hits.1.0.resident key.object.0 key.page.0 (Some (record wrote.row { dirty = true })) wrote.page.row
          (sym (ap frame_here wrote.page.found)) o p;
    }

-- an access that ends marks its page
hit_does : (header : Header) (past : List Event) (task : TaskId) (what : Want) (key : PageKey) (frame : FrameNo) (at value : ℕ) (e : Event)
    (old new : HostParts) (a b : Paging) → Hits task what key frame at value e old new
    → a.frame_at key.object.0 key.page.0 ≡ Some frame → b ≡ record a { queues = with_reference frame.0 a.queues } → Does header past e a b
hit_does header past task (want.Load address n) key frame at value e old new a b hits here is =
    subst (λ (z : Event). Does header past z a b) (sym hits.2) (record { frame = frame; here = here; is = is })
hit_does header past task (want.CopyTo address pages target next) key frame at value e old new a b hits here is = absurd hits
hit_does header past task (want.Store address n number) key frame at value e old new a b hits here is =
    subst (λ (z : Event). Does header past z a b) (sym hits.2) (record { frame = frame; here = here; is = is })

touched_is : (frame : FrameNo) (old new : HostParts) → Touches frame old new
    → ◌≡◌ {A = Paging} (paging_in new) (record (paging_in old) { queues = with_reference frame.0 old.queues })
touched_is frame old new touched = same_paging _ _ _ _ touched.frames touched.lists

-- a page has come into a frame that was free
come_is : (key : PageKey) (frame : FrameNo) (row : PageRow) (held : Bool) (bytes : List ℕ) (old new : HostParts)
    → Changes key frame None (Some row) held bytes (added frame.0 old.queues) old new → frame_here (Some row) ≡ Some frame
    → ◌≡◌ {A = Paging} (paging_in new) (record {
      frame_at = places_with_frame key.object.0 key.page.0 (Some frame) (paging_in old).frame_at;
      queues = added frame.0 old.queues;
    })
come_is key frame row held bytes old new page here =
    same_paging _ _ _ _ (frames_put old.resident new.resident key.object.0 key.page.0 (Some row) (Some frame) page.row here) page.queues

came : (key : PageKey) (frame : FrameNo) (row : PageRow) (held : Bool) (bytes : List ℕ) (old new : HostParts)
    → Changes key frame None (Some row) held bytes (added frame.0 old.queues) old new → frame_here (Some row) ≡ Some frame
    → Arrives key.object.0 key.page.0 (paging_in old) (paging_in new)
came key frame row held bytes old new page here =
    record {
      frame = frame;
      absent = ap frame_here page.found;
      unlisted = page.listed;
      is = come_is key frame row held bytes old new page here;
    }

placed : (o p : ℕ) (frame : Option FrameNo) (was : ℕ → ℕ → Option FrameNo) → places_with_frame o p frame was o p ≡ frame
placed o p frame was = ap (λ (b : Bool). if b && p == p then frame else was o p) (itself o) ∙ ap (λ (b : Bool). if b then frame else was o p) (itself p)

-- another page is where it was
apart_placed : (o p o2 p2 : ℕ) (frame other : FrameNo) (was : ℕ → ℕ → Option FrameNo) → was o p ≡ None → was o2 p2 ≡ Some other
    → places_with_frame o p (Some frame) was o2 p2 ≡ was o2 p2
apart_placed o p o2 p2 frame other was none some = elim (eqb_tells o o2) [
  | inr apart ↦ ap (λ (b : Bool). if b && p == p2 then Some frame else was o2 p2) apart.0
  | inl same ↦ elim (eqb_tells p p2) [
    | inr apart ↦ ap (λ (b : Bool). if b && p == p2 then Some frame else was o2 p2) same.0 ∙ ap (λ (b : Bool). if b then Some frame else was o2 p2) apart.0
    | inl even ↦ absurd (let bad : None ≡ Some other = sym none ∙ ap (λ z. was z p) same.1 ∙ ap (λ z. was o2 z) even.1 ∙ some in cc)
  ]
]

-- what stands in front of a run says nothing of the lists
prepares_plays : (header : Header) (past : List Event) (is : Bool) (region : RegionId) (row : RegionRow) (s mid : FaultState) → Prepares is region row s mid
    → Plays header past s.events (paging_in s.parts) mid.events (paging_in mid.parts)
prepares_plays header past true region row s mid (inl makes) = plays_told makes.told (ap paging_in makes.parts)
prepares_plays header past true region row s mid (inr loses) = plays_told loses.told (ap paging_in loses.parts)
prepares_plays header past false region row s mid same =
    plays_none header past _ _ _ _ (ap (λ (z : FaultState). z.events) same) (ap (λ (z : FaultState). paging_in z.parts) same)

-- an access has ended, or a slow copy has copied a page
ended_plays : (header : Header) (past : List Event) (host : HostId) (task : TaskId) (what : Want) (top : PageKey) (at value : ℕ) (s new : FaultState)
    → Ended host task what top at value s.parts new.parts s.chains s.copies new.copies s.events new.events
    → Plays header past s.events (paging_in s.parts) new.events (paging_in new.parts)
ended_plays header past host task what top at value s new (Copied address pages next target is steps key row finds out is_none copies same) =
    let frame = copies.frame in
    let made = copied_key target next in
    let was = paging_in s.parts in
    let come = paging_in copies.copied in
    let arrives = came made frame _ _ _ s.parts copies.copied copies.page refl in
    let come_so = come_is made frame _ _ _ s.parts copies.copied copies.page refl in
    let there : was.frame_at key.object.0 key.page.0 ≡ Some row.frame = here_is (row_at s.parts.resident key.object.0 key.page.0) row row.frame finds.found
    finds.here refl in
    let here : come.frame_at target.0 next ≡ Some frame = ap (λ (z : Paging). z.frame_at target.0 next) come_so
    ∙ placed target.0 next (Some frame) was.frame_at in
    -- the copy is marked, and its source then
    let hit = refers_touches frame copies.copied copies.hit copies.marks in
    let last = refers_touches row.frame copies.hit new.parts copies.source in
    let source : (paging_in copies.hit).frame_at key.object.0 key.page.0 ≡ Some row.frame =
    hit.frames key.object.0 key.page.0 ∙ ap (λ (z : Paging). z.frame_at key.object.0 key.page.0) come_so
    ∙ apart_placed target.0 next key.object.0 key.page.0 frame row.frame was.frame_at (ap frame_here copies.page.found) there ∙ there in
    plays_told copies.told
    (record {
      come = come;
      arrives = arrives;
      marked = paging_in copies.hit;
      marks = record { frame = frame; here = here; is = touched_is frame copies.copied copies.hit hit };
      source = record { frame = row.frame; here = source; is = touched_is row.frame copies.hit new.parts last };
    })
ended_plays header past host task what top at value s new (AtOnce steps key row finds stores opens owes e hits same told) =
    let touched = hit_touches task what key row.frame at value e s.parts new.parts hits in
    plays_told told
    (hit_does header (s.events ++ past) task what key row.frame at value e s.parts new.parts (paging_in s.parts) (paging_in new.parts) hits
    (here_is (row_at s.parts.resident key.object.0 key.page.0) row row.frame finds.found finds.here refl)
    (touched_is row.frame s.parts new.parts touched))
ended_plays header past host task what top at value s new (AfterZeros sinks frame brought brings plan e hits notes told) =
    let zeroed = event.Zeroed host top.object top.page in
    let arrives = came top frame _ _ _ s.parts brought brings refl in
    let come = come_is top frame _ _ _ s.parts brought brings refl in
    let touched = hit_touches task what top frame at value e brought new.parts hits in
    let here : (paging_in brought).frame_at top.object.0 top.page.0 ≡ Some frame = ap (λ (z : Paging). z.frame_at top.object.0 top.page.0) come
    ∙ placed top.object.0 top.page.0 (Some frame) (paging_in s.parts).frame_at in
    subst (λ (z : List Event). Plays header past s.events (paging_in s.parts) z (paging_in new.parts)) (sym told)
    (Then e (zeroed ∷ s.events) (paging_in brought) (paging_in new.parts) (Then zeroed s.events (paging_in s.parts) (paging_in brought) Still arrives)
    (hit_does header ((zeroed ∷ s.events) ++ past) task what top frame at value e brought new.parts (paging_in brought) (paging_in new.parts) hits here
    (touched_is frame brought new.parts touched)))
ended_plays header past host task what top at value s new
    (Pushed row finds stores opens place owed none frame copied raises plan e hits notes told) =
    let raised = event.Raised host top.object top.page place.object place.page in
    let was = paging_in s.parts in
    let come = paging_in copied in
    -- the copy has come, and the page that was pushed is marked, as the store marks it again
    let both : Paging = record come { queues = with_reference row.frame.0 come.queues } in
    let arrives = came place frame _ _ _ s.parts copied raises refl in
    let come_so = come_is place frame _ _ _ s.parts copied raises refl in
    let there : was.frame_at top.object.0 top.page.0 ≡ Some row.frame = here_is (row_at s.parts.resident top.object.0 top.page.0) row row.frame finds.found
    finds.here refl in
    let source : come.frame_at top.object.0 top.page.0 ≡ Some row.frame =
    ap (λ (z : Paging). z.frame_at top.object.0 top.page.0) come_so
    ∙ apart_placed place.object.0 place.page.0 top.object.0 top.page.0 frame row.frame was.frame_at (ap frame_here raises.found) there ∙ there in
    let touched = hit_touches task what top row.frame at value e copied new.parts hits in
    let lists : new.parts.queues ≡ with_reference row.frame.0 (with_reference row.frame.0 copied.queues) =
    touched.lists ∙ sym (references_twice row.frame.0 copied.queues) in
    subst (λ (z : List Event). Plays header past s.events (paging_in s.parts) z (paging_in new.parts)) (sym told)
    (Then e (raised ∷ s.events) both (paging_in new.parts) (Then raised s.events was both Still
    (record { mid = come; arrives = arrives; marks = record { frame = row.frame; here = source; is = refl } }))
    (hit_does header ((raised ∷ s.events) ++ past) task what top row.frame at value e copied new.parts both (paging_in new.parts) hits source
    (same_paging _ _ _ _ touched.frames lists)))
ended_plays header past host task what top at value s new
    (Raised steps key row finds stores opens frame copied hit raises plan e hits refers notes told) =
    let raised = event.Raised host key.object key.page top.object top.page in
    let o = top.object.0 in
    let p = top.page.0 in
    let was = paging_in s.parts in
    let come = paging_in copied in
    -- the copy has come, and its source is marked
    let both : Paging = record come { queues = with_reference row.frame.0 come.queues } in
    let arrives = came top frame _ _ _ s.parts copied raises refl in
    let come_so = come_is top frame _ _ _ s.parts copied raises refl in
    let there : was.frame_at key.object.0 key.page.0 ≡ Some row.frame = here_is (row_at s.parts.resident key.object.0 key.page.0) row row.frame finds.found
    finds.here refl in
    let source : come.frame_at key.object.0 key.page.0 ≡ Some row.frame =
    ap (λ (z : Paging). z.frame_at key.object.0 key.page.0) come_so
    ∙ apart_placed o p key.object.0 key.page.0 frame row.frame was.frame_at (ap frame_here raises.found) there ∙ there in
    let here : both.frame_at o p ≡ Some frame = ap (λ (z : Paging). z.frame_at o p) come_so ∙ placed o p (Some frame) was.frame_at in
    let touched = hit_touches task what top frame at value e copied hit hits in
    let last = refers_touches row.frame hit new.parts refers in
    let lists : new.parts.queues ≡ with_reference frame.0 (with_reference row.frame.0 copied.queues) =
    last.lists ∙ ap (with_reference row.frame.0) touched.lists ∙ references_turned row.frame.0 frame.0 copied.queues in
    subst (λ (z : List Event). Plays header past s.events (paging_in s.parts) z (paging_in new.parts)) (sym told)
    (Then e (raised ∷ s.events) both (paging_in new.parts) (Then raised s.events was both Still
    (record { mid = come; arrives = arrives; marks = record { frame = row.frame; here = source; is = refl } }))
    (hit_does header ((raised ∷ s.events) ++ past) task what top frame at value e copied hit both (paging_in new.parts) hits here
    (same_paging _ _ _ _ (λ q r. last.frames q r ∙ touched.frames q r) lists)))

comes_plays : (header : Header) (past : List Event) (maps : Mapped) (host : HostId) (task : TaskId) (what : Want) (may : Bool) (answer : FaultStep)
    (s new : FaultState) → (f : Faulted maps host task what may answer s new)
    → Plays header past f.mid.events (paging_in f.mid.parts) new.events (paging_in new.parts)
comes_plays header past maps host task what may (step.Done value) s new f = ended_plays header past host task what f.top _ value f.mid new f.comes
comes_plays header past maps host task what may (step.Ask key) s new f =
    let asked = f.comes.0 in
    plays_told asked.told
    (same_paging _ _ _ _ (frames_kept f.mid.parts.resident new.parts.resident key.object.0 key.page.0 _ asked.page.row (sym (ap frame_here asked.page.found)))
    asked.page.queues)
comes_plays header past maps host task what may (step.Unlock key) s new f =
    let asks = f.comes.0 in
    plays_told asks.told
    (same_paging _ _ _ _ (frames_kept f.mid.parts.resident new.parts.resident key.object.0 key.page.0 _ asks.page.row (sym (ap frame_here asks.page.found)))
    asks.page.queues)
comes_plays header past maps host task what may (step.WaitReady object) s new f = plays_none header past _ _ _ _ f.comes.1.told (ap paging_in f.comes.1.parts)
comes_plays header past maps host task what may (step.WaitAnswer key) s new f = plays_none header past _ _ _ _ f.comes.1.told (ap paging_in f.comes.1.parts)
comes_plays header past maps host task what may (step.NeedFrame source) s new f = plays_none header past _ _ _ _ f.comes.2.told (ap paging_in f.comes.2.parts)

-- an access was run once
plays_once : {maps : Mapped} {host : HostId} {task : TaskId} {what : Want} {may : Bool} {answer : FaultStep} {s new : FaultState}
    → (header : Header) (past : List Event) → Faulted maps host task what may answer s new
    → Plays header past s.events (paging_in s.parts) new.events (paging_in new.parts)
plays_once {maps} {host} {task} {what} {may} {answer} {s} {new} header past f =
    plays_both (prepares_plays header past _ _ _ s f.mid f.prepares) (comes_plays header past maps host task what may answer s new f)

-- an access was run, a slow copy page by page
pub plays_attempt : {maps : Mapped} {host : HostId} {task : TaskId} {may : Bool} {answer : FaultStep} {what last : Want} {s new : FaultState}
    → (header : Header) (past : List Event) → Runs maps host task may answer what last s new
    → Plays header past s.events (paging_in s.parts) new.events (paging_in new.parts)
plays_attempt header past (Stops what old new faulted over) = plays_once header past faulted
plays_attempt header past (GoesOn what last value old mid new faulted more rest) = plays_both (plays_once header past faulted) (plays_attempt header past rest)

-- a victim that was looked for twice is the same

front_cons : (test : Bool) (x : Page) (xs ys : List Page) → x.referenced ≡ test → front_referenced_of (from_unreferenced xs ++ map cleared ys) ≡ false
    → front_referenced_of (from_unreferenced (x ∷ xs) ++ map cleared ys) ≡ false
front_cons true x xs ys is rest =
    subst (λ (b : Bool). front_referenced_of ((if b then from_unreferenced xs else x ∷ xs) ++ map cleared ys) ≡ false) (sym is) rest
front_cons false x xs ys is rest =
    subst (λ (b : Bool). front_referenced_of ((if b then from_unreferenced xs else x ∷ xs) ++ map cleared ys) ≡ false) (sym is) is

front_plain : (xs ys : List Page) → front_referenced_of (from_unreferenced xs ++ map cleared ys) ≡ false
front_plain [] [] = refl
front_plain [] (y ∷ ys) = refl
front_plain (x ∷ xs) ys = front_cons x.referenced x xs ys refl (front_plain xs ys)

pub searched_twice : (q : Queues) → queues_after_search (queues_after_search q) ≡ queues_after_search q
searched_twice q =
    let b = balanced q in
    let x : Queues = record b { active = b.active ++ map cleared (referenced_front b.inactive); inactive = from_unreferenced b.inactive } in
    let none : needs_none (queues_after_search q) = none_needed x in
    ap spared (balanced_done (queues_after_search q) none) ∙ spared_done (queues_after_search q) (front_plain b.inactive (take (shortage x) x.active)) none

-- a victim was looked for, and each page on the lists is spared
pub plays_looked : (header : Header) (h : ℕ) (by : Sparing) (past events : List Event) (skip : List FrameNo) (k : Parts) (lists : Queues) → Reclaims by
    → AreSpared header h by (events ++ past) (paging k).frame_at skip → AllSkipped skip k.memory.queues
    → lists ≡ queues_after_search k.memory.queues → PlaysBy header by past events (paging k) events
    (paging (record k { memory = record k.memory { queues = lists } }))
plays_looked header h by past events skip k lists may sources all is =
    Looks h events (paging k) _ Still (record {
      may = may;
      skip = skip;
      spared = sources;
      all = all;
      is = ap (λ (z : Queues). record (paging k) { queues = z }) is;
    })

-- nothing stands in front but what a return needs
uncreated_same : (past : List Event) → owed past ≡ None → uncreated past ≡ past
uncreated_same (event.Sent (Up host object) (message.Create control size) ∷ past) none = absurd (let bad : Some (ReturnOn (Up host object)) ≡ None = none in cc)
uncreated_same past none = refl

-- a page is dropped whose object is in no chain
pub plays_dropped : (header : Header) (past before after : List Event) (host : HostId) (key : PageKey) (old new : Paging)
    → (Reach header host.0 key.object.0 (before ++ past) → ⊥) → Departs key.object.0 key.page.0 old.queues old new
    → after ≡ event.Dropped host key.object key.page ∷ before → Plays header past before old after new
plays_dropped header past before after host key old new none departs told = plays_told told (AsUnreached none departs)

-- the victim has gone; the lists may have been searched before
victim_of : (header : Header) (host : ℕ) (by : Sparing) (past : List Event) (skip : List FrameNo) (key : PageKey) (row : PageRow) (held : Bool) (bytes : List ℕ)
    (k k2 : Parts) (mid : Queues) → queues_after_search mid ≡ queues_after_search k.memory.queues
    → Reclaims by → AreSpared header host by past (paging k).frame_at skip → IsChosen skip row mid
    → Changes key row.frame (Some row) None held bytes (queues_except row.frame.0 (queues_after_search mid)) (looked (record k.memory { queues = mid }))
    k2.memory
    → IsVictim header host by past key.object.0 key.page.0 (paging k) (paging k2)
victim_of header host by past skip key row held bytes k k2 mid same may sources victim page =
    let o = key.object.0 in
    let p = key.page.0 in
    let here = here_is (row_at k.memory.resident o p) row row.frame page.found victim.here refl in
    record {
      may = may;
      skip = skip;
      spared = sources;
      victim = ap (victim_frame skip) (sym same) ∙ victim.victim ∙ sym here;
      departs =
          record {
            frame = row.frame;
            here = here;
            is =
                same_paging _ _ _ _ (frames_put k.memory.resident k2.memory.resident o p None None page.row refl)
                (page.queues ∙ ap (queues_except row.frame.0) same);
          };
    }

-- a page was reclaimed, where one is on a list that isn't skipped; the lists may have been searched before
pub reclaim_plays_from : (header : Header) (h : ℕ) (by : Sparing) (past : List Event) (ids : Ids) (skip : List FrameNo) (answer : Reclaim) (k k2 : Parts)
    (mid : Queues) (before after : List Event) → Rests header h k ids (before ++ past) → Reclaims by
    → AreSpared header h by (before ++ past) (paging k).frame_at skip
    → queues_after_search mid ≡ queues_after_search k.memory.queues → (f : ℕ) → is_queued mid f ≡ true → is_skipped skip f ≡ false
    → ReclaimEffects answer k.host skip (record k.memory { queues = mid }) k2.memory k.laundry k2.laundry before after
    → PlaysBy header by past before (paging k) after (paging k2)
reclaim_plays_from header h by past ids skip reclaim.Freed k k2 mid before after rests may sources same f queued unskipped is =
    subst (λ (z : List Event). PlaysBy header by past before (paging k) z (paging k2)) (sym is.events)
    (Then _ before (paging k) (paging k2) Still (AsVictim (victim_of header k.host.0 by (before ++ past) skip is.key is.row _ _ k k2 mid same may
    (subst (λ (z : ℕ). AreSpared header z by (before ++ past) (paging k).frame_at skip) (sym rests.matches.core.setting.numbered) sources) is.victim is.page)))
reclaim_plays_from header h by past ids skip reclaim.Returned k k2 mid before after rests may sources same f queued unskipped is =
    subst (λ (z : List Event). PlaysBy header by past before (paging k) z (paging k2)) (sym is.events)
    (Then goes (told_from is.object.state creation before) (paging k) (paging k2) (made is.object.state)
    (inl (subst (λ (z : List Event). IsVictim header k.host.0 by z is.key.object.0 is.key.page.0 (paging k) (paging k2)) (sym (bare is.object.state))
    victim)))
  where
    victim : IsVictim header k.host.0 by (before ++ past) is.key.object.0 is.key.page.0 (paging k) (paging k2)
    victim =
        victim_of header k.host.0 by (before ++ past) skip is.key is.row _ _ k k2 mid same may
        (subst (λ (z : ℕ). AreSpared header z by (before ++ past) (paging k).frame_at skip) (sym rests.matches.core.setting.numbered) sources) is.victim is.page

    goes : Event
    goes = sends k.host is.key (message.Return (controlled is.object).control is.key.page is.row.dirty false (page_in k.memory.frames is.row.frame.0))

    creation : Event
    creation = sends k.host is.key (message.Create (controlled is.object).control k.memory.buffers.size)

    made : (pager : PagerState) → PlaysBy header by past before (paging k) (told_from pager creation before) (paging k)
    made state.Without = Then creation before (paging k) (paging k) Still refl
    made state.Sent = Still
    made state.Ready = Still

    bare : (pager : PagerState) → uncreated (told_from pager creation before ++ past) ≡ before ++ past
    bare state.Without = refl
    bare state.Sent = uncreated_same (before ++ past) rests.matches.settled.none_owed
    bare state.Ready = uncreated_same (before ++ past) rests.matches.settled.none_owed
reclaim_plays_from header h by past ids skip reclaim.Nothing k k2 mid before after rests may sources same f queued unskipped is =
    absurd (let bad : true ≡ false = sym (is.skipped f queued) ∙ unskipped in cc)

-- and where they were
pub reclaim_plays : (header : Header) (h : ℕ) (by : Sparing) (past : List Event) (ids : Ids) (skip : List FrameNo) (answer : Reclaim) (k k2 : Parts)
    (before after : List Event) → Rests header h k ids (before ++ past) → Reclaims by → AreSpared header h by (before ++ past) (paging k).frame_at skip
    → KeepsPages k.memory.queues (queues_after_search k.memory.queues) → (f : ℕ) → is_queued k.memory.queues f ≡ true → is_skipped skip f ≡ false
    → ReclaimEffects answer k.host skip (record k.memory { queues = queues_after_search k.memory.queues }) k2.memory k.laundry k2.laundry before after
    → PlaysBy header by past before (paging k) after (paging k2)
reclaim_plays header h by past ids skip answer k k2 before after rests may sources keeps f queued unskipped is =
    reclaim_plays_from header h by past ids skip answer k k2 (queues_after_search k.memory.queues) before after rests may sources
    (searched_twice k.memory.queues) f (keeps f ∙ queued) unskipped is
