-- An object that its pager ends: its pages that are here go, one after another, while its control lives still.
use Rattle.vm_kernel.proofs.memory.PagesShown.{KeepsOthers, pages_moved, row_elsewhere}
use Rattle.vm_kernel.proofs.Common.{AllReferred, Bool, Command, Discards, Drops, Elsewhere, Event, HasOrder, HasPages, HasWaits, Header, HostParts, Ids}
use Rattle.vm_kernel.proofs.Common.{IsSettled, LegalEvents, List, Local, None, ObjectId, Option, Outside, PageKey, PageRow, Parts, Rests, Some, UsesAll, []}
use Rattle.vm_kernel.proofs.Common.{absent_at, ap, arith, away, eqb_tells, false, frames_held, host_id, if◌then◌else◌, inl, inr, is_control, live_control}
use Rattle.vm_kernel.proofs.Common.{live_in, local, local_after, local_of_row, nat_lt, nat_tests, not, object_at, page_on, paging, place_of, refl, row_at}
use Rattle.vm_kernel.proofs.Common.{row_put, subst, suc, sym, true, ℕ, ◌&&◌, ◌++◌, ◌<◌, ◌==◌, ◌||◌, ◌∙◌, ◌∷◌, ◌≡◌, ◌⊎◌}
use Rattle.vm_kernel.proofs.abroad.OwnEvents.{own_named}
use Rattle.vm_kernel.proofs.abroad.OwnHost.{own_host}
use Rattle.vm_kernel.proofs.controls.CopiesAnswered.{copied_gone}
use Rattle.vm_kernel.proofs.lists.ListsAsTold.{frames_put, here_is, plays_told, same_paging}
use Rattle.vm_kernel.proofs.memory.CoreChanges.{core_rerowed}
use Rattle.vm_kernel.proofs.memory.PageChanges.{drops, fit_lost, same_objects}
use Rattle.vm_kernel.proofs.memory.WhatIsKnown.{known_on}
use Rattle.vm_kernel.proofs.space.ObjectsEnd.{Led, changes_beside, led_both, led_none, lost_one, of_state, only_one}
use Rattle.vm_kernel.proofs.steps.EventsGrow.{Follows, goes_one, suffices}
use Rattle.vm_kernel.specs.Matches.{ControlFacts, Core, control_facts, memory_facts, space_facts}
use Rattle.vm_kernel.specs.Plays.{AsDestroyed, Departs}
use Rattle.vm_legal.specs.Destroyed.{IsDestroyed}
use Rattle.vm_legal.specs.Frames.{asked_pages}
use Rattle.vm_legal.specs.Outside.{is_wild}
use Rattle.vm_legal.specs.Licences.{Discarded}
use Rattle.vm_legal.specs.Steps.{drops_page, since}
use Rattle.vm_model.specs.declared.event.Event.TheVariants as event
use Rattle.vm_model.specs.declared.message.Channel.TheVariants.{Down}
use Rattle.vm_model.specs.declared.message.Message.TheVariants as message
use Rattle.vm_parts.specs.Changes.{is_here}
use Rattle.vm_state.proofs.Bypassing.{waits_quiet, waits_taken}
use Rattle.vm_state.proofs.Filling.{away_put, used_away}
use Rattle.vm_state.proofs.Passing.{quiet_if}
use Rattle.vm_state.proofs.Referred.{referred_gone}
use Rattle.vm_state.specs.Places.{known_local}
use Rattle.vm_supply.specs.declared.woken.Woken.TheVariants as woken
use Rattle.vm_terminate.specs.Destroys.{NextHere, NoneHere, PagesDrop}
use Rattle.vm_terminate.specs.Finishes.{FinishState}

-- the facts of a host's controls, where the end that the step took isn't asked for yet
abbrev pub alive_facts : ℕ → List Event → ControlFacts
alive_facts h past = record (control_facts h past) { destroyed = λ o. false }

-- The kernel while an object goes that its pager ends. Who waits is as at the start, by the tables of then: their reasons may have gone.
pub record Emptying (header : Header) (h o : ℕ) (start k : Parts) (ids : Ids) (past : List Event) : Type 0 where
  pub core : Core header h k ids [] (space_facts header past) (alive_facts h past) (memory_facts header h past)
  pub used : UsesAll header k past
  pub order : HasOrder k past
  pub waits : HasWaits header h start woken.Nobody past
  pub settled : IsSettled past
  pub destroyed : IsDestroyed header h o past
  pub referred : AllReferred k.chains k.memory.objects k.memory.resident

-- the end of an object is taken
abbrev pub destroys : ℕ → ObjectId → ℕ → ℕ → Event
destroys h object control reason = event.Taken (Down (host_id h) object control) (message.Destroy reason)

unmoved : (header : Header) (o p : ℕ) (b : Bool) (was : Local)
    → known_local header o p (local_after header.size (if b then Elsewhere else Elsewhere) was) ≡ known_local header o p was
unmoved header o p true was = refl
unmoved header o p false was = refl

pub emptying_taken : {header : Header} {h : ℕ} {k : Parts} {ids : Ids} {past : List Event} (object : ObjectId) (control reason : ℕ)
    → Rests header h k ids past → is_wild header object.0 ≡ true → is_control control (live_in (object_at k.memory.objects object.0)) ≡ true
    → Emptying header h object.0 k k ids (destroys h object control reason ∷ past)
emptying_taken {header = header} {h = h} {k = k} {past = past} object control reason rests wild live =
    let was = rests.matches.core in
    record {
      core = record {
        setting = was.setting;
        calm = λ o bad. absurd (let no : false ≡ true = bad in cc);
        fits = was.fits;
        spaces = was.spaces;
        objects = was.objects;
        copied = was.copied;
        controls = was.controls;
        flags = was.flags;
        pages = record {
          shown = record {
            shown = λ o p. unmoved header o p (h == h && (object.0 == o && is_control control (live_control h o past))) (local header h (place_of o p) past)
                ∙ was.pages.shown.shown o p;
          };
          washed = was.pages.washed;
          counted = was.pages.counted;
        };
      };
      used = rests.used;
      order = rests.order;
      waits = waits_taken header h (host_id h) object control (message.Destroy reason) past rests.waits;
      settled = record { none_owed = refl; shut = λ region. refl };
      destroyed = record {
        wild = wild;
        taken = ap (λ (b : Bool). if b then Some (record { host = h; object = object.0 }) else None)
            (ap (is_control control) (was.controls.live object.0) ∙ live);
      };
      referred = rests.referred;
    }

-- a page is here as its row says
pub here_shown : {header : Header} {h : ℕ} {k : Parts} {ids : Ids} {c : ControlFacts} (past : List Event) (o q : ℕ)
    → Core header h k ids [] (space_facts header past) c (memory_facts header h past)
    → (page_on header h o q past).here ≡ is_here (row_at k.memory.resident o q)
here_shown {k = k} past o q core = ap (λ (z : Local). z.here) (core.pages.shown.shown o q) ∙ by (row_at k.memory.resident o q)
  where
    by : (x : Option PageRow) → (local_of_row k.memory.frames x (absent_at k.memory.objects o q)).here ≡ is_here x
    by None = refl
    by (Some r) = refl

-- a page of it goes

module _ {header : Header} {h : ℕ} {start k : Parts} {ids : Ids} {row : PageRow} {memory : HostParts} {past : List Event} (key : PageKey)
    (e : Emptying header h key.object.0 start k ids past) (here : row.here ≡ true)
    (first : (q : ℕ) → q < key.page.0 → is_here (row_at k.memory.resident key.object.0 q) ≡ false) (c : Discards key row k.memory memory)
    (objects : memory.objects ≡ k.memory.objects) (buffers : memory.buffers ≡ k.memory.buffers) where
  abbrev o : ℕ
  o = key.object.0

  abbrev p : ℕ
  p = key.page.0

  is_shown : (page_on header h o p past).here ≡ true
  is_shown = here_shown past o p e.core ∙ (ap is_here c.found ∙ here)

  shown : HasPages memory.frames memory.resident k.memory.objects (λ x q. known_local header x q (local header h (place_of x q) (drops h key ∷ past)))
  shown =
      let known = known_on header header.size key Drops (λ x q. local header h (place_of x q) past) tt
      (pages_moved header.size Drops key row.frame _ _ _ _ _ k.memory memory k.memory.objects
      (λ x q. known_local header x q (local header h (place_of x q) past)) e.core.fits.parts e.core.pages.shown c
      (ap (λ z. record away { asked = not z; absent = absent_at k.memory.objects o p }) here) (λ x q apart. refl)) in
      record { shown = λ x q. rw (own_host h) (known.shown x q) }

  abbrev new : Parts
  new = record k { memory = memory }

  core_after : Core header h new ids [] (space_facts header (drops h key ∷ past)) (alive_facts h (drops h key ∷ past))
      (memory_facts header h (drops h key ∷ past))
  core_after =
      core_rerowed {seen = λ x q. known_local header x q (local header h (place_of x q) (drops h key ∷ past))}
      {held_now = frames_held header h (drops h key ∷ past)} key row.frame e.core c
      (record { fit = fit_lost e.core.fits.parts c (same_objects objects) buffers; objects = objects; buffers = buffers }) tt shown
      (rw (own_host h) (λ held. let less = c.claims in omega arith)) (copied_gone e.core.copied o p (same_objects objects) c.row)

  pub emptying_dropped : Emptying header h o start new ids (drops h key ∷ past)
  emptying_dropped = record {
    core = core_after;
    used = used_away k.memory.resident memory.resident e.used (away_put o p None row k.memory.resident memory.resident c.found c.row);
    order = e.order;
    waits = waits_quiet header h (drops h key) past (λ place. quiet_if (h == h && (o == place.object.0 && p == place.page.0)) Drops Elsewhere tt tt) e.waits;
    settled = record { none_owed = refl; shut = λ region. refl };
    destroyed = record { wild = e.destroyed.wild; taken = e.destroyed.taken };
    referred = rw objects (referred_gone o p k.chains k.memory.objects k.memory.resident memory.resident c.row e.referred);
  }

  pub dropped_follows : (outside : Outside) (doing : Command) → Follows header h outside doing (drops h key) past
  dropped_follows outside doing = record {
    consequence = tt;
    cause = (record { here = is_shown; why = Discarded e.destroyed (λ q low. here_shown past o q e.core ∙ first q low) }, tt);
    own_bytes = tt;
    frames = suffices header h memory.frames (drops h key ∷ past) core_after.pages.counted;
    inner = tt;
    said = tt;
    own = own_named h;
    creates = tt;
  }

  pub dropped_departs : Departs o p k.memory.queues (paging k) (paging new)
  dropped_departs = record {
    frame = row.frame;
    here = here_is (row_at k.memory.resident o p) row row.frame c.found here refl;
    is = same_paging _ _ _ _ (frames_put k.memory.resident memory.resident o p None None c.row refl) c.queues;
  }

-- its pages that are here go

-- what has become of the pages of the object, which are here no more, and of nothing else
pub record AreDropped (header : Header) (h : ℕ) (outside : Outside) (doing : Command) (past : List Event) (start : Parts) (ids : Ids) (object : ObjectId)
    (old new : FinishState) : Type 0 where
  pub now : Emptying header h object.0 start (of_state start new) ids (new.events ++ past)
  pub led : Led header h outside doing past start old new
  pub objects : new.parts.objects ≡ old.parts.objects
  pub rest : new ≡ record old { parts = new.parts; events = new.events }
  pub none : (p : ℕ) → is_here (row_at new.parts.resident object.0 p) ≡ false
  pub others : KeepsOthers object.0 old.parts.resident new.parts.resident
  pub away : (p : ℕ) → is_here (row_at old.parts.resident object.0 p) ≡ false → row_at new.parts.resident object.0 p ≡ row_at old.parts.resident object.0 p
  pub told : (p : ℕ) → (is_here (row_at old.parts.resident object.0 p) ≡ true) ⊎ (since (drops_page h object.0 p) (old.events ++ past) ≡ true)
      → since (drops_page h object.0 p) (new.events ++ past) ≡ true
  pub asked : asked_pages header h object.0 (new.events ++ past) ≡ asked_pages header h object.0 (old.events ++ past)

since_dropped : (h : ℕ) (object : ObjectId) (p : ℕ) (past : List Event) → since (drops_page h object.0 p) past ≡ true
    → (b : Bool) → (b || since (drops_page h object.0 p) past) ≡ true
since_dropped h object p past is true = refl
since_dropped h object p past is false = is

pub pages_drop : (header : Header) (h : ℕ) (outside : Outside) (doing : Command) (past : List Event) (start : Parts) (ids : Ids) (object : ObjectId)
    (from : ℕ) (old new : FinishState) → Emptying header h object.0 start (of_state start old) ids (old.events ++ past)
    → ((q : ℕ) → q < from → is_here (row_at old.parts.resident object.0 q) ≡ false) → PagesDrop (host_id h) object from old new
    → AreDropped header h outside doing past start ids object old new
pages_drop header h outside doing past start ids object _ _ _ e low (NoneHere from s none) =
    record {
      now = e;
      led = led_none header h outside doing past start s;
      objects = refl;
      rest = refl;
      none = all;
      others = λ o p apart. refl;
      away = λ p gone. refl;
      told = λ p why. elim why [ inl here ↦ absurd (let bad : false ≡ true = sym (all p) ∙ here in cc) | inr done ↦ done ];
      asked = refl;
    }
  where
    by_test : (p : ℕ) (b : Bool) → nat_lt p from ≡ b → is_here (row_at s.parts.resident object.0 p) ≡ false
    by_test p true less = low p (grind (arith, nat_tests))
    by_test p false less = none p (grind (arith, nat_tests))

    all : (p : ℕ) → is_here (row_at s.parts.resident object.0 p) ≡ false
    all p = by_test p (nat_lt p from) refl
pages_drop header h outside doing past start ids object _ _ _ e low (NextHere from page row old mid new le none found dropped more) =
    whole (pages_drop header h outside doing past start ids object (suc page.0) mid new now next more)
  where
    key : PageKey
    key = record { object = object; page = page }

    base : Parts
    base = of_state start old

    memory : HostParts
    memory = record (mid.parts) { buffers = start.memory.buffers }

    c : Discards key row base.memory memory
    c = changes_beside old.parts mid.parts start dropped.page

    first : (q : ℕ) → q < page.0 → is_here (row_at old.parts.resident object.0 q) ≡ false
    first q below = by (nat_lt q from) refl
      where
        by : (b : Bool) → nat_lt q from ≡ b → is_here (row_at old.parts.resident object.0 q) ≡ false
        by true is = low q (grind (arith, nat_tests))
        by false is = none q (grind (arith, nat_tests)) below

    was_here : is_here (row_at old.parts.resident object.0 page.0) ≡ true
    was_here = ap is_here found ∙ dropped.here

    same : of_state start mid ≡ record base { memory = memory }
    same = ap (of_state start) dropped.rest.is

    now : Emptying header h object.0 start (of_state start mid) ids (mid.events ++ past)
    now = subst (λ (z : List Event). Emptying header h object.0 start (of_state start mid) ids (z ++ past)) (sym dropped.events)
        (subst (λ (z : Parts). Emptying header h object.0 start z ids (drops h key ∷ (old.events ++ past))) (sym same)
        (emptying_dropped key e dropped.here first c dropped.rest.objects refl))

    led : Led header h outside doing past start old mid
    led = record {
      goes = subst (λ (z : List Event). LegalEvents header h outside doing past old.events z) (sym dropped.events)
          (goes_one header h outside doing past old.events (drops h key) e.settled
          (dropped_follows key e dropped.here first c dropped.rest.objects refl outside doing));
      plays = plays_told dropped.events (AsDestroyed (record {
        destroyed = e.destroyed;
        departs = dropped_departs key e dropped.here first c dropped.rest.objects refl;
      }));
      only = only_one _ old.events mid.events dropped.events tt;
      pages = lost_one object.0 page.0 old.parts.resident mid.parts.resident dropped.page.row;
    }

    next : (q : ℕ) → q < suc page.0 → is_here (row_at mid.parts.resident object.0 q) ≡ false
    next q below = elim (eqb_tells q page.0) [
      | inl same ↦ subst (λ (z : ℕ). is_here (row_at mid.parts.resident object.0 z) ≡ false) (sym same.1)
          (ap is_here (row_put old.parts.resident mid.parts.resident object.0 page.0 None dropped.page.row))
      | inr apart ↦ ap is_here (row_elsewhere dropped.page.row object.0 q (λ one two. apart.1 (sym two))) ∙ first q (let other = apart.1 in grind arith)
    ]

    since_mid : (p : ℕ) → (page.0 ≡ p) ⊎ (since (drops_page h object.0 p) (old.events ++ past) ≡ true)
        → since (drops_page h object.0 p) (mid.events ++ past) ≡ true
    since_mid p (inl this) = ap (λ z. since (drops_page h object.0 p) (z ++ past)) dropped.events
        ∙ rw (own_host h, own_host object.0) (subst (λ (z : ℕ). (page.0 == z || since (drops_page h object.0 z) (old.events ++ past)) ≡ true) this
        (rw (own_host page.0) refl))
    since_mid p (inr done) = ap (λ z. since (drops_page h object.0 p) (z ++ past)) dropped.events
        ∙ since_dropped h object p (old.events ++ past) done (h == h && (object.0 == object.0 && page.0 == p))

    told : AreDropped header h outside doing past start ids object mid new → (p : ℕ)
        → (is_here (row_at old.parts.resident object.0 p) ≡ true) ⊎ (since (drops_page h object.0 p) (old.events ++ past) ≡ true)
        → since (drops_page h object.0 p) (new.events ++ past) ≡ true
    told rest p (inr done) = rest.told p (inr (since_mid p (inr done)))
    told rest p (inl here) = elim (eqb_tells page.0 p) [
      | inl this ↦ rest.told p (inr (since_mid p (inl this.1)))
      | inr apart ↦ rest.told p (inl (ap is_here (row_elsewhere dropped.page.row object.0 p (λ one two. apart.1 two)) ∙ here))
    ]

    whole : AreDropped header h outside doing past start ids object mid new → AreDropped header h outside doing past start ids object old new
    whole rest =
        record {
          now = rest.now;
          led = led_both header h outside doing past start old mid new led rest.led;
          objects = rest.objects ∙ dropped.rest.objects;
          rest = rest.rest ∙ ap (λ (z : FinishState). record z { parts = new.parts; events = new.events }) dropped.rest.is;
          none = rest.none;
          others = λ o p apart. rest.others o p apart ∙ row_elsewhere dropped.page.row o p (λ same also. apart same);
          away = λ p gone.
              let same : row_at mid.parts.resident object.0 p ≡ row_at old.parts.resident object.0 p = row_elsewhere dropped.page.row object.0 p (λ same also.
              let bad : true ≡ false = sym (subst (λ (z : ℕ). is_here (row_at old.parts.resident object.0 z) ≡ true) also was_here) ∙ gone in absurd (cc)) in
              rest.away p (ap is_here same ∙ gone) ∙ same;
          told = told rest;
          asked = rest.asked ∙ ap (λ z. asked_pages header h object.0 (z ++ past)) dropped.events;
        }
