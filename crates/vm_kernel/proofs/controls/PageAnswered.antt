-- A page that is asked is answered: its bytes come, or it is asked no more, or zeros come where the pager of a declared object has none.
use Rattle.vm_state.proofs.KnownPages.{sizes_same}
use Rattle.vm_model.specs.Regions.{is_copy, object_pages as pages_made}
use Rattle.vm_kernel.proofs.controls.CopiesAnswered.{copied_came, copied_gone, may_come}
use Rattle.vm_legal.specs.Pushes.{is_pushed}
use Rattle.vm_kernel.proofs.Common.{Access, Bool, Cancels, ChainTable, Changes, Command, Elsewhere, EndsNobody, Event, FailsNow, FailsPage, FillsPage}
use Rattle.vm_kernel.proofs.Common.{FrameTable, HasAsker, HasFrames, HasKinds, HasPages, HasWaiters, Header, HostId, HostParts, Ids, IsAnswered, IsPagerTold}
use Rattle.vm_kernel.proofs.Common.{Lacks, List, Local, LocalEffect, Mapped, Message, None, ObjectId, ObjectTable, On, Option, Outside, PageNo, PageRow, Parts}
use Rattle.vm_kernel.proofs.Common.{PutsRow, ResidentTable, Rests, SameMarks, SameObjects, Some, Supplies, TakesError, TakesNothing, TakesPage, Waiting, Want}
use Rattle.vm_kernel.proofs.Common.{Woken, Zeroes, [], absent_at, added, ap, arith, asked_is, asked_row, away, backing_of, clean_row, count_released, eqb_tells}
use Rattle.vm_kernel.proofs.Common.{false, frames_held, frames_wired, home_of, host_id, if◌then◌else◌, inl, inr, is_control, is_ready, is_woken, key_of}
use Rattle.vm_kernel.proofs.Common.{last_control, live_control, local, local_after, local_of_row, lock_numbered, marks_of, named, nat_lt, nat_tests}
use Rattle.vm_kernel.proofs.Common.{next_object, next_region, not, object_at, page_in, page_key, place_of, ready_in, refl, region_of, replicate, returns_out}
use Rattle.vm_kernel.proofs.Common.{reverse, row_at, row_cases, slice_get, subst, sym, true, unlocked, waiting, ℕ, ◌&&◌, ◌+◌, ◌-◌, ◌<◌, ◌==◌, ◌∙◌, ◌∷◌, ◌≡◌}
use Rattle.vm_kernel.proofs.Common.{◌≤◌}
use Rattle.vm_model.specs.declared.message.Message.TheVariants as message
use Rattle.vm_supply.specs.declared.woken.Woken.TheVariants as woken
use Rattle.vm_waits.specs.declared.waiting.On.TheVariants as on
use Rattle.vm_kernel.proofs.controls.AnswerEffects.{IsLeft, asked_shows, hears, left_failed, left_lacked, lives, on_page}
use Rattle.vm_kernel.proofs.memory.PartsStillFit.{plain_changed}
use Rattle.vm_kernel.proofs.memory.PagesShown.{bytes_now, effect_on, frames_changed, laundry_changed, pages_changed, pages_moved}
use Rattle.vm_kernel.proofs.abroad.OwnHost.{own_host}
use Rattle.vm_state.proofs.Referred.{referred_gone, referred_row}
use Rattle.vm_kernel.proofs.space.StillThin.{thin_same}
use Rattle.std.proofs.lemmas.Bool.{and_from}
use Rattle.vm_kernel.proofs.steps.EventsGrow.{Follows, suffices}
use Rattle.vm_kernel.proofs.memory.WhatIsKnown.{known_at, known_on, nothing_known}
use Rattle.vm_kernel.proofs.abroad.OwnEvents.{own_named}
use Rattle.vm_kernel.proofs.controls.FlagsKept.{flags_same}
use Rattle.vm_legal.specs.Licences.{Fills}
use Rattle.vm_parts.specs.Locks.{lock_numbered, lock_of-prohibits}
use Rattle.vm_state.proofs.Waiting.{IsAwaitedBy, IsUnawaited, awaited_apart, awaited_elsewhere, away_awaited, here_unawaited, none_unawaited}
use Rattle.vm_state.specs.Waiters.{is_awaited}
use Rattle.vm_model.specs.declared.event.Event.TheVariants as event
use Rattle.vm_state.proofs.Declared.{kinds_marked, kinds_same}
use Rattle.vm_state.proofs.Files.{files_same}
use Rattle.vm_state.specs.Places.{known_local}
use Rattle.vm_supply.specs.Answers as supply
use Rattle.vm_state.proofs.Filling.{away_put}
use Rattle.vm_state.specs.Passed.{IsUnmet, StaysAway}
use Rattle.vm_kernel.proofs.memory.PlacesPassed.{quiet_place, waits_come}
use Rattle.vm_state.proofs.Bypassing.{waits_taken}
use Rattle.vm_state.proofs.Passing.{same_of}
use Rattle.vm_kernel.proofs.controls.WordTaken.{Changed, controls_of, live_is, pages_eq, referred_of, regions_of, told_of, told_unready, waits_heard, zeros}
use Rattle.vm_copies.specs.Copies.{CopyTable}
use Rattle.vm_base.specs.declared.ids.PageKey.{PageKey}
use Rattle.vm_state.proofs.Pushing.{asked_same}
use Rattle.vm_state.specs.Waiters.{IsAsked}

-- zeros come to a page of a declared object, whose pager is ready
waits_blank : {copies : CopyTable} {maps : Mapped} {rs : ResidentTable} {rows : List Waiting} {who : On → Bool} {at : ℕ → Option Access} (header : Header)
    (h : ℕ)
    (chains : ChainTable) (os : ObjectTable) (past : List Event) (object : ObjectId) (page : PageNo) → object.0 < named header → (IsPagerTold os object.0 → ⊥)
    → HasWaiters maps chains copies rs os rows who at (StaysAway header h past) (IsUnmet header h past)
    → HasWaiters maps chains copies rs os rows who at (StaysAway header h (event.Zeroed (host_id h) object page ∷ past))
    (IsUnmet header h (event.Zeroed (host_id h) object page ∷ past))
waits_blank header h chains os past object page declared ready has =
    waits_come header h (event.Zeroed (host_id h) object page) past (key_of object page)
    (λ key apart. quiet_place (h == h) (object.0 == key.object.0) (page.0 == key.page.0) Zeroes
    (λ o p. apart (same_of object.0 key.object.0 o) (same_of page.0 key.page.0 p)))
    (λ t what why reason to stop n place leads only. let least = leads.0.0 in omega (arith, least, declared))
    (λ t what other told its place vacant none. ready (subst (λ (z : ObjectId). IsPagerTold os z.0) (sym its) told))
    (λ past2 only. only) has

-- a page that is asked

same_marks : (os os2 : ObjectTable) → os2 ≡ os → SameMarks os os2
same_marks os os2 same = record { at = λ o p. ap (λ z. absent_at z o p) same }

asks_now : (header : Header) (h : ℕ) (k : Parts) (past : List Event) (o p : ℕ) (was : PageRow)
    → HasPages k.memory.frames k.memory.resident k.memory.objects (λ o2 p2. known_local header o2 p2 (local header h (place_of o2 p2) past))
    → row_at k.memory.resident o p ≡ Some was → was.here ≡ false → (local header h (place_of o p) past).asked ≡ true
asks_now header h k past o p was has found away_now =
    ap (λ z. z.asked) (has.shown o p) ∙ (ap (λ z. (local_of_row k.memory.frames z (absent_at k.memory.objects o p)).asked) found ∙ ap not away_now)

-- the page is another

apart_of : (a b c d : ℕ) → (a == c && b == d) ≡ false → c ≡ a → d ≡ b → ⊥
apart_of a b c d apart same also = elim (eqb_tells a c) [
  | inl one ↦ elim (eqb_tells b d) [
    | inl two ↦ let bad : true ≡ false = rw (one.0, two.0) at apart in cc
    | inr other ↦ other.1 (sym also)
  ]
  | inr other ↦ other.1 (sym same)
]

test_of : (a b c d : ℕ) → (c ≡ a → d ≡ b → ⊥) → (a == c && b == d) ≡ false
test_of a b c d apart = elim (eqb_tells a c) [
  | inl one ↦ elim (eqb_tells b d) [
    | inl two ↦ absurd (apart (sym one.1) (sym two.1))
    | inr other ↦ rw (one.0, other.0) refl
  ]
  | inr other ↦ rw other.0 refl
]

awaited_other : (rs rs2 : ResidentTable) (what : Want) (o p o2 p2 : ℕ) (x : Option PageRow) → PutsRow o p x rs rs2 → (o2 == o && p2 == p) ≡ false
    → IsAwaitedBy rs what o2 p2 → IsAwaitedBy rs2 what o2 p2
awaited_other rs rs2 what o p o2 p2 x put apart awaits = elim (row_cases o p x rs rs2 put o2 p2) [
  | inl now ↦ absurd (apart_of o2 p2 o p apart now.object now.page)
  | inr other ↦ awaited_elsewhere o p x rs rs2 what o2 p2 other.is awaits
]

asked_other : (rs rs2 : ResidentTable) (o p o2 p2 : ℕ) (x : Option PageRow) → PutsRow o p x rs rs2 → (o2 == o && p2 == p) ≡ false → IsAsked rs o2 p2
    → IsAsked rs2 o2 p2
asked_other rs rs2 o p o2 p2 x put apart asked = elim (row_cases o p x rs rs2 put o2 p2) [
  | inl now ↦ absurd (apart_of o2 p2 o p apart now.object now.page)
  | inr other ↦ asked_same rs rs2 o2 p2 other.is asked
]

-- whoever is to push into the place of a page is woken with those who wait for it
push_woken : (who : Woken) (key : PageKey) → is_woken who (on.Push key) ≡ is_woken who (on.Page key)
push_woken woken.Nobody key = refl
push_woken (woken.ReadyOf object) key = refl
push_woken (woken.Page other) key = refl
push_woken (woken.Fails other) key = refl

here_elsewhere : (rs rs2 : ResidentTable) (o p o2 p2 : ℕ) (x : Option PageRow) (r : PageRow) → PutsRow o p x rs rs2 → IsUnawaited x → row_at rs2 o2 p2 ≡ Some r
    → is_awaited r ≡ true
    → (row_at rs o2 p2 ≡ Some r) × ((o2 == o && p2 == p) ≡ false)
here_elsewhere rs rs2 o p o2 p2 x r put none is awaits = elim (row_cases o p x rs rs2 put o2 p2) [
  | inl now ↦ awaited_apart x r none (sym now.is ∙ is) awaits
  | inr other ↦ (sym other.is ∙ is, test_of o2 p2 o p other.apart)
]

-- what holds of who waits, where the row of a page that is asked is another
record Waits (header : Header) (h : ℕ) (k : Parts) (who : Woken) (new : HostParts) (past : List Event) : Type 0 where
  waits : HasWaiters k.maps k.chains k.copies new.resident new.objects k.waits.rows (is_woken who) (λ t. waiting t past) (StaysAway header h past)
      (IsUnmet header h past)
  answered : IsAnswered who new.resident

waits_page : (header : Header) (h : ℕ) (k : Parts) (ids : Ids) (past : List Event) (o p : ℕ) (x : Option PageRow) (who : Woken) (new : HostParts)
    → Rests header h k ids past
    → ((o2 p2 : ℕ) → is_woken who (on.Page (page_key o2 p2)) ≡ (o2 == o && p2 == p)) → PutsRow o p x k.memory.resident new.resident → IsUnawaited x
    → SameObjects k.memory.objects new.objects
    → Waits header h k who new past
waits_page header h k ids past o p x who new rests test put here same =
    record {
      waits = waits_heard k.maps k.chains k.memory.resident new.resident k.memory.objects new.objects k.waits.rows who (λ t. waiting t past) rests.waits
          (λ what o2 p2 still awaits. awaited_other k.memory.resident new.resident what o p o2 p2 x put (sym (test o2 p2) ∙ still) awaits)
          (λ o2 p2 still asked. asked_other k.memory.resident new.resident o p o2 p2 x put
          (sym (test o2 p2) ∙ (sym (push_woken who (page_key o2 p2)) ∙ still)) asked)
          (λ other still told. told_of k.memory.objects new.objects other.0 same told)
          (λ o2 p2 row found awaits. (here_elsewhere k.memory.resident new.resident o p o2 p2 x row put here found awaits).0)
          (λ o2 is. ap ready_in (same.at o2) ∙ is);
      answered = record { at = λ o2 p2 row found awaits. test o2 p2 ∙ (here_elsewhere k.memory.resident new.resident o p o2 p2 x row put here found awaits).1 };
    }

pub changed_supplied : (header : Header) (h : ℕ) (k : Parts) (ids : Ids) (events after past : List Event) (object : ObjectId) (control : ℕ) (page : PageNo)
    (lock : ℕ) (precious : Bool) (bytes : List ℕ) (who : Woken) (new : HostParts)
    → Rests header h k ids past → Supplies (key_of object page) lock precious bytes who k.memory new events after → lives h object control past ≡ true
    → lock < 4 → (is_copy object.0 past ≡ true → is_pushed h object.0 page.0 past ≡ true)
    → Changed header h k ids who new past (hears h object control (message.Supply page lock precious bytes) ∷ past)
changed_supplied header h k ids events after past object control page lock precious bytes who new rests supplies lives_now few pushed =
    let was = rests.matches in
    let key = key_of object page in
    let row = supplies.was in
    let asked = asked_is (row_at k.memory.resident object.0 page.0) row supplies.asked in
    let same : SameObjects k.memory.objects new.objects = record { at = λ o. ap (λ z. object_at z o) supplies.objects } in
    let now : PageRow = clean_row row.frame (lock_numbered lock) precious in
    let lacked = absent_at k.memory.objects object.0 page.0 in
    let comes : Changes key row.frame (Some row) (Some now) true bytes (added row.frame.0 k.memory.queues) k.memory new = supplies.page in
    let here : IsUnawaited (Some now) = here_unawaited (Some now) now refl refl refl in
    let waits = waits_page header h k ids past object.0 page.0 (Some now) (woken.Page key) new rests (λ o2 p2. refl) comes.row here same in
    let shows = ap (local_after header.size (TakesPage lock precious bytes)) (asked_shows k.memory.frames row lacked
    (was.core.fits.plain object.0 page.0 row asked.0 asked.1) asked.1)
    ∙ (ap (λ z. record away { here = true; bytes = z; lock = lock; precious = precious; absent = lacked })
    (sym (bytes_now key row.frame _ _ _ _ _ k.memory new comes))
    ∙ ap (λ z. record away { here = true; bytes = page_in new.frames row.frame.0; lock = z; precious = precious; absent = lacked })
    (sym (lock_of-prohibits lock few))) in
    let local_at = λ (o p : ℕ). local header h (place_of o p) past in
    let pages = known_on header header.size key (TakesPage lock precious bytes) local_at tt
    (pages_moved header.size (TakesPage lock precious bytes) key row.frame _ _ _ _ _ k.memory new k.memory.objects
    (λ o p. known_local header o p (local_at o p)) was.core.fits.parts was.core.pages.shown comes shows (λ o p apart. refl)) in
    let moves : (o p : ℕ) → local header h (place_of o p) (hears h object control (message.Supply page lock precious bytes) ∷ past) ≡ effect_on header.size
    key (TakesPage lock precious bytes) (λ o2 p2. local header h (place_of o2 p2) past) o p =
    λ o p. rw (own_host h) (ap (λ z. local_after header.size z (local header h (place_of o p) past))
    (on_page object.0 o (lives h object control past) (is_control control (live_control h o past)) (page.0 == p) (TakesPage lock precious bytes) Elsewhere
    lives_now (λ e. ap (λ z. is_control control (live_control h z past)) (sym e)))) in
    subst (λ (z : Woken). Changed header h k ids z new past (hears h object control (message.Supply page lock precious bytes) ∷ past)) (sym supplies.woken)
    (record {
      away = away_put object.0 page.0 (Some now) row k.memory.resident new.resident comes.found comes.row;
      plain = plain_changed key row.frame _ _ _ _ _ k.memory new was.core.fits.plain comes (λ gone. absurd (let bad : true ≡ false = gone in cc));
      regions =
          regions_of k.chains k.memory.objects new.objects ids (λ r. region_of header r past) (λ o. backing_of header o past) (next_region header past)
          (next_object header past) (marks_of header past) was.core.objects.regions same;
      kinds = kinds_same header k.memory.objects new.objects k.chains same (same_marks k.memory.objects new.objects supplies.objects) was.core.objects.kinds;
      files = files_same header h k.memory.objects new.objects (λ o. home_of o past) same was.core.objects.files;
      sizes = sizes_same (named header) k.memory.objects new.objects (λ o. pages_made header o past) same was.core.objects.sizes;
      copied =
          copied_came was.core.copied object.0 page.0 (Some now) same comes.row
          (may_come was.core.copied k.memory.resident object.0 page.0 pushed);
      pages =
          pages_eq new.frames new.resident new.objects (λ o p. known_local header o p (effect_on header.size key (TakesPage lock precious bytes) local_at o p))
          (λ o p. known_local header o p (local header h (place_of o p) (hears h object control (message.Supply page lock precious bytes) ∷ past)))
          (subst (λ (z : ObjectTable). HasPages new.frames new.resident z (λ o p. known_local header o p
          (effect_on header.size key (TakesPage lock precious bytes) local_at o p))) (sym supplies.objects) pages)
          (λ o p. ap (known_local header o p) (moves o p));
      controls =
          controls_of k.memory.objects new.objects (λ o. last_control h o past) (λ o. live_control h o past) (λ o. is_ready h o past) (λ o. is_ready h o past)
          was.core.controls same (λ o live is. refl);
      flags = flags_same same was.core.flags;
      laundry = laundry_changed key row.frame _ _ _ _ _ k.memory new k.laundry (returns_out h past) was.core.pages.washed comes;
      frames =
          frames_changed (slice_get (reverse header.frames.items) h) key row.frame _ _ _ _ _ k.memory new (frames_held header h past)
          (frames_held header h past) (frames_wired h past) was.core.pages.counted comes (λ held. let kept = comes.claims in omega arith);
      referred =
          referred_of k.chains k.memory.objects new.objects new.resident (referred_row object.0 page.0 (Some now) k.chains k.memory.objects k.memory.resident
          new.resident comes.row (λ r is. (
            rests.referred.pages object.0 page.0 row asked.0,
            inr (live_is control (object_at k.memory.objects object.0) (subst (λ (z : Option ℕ). is_control control z ≡ true) (was.core.controls.live object.0)
                lives_now)),
          )) rests.referred) same;
      thin = thin_same k.chains k.memory.objects new.objects same rests.thin;
      waits = waits_taken header h (host_id h) object control (message.Supply page lock precious bytes) past waits.waits;
      fails = refl;
      fresh = tt;
      asker = tt;
      answered = waits.answered;
    })

-- it is asked no more

-- what the message is to the history
record EndsPage (header : Header) (h : ℕ) (k : Parts) (who : Woken) (object : ObjectId) (control : ℕ) (page : PageNo) (m : Message) (effect : LocalEffect)
    (past : List Event) : Type 0 where
  moves : (o p : ℕ) → local header h (place_of o p) (hears h object control m ∷ past)
      ≡ local_after header.size (if object.0 == o && is_control control (live_control h o past) then (if page.0 == p then effect else Elsewhere) else Elsewhere)
      (local header h (place_of o p) past)
  held : frames_held header h (hears h object control m ∷ past) ≡ frames_held header h past - 1
  ready : (o : ℕ) → is_ready h o (hears h object control m ∷ past) ≡ is_ready h o past
  known : (was : Local) → known_local header object.0 page.0 (local_after header.size effect was) ≡ local_after header.size effect
      (known_local header object.0 page.0 was)
  fails : FailsNow header h who (hears h object control m ∷ past)
  fresh : EndsNobody who (hears h object control m ∷ past)
  test : (o p : ℕ) → is_woken who (on.Page (page_key o p)) ≡ (o == object.0 && p == page.0)
  asker : HasAsker who k.waits.rows

changed_ended : (header : Header) (h : ℕ) (k : Parts) (ids : Ids) (past : List Event) (object : ObjectId) (control : ℕ) (page : PageNo) (m : Message)
    (effect : LocalEffect) (who : Woken) (row : PageRow) (new : HostParts)
    → Rests header h k ids past → asked_row (row_at k.memory.resident object.0 page.0) ≡ Some row → Cancels (key_of object page) row k.memory new
    → lives h object control past ≡ true → SameObjects k.memory.objects new.objects → HasKinds header new.objects k.chains
    → IsLeft header.size effect k.memory.objects new.objects object.0 page.0
    → EndsPage header h k who object control page m effect past → Changed header h k ids who new past (hears h object control m ∷ past)
changed_ended header h k ids past object control page m effect who row new rests is_asked ends lives_now same kinds left is =
    let was = rests.matches in
    let key = key_of object page in
    let asked = asked_is (row_at k.memory.resident object.0 page.0) row is_asked in
    let waits = waits_page header h k ids past object.0 page.0 None who new rests is.test ends.row (none_unawaited None refl) same in
    let local_at = λ (o p : ℕ). local header h (place_of o p) past in
    let pages = known_at header header.size key effect local_at is.known
    (pages_moved header.size effect key row.frame _ _ _ _ _ k.memory new new.objects (λ o p. known_local header o p (local_at o p)) was.core.fits.parts
    was.core.pages.shown
    ends
    (ap (local_after header.size effect) (asked_shows k.memory.frames row (absent_at k.memory.objects object.0 page.0)
    (was.core.fits.plain object.0 page.0 row asked.0 asked.1) asked.1) ∙ left.here) left.others) in
    record {
      away = away_put object.0 page.0 None row k.memory.resident new.resident ends.found ends.row;
      plain = plain_changed key row.frame _ _ _ _ _ k.memory new was.core.fits.plain ends tt;
      regions =
          regions_of k.chains k.memory.objects new.objects ids (λ r. region_of header r past) (λ o. backing_of header o past) (next_region header past)
          (next_object header past) (marks_of header past) was.core.objects.regions same;
      kinds = kinds;
      files = files_same header h k.memory.objects new.objects (λ o. home_of o past) same was.core.objects.files;
      sizes = sizes_same (named header) k.memory.objects new.objects (λ o. pages_made header o past) same was.core.objects.sizes;
      copied = copied_gone was.core.copied object.0 page.0 same ends.row;
      pages = pages_eq new.frames new.resident new.objects (λ o p. known_local header o p (effect_on header.size key effect local_at o p))
          (λ o p. known_local header o p (local header h (place_of o p) (hears h object control m ∷ past))) pages
          (λ o p. ap (known_local header o p)
          (is.moves o p
          ∙ ap (λ z. local_after header.size z (local header h (place_of o p) past))
          (on_page object.0 o (lives h object control past) (is_control control (live_control h o past)) (page.0 == p) effect Elsewhere lives_now
          (λ e. ap (λ z. is_control control (live_control h z past)) (sym e)))));
      controls =
          controls_of k.memory.objects new.objects (λ o. last_control h o past) (λ o. live_control h o past) (λ o. is_ready h o past)
          (λ o. is_ready h o (hears h object control m ∷ past)) was.core.controls same (λ o live number. is.ready o);
      flags = flags_same same was.core.flags;
      laundry = laundry_changed key row.frame _ _ _ _ _ k.memory new k.laundry (returns_out h past) was.core.pages.washed ends;
      frames = subst (λ (z : ℕ). HasFrames (slice_get (reverse header.frames.items) h) new.frames z (frames_wired h past)) (sym is.held)
          (frames_changed (slice_get (reverse header.frames.items) h) key row.frame _ _ _ _ _ k.memory new (frames_held header h past)
          (frames_held header h past - 1) (frames_wired h past) was.core.pages.counted ends (λ held. let less = ends.claims in omega arith));
      referred =
          referred_of k.chains k.memory.objects new.objects new.resident (referred_gone object.0 page.0 k.chains k.memory.objects k.memory.resident new.resident
          ends.row rests.referred) same;
      thin = thin_same k.chains k.memory.objects new.objects same rests.thin;
      waits = waits_taken header h (host_id h) object control m past waits.waits;
      fails = is.fails;
      fresh = is.fresh;
      asker = is.asker;
      answered = waits.answered;
    }

pub changed_lacked : (header : Header) (h : ℕ) (k : Parts) (ids : Ids) (events after past : List Event) (object : ObjectId) (control : ℕ) (page : PageNo)
    (who : Woken) (new : HostParts)
    → Rests header h k ids past → Lacks (key_of object page) who k.memory new events after → lives h object control past ≡ true → named header ≤ object.0
    → Changed header h k ids who new past (hears h object control (message.Unavailable page) ∷ past)
changed_lacked header h k ids events after past object control page who new rests lacks lives_now temporary =
    let asked = asked_is (row_at k.memory.resident object.0 page.0) lacks.was lacks.asked in
    let counts_now = and_from (lives h object control past) (local header h (place_of object.0 page.0) past).asked lives_now
    (asks_now header h k past object.0 page.0 lacks.was rests.matches.core.pages.shown asked.0 asked.1) in
    changed_ended header h k ids past object control page (message.Unavailable page) TakesNothing who lacks.was new rests lacks.asked lacks.page lives_now
    lacks.objects
    (kinds_marked header object.0 page.0 true k.memory.objects new.objects k.chains lacks.objects lacks.absent
    (λ declared. absurd (omega (arith, declared, temporary))) rests.matches.core.objects.kinds)
    (left_lacked header.size k.memory.objects new.objects object.0 page.0 lacks.absent)
    (subst (λ (z : Woken). EndsPage header h k z object control page (message.Unavailable page) TakesNothing past) (sym lacks.woken)
    (record {
      moves = λ o p. rw (own_host h) refl;
      held = rw (own_host h, counts_now) refl;
      ready = λ o. refl;
      known = λ was. nothing_known header object.0 page.0 header.size was temporary;
      fails = refl;
      fresh = tt;
      test = λ o p. refl;
      asker = tt;
    }))

pub changed_failed : (header : Header) (h : ℕ) (k : Parts) (ids : Ids) (events after past : List Event) (object : ObjectId) (control : ℕ) (page : PageNo)
    (reason : ℕ) (who : Woken) (new : HostParts)
    → Rests header h k ids past → FailsPage (key_of object page) who k.memory new events after → lives h object control past ≡ true
    → Changed header h k ids who new past (hears h object control (message.Error page reason) ∷ past)
changed_failed header h k ids events after past object control page reason who new rests fails lives_now =
    let asked = asked_is (row_at k.memory.resident object.0 page.0) fails.was fails.asked in
    let counts_now = and_from (lives h object control past) (local header h (place_of object.0 page.0) past).asked lives_now
    (asks_now header h k past object.0 page.0 fails.was rests.matches.core.pages.shown asked.0 asked.1) in
    changed_ended header h k ids past object control page (message.Error page reason) TakesError who fails.was new rests fails.asked fails.page lives_now
    (record { at = λ o. ap (λ z. object_at z o) fails.objects })
    (kinds_same header k.memory.objects new.objects k.chains (record { at = λ o. ap (λ z. object_at z o) fails.objects })
    (same_marks k.memory.objects new.objects fails.objects) rests.matches.core.objects.kinds)
    (left_failed header.size k.memory.objects new.objects object.0 page.0 fails.objects)
    (subst (λ (z : Woken). EndsPage header h k z object control page (message.Error page reason) TakesError past) (sym fails.woken)
    (record {
      moves = λ o p. rw (own_host h) refl;
      held = rw (own_host h, counts_now) refl;
      ready = λ o. refl;
      known = λ was. refl;
      fails = rw counts_now refl;
      fresh = λ t. refl;
      test = λ o p. refl;
      asker = rests.waits.askers object.0 page.0 fails.was asked.0 (away_awaited fails.was asked.1);
    }))

-- a page of zeros has come, where the pager of a declared object has none

-- what is known of the page
zeroed_shows : (header : Header) (o p size : ℕ) (was : Local) (lacked : Bool) → o < named header
    → known_local header o p was ≡ record away { asked = true; absent = lacked }
    → known_local header o p (local_after size Zeroes (local_after size TakesNothing was)) ≡ record away { here = true; bytes = replicate size 0 }
zeroed_shows header o p size was lacked declared is =
    let same : was ≡ record away { asked = true; absent = was.absent } = ap (λ (z : Local). record z { absent = was.absent }) is in
    ap (λ z. known_local header o p (local_after size Zeroes (local_after size TakesNothing z))) same
    ∙ ap (λ b. record away { here = true; bytes = replicate size 0; absent = not b && true }) test
  where
    test : nat_lt o (named header) ≡ true
    test = grind (arith, nat_tests, declared)

-- what holds of the page in the history, before zeros come
pub record Lacking (header : Header) (h : ℕ) (object : ObjectId) (control : ℕ) (page : PageNo) (past : List Event) : Type 0 where
  pub counts : (lives h object control past && (local header h (place_of object.0 page.0) past).asked) ≡ true
  pub asked : (local header h (place_of object.0 page.0) past).asked ≡ true
  pub away : (local header h (place_of object.0 page.0) past).here ≡ false

pub lacking : (header : Header) (h : ℕ) (k : Parts) (past : List Event) (object : ObjectId) (control : ℕ) (page : PageNo) (row : PageRow)
    → HasPages k.memory.frames k.memory.resident k.memory.objects (λ o p. known_local header o p (local header h (place_of o p) past))
    → asked_row (row_at k.memory.resident object.0 page.0) ≡ Some row → lives h object control past ≡ true → Lacking header h object control page past
lacking header h k past object control page row has is lives_now =
    let asked = asked_is (row_at k.memory.resident object.0 page.0) row is in
    let now = asks_now header h k past object.0 page.0 row has asked.0 asked.1 in
    record {
      counts = and_from (lives h object control past) (local header h (place_of object.0 page.0) past).asked lives_now now;
      asked = now;
      away =
          ap (λ (z : Local). z.here) (has.shown object.0 page.0)
          ∙ (ap (λ z. (local_of_row k.memory.frames z (absent_at k.memory.objects object.0 page.0)).here) asked.0 ∙ asked.1);
    }

pub changed_zeroed : (header : Header) (h : ℕ) (k : Parts) (ids : Ids) (host : HostId) (after past : List Event) (object : ObjectId) (control : ℕ)
    (page : PageNo) (who : Woken) (new : HostParts)
    → Rests header h k ids past → supply.Zeroes host (key_of object page) who k.memory new [] after → lives h object control past ≡ true
    → object.0 < named header
    → Changed header h k ids who new past (zeros h object page ∷ hears h object control (message.Unavailable page) ∷ past)
changed_zeroed header h k ids host after past object control page who new rests zeroes lives_now declared =
    let was = rests.matches in
    let key = key_of object page in
    let row = zeroes.was in
    let asked = asked_is (row_at k.memory.resident object.0 page.0) row zeroes.asked in
    let lacks = lacking header h k past object control page row was.core.pages.shown zeroes.asked lives_now in
    let same : SameObjects k.memory.objects new.objects = record { at = λ o. ap (λ z. object_at z o) zeroes.objects } in
    let now : PageRow = clean_row row.frame unlocked false in
    let lacked = absent_at k.memory.objects object.0 page.0 in
    let comes : Changes key row.frame (Some row) (Some now) true (replicate header.size 0) (added row.frame.0 k.memory.queues) k.memory new =
    subst (λ (z : ℕ). FillsPage key row unlocked false (replicate z 0) k.memory new) (was.core.fits.buffers ∙ was.core.setting.sized) zeroes.page in
    let here : IsUnawaited (Some now) = here_unawaited (Some now) now refl refl refl in
    let waits = waits_page header h k ids past object.0 page.0 (Some now) (woken.Page key) new rests (λ o2 p2. refl) comes.row here same in
    let local_at = λ (o p : ℕ). known_local header o p (local header h (place_of o p) past) in
    let local_now = λ (o p : ℕ). known_local header o p (local header h (place_of o p)
    (zeros h object page ∷ hears h object control (message.Unavailable page) ∷ past)) in
    let shows : local_at object.0 page.0 ≡ local_of_row k.memory.frames (Some row) lacked
    → local_now object.0 page.0 ≡ local_of_row new.frames (Some now) lacked = λ is.
    rw (
      own_host h,
      own_host object.0,
      own_host page.0,
      lives_now,
    ) (zeroed_shows header object.0 page.0 header.size (local header h (place_of object.0 page.0) past) lacked declared
    (is ∙ asked_shows k.memory.frames row lacked (was.core.fits.plain object.0 page.0 row asked.0 asked.1) asked.1))
    ∙ (ap (λ z. record away { here = true; bytes = z }) (sym (bytes_now key row.frame _ _ _ _ _ k.memory new comes))
    ∙ ap (λ z. record away { here = true; bytes = page_in new.frames row.frame.0; absent = z })
    (sym (was.core.objects.kinds.present object.0 page.0 declared))) in
    let others : (o p : ℕ) → (object.0 == o && page.0 == p) ≡ false → (local_now o p ≡ local_at o p)
    × (absent_at k.memory.objects o p ≡ absent_at k.memory.objects o p) = λ o p apart. (
      rw (own_host h)
          (ap (λ e. known_local header o p (local_after header.size (if object.0 == o && page.0 == p then Zeroes else Elsewhere)
          (local_after header.size e (local header h (place_of o p) past))))
          (on_page object.0 o (lives h object control past) (is_control control (live_control h o past)) (page.0 == p) TakesNothing Elsewhere lives_now
          (λ e. ap (λ z. is_control control (live_control h z past)) (sym e)) ∙ ap (λ b. if b then TakesNothing else Elsewhere) apart)
          ∙ ap (λ b. known_local header o p (local_after header.size (if b then Zeroes else Elsewhere) (local header h (place_of o p) past))) apart),
      refl,
    ) in
    let pages = pages_changed key row.frame _ _ _ _ _ k.memory new k.memory.objects local_at local_now was.core.fits.parts was.core.pages.shown comes shows
    others in
    let some = count_released k.memory.frames.claims row.frame.0 comes.had in
    subst (λ (z : Woken). Changed header h k ids z new past (zeros h object page ∷ hears h object control (message.Unavailable page) ∷ past)) (sym zeroes.woken)
    (record {
      away = away_put object.0 page.0 (Some now) row k.memory.resident new.resident comes.found comes.row;
      plain = plain_changed key row.frame _ _ _ _ _ k.memory new was.core.fits.plain comes (λ gone. absurd (let bad : true ≡ false = gone in cc));
      regions =
          regions_of k.chains k.memory.objects new.objects ids (λ r. region_of header r past) (λ o. backing_of header o past) (next_region header past)
          (next_object header past) (marks_of header past) was.core.objects.regions same;
      kinds = kinds_same header k.memory.objects new.objects k.chains same (same_marks k.memory.objects new.objects zeroes.objects) was.core.objects.kinds;
      files = files_same header h k.memory.objects new.objects (λ o. home_of o past) same was.core.objects.files;
      sizes = sizes_same (named header) k.memory.objects new.objects (λ o. pages_made header o past) same was.core.objects.sizes;
      copied =
          copied_came was.core.copied object.0 page.0 (Some now) same comes.row
          (may_come was.core.copied k.memory.resident object.0 page.0
          (λ copy. absurd (let bad : false ≡ true = sym (was.core.objects.undelayed object.0 declared).copy ∙ copy in cc)));
      pages = subst (λ (z : ObjectTable). HasPages new.frames new.resident z local_now) (sym zeroes.objects) pages;
      controls =
          controls_of k.memory.objects new.objects (λ o. last_control h o past) (λ o. live_control h o past) (λ o. is_ready h o past) (λ o. is_ready h o past)
          was.core.controls same (λ o live is. refl);
      flags = flags_same same was.core.flags;
      laundry = laundry_changed key row.frame _ _ _ _ _ k.memory new k.laundry (returns_out h past) was.core.pages.washed comes;
      frames = rw (own_host h, lacks.counts)
          (frames_changed (slice_get (reverse header.frames.items) h) key row.frame _ _ _ _ _ k.memory new (frames_held header h past)
          (frames_held header h past - 1 + 1) (frames_wired h past) was.core.pages.counted comes
          (λ held. let kept = comes.claims in omega (arith, held, kept, some)));
      referred =
          referred_of k.chains k.memory.objects new.objects new.resident (referred_row object.0 page.0 (Some now) k.chains k.memory.objects k.memory.resident
          new.resident comes.row (λ r is. (
            rests.referred.pages object.0 page.0 row asked.0,
            inr (live_is control (object_at k.memory.objects object.0) (subst (λ (z : Option ℕ). is_control control z ≡ true) (was.core.controls.live object.0)
                lives_now)),
          )) rests.referred) same;
      thin = thin_same k.chains k.memory.objects new.objects same rests.thin;
      waits = waits_blank header h k.chains new.objects (hears h object control (message.Unavailable page) ∷ past) object page declared
          (λ told. told_unready new.objects object.0 told (ap ready_in (same.at object.0) ∙ rests.waits.ready object.0 page.0 row asked.0 asked.1))
          (waits_taken header h (host_id h) object control (message.Unavailable page) past waits.waits);
      fails = refl;
      fresh = tt;
      asker = tt;
      answered = waits.answered;
    })

-- and the event has its cause
pub filled_follows : (header : Header) (h : ℕ) (outside : Outside) (doing : Command) (frames : FrameTable) (past : List Event) (object : ObjectId) (control : ℕ)
    (page : PageNo) → Lacking header h object control page past → lives h object control past ≡ true → object.0 < named header
    → HasFrames (slice_get (reverse header.frames.items) h) frames (frames_held header h
    (zeros h object page ∷ hears h object control (message.Unavailable page) ∷ past)) (frames_wired h past)
    → Follows header h outside doing (zeros h object page) (hears h object control (message.Unavailable page) ∷ past)
filled_follows header h outside doing frames past object control page lacks lives_now declared has =
    let fills : Fills header h object.0 page.0 (hears h object control (message.Unavailable page) ∷ past) =
    record {
      declared = declared;
      void = rw lacks.counts refl;
      once = refl;
      away = rw (own_host h, own_host object.0, own_host page.0, lives_now, lacks.asked) lacks.away;
      unasked = rw (own_host h, own_host object.0, own_host page.0, lives_now, lacks.asked) refl;
    } in
    record {
      consequence = tt;
      cause = inl fills;
      own_bytes = tt;
      frames = suffices header h frames (zeros h object page ∷ hears h object control (message.Unavailable page) ∷ past) has;
      inner = tt;
      said = tt;
      own = own_named h;
      creates = tt;
    }
