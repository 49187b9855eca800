-- A lock request is taken: what the kernel stands for, once its rows are as they will be, and those are to be run again that wait for unlocks under it.
use Rattle.vm_kernel.proofs.memory.CopiesKept.{copied_pages}
use Rattle.vm_kernel.proofs.memory.CoreChanges.{spaces_refilled}
use Rattle.vm_state.proofs.CopyFits.{MayBeHere, WasHere, fits_pages}
use Rattle.vm_kernel.proofs.Common.{Bool, Elsewhere, Event, Fit, FrameTable, HasLaundry, HasPages, HasWaiters, Header, Ids, LaundryList, List, Local}
use Rattle.vm_kernel.proofs.Common.{LocalEffect, Mapped, None, ObjectId, ObjectRow, On, Option, PageKey, PageNo, PageRow, Parts, Reason, ResidentTable, Rests}
use Rattle.vm_kernel.proofs.Common.{Some, TakesLock, WaitTable, Waiting, Want, absent_at, ap, entry, eqb_tells, false, if◌then◌else◌, inl, inr, is_control}
use Rattle.vm_kernel.proofs.Common.{is_woken, live_control, local, local_after, local_of_row, map, not, object_at, owner_of, page_key, place_of, refl, row_at}
use Rattle.vm_kernel.proofs.Common.{subst, sym, true, waiting, ℕ, ◌&&◌, ◌<◌, ◌==◌, ◌||◌, ◌∙◌, ◌∷◌, ◌≡◌, ◌⊎◌}
use Rattle.vm_state.proofs.Filling.{KeepsAway, away_back, fills_waked, used_away, used_waked}
use Rattle.vm_waits.specs.Waits.{Waked}
use Rattle.std.specs.Prelude.{nat_le, nat_lt, option_map, ◌+◌}
use Rattle.vm_kernel.proofs.controls.AnswerEffects.{on_page}
use Rattle.vm_kernel.proofs.memory.WhatIsKnown.{other_if, pages_known}
use Rattle.vm_kernel.proofs.controls.PageLocked.{Mid, asks}
use Rattle.vm_kernel.proofs.memory.PageChanges.{amidst_moved, leaves_all}
use Rattle.vm_kernel.proofs.steps.RowsInOrder.{woken_keeps}
use Rattle.vm_kernel.proofs.abroad.OwnHost.{own_host}
use Rattle.vm_kernel.proofs.controls.LockPending.{Ahead, aimed, fit_pended, is_ahead, owner_repaged, pend, pended, pended_behind, pended_frame, pended_here}
use Rattle.vm_kernel.proofs.controls.LockPending.{retabled, row_back, row_repaged, shown_pended}
use Rattle.vm_kernel.specs.Fits.{IsPlainRow}
use Rattle.vm_kernel.specs.Taking.{is_away, is_unlocked}
use Rattle.vm_model.specs.Words.{in_range}
use Rattle.vm_state.proofs.Waiting.{IsAwaitedBy}
use Rattle.vm_state.proofs.Waking.{waits_woken}
use Rattle.vm_state.specs.Places.{known_local}
use Rattle.vm_state.specs.References.{MayLock, is_live_in}
use Rattle.vm_state.specs.Waiters.{is_awaited}
use Rattle.vm_waits.proofs.Tables.{waked}
use Rattle.vm_state.proofs.Bypassing.{waits_taken}
use Rattle.vm_kernel.specs.Matches.{host_id}
use Rattle.vm_supply.specs.declared.woken.Woken.TheVariants as woken
use Rattle.vm_waits.specs.Waits as waits
use Rattle.vm_waits.specs.declared.waiting.On.TheVariants as on
use Rattle.vm_model.specs.declared.message.Message.TheVariants as message
use Rattle.vm_state.proofs.Pushing.{asked_same, push_stays}
use Rattle.vm_state.specs.Waiters.{IsAsked}
use Rattle.vm_state.specs.Passed.{Unmet}

-- the rows of a kernel's pages stand in another table

-- each page has the row that it had, and each frame leads to where it led
pub record SameRows (rs rs2 : ResidentTable) : Type 0 where
  pub rows : (o p : ℕ) → row_at rs2 o p ≡ row_at rs o p
  pub owners : (g : ℕ) → owner_of rs2 g ≡ owner_of rs g

abbrev pub with_rows : Parts → ResidentTable → Parts
with_rows k rs = record k { memory = record k.memory { resident = rs } }

-- returns hold the frames that no page has
washed_still : {fs : FrameTable} {rs rs2 : ResidentTable} {laundry : LaundryList} {out : ℕ} → HasLaundry fs rs laundry out
    → ((f : ℕ) → owner_of rs f ≡ None → owner_of rs2 f ≡ None) → HasLaundry fs rs2 laundry out
washed_still has still =
    record {
      count = has.count;
      room = has.room;
      washed = λ i d less. let its = has.washed i d less in record { claimed = its.claimed; unowned = still _ its.unowned };
      apart = has.apart;
    }

pub mid_rows : (header : Header) (h : ℕ) (k : Parts) (ids : Ids) (rs2 : ResidentTable) (past : List Event) → Mid header h k ids past
    → SameRows k.memory.resident rs2 → Mid header h (with_rows k rs2) ids past
mid_rows header h k ids rs2 past m same =
    let core = m.runs.core in
    record {
      runs = amidst_moved m.runs leaves_all
          (record {
            fits = record { parts = fit; plain = λ o p row found. core.fits.plain o p row (was o p row found); buffers = core.fits.buffers };
            away = λ o p none. same.rows o p ∙ none;
            objects = record { at = λ o. refl };
            kinds = core.objects.kinds;
            copied = fits_pages (record { at = λ o. refl }) (λ o p page found here. WasHere page (was o p page found) here);
            pages = record {
              shown = record {
                shown = λ o p. core.pages.shown.shown o p
                    ∙ ap (λ z. local_of_row k.memory.frames z (absent_at k.memory.objects o p)) (sym (same.rows o p));
              };
              washed = washed_still core.pages.washed (λ f none. same.owners f ∙ none);
              counted = core.pages.counted;
            };
            waits = record {
              is = m.runs.waits.is;
              allowed = m.runs.waits.allowed;
              sized = m.runs.waits.sized;
              reasons = λ t w found asleep. reason t w.want w.on (m.runs.waits.reasons t w found asleep);
              passed = m.runs.waits.passed;
              aims = m.runs.waits.aims;
              askers = λ o p row found. m.runs.waits.askers o p row (was o p row found);
              ready = λ o p row found. m.runs.waits.ready o p row (was o p row found);
            };
          });
      settled = m.settled;
      referred =
          record {
            live = m.referred.live;
            pages = λ o p row found. m.referred.pages o p row (was o p row found);
            locks = λ o p row found. m.referred.locks o p row (was o p row found);
            shadows = m.referred.shadows;
          };
      thin = m.thin;
    }
  where
    was : (o p : ℕ) (row : PageRow) → row_at rs2 o p ≡ Some row → row_at k.memory.resident o p ≡ Some row
    was o p row found = sym (same.rows o p) ∙ found

    fit : Fit (record k.memory { resident = rs2 })
    fit = record {
      owned = record { at = λ o p row found. same.owners row.frame.0 ∙ m.runs.core.fits.parts.owned.at o p row (was o p row found) };
      held = λ o p row found. m.runs.core.fits.parts.held o p row (was o p row found);
      listed = λ o p row found. m.runs.core.fits.parts.listed o p row (was o p row found);
      unlisted = λ f none. m.runs.core.fits.parts.unlisted f (sym (same.owners f) ∙ none);
      unowned = λ f none. same.owners f ∙ m.runs.core.fits.parts.unowned f none;
      inside = λ o p row found. m.runs.core.fits.parts.inside o p row (was o p row found);
      all_sized = m.runs.core.fits.parts.all_sized;
      count = m.runs.core.fits.parts.count;
      pages = m.runs.core.fits.parts.pages;
    }

    awaited : (what : Want) (o p : ℕ) → IsAwaitedBy k.memory.resident what o p → IsAwaitedBy rs2 what o p
    awaited what o p (inl asked) = inl (record { row = asked.row; found = same.rows o p ∙ asked.found; away = asked.away })
    awaited what o p (inr locked) =
        inr (record { row = locked.row; found = same.rows o p ∙ locked.found; here = locked.here; locked = locked.locked; sent = locked.sent })

    reason : (t : ℕ) (what : Want) (why : On) → Reason k.maps k.chains k.copies k.memory.resident k.memory.objects t what why
        → Reason k.maps k.chains k.copies rs2 k.memory.objects t what why
    reason t what on.Again is = tt
    reason t what (on.Ready object) is = is
    reason t what (on.Page key) is = (is.0, awaited what key.object.0 key.page.0 is.1)
    reason t what (on.Push key) is =
        push_stays is is.at is.owed (asked_same k.memory.resident rs2 key.object.0 key.page.0 (same.rows key.object.0 key.page.0) is.asked)
    reason t what on.Frame is = tt

-- the whole range of a request
abbrev pub ahead_of : ObjectId → PageNo → ℕ → Bool → ℕ → ℕ → Ahead
ahead_of object page count flush lock from = record { object = object.0; page = page.0; count = count; flush = flush; lock = lock; from = from }

-- a kernel with its rows as they will be, and other accesses that wait
abbrev pub aiming : Parts → Ahead → WaitTable → Parts
aiming k a waits = record k { memory = pend a k.memory; waits = waits }

-- where the request has come to none of its pages, those are ahead that are in its range
all_ahead : (page count p : ℕ) → (in_range p page count && nat_le page p) ≡ in_range p page count
all_ahead page count p = by (nat_le page p) (nat_lt p (page + count))
  where
    by : (a b : Bool) → ((a && b) && a) ≡ (a && b)
    by true true = refl
    by true false = refl
    by false b = refl

-- whom the request is to wake

unlocked_off : (object page count : ℕ) (rs : ResidentTable) (key : PageKey) → is_unlocked rs object page count (on.Page key) ≡ false
    → is_away (row_at rs key.object.0 key.page.0) ≡ false → (key.object.0 == object && in_range key.page.0 page count) ≡ false
unlocked_off object page count rs key off here =
    by (key.object.0 == object) (in_range key.page.0 page count) (ap (λ b. key.object.0 == object && (in_range key.page.0 page count && not b)) (sym here)
    ∙ off)
  where
    by : (a b : Bool) → (a && (b && true)) ≡ false → (a && b) ≡ false
    by true true is = is
    by true false is = refl
    by false b is = refl

same_test : (m n : ℕ) → (m == n) ≡ (n == m)
same_test m n = elim (eqb_tells m n) [
  | inl same ↦ rw same.1 refl
  | inr apart ↦ elim (eqb_tells n m) [ inl same ↦ absurd (apart.1 (sym same.1)) | inr other ↦ apart.0 ∙ sym other.0 ]
]

here_away : (x : Option PageRow) (row : PageRow) → x ≡ Some row → row.here ≡ true → is_away x ≡ false
here_away x row is here = ap is_away is ∙ ap not here

-- the rows as they will be, and the accesses that wait
waits_waked : {stays : PageKey → Type 0} {unmet : PageKey → Unmet} (maps : Mapped) (k : Parts) (object : ObjectId) (page : PageNo) (count lock : ℕ)
    (flush : Bool)
    (rows2 : List Waiting) (past : List Event) → HasWaiters k.maps k.chains k.copies k.memory.resident k.memory.objects k.waits.rows (is_woken woken.Nobody)
    (λ t. waiting t past) stays unmet
    → rows2 ≡ map (waits.woken (is_unlocked k.memory.resident object.0 page.0 count)) k.waits.rows
    → HasWaiters k.maps k.chains k.copies (retabled (pended (ahead_of object page count flush lock page.0)) k.memory.resident) k.memory.objects rows2
    (is_woken woken.Nobody) (λ t. waiting t past) stays unmet
waits_waked {stays = stays} {unmet = unmet} maps k object page count lock flush rows2 past has woke =
    subst (λ (z : List Waiting). HasWaiters k.maps k.chains k.copies rs2 k.memory.objects z (is_woken woken.Nobody) (λ t. waiting t past) stays unmet)
    (sym woke)
    (waits_woken k.maps k.chains rs2 k.memory.objects k.waits.rows (map (waits.woken who) k.waits.rows) who (λ t. waiting t past)
    (record {
      is = has.is;
      allowed = has.allowed;
      sized = has.sized;
      reasons = λ t w found asleep. reason t w.want w.on asleep (has.reasons t w found refl);
      passed = λ t w found asleep. has.passed t w found refl;
      aims = has.aims;
      askers = λ o p row found awaits. let was = row_back (pended a) rs o p row found in has.askers o p was.0 was.1 (awaited_was o p row was.0 was.2 awaits);
      ready =
          λ o p row found gone. let was = row_back (pended a) rs o p row found in has.ready o p was.0 was.1
          (sym (ap (λ (z : PageRow). z.here) was.2 ∙ pended_here a o p was.0) ∙ gone);
    })
    (λ t. waked who k.waits.rows t)
    (λ o p row found awaits. let was = row_back (pended a) rs o p row found in apart o p row was.0 was.1 was.2 awaits))
  where
    a : Ahead
    a = ahead_of object page count flush lock page.0

    rs : ResidentTable
    rs = k.memory.resident

    rs2 : ResidentTable
    rs2 = retabled (pended (ahead_of object page count flush lock page.0)) k.memory.resident

    who : On → Bool
    who = is_unlocked k.memory.resident object.0 page.0 count

    -- what is in the range is ahead
    ahead_is : (o p : ℕ) → is_ahead a o p ≡ (o == object.0 && in_range p page.0 count)
    ahead_is o p = ap (λ b. object.0 == o && b) (all_ahead page.0 count p) ∙ ap (λ b. b && in_range p page.0 count) (same_test object.0 o)

    unchanged : (o p : ℕ) (row : PageRow) → (o == object.0 && in_range p page.0 count) ≡ false → pended a o p row ≡ row
    unchanged o p row off = pended_behind a o p row (ahead_is o p ∙ off)

    awaited_was : (o p : ℕ) (row was : PageRow) → row ≡ pended a o p was → is_awaited row ≡ true → is_awaited was ≡ true
    awaited_was o p row was is awaits = by (was.here && is_ahead a o p) (sym (ap is_awaited is) ∙ awaits)
      where
        less : (b c : Bool) → (not b || false) ≡ true → (not b || c) ≡ true
        less true c is_not = absurd (let bad : false ≡ true = is_not in cc)
        less false c is_so = refl

        by : (b : Bool) → is_awaited (if b then aimed a was else was) ≡ true → is_awaited was ≡ true
        by true is_now = less was.here was.unlock_sent is_now
        by false is_now = is_now

    asked_now : (key : PageKey) → IsAsked rs key.object.0 key.page.0 → IsAsked rs2 key.object.0 key.page.0
    asked_now key asked =
        record {
          row = asked.row;
          found =
              row_repaged (pended a) rs key.object.0 key.page.0
              ∙ (ap (option_map (pended a key.object.0 key.page.0)) asked.found
              ∙ ap (λ b. Some (if b && is_ahead a key.object.0 key.page.0 then aimed a asked.row else asked.row)) asked.away);
          away = asked.away;
        }

    awaited : (what : Want) (key : PageKey) → who (on.Page key) ≡ false → IsAwaitedBy rs what key.object.0 key.page.0
        → IsAwaitedBy rs2 what key.object.0 key.page.0
    awaited what key asleep (inl asked) = inl (asked_now key asked)
    awaited what key asleep (inr locked) = inr (record {
      row = locked.row;
      found = row_repaged (pended a) rs key.object.0 key.page.0
          ∙ (ap (option_map (pended a key.object.0 key.page.0)) locked.found
          ∙ ap Some (unchanged key.object.0 key.page.0 locked.row (unlocked_off object.0 page.0 count rs key asleep
          (here_away (row_at rs key.object.0 key.page.0) locked.row locked.found locked.here))));
      here = locked.here;
      locked = locked.locked;
      sent = locked.sent;
    })

    reason : (t : ℕ) (what : Want) (why : On) → who why ≡ false → Reason k.maps k.chains k.copies rs k.memory.objects t what why
        → Reason k.maps k.chains k.copies rs2 k.memory.objects t what why
    reason t what on.Again asleep is = tt
    reason t what (on.Ready other) asleep is = is
    reason t what (on.Page key) asleep is = (is.0, awaited what key asleep is.1)
    reason t what (on.Push key) asleep is = push_stays is is.at is.owed (asked_now key is.asked)
    reason t what on.Frame asleep is = tt

    -- a page that is awaited still isn't in the range, or is asked
    apart : (o p : ℕ) (row was : PageRow) → row_at rs o p ≡ Some was → row ≡ pended a o p was → is_awaited row ≡ true → who (on.Page (page_key o p)) ≡ false
    apart o p row was found is awaits = by was.here (o == object.0 && in_range p page.0 count) refl refl
      where
        away : was.here ≡ false → who (on.Page (page_key o p)) ≡ false
        away gone =
            ap (λ z. o == object.0 && (in_range p page.0 count && not (is_away z))) found
            ∙ (ap (λ b. o == object.0 && (in_range p page.0 count && not (not b))) gone ∙ none (o == object.0) (in_range p page.0 count))
          where
            none : (b c : Bool) → (b && (c && false)) ≡ false
            none true true = refl
            none true false = refl
            none false c = refl

        off : (o == object.0 && in_range p page.0 count) ≡ false → who (on.Page (page_key o p)) ≡ false
        off out = assoc (o == object.0) (in_range p page.0 count) (not (is_away (row_at rs o p))) out
          where
            assoc : (b c d : Bool) → (b && c) ≡ false → (b && (c && d)) ≡ false
            assoc true true d outside = absurd (let bad : true ≡ false = outside in cc)
            assoc true false d outside = refl
            assoc false c d outside = refl

        by : (here ahead : Bool) → was.here ≡ here → (o == object.0 && in_range p page.0 count) ≡ ahead → who (on.Page (page_key o p)) ≡ false
        by false ahead gone out = away gone
        by true false here out = off out
        by true true here out =
            let its : row ≡ aimed a was = is ∙ (ap (λ b. if b && is_ahead a o p then aimed a was else was) here
            ∙ ap (λ b. if b then aimed a was else was) (ahead_is o p ∙ out)) in
            absurd (let bad : false ≡ true = sym (ap is_awaited its ∙ ap (λ b. not b || false) here) ∙ awaits in cc)

-- the pages as the history has them then
pages_taken : (header : Header) (h : ℕ) (k : Parts) (object : ObjectId) (control : ℕ) (page : PageNo) (count returns lock : ℕ) (flush reply : Bool)
    (past : List Event) → HasPages k.memory.frames k.memory.resident k.memory.objects (λ o p. known_local header o p (local header h (place_of o p) past))
    → is_control control (live_control h object.0 past) ≡ true → (lock < 4) ⊎ (lock ≡ 8)
    → HasPages k.memory.frames (retabled (pended (ahead_of object page count flush lock page.0)) k.memory.resident) k.memory.objects
    (λ o p. known_local header o p (local header h (place_of o p) (asks h object control page count returns flush lock reply ∷ past)))
pages_taken header h k object control page count returns lock flush reply past has lives few =
    rw (own_host h) (record { shown = λ o p. ap (λ z. known_local header o p (local_after header.size z (there o p))) (reaches o p) ∙ known.shown o p })
  where
    a : Ahead
    a = ahead_of object page count flush lock page.0

    there : ℕ → ℕ → Local
    there o p = local header h (place_of o p) past

    effect_at : ℕ → ℕ → LocalEffect
    effect_at o p = if object.0 == o && in_range p page.0 count then TakesLock lock flush else Elsewhere

    reaches : (o p : ℕ) → (if object.0 == o && is_control control (live_control h o past) then
        (if in_range p page.0 count then TakesLock lock flush else Elsewhere) else Elsewhere) ≡ effect_at o p
    reaches o p =
        on_page object.0 o (is_control control (live_control h object.0 past)) (is_control control (live_control h o past)) (in_range p page.0 count)
        (TakesLock lock flush) Elsewhere lives (λ e. ap (λ z. is_control control (live_control h z past)) (sym e))

    ahead_is : (o p : ℕ) → (object.0 == o && in_range p page.0 count) ≡ is_ahead a o p
    ahead_is o p = ap (λ b. object.0 == o && b) (sym (all_ahead page.0 count p))

    -- as its row says, where it is ahead
    after_if : (o p : ℕ) (b : Bool) (was : Local) → local_after header.size (if b then TakesLock lock flush else Elsewhere)
        was ≡ (if b then local_after header.size (TakesLock lock flush) was else was)
    after_if o p true was = refl
    after_if o p false was = refl

    shown : (o p : ℕ) → local_after header.size (effect_at o p) (known_local header o p (there o p)) ≡ local_of_row k.memory.frames
        (row_at (retabled (pended a) k.memory.resident) o p) (absent_at k.memory.objects o p)
    shown o p =
        ap (local_after header.size (effect_at o p)) (has.shown o p)
        ∙ (after_if o p (object.0 == o && in_range p page.0 count) (local_of_row k.memory.frames (row_at k.memory.resident o p)
        (absent_at k.memory.objects o p))
        ∙ (ap (λ b. if b then local_after header.size (TakesLock lock flush) (local_of_row k.memory.frames (row_at k.memory.resident o p)
        (absent_at k.memory.objects o p)) else local_of_row k.memory.frames (row_at k.memory.resident o p) (absent_at k.memory.objects o p)) (ahead_is o p)
        ∙ (shown_pended header.size a k.memory.frames o p (row_at k.memory.resident o p) (absent_at k.memory.objects o p) few
        ∙ ap (λ z. local_of_row k.memory.frames z (absent_at k.memory.objects o p)) (sym (row_repaged (pended a) k.memory.resident o p)))))

    known : HasPages k.memory.frames (retabled (pended a) k.memory.resident) k.memory.objects
        (λ o p. known_local header o p (local_after header.size (effect_at o p) (there o p)))
    known =
        pages_known header header.size effect_at there (λ o p. other_if (object.0 == o && in_range p page.0 count) (TakesLock lock flush) tt)
        (record { shown = shown })

-- the request is taken
pub mid_taken : (header : Header) (h : ℕ) (k : Parts) (ids : Ids) (past : List Event) (object : ObjectId) (control : ℕ) (page : PageNo) (count returns lock : ℕ)
    (flush reply : Bool) (waits2 : WaitTable) → Rests header h k ids past → is_control control (live_control h object.0 past) ≡ true → (known : ObjectRow)
    → object_at k.memory.objects object.0 ≡ Some known → known.live ≡ true
    → (lock < 4) ⊎ (lock ≡ 8) → waits2.rows ≡ map (waits.woken (is_unlocked k.memory.resident object.0 page.0 count)) k.waits.rows
    → Mid header h (aiming k (ahead_of object page count flush lock page.0) waits2) ids (asks h object control page count returns flush lock reply ∷ past)
mid_taken header h k ids past object control page count returns lock flush reply waits2 rests lives known found live few woke =
    let core = rests.matches.core in
    let a = ahead_of object page count flush lock page.0 in
    let waker = is_unlocked k.memory.resident object.0 page.0 count in
    record {
      runs = record {
        core = record {
          setting = core.setting;
          calm = λ o is. absurd (let bad : false ≡ true = is in cc);
          fits = record {
            parts = fit_pended a k.memory core.fits.parts;
            plain = λ o p row there away_now. plain o p row (row_back (pended a) k.memory.resident o p row there) away_now;
            buffers = core.fits.buffers;
          };
          spaces = spaces_refilled (fills_waked waker k.waits.rows waits2.rows waked_rows) core.spaces;
          objects = core.objects;
          copied = copied_pages (record { at = λ o. refl }) was_here core.copied;
          controls = core.controls;
          flags = core.flags;
          pages = record {
            shown = pages_taken header h k object control page count returns lock flush reply past core.pages.shown lives few;
            washed = washed_still core.pages.washed (λ f none. owner_repaged (pended a) k.memory.resident f (pended_frame a) ∙ none);
            counted = core.pages.counted;
          };
        };
        used = used_waked waker k.waits.rows waits2.rows
            (used_away k.memory.resident (retabled (pended a) k.memory.resident) rests.used away_back_pended) waked_rows;
        waits =
            waits_taken header h (host_id h) object control (message.Lock page count returns flush lock reply) past
            (waits_waked k.maps k object page count lock flush waits2.rows past rests.waits woke);
        order = (woken_keeps waker k.waits.rows waits2.rows woke).keeps _ 0 rests.order;
      };
      settled = record { none_owed = refl; shut = λ region. refl };
      referred = record {
        live = rests.referred.live;
        pages = λ o p row there. let was = row_back (pended a) k.memory.resident o p row there in rests.referred.pages o p was.0 was.1;
        locks = λ o p row there. locks o p row (row_back (pended a) k.memory.resident o p row there);
        shadows = rests.referred.shadows;
      };
      thin = rests.thin;
    }
  where
    its : Ahead
    its = ahead_of object page count flush lock page.0

    away_back_pended : KeepsAway k.memory.resident (retabled (pended its) k.memory.resident)
    away_back_pended =
        away_back k.memory.resident (retabled (pended its) k.memory.resident) (λ o p row there. let was = row_back (pended its) k.memory.resident o p row
        there in (was.0, was.1))

    waked_rows : (t : ℕ) → Waked (is_unlocked k.memory.resident object.0 page.0 count) (entry k.waits.rows t) (entry waits2.rows t)
    waked_rows t =
        subst (λ (z : List Waiting). Waked (is_unlocked k.memory.resident object.0 page.0 count) (entry k.waits.rows t) (entry z t)) (sym woke)
        (waked (is_unlocked k.memory.resident object.0 page.0 count) k.waits.rows t)

    -- a page that is here was
    was_here : (o p : ℕ) (row : PageRow) → row_at (retabled (pended its) k.memory.resident) o p ≡ Some row → row.here ≡ true
        → MayBeHere k.copies k.memory.resident o p
    was_here o p row found here =
        let back = row_back (pended its) k.memory.resident o p row found in
        WasHere back.0 back.1 (sym (ap (λ (z : PageRow). z.here) back.2 ∙ pended_here its o p back.0) ∙ here)

    plain : (o p : ℕ) (row : PageRow) → ((was : PageRow) × (row_at k.memory.resident o p ≡ Some was) × (row ≡ pended its o p was)) → row.here ≡ false
        → IsPlainRow row
    plain o p row was away_now =
        let gone : was.0.here ≡ false = sym (ap (λ (z : PageRow). z.here) was.2 ∙ pended_here its o p was.0) ∙ away_now in
        subst IsPlainRow (sym (was.2 ∙ ap (λ b. if b && is_ahead its o p then aimed its was.0 else was.0) gone))
        (rests.matches.core.fits.plain o p was.0 was.1 gone)

    -- a page of the object may be locked, and each other is as it was
    locks : (o p : ℕ) (row : PageRow) → ((was : PageRow) × (row_at k.memory.resident o p ≡ Some was) × (row ≡ pended its o p was))
        → MayLock k.memory.objects o row
    locks o p row was = elim (eqb_tells object.0 o) [
      | inl same ↦ inr (ap (λ z. is_live_in (object_at k.memory.objects z)) (sym same.1) ∙ (ap is_live_in found ∙ live))
      | inr apart ↦ subst (MayLock k.memory.objects o) (sym (was.2
          ∙ (ap (λ b. if was.0.here && (b && (in_range p page.0 count && nat_le page.0 p)) then aimed its was.0 else was.0) apart.0 ∙ by was.0 was.0.here)))
          (rests.referred.locks o p was.0 was.1)
    ]
      where
        by : (was : PageRow) (b : Bool) → (if b && false then aimed its was else was) ≡ was
        by was true = refl
        by was false = refl
