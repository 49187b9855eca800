-- A lock request is done once all pages of its range have obeyed: it is paid, and the pager is told.
use Rattle.vm_kernel.proofs.controls.LockReplied.{replied_lock}
use Rattle.vm_kernel.proofs.Common.{AllInner, Bool, CausedInTurn, Command, EachOf, Event, FrameTable, Header, LegalEvents, List, Local, None, Option, Outside}
use Rattle.vm_kernel.proofs.Common.{PageRow, Parts, Plays, RunsNone, Some, Then, Works, [], absent_at, ap, append-nil, arith, before_more, false, host_id}
use Rattle.vm_kernel.proofs.Common.{if◌then◌else◌, inl, inr, live_in, local, local_of_row, nat_le, nat_lt, nat_tests, page_in, page_on, paging, place_of, refl}
use Rattle.vm_kernel.proofs.Common.{row_at, since, some_is, subst, sym, true, ℕ, ◌&&◌, ◌++◌, ◌+◌, ◌<◌, ◌==◌, ◌∙◌, ◌∷◌, ◌≡◌, ◌≤◌}
use Rattle.std.specs.Prelude.{option_map}
use Rattle.vm_kernel.proofs.steps.EventsGrow.{Follows, goes_more, suffices}
use Rattle.vm_kernel.proofs.controls.PageLocked.{Mid, completed, works_mid}
use Rattle.vm_kernel.proofs.memory.PageChanges.{amidst_moved}
use Rattle.vm_kernel.proofs.memory.MayLeave.{IsSeen, seen_here}
use Rattle.vm_kernel.proofs.controls.AnswerEffects.{same_effect}
use Rattle.vm_kernel.proofs.abroad.OwnEvents.{own_named}
use Rattle.vm_kernel.proofs.abroad.OwnHost.{own_host}
use Rattle.vm_kernel.proofs.memory.PagesShown.{itself}
use Rattle.vm_legal.proofs.Paying.{lock_more}
use Rattle.vm_legal.specs.Debts.{HasLocked, HasObeyed, was_on}
use Rattle.vm_legal.specs.Licences.{LockRequest, gives_back}
use Rattle.vm_legal.specs.Steps.{before_step, completes}
use Rattle.vm_locks.specs.Obeys.{IsTold, LockState, PagesObey, Replies, Silent, lock_state}
use Rattle.vm_kernel.proofs.controls.LockPending.{is_ahead, owner_repaged, pended, pended_behind, pended_frame, row_repaged}
use Rattle.vm_kernel.proofs.controls.LockRequested.{mid_rows}
use Rattle.vm_state.specs.Places.{known_local}
use Rattle.vm_state.proofs.Bypassing.{waits_quiet}
use Rattle.vm_state.proofs.Passing.{quiet_if}
use Rattle.vm_model.specs.Local.{Elsewhere}
use Rattle.vm_supply.specs.declared.woken.Woken.TheVariants as woken
use Rattle.vm_kernel.proofs.controls.RangeLocked.{AllObeyed, IsGiven, IsTaken, Request, ahead_in, aimed_at, at_state, below_or, given_still, obeyed_first}
use Rattle.vm_kernel.proofs.controls.RangeLocked.{pages_obey, paging_aimed, request_at, since_now, spared, wanted_at}

-- what the history has of a page that is here

record IsRow (x : Option PageRow) (seen : Local) : Type 0 where
  row : PageRow
  is : x ≡ Some row
  here : row.here ≡ true
  dirty : seen.dirty ≡ row.dirty
  precious : seen.precious ≡ row.precious

row_seen : (header : Header) (o p : ℕ) (fs : FrameTable) (x : Option PageRow) (lacked : Bool) (seen : Local)
    → known_local header o p seen ≡ local_of_row fs x lacked → seen.here ≡ true → IsRow x seen
row_seen header o p fs None lacked seen is here = absurd (let bad : false ≡ true = sym (ap (λ z. z.here) is) ∙ here in cc)
row_seen header o p fs (Some row) lacked seen is here =
    let there : row.here ≡ true = sym (ap (λ z. z.here) is) ∙ here in
    let its : IsSeen (known_local header o p seen) row (page_in fs row.frame.0) = seen_here fs row lacked (known_local header o p seen) is there in
    record { row = row; is = refl; here = there; dirty = its.dirty; precious = its.precious }

gives_seen : (returns : ℕ) (x : Option PageRow) (seen : Local) (is : IsRow x seen)
    → gives_back returns seen.dirty seen.precious ≡ gives_back returns is.row.dirty is.row.precious
gives_seen returns x seen is = ap (λ z. gives_back returns z seen.precious) is.dirty ∙ ap (gives_back returns is.row.dirty) is.precious

-- events behind a taking are inside its step
pub inner_of : {header : Header} {h : ℕ} {outside : Outside} {doing : Command} {past events : List Event} → LegalEvents header h outside doing past [] events
    → AllInner events
inner_of goes = subst AllInner (sym (goes.is ∙ append-nil goes.more)) goes.inner

-- so the request is paid

pages_paid : (r : Request) (s : LockState) (moment : List Event) → IsTaken r → before_step moment ≡ before_step r.past
    → ((p : ℕ) (row : PageRow) → r.page.0 ≤ p → p < r.page.0 + r.count → row_at r.kernel.memory.resident r.object.0 p ≡ Some row → row.here ≡ true
    → IsGiven r p row moment)
    → (p : ℕ) → r.page.0 ≤ p → p < r.page.0 + r.count → (was_on r.header (request_at r) p moment).here ≡ true → HasObeyed r.header (request_at r) p moment
pages_paid r s moment t same given p least below here =
    record {
      back = λ due. its.back (sym (gives_seen r.returns _ _ row) ∙ (ap (λ (z : List Event). back_at z) (sym same) ∙ due));
      dropped = λ kept flushes. its.dropped (sym (gives_seen r.returns _ _ row) ∙ (ap (λ (z : List Event). back_at z) (sym same) ∙ kept)) flushes;
    }
  where
    back_at : List Event → Bool
    back_at z = gives_back r.returns (page_on r.header r.host r.object.0 p z).dirty (page_on r.header r.host r.object.0 p z).precious

    row : IsRow (row_at r.kernel.memory.resident r.object.0 p) (page_on r.header r.host r.object.0 p (before_step r.past))
    row =
        row_seen r.header r.object.0 p r.kernel.memory.frames (row_at r.kernel.memory.resident r.object.0 p) (absent_at r.kernel.memory.objects r.object.0 p)
        (page_on r.header r.host r.object.0 p (before_step r.past))
        (t.shown p) (ap (λ (z : List Event). (page_on r.header r.host r.object.0 p z).here) (sym same) ∙ here)

    its : IsGiven r p (IsRow.row row) moment
    its = given p (IsRow.row row) least below (IsRow.is row) (IsRow.here row)

-- the request is done
pub record Done (r : Request) (s : LockState) : Type 0 where
  pub works : Works r.header r.host (at_state r.kernel s) r.ids woken.Nobody (s.events ++ r.past)
  pub goes : LegalEvents r.header r.host r.outside r.command r.past [] s.events
  pub plays : Plays r.header r.past [] (paging r.kernel) s.events (paging (at_state r.kernel s))
  pub quiet : EachOf RunsNone s.events
  pub paid : HasLocked r.header (request_at r) (s.events ++ r.past)

given_all : (r : Request) (s : LockState) → (all : AllObeyed r s) → (p : ℕ) (row : PageRow) → r.page.0 ≤ p → p < r.page.0 + r.count
    → row_at r.kernel.memory.resident r.object.0 p ≡ Some row → row.here ≡ true → IsGiven r p row (s.events ++ r.past)
given_all r s all p row least below found here =
    all.obeyed.given p row (record { least = least; below = let end = all.end in omega (arith, end, below); inside = below }) found here

-- there is no page to come to any more, so the rows are as they are
mid_all : (r : Request) (s : LockState) → AllObeyed r s → Mid r.header r.host (at_state r.kernel s) r.ids (s.events ++ r.past)
mid_all r s all =
    mid_rows r.header r.host (aimed_at r all.to s) r.ids s.parts.resident (s.events ++ r.past) all.obeyed.rests
    (record {
      rows = λ o p. sym (row_repaged (pended (ahead_in r all.to)) s.parts.resident o p ∙ by o p (row_at s.parts.resident o p));
      owners = λ g. sym (owner_repaged (pended (ahead_in r all.to)) s.parts.resident g (pended_frame (ahead_in r all.to)));
    })
  where
    never : (b : Bool) → (b && false) ≡ false
    never true = refl
    never false = refl

    none : (o p : ℕ) → is_ahead (ahead_in r all.to) o p ≡ false
    none o p = out (r.object.0 == o) (nat_le r.page.0 p) (nat_lt p (r.page.0 + r.count)) (nat_le all.to p) over
      where
        over : (nat_lt p (r.page.0 + r.count) && nat_le all.to p) ≡ false
        over = elim (below_or p all.to) [
          | inl low ↦ ap (λ b. nat_lt p (r.page.0 + r.count) && b) {y = false} (grind (arith, nat_tests, low)) ∙ never (nat_lt p (r.page.0 + r.count))
          | inr high ↦ let end = all.end in ap (λ b. b && nat_le all.to p) {y = false} (grind (arith, nat_tests, high, end))
        ]

        out : (a b c d : Bool) → (c && d) ≡ false → (a && ((b && c) && d)) ≡ false
        out true true true d is = is
        out true true false d is = refl
        out true false c d is = refl
        out false b c d is = refl

    by : (o p : ℕ) (x : Option PageRow) → option_map (pended (ahead_in r all.to) o p) x ≡ x
    by o p None = refl
    by o p (Some row) = ap Some (pended_behind (ahead_in r all.to) o p row (none o p))

plays_all : (r : Request) (s : LockState) → (all : AllObeyed r s) → Plays r.header r.past [] (paging r.kernel) s.events (paging (at_state r.kernel s))
plays_all r s all = subst (λ z. Plays r.header r.past [] (paging r.kernel) s.events z) (paging_aimed r all.to s) all.obeyed.plays

done_silent : (r : Request) (s : LockState) → IsTaken r → AllObeyed r s → r.reply ≡ false → Done r s
done_silent r s t all silent =
    let o = all.obeyed in
    record {
      works =
          works_mid (mid_all r s all) (replied_lock o.taken (λ request is own. absurd (let bad : false ≡ true = sym silent
          ∙ (ap (λ z. z.reply) (some_is (request_at r) request (sym o.taken ∙ is)) ∙ own) in cc)));
      goes = o.goes;
      plays = plays_all r s all;
      quiet = o.quiet;
      paid = record {
        pages = pages_paid r s (s.events ++ r.past) t (before_more s.events r.past (inner_of o.goes)) (given_all r s all);
        reply = λ wanted. spared silent wanted;
      };
    }

-- the reply is sent

completed_rests : (r : Request) (k : Parts) (past : List Event) → Mid r.header r.host k r.ids past
    → Mid r.header r.host k r.ids (completed r.host r.object r.known.control r.page r.count ∷ past)
completed_rests r k past rests =
    let c = rests.runs.core in
    record {
      runs = amidst_moved rests.runs (record { space = refl; accesses = refl; controls = refl; pushed = λ o p. refl })
          (record {
            fits = c.fits;
            away = λ o p none. none;
            objects = record { at = λ o. refl };
            kinds = c.objects.kinds;
            copied = λ fits. fits;
            pages = record {
              shown = record {
                shown = λ o p. ap (known_local r.header o p) (rw (own_host r.host)
                    (same_effect r.header.size (r.object.0 == o) (local r.header r.host (place_of o p) past))) ∙ c.pages.shown.shown o p;
              };
              washed = c.pages.washed;
              counted = c.pages.counted;
            };
            waits =
                waits_quiet r.header r.host (completed r.host r.object r.known.control r.page r.count) past
                (λ place. quiet_if (r.host == r.host && r.object.0 == place.object.0) Elsewhere Elsewhere tt tt) rests.runs.waits;
          });
      settled = record { none_owed = refl; shut = λ region. refl };
      referred = rests.referred;
      thin = rests.thin;
    }

completed_cause : (r : Request) (s : LockState) → IsTaken r → AllObeyed r s → r.reply ≡ true
    → CausedInTurn r.header r.outside r.command (completed r.host r.object r.known.control r.page r.count) (s.events ++ r.past)
completed_cause r s t all wanted =
    let o = all.obeyed in
    let m = mid_all r s all in
    record {
      live = m.runs.core.controls.live r.object.0 ∙ (ap live_in o.found ∙ ap (λ b. if b then Some r.known.control else None) t.live);
      returns = r.returns;
      flush = r.flush;
      lock = r.lock;
      taken = o.taken ∙ ap (λ b. Some (record (request_at r) { reply = b })) wanted;
      once = o.undone;
      done = λ p least below here.
          let row = row_seen r.header r.object.0 p s.parts.frames (row_at s.parts.resident r.object.0 p) (absent_at s.parts.objects r.object.0 p)
          (page_on r.header r.host r.object.0 p (s.events ++ r.past)) (m.runs.core.pages.shown.shown r.object.0 p) here in
          let left = o.left p row.row (record { least = least; below = let end = all.end in omega (arith, end, below); inside = below }) row.is row.here in
          (left.0, gives_seen r.returns _ _ row ∙ left.1);
    }

done_told : (r : Request) (s : LockState) → IsTaken r → AllObeyed r s → r.reply ≡ true
    → Done r (record s { events = completed r.host r.object r.known.control r.page r.count ∷ s.events })
done_told r s t all wanted =
    let o = all.obeyed in
    let e = completed r.host r.object r.known.control r.page r.count in
    let moment = s.events ++ r.past in
    let rests = completed_rests r (at_state r.kernel s) moment (mid_all r s all) in
    let follows : Follows r.header r.host r.outside r.command e moment =
    record {
      consequence = tt;
      cause = completed_cause r s t all wanted;
      own_bytes = tt;
      frames = suffices r.header r.host s.parts.frames (e ∷ moment) rests.runs.core.pages.counted;
      inner = tt;
      said = refl;
      own = own_named r.host;
      creates = tt;
    } in
    let goes = goes_more r.header r.host r.outside r.command r.past [] s.events e o.goes o.rests.settled follows in
    let sent = since_now (completes r.host r.object.0) e moment tt (rw (itself r.host, itself r.object.0) refl) in
    record {
      works = works_mid rests
          (replied_lock (lock_more (e ∷ []) moment (tt, tt) ∙ o.taken) (λ request is own.
          let its : request_at r ≡ request = some_is (request_at r) request (sym (lock_more (e ∷ []) moment (tt, tt) ∙ o.taken) ∙ is) in
          subst (λ (z : LockRequest). since (completes z.host z.object) (e ∷ moment) ≡ true) its sent));
      goes = goes;
      plays = Then e s.events (paging (at_state r.kernel s)) (paging (at_state r.kernel s)) (plays_all r s all) refl;
      quiet = (tt, o.quiet);
      paid = record {
        pages =
            pages_paid r s (e ∷ moment) t (before_more (e ∷ s.events) r.past (inner_of goes))
            (λ p row least below found here. given_still r p row e moment tt (given_all r s all p row least below found here));
        reply = λ is. sent;
      };
    }

pub replied : (r : Request) (old new : LockState) → IsTaken r → AllObeyed r old → Replies (host_id r.host) r.object r.known.control (wanted_at r) old new
    → Done r new
replied r old new t all (Silent silent same) = subst (Done r) (sym same) (done_silent r old t all silent)
replied r old new t all (IsTold wanted same) = subst (Done r) (sym same) (done_told r old t all wanted)

-- from the start of the call
pub done : (r : Request) (mid new : LockState) → IsTaken r
    → PagesObey (host_id r.host) r.object r.known.control (wanted_at r) r.page.0 (lock_state r.kernel.memory r.kernel.laundry.held r.kernel.laundry.room []) mid
    → Replies (host_id r.host) r.object r.known.control (wanted_at r) mid new → Done r new
done r mid new t pages reply =
    replied r mid new t (pages_obey r r.page.0 (lock_state r.kernel.memory r.kernel.laundry.held r.kernel.laundry.room []) mid t (obeyed_first r t) pages) reply
