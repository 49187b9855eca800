-- What an unlock that is asked for leaves of the kernel, and its cause.
use Rattle.vm_kernel.proofs.controls.CopiesAnswered.{copied_came}
use Rattle.vm_kernel.proofs.memory.CoreChanges.{core_rerowed}
use Rattle.vm_state.proofs.CopyFits.{WasHere}
use Rattle.vm_kernel.proofs.Common.{Bool, Command, Elsewhere, Event, HasWaiters, Header, HostParts, Ids, IsAt, List, LocalEffect, Matches, None, ObjectRow}
use Rattle.vm_kernel.proofs.Common.{ObjectTable, Option, Outside, PageKey, PageRow, Parts, Some, Suffice, Unlocks, Up, WaitTable, Waiting, Want, Works, []}
use Rattle.vm_kernel.proofs.Common.{absent_at, access_in, ap, arith, begun_at, entry, false, host_id, if◌then◌else◌, inl, inr, live_control, live_in, local}
use Rattle.vm_kernel.proofs.Common.{local_after, named, nat_tests, object_at, place_of, refl, subst, sym, true, waiting, with_on, ℕ, ◌&&◌, ◌==◌, ◌∙◌, ◌∷◌, ◌≡◌}
use Rattle.vm_state.proofs.Filling.{away_put, fills_turned, used_away, used_turned}
use Rattle.vm_fault.specs.Faults.{KeepsPlan}
use Rattle.vm_fault.specs.Walks.{Finds, is_storing, keeps_out, wanted_number}
use Rattle.vm_kernel.proofs.memory.ComesForAccess.{asks_none_now, page_referred, same_lock}
use Rattle.vm_kernel.proofs.memory.PartsStillFit.{plain_here}
use Rattle.vm_kernel.proofs.steps.AccessCauses.{asks_for, comes_at}
use Rattle.vm_kernel.proofs.steps.EventsGrow.{Follows}
use Rattle.vm_kernel.proofs.memory.WhatIsKnown.{nested, other_nested, pages_known}
use Rattle.vm_kernel.proofs.steps.WhereAccessLeads.{Leads, it_waits}
use Rattle.vm_state.proofs.Locks.{kept_locked, names_at}
use Rattle.vm_kernel.proofs.abroad.OwnEvents.{own_named}
use Rattle.vm_kernel.proofs.steps.RowsInOrder.{PutsInOrder}
use Rattle.vm_kernel.proofs.abroad.OwnHost.{own_host}
use Rattle.vm_kernel.proofs.memory.PagesShown.{bytes_now, pages_moved, shown_as, shown_here}
use Rattle.vm_kernel.proofs.controls.LockReplied.{replied_behind}
use Rattle.vm_kernel.proofs.abroad.OtherLists.{matches_with}
use Rattle.vm_kernel.specs.Matches.{IsReplied}
use Rattle.vm_kernel.specs.Serving.{runs_now}
use Rattle.std.proofs.lemmas.Bool.{and_parts}
use Rattle.vm_legal.specs.Licences.{LockRequest, is_answered_over, lock_taken}
use Rattle.vm_legal.specs.Steps.{completes, since}
use Rattle.vm_model.specs.Local as model
use Rattle.vm_model.specs.declared.event.Event.TheVariants as event
use Rattle.vm_model.specs.declared.message.Message.TheVariants as message
use Rattle.vm_parts.specs.Changes.{NotesUnlock}
use Rattle.vm_state.proofs.Shown.{IsShown, shows_row}
use Rattle.vm_state.proofs.Waiting.{here_unawaited, put_now, waiters_asked}
use Rattle.vm_state.specs.Places.{known_local}
use Rattle.vm_state.specs.References.{AllReferred, is_live_in}
use Rattle.vm_state.specs.Stands.{HasControls}
use Rattle.vm_state.specs.Waiters.{is_woken}
use Rattle.vm_supply.specs.declared.woken.Woken.TheVariants as woken
use Rattle.vm_waits.specs.declared.waiting.On.TheVariants as on
use Rattle.vm_state.proofs.Bypassing.{waits_quiet}
use Rattle.vm_state.proofs.Passing.{quiet_if}
use Rattle.vm_state.specs.Passed.{IsPlaceBehind, IsUnmet, StaysAway}

-- the host asks for the unlock of a page
abbrev pub unlocking : ℕ → PageKey → ℕ → ℕ → Event
unlocking h key control access = event.Sent (Up (host_id h) key.object) (message.Unlock control key.page access)

pub matches_unlocked : (header : Header) (h : ℕ) (k : Parts) (ids : Ids) (past : List Event) (key : PageKey) (row : PageRow) (control access : ℕ)
    (memory : HostParts) → Matches header h k ids [] past → row.here ≡ true → NotesUnlock key row k.memory memory → KeepsPlan k.memory memory
    → Matches header h (record k { memory = memory }) ids [] (unlocking h key control access ∷ past)
matches_unlocked header h k ids past key row control access memory m here c plan =
    let e : Event = unlocking h key control access in
    let row2 : PageRow = record row { unlock_sent = true } in
    let lacked = absent_at k.memory.objects key.object.0 key.page.0 in
    let there = λ (o p : ℕ). local header h (place_of o p) past in
    let moment = λ (o p : ℕ). known_local header o p (there o p) in
    let effect_at : ℕ → ℕ → LocalEffect = λ o p. if key.object.0 == o then (if key.page.0 == p then model.Unlocks else Elsewhere) else Elsewhere in
    let shows = ap (local_after header.size model.Unlocks) (shown_here k.memory.frames row lacked here)
    ∙ (ap (λ z. shown_as row2 true true z lacked) (sym (bytes_now key row.frame _ _ _ _ _ k.memory memory c))
    ∙ sym (shown_here memory.frames row2 lacked here)) in
    let moved = pages_moved header.size model.Unlocks key row.frame _ _ _ _ _ k.memory memory k.memory.objects moment m.core.fits.parts m.core.pages.shown c
    shows
    (λ o p apart. refl) in
    let pages2 = pages_known header header.size effect_at there (λ o p. other_nested (key.object.0 == o) (key.page.0 == p) model.Unlocks tt)
    (record {
      shown = λ o p. ap (λ z. local_after header.size z (moment o p)) (nested (key.object.0 == o) (key.page.0 == p) model.Unlocks)
          ∙ moved.shown o p;
    }) in
    record {
      core = core_rerowed key row.frame m.core c plan (plain_here row2 here) (rw (own_host h) pages2)
          (λ held. let same = c.claims in omega arith)
          (copied_came m.core.copied key.object.0 key.page.0 (Some row2) (record { at = λ o. ap (λ z. object_at z o) plan.objects }) c.row
          (WasHere row c.found here));
      settled = record { none_owed = refl; shut = λ region. refl };
      replied = replied_behind tt m.replied;
    }

-- the access waits for it
pub works_unlocked : (header : Header) (h : ℕ) (past : List Event) (k : Parts) (ids : Ids) (w : Waiting) (key : PageKey) (row : PageRow) (object : ObjectRow)
    (access : ℕ) (memory : HostParts) (waits2 : WaitTable) → Works header h k ids woken.Nobody past
    → entry k.waits.rows w.task.0 ≡ Some w → runs_now w.on ≡ true → IsPlaceBehind (StaysAway header h past) k.maps k.chains w.task.0 w.want key
    → row.here ≡ true → keeps_out row.lock (is_storing w.want) ≡ true → row.unlock_sent ≡ false
    → NotesUnlock key row k.memory memory → KeepsPlan k.memory memory → PutsInOrder w.task.0 (Some (with_on w (on.Page key))) k.waits.rows waits2.rows
    → Works header h (record k { memory = memory; waits = waits2 }) ids woken.Nobody (unlocking h key object.control access ∷ past)
works_unlocked header h past k ids w key row object access memory waits2 works is now place here locked unsent c plan put =
    let o = key.object.0 in
    let p = key.page.0 in
    let row2 : PageRow = record row { unlock_sent = true } in
    let m = matches_unlocked header h k ids past key row object.control access memory works.matches here c plan in
    record {
      matches =
          matches_with memory.queues memory.buffers waits2 (fills_turned w.task.0 w (on.Page key) k.waits.rows waits2.rows is put.entry) m.core.fits.parts refl
          m;
      used =
          used_turned w.task.0 w (on.Page key) k.waits.rows waits2.rows (used_away k.memory.resident memory.resident works.used
          (away_put o p (Some row2) row k.memory.resident memory.resident c.found c.row)) is put.entry;
      referred =
          page_referred key row.frame _ _ _ _ _ k memory c plan (works.referred.pages o p row c.found)
          (λ r same. same_lock k.memory.objects o row row2 r refl same (works.referred.locks o p row c.found)) works.referred;
      thin = rw plan.objects works.thin;
      waits =
          subst (λ (z : ObjectTable). HasWaiters k.maps k.chains k.copies memory.resident z waits2.rows (is_woken woken.Nobody) (λ u. waiting u past)
          (StaysAway header h (unlocking h key object.control access ∷ past)) (IsUnmet header h (unlocking h key object.control access ∷ past)))
          (sym plan.objects)
          (waits_quiet header h (unlocking h key object.control access) past
          (λ place2. quiet_if (h == h && o == place2.object.0) (if p == place2.page.0 then model.Unlocks else Elsewhere) Elsewhere
          (quiet_if (p == place2.page.0) model.Unlocks Elsewhere tt tt) tt)
          (waiters_asked k.maps k.chains k.memory.resident memory.resident k.memory.objects k.waits.rows waits2.rows (λ u. waiting u past) w.task.0 w key row2
          works.waits is (asks_none_now k w.on now) place (here_unawaited _ row c.found here unsent) c.row
          (inr (record { row = row2; found = put_now o p (Some row2) k.memory.resident memory.resident c.row; here = here; locked = locked; sent = refl }))
          put.entry (λ away. absurd (let bad : true ≡ false = sym here ∙ away in cc))));
      order = put.order.keeps (λ u. begun_at u past) 0 works.order;
    }

pub equal_of : (m n : ℕ) → (m == n) ≡ true → m ≡ n
equal_of m n is = grind (arith, nat_tests, is)

-- where the step took a lock request over the page that wants a reply, the reply was sent
replied_over : {header : Header} (past : List Event) (host object page : ℕ) → IsReplied header past → is_answered_over host object page (lock_taken past) ≡ true
    → since (completes host object) past ≡ true
replied_over past host object page replied over = by (lock_taken past) refl over
  where
    by : (x : Option LockRequest) → lock_taken past ≡ x → is_answered_over host object page x ≡ true → since (completes host object) past ≡ true
    by None is over = absurd (let bad : false ≡ true = over in cc)
    by (Some request) is over =
        let wants = and_parts request.reply _ over in
        let hosts = and_parts (request.host == host) _ wants.1 in
        let objects = and_parts (request.object == object) _ hosts.1 in
        let at : request.host ≡ host = equal_of request.host host hosts.0 in
        let of : request.object ≡ object = equal_of request.object object objects.0 in
        subst (λ (z : ℕ). since (completes z object) past ≡ true) at (subst (λ (z : ℕ). since (completes request.host z) past ≡ true) of
        (replied.at request is wants.0))

pub unlock_follows : (header : Header) (h : ℕ) (outside : Outside) (doing : Command) (past : List Event) (k : Parts) (task : ℕ) (what : Want) (top : PageKey)
    (at : IsAt k.maps k.chains task what top) (steps : ℕ) (key : PageKey) (row : PageRow) (object : ObjectRow)
    → Leads header h past k task what top at → IsShown header h k.memory k.chains past → IsReplied header past
    → AllReferred k.chains k.memory.objects k.memory.resident
    → {last_at : ℕ → ℕ} {ready_at : ℕ → Bool} {home_at : _}
    → HasControls (named header) h k.memory.objects last_at (λ o. live_control h o past) ready_at home_at
    → Finds k.memory k.chains steps top key row → object_at k.memory.objects key.object.0 ≡ Some object → keeps_out row.lock (is_storing what) ≡ true
    → row.unlock_sent ≡ false
    → Suffice header h (unlocking h key object.control (wanted_number what steps) ∷ past)
    → Follows header h outside doing (unlocking h key object.control (wanted_number what steps)) past
unlock_follows header h outside doing past k task what top at steps key row object to s replied referred controls finds known locked unsent frames =
    let o = key.object.0 in
    let p = key.page.0 in
    let shows = shows_row s o p row finds.found finds.here in
    let lives : object.live ≡ true = elim (referred.locks o p row finds.found) [
      | inl none ↦ kept_locked row.lock (is_storing what) locked none.0
      | inr is ↦ sym (ap is_live_in known) ∙ is
    ] in
    record {
      consequence = tt;
      cause = record {
        task = task;
        access = access_in k.maps.size to.destination what;
        waits = it_waits header h past k task what top at to;
        on_host = refl;
        comes = comes_at header h past k task what top at to s steps key finds.walks;
        number = asks_for k.maps.size to.destination what steps;
        live = controls.live o ∙ (ap live_in known ∙ ap (λ b. if b then Some object.control else None) lives);
        here = shows.here;
        named = names_at s k.maps.size to.destination o p what row finds.found finds.here locked;
        none = shows.unlocking ∙ unsent;
        behind = replied_over past h o p replied;
      };
      own_bytes = tt;
      frames = frames;
      inner = tt;
      said = refl;
      own = own_named h;
      creates = tt;
    }
