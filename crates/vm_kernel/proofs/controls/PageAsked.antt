-- What a request for a page leaves of the kernel, and an access that waits for something else.
use Rattle.vm_kernel.proofs.controls.CopiesAnswered.{copied_away}
use Rattle.vm_kernel.proofs.memory.CoreChanges.{core_rerowed}
use Rattle.vm_kernel.proofs.Common.{Asks, AsksPage, Bool, Event, FrameNo, HasWaiters, Header, HostParts, Ids, List, Matches, ObjectRow, ObjectTable, On}
use Rattle.vm_kernel.proofs.Common.{PageKey, Parts, Reason, Some, Up, WaitTable, Waiting, Works, [], ap, arith, begun_at, entry, false, has_pager, host_id, inr}
use Rattle.vm_kernel.proofs.Common.{is_control, is_ready_state, live_control, local, local_after, object_at, place_of, ready_in, refl, some_is, subst, sym}
use Rattle.vm_kernel.proofs.Common.{true, waiting, with_on, ℕ, ◌&&◌, ◌==◌, ◌∙◌, ◌∷◌, ◌≡◌}
use Rattle.vm_kernel.proofs.space.RegionsFilled.{place_unfilled}
use Rattle.vm_state.proofs.Filling.{fills_turned, used_page, used_turned}
use Rattle.vm_fault.specs.Faults.{KeepsPlan}
use Rattle.vm_model.specs.declared.event.Event.TheVariants as event
use Rattle.vm_model.specs.declared.message.Message.TheVariants as message
use Rattle.vm_objects.specs.declared.row.PagerState.TheVariants as state
use Rattle.vm_state.proofs.Waiting.{IsAwaitedBy, asked_is, none_unawaited, put_now, waiters_asked, waiters_turned}
use Rattle.vm_state.specs.References.{is_live_in}
use Rattle.vm_state.specs.Waiters.{IsPagerTold, is_woken}
use Rattle.vm_supply.specs.declared.woken.Woken.TheVariants as woken
use Rattle.vm_terminate.specs.Finishes.{IsReferred}
use Rattle.vm_waits.specs.declared.waiting.On.TheVariants as on
use Rattle.vm_kernel.specs.Serving.{runs_now}
use Rattle.vm_state.specs.Places.{known_local}
use Rattle.vm_kernel.proofs.memory.WhatIsKnown.{IsOther, pages_known}
use Rattle.vm_kernel.proofs.memory.ComesForAccess.{asks_none_now, page_referred}
use Rattle.vm_kernel.proofs.steps.RowsInOrder.{PutsInOrder}
use Rattle.vm_kernel.proofs.abroad.OwnHost.{own_host}
use Rattle.vm_kernel.proofs.memory.PagesShown.{asking, asking_it, asking_other, itself, pages_changed}
use Rattle.vm_kernel.proofs.abroad.OtherLists.{matches_with}
use Rattle.vm_kernel.proofs.controls.LockReplied.{replied_behind}
use Rattle.vm_legal.specs.Walks.{page_on}
use Rattle.vm_model.specs.Local.{is_known_absent}
use Rattle.vm_state.proofs.Bypassing.{waits_requested}
use Rattle.vm_state.proofs.Passing.{behind_place}
use Rattle.vm_state.specs.Passed.{IsPlaceBehind, IsUnmet, Passed, StaysAway}

-- a request of the host for the page
abbrev pub requesting : ℕ → PageKey → ℕ → ℕ → Event
requesting h key control access = event.Sent (Up (host_id h) key.object) (message.Request control key.page access)

other_asking : (object page live : Bool) → IsOther (asking object page live)
other_asking true true true = tt
other_asking true true false = tt
other_asking true false live = tt
other_asking false page live = tt

pub matches_asked : (header : Header) (h : ℕ) (k : Parts) (ids : Ids) (past : List Event) (key : PageKey) (control access : ℕ) (frame : FrameNo)
    (memory : HostParts) → Matches header h k ids [] past → live_control h key.object.0 past ≡ Some control
    → AsksPage key frame k.memory memory → KeepsPlan k.memory memory
    → Matches header h (record k { memory = memory }) ids [] (requesting h key control access ∷ past)
matches_asked header h k ids past key control access frame memory m live c plan =
    let there = λ (o p : ℕ). local header h (place_of o p) past in
    let moment = λ (o p : ℕ). known_local header o p (there o p) in
    let asks = λ (o p : ℕ). asking (key.object.0 == o) (key.page.0 == p) (is_control control (live_control h o past)) in
    let now = λ (o p : ℕ). local_after header.size (asks o p) (moment o p) in
    let lives : is_control control (live_control h key.object.0 past) ≡ true = ap (is_control control) live ∙ itself control in
    let both : (key.object.0 == key.object.0 && key.page.0 == key.page.0) ≡ true = rw (itself key.object.0, itself key.page.0) refl in
    let pages2 = pages_known header header.size asks there (λ o p. other_asking (key.object.0 == o) (key.page.0 == p)
    (is_control control (live_control h o past)))
    (pages_changed key frame _ _ _ _ _ k.memory memory k.memory.objects moment now m.core.fits.parts m.core.pages.shown c
    (λ shows. ap (λ z. local_after header.size z (moment key.object.0 key.page.0)) (asking_it _ _ _ both lives) ∙ ap (local_after header.size Asks) shows)
    (λ o p apart. (ap (λ z. local_after header.size z (moment o p)) (asking_other _ _ (is_control control (live_control h o past)) apart), refl))) in
    record {
      core = core_rerowed key frame m.core c plan (λ away. record { lock = refl; precious = refl; unlock_sent = refl }) (rw (own_host h) pages2)
          (rw (own_host h) (λ held. let more = c.claims in omega arith))
          (copied_away m.core.copied key.object.0 key.page.0 _ (record { at = λ o. ap (λ z. object_at z o) plan.objects }) c.row refl);
      settled = record { none_owed = refl; shut = λ region. refl };
      replied = replied_behind tt m.replied;
    }

-- a pager that is ready was told before
told_ready : (os : ObjectTable) (o : ℕ) (row : ObjectRow) → IsPagerTold os o → object_at os o ≡ Some row → row.state ≡ state.Ready → ⊥
told_ready os o row told known ready =
    let same : told.row ≡ row = some_is told.row row (sym told.found ∙ known) in
    let bad : state.Sent ≡ state.Ready = sym told.sent ∙ (ap (λ (z : ObjectRow). z.state) same ∙ ready) in
    cc

-- a page is asked for, and the access waits for it
pub works_asked : (header : Header) (h : ℕ) (past : List Event) (k : Parts) (ids : Ids) (w : Waiting) (key : PageKey) (object : ObjectRow) (access : ℕ)
    (frame : FrameNo) (memory : HostParts) (waits2 : WaitTable) → Works header h k ids woken.Nobody past
    → entry k.waits.rows w.task.0 ≡ Some w → runs_now w.on ≡ true → IsReferred k.memory.objects key.object.0
    → IsPlaceBehind (StaysAway header h past) k.maps k.chains w.task.0 w.want key
    → is_known_absent header (place_of key.object.0 key.page.0) (page_on header h key.object.0 key.page.0 past) ≡ false
    → object_at k.memory.objects key.object.0 ≡ Some object → object.state ≡ state.Ready
    → live_control h key.object.0 past ≡ Some object.control → AsksPage key frame k.memory memory → KeepsPlan k.memory memory
    → PutsInOrder w.task.0 (Some (with_on w (on.Page key))) k.waits.rows waits2.rows
    → Works header h (record k { memory = memory; waits = waits2 }) ids woken.Nobody
    (event.Sent (Up (host_id h) key.object) (message.Request object.control key.page access) ∷ past)
works_asked header h past k ids w key object access frame memory waits2 works is now referred place unknown known ready live c plan put =
    let m = matches_asked header h k ids past key object.control access frame memory works.matches live c plan in
    record {
      matches =
          matches_with memory.queues memory.buffers waits2 (fills_turned w.task.0 w (on.Page key) k.waits.rows waits2.rows is put.entry) m.core.fits.parts refl
          m;
      used = used_turned w.task.0 w (on.Page key) k.waits.rows waits2.rows
          (used_page key.object.0 key.page.0 _ k.memory.resident memory.resident works.used
          (place_unfilled header.size w.task.0 w.want key k.maps k.chains [] works.matches.core.spaces.entries (behind_place place)) c.row) is put.entry;
      referred =
          page_referred key frame _ _ _ _ _ k memory c plan referred
          (λ row same. inr (ap is_live_in known ∙ ((works.matches.core.objects.kinds.kinds key.object.0 object known).lives ∙ ap has_pager ready)))
          works.referred;
      thin = rw plan.objects works.thin;
      waits =
          subst (λ (z : ObjectTable). HasWaiters k.maps k.chains k.copies memory.resident z waits2.rows (is_woken woken.Nobody) (λ u. waiting u past)
          (StaysAway header h (requesting h key object.control access ∷ past)) (IsUnmet header h (requesting h key object.control access ∷ past)))
          (sym plan.objects)
          (waits_requested header h (host_id h) key.object object.control key.page access past unknown
          (λ told. told_ready k.memory.objects key.object.0 object told known ready)
          (waiters_asked k.maps k.chains k.memory.resident memory.resident k.memory.objects k.waits.rows waits2.rows (λ u. waiting u past) w.task.0 w key _
          works.waits is (asks_none_now k w.on now) place (none_unawaited _ c.found) c.row
          (asked_is memory.resident w.want key.object.0 key.page.0 _ (put_now key.object.0 key.page.0 _ k.memory.resident memory.resident c.row) refl) put.entry
          (λ away. ap ready_in known ∙ ap is_ready_state ready)));
      order = put.order.keeps (λ u. begun_at u past) 0 works.order;
    }

-- nothing changes but what an access waits for
pub works_turned : (header : Header) (h : ℕ) (past : List Event) (k : Parts) (ids : Ids) (w : Waiting) (reason : On) (waits2 : WaitTable)
    → Works header h k ids woken.Nobody past → entry k.waits.rows w.task.0 ≡ Some w → runs_now w.on ≡ true
    → Reason k.maps k.chains k.copies k.memory.resident k.memory.objects w.task.0 w.want reason
    → Passed (StaysAway header h past) (IsUnmet header h past) k.maps k.chains w.task.0 w.want reason
    → PutsInOrder w.task.0 (Some (with_on w reason)) k.waits.rows waits2.rows → Works header h (record k { waits = waits2 }) ids woken.Nobody past
works_turned header h past k ids w reason waits2 works is now holds passed put =
    record {
      matches =
          matches_with k.memory.queues k.memory.buffers waits2 (fills_turned w.task.0 w reason k.waits.rows waits2.rows is put.entry)
          works.matches.core.fits.parts
          refl works.matches;
      used = used_turned w.task.0 w reason k.waits.rows waits2.rows works.used is put.entry;
      referred = works.referred;
      thin = works.thin;
      waits =
          waiters_turned k.maps k.chains k.memory.resident k.memory.objects k.waits.rows waits2.rows (λ u. waiting u past) w.task.0 w reason works.waits is
          (asks_none_now k w.on now) put.entry holds passed;
      order = put.order.keeps (λ u. begun_at u past) 0 works.order;
    }

-- the access waits for a page that was asked for before, or for its unlock
pub works_joined : (header : Header) (h : ℕ) (past : List Event) (k : Parts) (ids : Ids) (w : Waiting) (key : PageKey) (waits2 : WaitTable)
    → Works header h k ids woken.Nobody past → entry k.waits.rows w.task.0 ≡ Some w → runs_now w.on ≡ true
    → IsPlaceBehind (StaysAway header h past) k.maps k.chains w.task.0 w.want key → IsAwaitedBy k.memory.resident w.want key.object.0 key.page.0
    → PutsInOrder w.task.0 (Some (with_on w (on.Page key))) k.waits.rows waits2.rows
    → Works header h (record k { waits = waits2 }) ids woken.Nobody past
works_joined header h past k ids w key waits2 works is now place awaits put =
    works_turned header h past k ids w (on.Page key) waits2 works is now (behind_place place, awaits) place put
