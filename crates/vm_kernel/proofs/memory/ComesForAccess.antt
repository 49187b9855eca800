-- What a page leaves of the kernel that comes for a waiting access, or by which one ends.
use Rattle.vm_kernel.proofs.memory.CoreChanges.{core_holds, core_rerowed}
use Rattle.vm_kernel.proofs.Common.{Access, AllReferred, Bool, Brings, Changes, Event, FrameNo, HasPages, HasWaiters, Header, HostParts, Ids, List, Local}
use Rattle.vm_kernel.proofs.Common.{Matches, None, ObjectTable, On, Option, PageKey, PageRow, Parts, Queues, Raises, Some, Stores, WaitTable, Waiting, Woken}
use Rattle.vm_kernel.proofs.Common.{Works, Zeroes, [], absent_at, ap, arith, begun_at, clean_row, copy_target, entry, false, fit_touched, host_id, host_of, inl}
use Rattle.vm_kernel.proofs.Common.{inr, is_again, is_frame, little_endian_bytes, local, local_after, local_of_row, named, next_page, page_in, place_of, refl}
use Rattle.vm_kernel.proofs.Common.{replicate, row_at, rows_in, some_is, subst, suc, sym, true, unlocked, waiting, with_bytes, ℕ, ◌&&◌, ◌==◌, ◌||◌, ◌∙◌, ◌∷◌}
use Rattle.vm_kernel.proofs.Common.{◌≡◌, ◌≤◌}
use Rattle.vm_state.proofs.Declared.{shadow_temporary}
use Rattle.vm_state.proofs.Filling.{IsUnfilled, away_put, fills_over, number_fills, used_away, used_over, used_page, uses_refilled}
use Rattle.vm_fault.specs.Faults.{KeepsPlan, References, WritesPage}
use Rattle.vm_fault.specs.Walks.{IsUnder, Sinks, WalksTo, keeps_out}
use Rattle.vm_model.specs.declared.event.Event.TheVariants as event
use Rattle.vm_parts.proofs.Rows.{row_put}
use Rattle.vm_parts.specs.Changes.{RaisesPage}
use Rattle.vm_state.proofs.Referred.{referred_row}
use Rattle.vm_state.proofs.Waiting.{AsksNone, IsUnawaited, asks_none_again, asks_none_frame, here_unawaited, none_unawaited, open_unsent, waiters_over}
use Rattle.vm_state.proofs.Waiting.{waiters_page}
use Rattle.vm_state.specs.Waiters.{is_woken}
use Rattle.vm_supply.specs.declared.woken.Woken.TheVariants as woken
use Rattle.vm_terminate.specs.Finishes.{IsReferred}
use Rattle.vm_kernel.specs.Serving.{runs_now}
use Rattle.vm_state.specs.Places.{known_local}
use Rattle.vm_kernel.proofs.memory.WhatIsKnown.{known_on}
use Rattle.vm_kernel.proofs.memory.PartsStillFit.{plain_here}
use Rattle.vm_kernel.proofs.steps.RowsInOrder.{PutsInOrder}
use Rattle.vm_kernel.proofs.abroad.OwnHost.{lives_here, own_host}
use Rattle.vm_kernel.proofs.memory.PagesShown.{bytes_now, pages_moved, shown_as, shown_here}
use Rattle.vm_kernel.proofs.space.RegionsInUse.{holds_waits, uses_still}
use Rattle.vm_kernel.proofs.abroad.OtherLists.{matches_with}
use Rattle.vm_kernel.proofs.controls.DeclaredKinds.{temporary_free}
use Rattle.vm_kernel.proofs.controls.LockReplied.{replied_behind}
use Rattle.vm_state.specs.References.{MayLock}
use Rattle.vm_waits.specs.Wants.{IsOfNumber}
use Rattle.vm_kernel.proofs.memory.PlacesPassed.{waits_pushed, waits_raised, waits_zeroed}
use Rattle.vm_copies.specs.Copies.{CopyTable, copy_at}
use Rattle.vm_fault.specs.Pushes.{Notes, owed_at}
use Rattle.vm_kernel.proofs.memory.PageChanges.{same_objects}
use Rattle.vm_kernel.proofs.memory.PagesPushed.{copied_beside, copied_came, copied_changed, known_within, place_under, shadow_unfilled, stands_there}
use Rattle.vm_kernel.proofs.memory.PagesPushed.{thin_noted}
use Rattle.vm_state.proofs.CopyObjects.{owed_some, pushed_raised}
use Rattle.vm_state.proofs.PlainObjects.{newest_is_copy}
use Rattle.vm_state.proofs.Owing.{waits_noted}
use Rattle.vm_model.specs.Local.{Elsewhere, is_on}
use Rattle.vm_state.proofs.Bypassing.{waits_quiet}
use Rattle.vm_state.proofs.Passing.{quiet_if}
use Rattle.vm_state.specs.Passed.{Unmet}

-- who is run waits for no page of which a word is outstanding
pub asks_none_now : (k : Parts) (reason : On) → runs_now reason ≡ true → AsksNone k.memory.resident reason
asks_none_now k reason now = by (is_again reason) refl now
  where
    by : (b : Bool) → is_again reason ≡ b → (b || is_frame reason) ≡ true → AsksNone k.memory.resident reason
    by true again now = asks_none_again k.memory.resident reason again
    by false again now = asks_none_frame k.memory.resident reason now

-- something refers to each object in use still, once a page of one that is referred to has changed
pub page_referred : (key : PageKey) (frame : FrameNo) (was now : Option PageRow) (held : Bool) (bytes : List ℕ) (lists : Queues) (k : Parts)
    (memory : HostParts) → Changes key frame was now held bytes lists k.memory memory → KeepsPlan k.memory memory
    → IsReferred k.memory.objects key.object.0 → ((row : PageRow) → now ≡ Some row → MayLock k.memory.objects key.object.0 row)
    → AllReferred k.chains k.memory.objects k.memory.resident → AllReferred k.chains memory.objects memory.resident
page_referred key frame was now held bytes lists k memory c plan is may all =
    subst (λ (z : ObjectTable). AllReferred k.chains z memory.resident) (sym plan.objects)
    (referred_row key.object.0 key.page.0 now k.chains k.memory.objects k.memory.resident memory.resident c.row (λ row found. (is, may row found)) all)

-- who waits does so still, once a page has changed of which no word was outstanding, and none is
pub page_waits : {stays : PageKey → Type 0} {unmet : PageKey → Unmet} (key : PageKey) (frame : FrameNo) (was now : Option PageRow) (held : Bool)
    (bytes : List ℕ) (lists : Queues)
    (k : Parts) (memory : HostParts) (who : On → Bool) (at : ℕ → Option Access) → Changes key frame was now held bytes lists k.memory memory
    → KeepsPlan k.memory memory → IsUnawaited was → IsUnawaited now
    → HasWaiters k.maps k.chains k.copies k.memory.resident k.memory.objects k.waits.rows who at stays unmet
    → HasWaiters k.maps k.chains k.copies memory.resident memory.objects k.waits.rows who at stays unmet
page_waits {stays = stays} {unmet = unmet} key frame was now held bytes lists k memory who at c plan before after has =
    subst (λ (z : ObjectTable). HasWaiters k.maps k.chains k.copies memory.resident z k.waits.rows who at stays unmet) (sym plan.objects)
    (waiters_page k.maps k.chains k.memory.resident memory.resident k.memory.objects k.waits.rows who at key.object.0 key.page.0 now has c.row
    (inl (subst (λ (z : Option PageRow). IsUnawaited z) (sym c.found) before)) after)

-- a page with another row may be locked still as it was
pub same_lock : (os : ObjectTable) (o : ℕ) (was now row : PageRow) → now.lock ≡ was.lock → Some now ≡ Some row → MayLock os o was → MayLock os o row
same_lock os o was now row same is may =
    let its : row.lock ≡ was.lock = ap (λ (z : PageRow). z.lock) (sym (some_is now row is)) ∙ same in
    elim may [ inl free ↦ inl (its ∙ free.0, free.1) | inr lives ↦ inr lives ]

-- a page of zeros comes

pub matches_zeroed : (header : Header) (h : ℕ) (k : Parts) (ids : Ids) (past : List Event) (key : PageKey) (frame : FrameNo) (memory : HostParts)
    → Matches header h k ids [] past → Brings key frame k.memory memory → KeepsPlan k.memory memory → copy_at k.copies key.object.0 ≡ None
    → Matches header h (record k { memory = memory }) ids [] (event.Zeroed (host_id h) key.object key.page ∷ past)
matches_zeroed header h k ids past key frame memory m c plan none =
    let sized : k.memory.buffers.size ≡ header.size = m.core.fits.buffers ∙ m.core.setting.sized in
    let zeros = bytes_now key frame _ _ _ _ _ k.memory memory c ∙ ap (λ z. replicate z 0) sized in
    let pages2 = known_on header header.size key Zeroes (λ o p. local header h (place_of o p) past) tt
    (pages_moved header.size Zeroes key frame _ _ _ _ _ k.memory memory k.memory.objects
    (λ o p. known_local header o p (local header h (place_of o p) past)) m.core.fits.parts m.core.pages.shown c
    (ap (λ z. shown_as (clean_row frame unlocked false) true true z (absent_at k.memory.objects key.object.0 key.page.0)) (sym zeros)) (λ o p apart. refl)) in
    record {
      core = core_rerowed key frame m.core c plan (λ away. record { lock = refl; precious = refl; unlock_sent = refl }) (rw (own_host h) pages2)
          (rw (own_host h) (λ held. let more = c.claims in omega arith))
          (copied_beside key _ (same_objects plan.objects) c.row none m.core.copied);
      settled = record { none_owed = refl; shut = λ region. refl };
      replied = replied_behind tt m.replied;
    }

pub works_zeroed : (header : Header) (h : ℕ) (past : List Event) (k : Parts) (ids : Ids) (key : PageKey) (frame : FrameNo) (memory : HostParts)
    → Works header h k ids woken.Nobody past → Sinks k.memory k.chains key → named header ≤ key.object.0 → IsUnfilled k.chains key.object.0
    → IsReferred k.memory.objects key.object.0
    → Brings key frame k.memory memory → KeepsPlan k.memory memory → copy_at k.copies key.object.0 ≡ None
    → Works header h (record k { memory = memory }) ids woken.Nobody (event.Zeroed (host_id h) key.object key.page ∷ past)
works_zeroed header h past k ids key frame memory works sinks temporary apart is c plan none =
    record {
      matches = matches_zeroed header h k ids past key frame memory works.matches c plan none;
      used = used_page key.object.0 key.page.0 _ k.memory.resident memory.resident works.used apart c.row;
      referred =
          page_referred key frame _ _ _ _ _ k memory c plan is
          (λ row same. temporary_free key.object.0 _ row works.matches.core.objects.kinds temporary is refl same) works.referred;
      thin = rw plan.objects works.thin;
      waits =
          page_waits key frame _ _ _ _ _ k memory (is_woken woken.Nobody) (λ u. waiting u past) c plan (none_unawaited None refl)
          (here_unawaited _ _ refl refl refl)
          (waits_zeroed header h k ids past key works.matches sinks works.waits);
      order = works.order;
    }

-- a copy of a page that is here comes to the place above it

pub matches_raised : (header : Header) (h : ℕ) (k : Parts) (ids : Ids) (past : List Event) (low top : PageKey) (row : PageRow) (frame : FrameNo)
    (memory : HostParts) (copies : CopyTable) → Matches header h k ids [] past
    → row_at k.memory.resident low.object.0 low.page.0 ≡ Some row → row.here ≡ true → RaisesPage top frame (page_in k.memory.frames row.frame.0) k.memory memory
    → KeepsPlan k.memory memory → Notes top k.copies copies
    → Matches header h (record k { memory = memory; copies = copies }) ids [] (event.Raised (host_id h) low.object low.page top.object top.page ∷ past)
matches_raised header h k ids past low top row frame memory copies m found here c plan notes =
    let lower : Local = local header h (place_of low.object.0 low.page.0) past in
    let lacked = absent_at k.memory.objects low.object.0 low.page.0 in
    let now : PageRow = record (clean_row frame unlocked false) { dirty = true } in
    let seen : known_local header low.object.0 low.page.0 lower ≡ shown_as row true true (page_in k.memory.frames row.frame.0) lacked =
    m.core.pages.shown.shown low.object.0 low.page.0 ∙ (ap (λ z. local_of_row k.memory.frames z lacked) found ∙ shown_here k.memory.frames row lacked here) in
    let same : lower.bytes ≡ page_in memory.frames frame.0 = ap (λ (z : Local). z.bytes) seen ∙ sym (bytes_now top frame _ _ _ _ _ k.memory memory c) in
    let pages2 = known_on header header.size top (Raises lower.bytes) (λ o p. local header h (place_of o p) past) tt
    (pages_moved header.size (Raises lower.bytes) top frame _ _ _ _ _ k.memory memory k.memory.objects
    (λ o p. known_local header o p (local header h (place_of o p) past)) m.core.fits.parts m.core.pages.shown c
    (ap (λ z. shown_as now true true z (absent_at k.memory.objects top.object.0 top.page.0)) same) (λ o p apart. refl)) in
    record {
      core = core_rerowed top frame m.core c plan (λ away. record { lock = refl; precious = refl; unlock_sent = refl }) (rw (own_host h) pages2)
          (rw (own_host h) (λ held. let more = c.claims in omega arith))
          (copied_came top _ (same_objects plan.objects) c.row
          (known_within memory.objects top.object.0 top.page.0 (plan.fit.inside top.object.0 top.page.0 now
          (row_put k.memory.resident memory.resident top.object.0 top.page.0 (Some now) c.row)))
          notes (pushed_raised (host_id h) low.object low.page top.object top.page past) m.core.copied);
      settled = record { none_owed = refl; shut = λ region. refl };
      replied = replied_behind tt m.replied;
    }

pub works_raised : (header : Header) (h : ℕ) (past : List Event) (k : Parts) (ids : Ids) (steps : ℕ) (low top : PageKey) (row : PageRow) (frame : FrameNo)
    (memory : HostParts) (copies : CopyTable) → Works header h k ids woken.Nobody past → WalksTo k.memory k.chains (suc steps) top low
    → IsUnfilled k.chains top.object.0 → IsReferred k.memory.objects top.object.0
    → row_at k.memory.resident low.object.0 low.page.0 ≡ Some row → row.here ≡ true → RaisesPage top frame (page_in k.memory.frames row.frame.0) k.memory memory
    → KeepsPlan k.memory memory → Notes top k.copies copies
    → Works header h (record k { memory = memory; copies = copies }) ids woken.Nobody
    (event.Raised (host_id h) low.object low.page top.object top.page ∷ past)
works_raised header h past k ids steps low top row frame memory copies works walks apart is found here c plan notes =
    let above : IsUnder k.chains top walks.1.0 = walks.1.1 in
    let temporary = shadow_temporary works.matches.core.objects.regions works.matches.core.spaces.homes.1 top.object.0 above.row above.found in
    record {
      matches = matches_raised header h k ids past low top row frame memory copies works.matches found here c plan notes;
      used = used_page top.object.0 top.page.0 _ k.memory.resident memory.resident works.used apart c.row;
      referred =
          page_referred top frame _ _ _ _ _ k memory c plan is
          (λ row same. temporary_free top.object.0 _ row works.matches.core.objects.kinds temporary is refl same) works.referred;
      thin = rw plan.objects (thin_noted top notes works.thin);
      waits =
          page_waits top frame _ _ _ _ _ (record k { copies = copies }) memory (is_woken woken.Nobody) (λ u. waiting u past) c plan (none_unawaited None refl)
          (here_unawaited _ _ refl refl refl)
          (waits_noted k.maps k.chains k.memory.resident k.memory.objects k.waits.rows (is_woken woken.Nobody) (λ u. waiting u past) top
          (waits_raised header h k ids past steps top low row works.matches walks found here works.waits) notes
          (inl (none_unawaited (row_at k.memory.resident top.object.0 top.page.0) c.found)));
      order = works.order;
    }

-- a page that a store is about to change comes to the place to which it owes it
pub works_pushed : (header : Header) (h : ℕ) (past : List Event) (k : Parts) (ids : Ids) (top place : PageKey) (row : PageRow) (frame : FrameNo)
    (memory : HostParts) (copies : CopyTable) → Works header h k ids woken.Nobody past → owed_at k.copies top ≡ Some place
    → row_at k.memory.resident top.object.0 top.page.0 ≡ Some row → row.here ≡ true → keeps_out row.lock true ≡ false
    → RaisesPage place frame (page_in k.memory.frames row.frame.0) k.memory memory → KeepsPlan k.memory memory → Notes place k.copies copies
    → Works header h (record k { memory = memory; copies = copies }) ids woken.Nobody
    (event.Raised (host_id h) top.object top.page place.object place.page ∷ past)
works_pushed header h past k ids top place row frame memory copies works owed found here out c plan notes =
    let m = works.matches in
    let on = stands_there top place m.core.copied.fits owed in
    let temporary = shadow_temporary m.core.objects.regions m.core.spaces.homes.1 place.object.0 on.row on.found in
    let is = works.referred.shadows place.object.0 on.row on.found in
    let copy = newest_is_copy top.object.0 place.object.0 past (m.core.copied.known.last top.object.0 place.object (owed_some k.copies top place owed).0) in
    record {
      matches = matches_raised header h k ids past top place row frame memory copies m found here c plan notes;
      used = used_page place.object.0 place.page.0 _ k.memory.resident memory.resident works.used
          (shadow_unfilled k past place.object.0 on.row works.used m.core.objects.regions m.core.spaces.homes.1 on.found) c.row;
      referred =
          page_referred place frame _ _ _ _ _ k memory c plan is
          (λ row same. temporary_free place.object.0 _ row m.core.objects.kinds temporary is refl same) works.referred;
      thin = rw plan.objects (thin_noted place notes works.thin);
      waits =
          page_waits place frame _ _ _ _ _ (record k { copies = copies }) memory (is_woken woken.Nobody) (λ u. waiting u past) c plan
          (none_unawaited None refl) (here_unawaited _ _ refl refl refl)
          (waits_noted k.maps k.chains k.memory.resident k.memory.objects k.waits.rows (is_woken woken.Nobody) (λ u. waiting u past) place
          (waits_pushed header h k ids past top place row m (place_under top place m.core.copied.fits owed) copy found here out works.waits) notes
          (inl (none_unawaited (row_at k.memory.resident place.object.0 place.page.0) c.found)));
      order = works.order;
    }

-- the lists of pages have another order
pub works_touched : (header : Header) (h : ℕ) (past : List Event) (k : Parts) (ids : Ids) (who : Woken) (frame : FrameNo) (memory : HostParts)
    → References frame k.memory memory → Works header h k ids who past
    → Works header h (record k { memory = memory }) ids who past
works_touched header h past k ids who frame memory touched works =
    subst (λ (z : HostParts). Works header h (record k { memory = z }) ids who past) (sym touched.is) with_queues
  where
    m : Matches header h k ids [] past
    m = works.matches

    with_queues : Works header h (record k { memory = record k.memory { queues = memory.queues } }) ids who past
    with_queues =
        record {
          matches =
              matches_with memory.queues k.memory.buffers k.waits (λ t r. refl) (fit_touched k.memory memory.queues m.core.fits.parts touched.keeps
              touched.frames)
              refl m;
          used = works.used;
          referred = works.referred;
          thin = works.thin;
          waits = works.waits;
          order = works.order;
        }

-- an access ends

-- a load or a store fills nothing
fills_none : (header : Header) (h : ℕ) (past : List Event) (k : Parts) (ids : Ids) (w : Waiting) → IsOfNumber w.want → Works header h k ids woken.Nobody past
    → entry k.waits.rows w.task.0 ≡ Some w → w.destination ≡ None
fills_none header h past k ids w number works is =
    number_fills header k.maps k.chains k.memory.resident w.task.0 w.want w.destination (next_page w.task.0 past) (copy_target w.task.0 past) number
    (works.used.copies.each w.task.0 w is)

-- with a load
pub works_loaded : (header : Header) (h : ℕ) (past : List Event) (k : Parts) (ids : Ids) (w : Waiting) (key : PageKey) (value : ℕ) (waits2 : WaitTable)
    → IsOfNumber w.want → Works header h k ids woken.Nobody past → entry k.waits.rows w.task.0 ≡ Some w → runs_now w.on ≡ true
    → PutsInOrder w.task.0 None k.waits.rows waits2.rows
    → Works header h (record k { waits = waits2 }) ids woken.Nobody (event.Loaded w.task key.object key.page value ∷ past)
works_loaded header h past k ids w key value waits2 number works is now put =
    let m = works.matches in
    let e : Event = event.Loaded w.task key.object key.page value in
    let none_filled = fills_none header h past k ids w number works is in
    let there = (works.waits.allowed w.task.0 w is).lives in
    record {
      matches = record {
        core = core_holds m.core
            (uses_refilled k.waits.rows waits2.rows (fills_over w.task.0 w k.waits.rows waits2.rows is none_filled put.entry)
            (uses_still header k.maps _ _ _ _ _ m.core.spaces.uses (λ t r none. holds_waits header.size w.task.0 t r k.maps (rows_in w.task.0 k.maps) past None
            there
            none)));
        settled = record { none_owed = refl; shut = λ region. refl };
        replied = replied_behind tt m.replied;
      };
      used = used_over w.task.0 w k.waits.rows waits2.rows works.used is none_filled put.entry;
      referred = works.referred;
      thin = works.thin;
      waits =
          waiters_over k.maps k.chains k.memory.resident k.memory.objects k.waits.rows waits2.rows (λ u. waiting u past) (λ u. waiting u (e ∷ past)) w.task.0 w
          works.waits is (asks_none_now k w.on now) put.entry (λ u. refl);
      order = put.order.keeps (λ u. begun_at u past) 0 works.order;
    }

-- with a store
pub works_stored : (header : Header) (h : ℕ) (past : List Event) (k : Parts) (ids : Ids) (w : Waiting) (key : PageKey) (frame : FrameNo) (at size value : ℕ)
    (row : PageRow) (memory : HostParts) (waits2 : WaitTable) → IsOfNumber w.want → Works header h k ids woken.Nobody past
    → entry k.waits.rows w.task.0 ≡ Some w → runs_now w.on ≡ true → PutsInOrder w.task.0 None k.waits.rows waits2.rows
    → WritesPage key frame at size value k.memory memory
    → row_at k.memory.resident key.object.0 key.page.0 ≡ Some row → row.here ≡ true → keeps_out row.lock true ≡ false
    → Works header h (record k { memory = memory; waits = waits2 }) ids woken.Nobody (event.Stored w.task key.object key.page at size value ∷ past)
works_stored header h past k ids w key frame at size value row memory waits2 number works is now put wrote found here open_to =
    let m = works.matches in
    let c = wrote.page in
    let plan = wrote.plan in
    let o = key.object.0 in
    let p = key.page.0 in
    let e : Event = event.Stored w.task key.object key.page at size value in
    let none_filled = fills_none header h past k ids w number works is in
    let there = (works.waits.allowed w.task.0 w is).lives in
    let lives : host_of w.task.0 past ≡ Some h = lives_here m.core.spaces.tasks there in
    let bytes = little_endian_bytes size value in
    let was = wrote.row in
    let row2 : PageRow = record was { dirty = true } in
    let lacked = absent_at k.memory.objects o p in
    let one : was ≡ row = some_is was row (sym c.found ∙ found) in
    let its : was.here ≡ true = ap (λ (z : PageRow). z.here) one ∙ here in
    let unsent : was.unlock_sent ≡ false = ap (λ (z : PageRow). z.unlock_sent) one
    ∙ open_unsent k.maps k.chains k.memory.resident k.memory.objects k.waits.rows (λ u. waiting u past) o p row works.waits found here open_to in
    let written = bytes_now key was.frame _ _ _ _ _ k.memory memory c
    ∙ ap (λ (z : FrameNo). with_bytes at bytes (page_in k.memory.frames z.0)) (sym wrote.is) in
    let pages2 = known_on header header.size key (Stores at bytes) (λ o2 p2. local header h (place_of o2 p2) past) tt
    (pages_moved header.size (Stores at bytes) key was.frame _ _ _ _ _ k.memory memory k.memory.objects
    (λ o2 p2. known_local header o2 p2 (local header h (place_of o2 p2) past)) m.core.fits.parts m.core.pages.shown c
    (ap (local_after header.size (Stores at bytes)) (shown_here k.memory.frames was lacked its)
    ∙ (ap (λ z. shown_as row2 true true z lacked) (sym written) ∙ sym (shown_here memory.frames row2 lacked its))) (λ o2 p2 apart. refl)) in
    let pages3 : HasPages memory.frames memory.resident k.memory.objects (λ o2 p2. known_local header o2 p2
    (local header h (place_of o2 p2) (e ∷ past))) = rw (lives, own_host h) pages2 in
    let referred2 = page_referred key was.frame _ _ _ _ _ k memory c plan (works.referred.pages o p row found)
    (λ r same. same_lock k.memory.objects o was row2 r refl same (works.referred.locks o p was c.found)) works.referred in
    let waits3 = page_waits key was.frame _ _ _ _ _ k memory (is_woken woken.Nobody) (λ u. waiting u past) c plan (here_unawaited _ was refl its unsent)
    (here_unawaited _ row2 refl its unsent)
    (waits_quiet header h e past (λ place. quiet_if (is_on h (host_of w.task.0 past) && (key.object.0 == place.object.0 && key.page.0 == place.page.0))
    (Stores at bytes) Elsewhere tt tt) works.waits) in
    record {
      matches = record {
        core = core_holds (core_rerowed key was.frame m.core c plan (plain_here row2 its) pages3 (λ held. let same = c.claims in omega arith)
            (copied_changed key was.frame _ _ _ _ _ (same_objects plan.objects) c (λ now_here. its) m.core.copied))
            (uses_refilled k.waits.rows waits2.rows (fills_over w.task.0 w k.waits.rows waits2.rows is none_filled put.entry)
            (uses_still header k.maps _ _ _ _ _ m.core.spaces.uses (λ t r none. holds_waits header.size w.task.0 t r k.maps (rows_in w.task.0 k.maps) past None
            there
            none)));
        settled = record { none_owed = refl; shut = λ region. refl };
        replied = replied_behind tt m.replied;
      };
      used =
          used_over w.task.0 w k.waits.rows waits2.rows (used_away k.memory.resident memory.resident works.used
          (away_put o p (Some row2) was k.memory.resident memory.resident c.found c.row)) is none_filled put.entry;
      referred = referred2;
      thin = rw plan.objects works.thin;
      waits =
          waiters_over k.maps k.chains memory.resident memory.objects k.waits.rows waits2.rows (λ u. waiting u past) (λ u. waiting u (e ∷ past)) w.task.0 w
          waits3 is (asks_none_now (record k { memory = memory }) w.on now) put.entry (λ u. refl);
      order = put.order.keeps (λ u. begun_at u past) 0 works.order;
    }
