-- One page of a host is reclaimed, and a pageout does that over and over.
use Rattle.vm_kernel.proofs.Common.{AllLive, AllReferred, AllSkipped, ArePlain, Begins, Bool, Command, Created, Creates, EachGone, Elsewhere, Event, Fit}
use Rattle.vm_kernel.proofs.Common.{FrameNo, FrameTable, FreesOrReturns, HasControls, Header, HostId, HostIsFull, Ids, IfSome, IsExhausted, IsFreed, IsNothing}
use Rattle.vm_kernel.proofs.Common.{IsReferred, IsReturned, IsSettled, KeepsPages, LaundryList, LegalEvents, List, Matches, None, ObjectRow, ObjectTable}
use Rattle.vm_kernel.proofs.Common.{Option, Outside, PageKey, PageRow, PagerState, PagesOut, Parts, PutsObject, PutsRow, Queues, Reclaim, ReclaimEffects}
use Rattle.vm_kernel.proofs.Common.{ResidentTable, Rests, ReturnCause, SameMarks, SameObjects, Some, Starves, Up, [], absent_at, ap, arith, claimed, controlled}
use Rattle.vm_kernel.proofs.Common.{count_again, departures, false, fit_touched, free, has_pager, host_id, if◌then◌else◌, inl, inr, is_claimed, is_queued}
use Rattle.vm_kernel.proofs.Common.{is_ready, is_skipped, is_woken, last_control, last_in, live_control, live_in, local, local_of_row, looked, named, nat_tests}
use Rattle.vm_kernel.proofs.Common.{object_at, object_home, owner_of, page_in, page_key, place_of, queues_after_search, refl, returns_out, row_at, row_cases}
use Rattle.vm_kernel.proofs.Common.{row_with_control, sends, some_is, subst, sym, told_from, true, ℕ, ◌&&◌, ◌++◌, ◌+◌, ◌<◌, ◌==◌, ◌∙◌, ◌∷◌, ◌≡◌, ◌≤◌, ◌⊎◌}
use Rattle.vm_legal.specs.Licences.{Reclaimed as ForFrames}
use Rattle.vm_legal.specs.Reclaims.{Reclaims as May}
use Rattle.vm_model.specs.Local.{Place}
use Rattle.vm_kernel.proofs.steps.EventsGrow.{Follows, free_is, goes_none, goes_one, suffices}
use Rattle.vm_kernel.proofs.memory.WhatIsKnown.{other_if, pages_known}
use Rattle.vm_legal.proofs.Owing.{behind_none}
use Rattle.vm_kernel.proofs.controls.DeclaredKinds.{untold_temporary}
use Rattle.vm_kernel.proofs.memory.PageReturned.{controls_begun, controls_told, counts_controlled, first_of_object, kind_controlled, never_controlled}
use Rattle.vm_kernel.proofs.memory.PageReturned.{pages_created, ready_controlled, told_controlled, unasked}
use Rattle.vm_legal.specs.Prompt.{IsSource}
use Rattle.vm_kernel.proofs.space.StillThin.{references_put, thin_objects}
use Rattle.vm_merge.specs.Merges.{IsThin}
use Rattle.vm_parts.proofs.Rows.{stood}
use Rattle.vm_state.specs.Places.{known_local}
use Rattle.vm_kernel.specs.Serving.{FreesBut, IsToCopy, SkipLocked}
use Rattle.vm_state.proofs.Referred.{referred_controlled, referred_gone}
use Rattle.vm_kernel.proofs.memory.FramesWashed.{laundry_room}
use Rattle.vm_kernel.proofs.abroad.OwnHost.{named_host, own_host}
use Rattle.vm_kernel.proofs.abroad.OwnEvents.{mine_of, own_named}
use Rattle.vm_kernel.proofs.controls.LockReplied.{replied_behind}
use Rattle.vm_kernel.proofs.lists.PagesSpared.{waits_unlocked}
use Rattle.vm_kernel.specs.Matches.{IsReplied, Amidst}
use Rattle.vm_legal.specs.Accesses.{WaitsUnlocked}
use Rattle.vm_state.proofs.Bypassing.{waits_quiet}
use Rattle.vm_state.proofs.Passing.{quiet_if}
use Rattle.vm_kernel.proofs.memory.PageChanges.{amidst_gone, amidst_moved, amidst_of, amidst_returned, changes_among, drop_follows, drops, fits_known, gives}
use Rattle.vm_kernel.proofs.memory.PageChanges.{leaves_all, live_at, matches_of, objects_known, return_follows, same_objects, seen_of}
use Rattle.vm_kernel.proofs.memory.CoreChanges.{with_tables}
use Rattle.vm_kernel.proofs.memory.CopiesKept.{copied_put}
use Rattle.vm_state.proofs.CopyFits.{fits_same}
use Rattle.vm_state.proofs.Told.{told_all, waits_told}
use Rattle.vm_state.proofs.Knowing.{known_put}
use Rattle.vm_kernel.proofs.memory.PagesShown.{pages_marked}
use Rattle.vm_model.specs.declared.event.Event.TheVariants as event
use Rattle.vm_model.specs.declared.message.Message.TheVariants as message
use Rattle.vm_objects.specs.declared.row.PagerState.TheVariants as state
use Rattle.vm_pageout.specs.declared.answer.Reclaim.TheVariants as reclaim
use Rattle.vm_supply.specs.declared.woken.Woken.TheVariants as woken
use Rattle.vm_abroad.proofs.Regions.{kind_cases}
use Rattle.vm_kernel.proofs.controls.FlagsKept.{flags_set}

-- all but what a reclaim changes is as it was, and what it changes fits
pub record Beside (k k2 : Parts) : Type 0 where
  pub host : k2.host ≡ k.host
  pub size : k2.size ≡ k.size
  pub declared : k2.declared ≡ k.declared
  pub maps : k2.maps ≡ k.maps
  pub chains : k2.chains ≡ k.chains
  pub copied : k2.copies ≡ k.copies
  pub waits : k2.waits ≡ k.waits
  pub buffers : k2.memory.buffers.size ≡ k.memory.buffers.size
  pub fit : Fit k2.memory
  pub live : AllLive k2.memory.objects

-- what a reclaim owes its caller
pub record Took (header : Header) (h : ℕ) (outside : Outside) (doing : Command) (past : List Event) (ids : Ids) (answer : Reclaim) (skip : List FrameNo)
    (k k2 : Parts) (before after : List Event) : Type 0 where
  pub rests : Rests header h k2 ids (after ++ past)
  pub goes : LegalEvents header h outside doing past before after
  pub gone : EachGone h before after
  pub reclaimed : FreesBut h skip answer k k2 (before ++ past) (after ++ past)

-- why a page may be reclaimed
abbrev pub MayTake : Header → ℕ → Command → List Event → Type 0
MayTake header h doing past = PagesOut doing h past ⊎ Starves header h past

-- a page may be reclaimed of which no unlock is outstanding
may_take : (header : Header) (h : ℕ) (doing : Command) (o p : ℕ) (past : List Event) → (local header h (place_of o p) past).unlocking ≡ false
    → MayTake header h doing past → May header doing h o p past
may_take header h doing o p past none why = record { spared = λ waits. (let bad : false ≡ true = sym none ∙ waits.unlocking in cc); may = why }

-- so is a victim, where those are skipped of which one is
unsent : (skip : List FrameNo) (rs : ResidentTable) (o p : ℕ) (row : PageRow) → SkipLocked rs skip → row_at rs o p ≡ Some row
    → is_skipped skip row.frame.0 ≡ false → row.unlock_sent ≡ false
unsent skip rs o p row locked found unskipped = by row.unlock_sent refl
  where
    by : (b : Bool) → row.unlock_sent ≡ b → b ≡ false
    by false is = refl
    by true is = absurd (let bad : false ≡ true = sym unskipped ∙ locked o p row found is in cc)

-- the kernel in groups, and back

inside : {header : Header} {h : ℕ} {k : Parts} {ids : Ids} {past : List Event} → Rests header h k ids past → Amidst header h k ids [] woken.Nobody past
inside rests = amidst_of rests.matches rests.used rests.waits rests.order

rests_of : {header : Header} {h : ℕ} {k : Parts} {ids : Ids} {past : List Event} (other : Parts) → Amidst header h k ids [] woken.Nobody past
    → IsSettled past → IsReplied header past → AllReferred k.chains k.memory.objects k.memory.resident → IsThin k.copies k.chains k.memory.objects
    → count_again k.waits.rows ≡ 0 → Rests header h (with_tables k other) ids past
rests_of other a settled replied referred thin idle =
    record { matches = matches_of other a settled replied; used = a.used; referred = referred; thin = thin; waits = a.waits; order = a.order; idle = idle }

rests_beside : {header : Header} {h : ℕ} {k k2 : Parts} {ids : Ids} {past : List Event} → Beside k k2
    → Amidst header h (record k { memory = k2.memory; laundry = k2.laundry }) ids [] woken.Nobody past → IsSettled past → IsReplied header past
    → AllReferred k.chains k2.memory.objects k2.memory.resident → IsThin k.copies k.chains k2.memory.objects → count_again k.waits.rows ≡ 0
    → Rests header h k2 ids past
rests_beside {header = header} {h = h} {k = k} {k2 = k2} {ids = ids} {past = past} beside a settled replied referred thin idle =
    subst (λ (z : Parts). Rests header h z ids past) (sym same) (rests_of k2 a settled replied referred thin idle)
  where
    same : k2 ≡ with_tables (record k { memory = k2.memory; laundry = k2.laundry }) k2
    same = λ i. record k2 {
      host = beside.host i;
      size = beside.size i;
      declared = beside.declared i;
      maps = beside.maps i;
      chains = beside.chains i;
      copies = beside.copied i;
      waits = beside.waits i;
    }

-- the lists of pages have another order
inside_touched : {header : Header} {h : ℕ} {k : Parts} {ids : Ids} {past : List Event} (queues : Queues) → Amidst header h k ids [] woken.Nobody past
    → KeepsPages k.memory.queues queues → queues.frames ≡ k.memory.queues.frames
    → Amidst header h (record k { memory = record k.memory { queues = queues } }) ids [] woken.Nobody past
inside_touched {k = k} queues a keeps count = amidst_moved a leaves_all (record {
  fits = record { parts = fit_touched k.memory queues a.core.fits.parts keeps count; plain = a.core.fits.plain; buffers = a.core.fits.buffers };
  away = λ o p none. none;
  objects = same_objects refl;
  kinds = a.core.objects.kinds;
  copied = fits_same (same_objects refl) refl;
  pages = a.core.pages;
  waits = a.waits;
})

-- a page whose frame is skipped is no victim, so it stays
row_stays : (skip : List FrameNo) (key : PageKey) (row : PageRow) (rs rs2 : ResidentTable) → row_at rs key.object.0 key.page.0 ≡ Some row
    → PutsRow key.object.0 key.page.0 None rs rs2 → is_skipped skip row.frame.0 ≡ false
    → (o p : ℕ) (other : PageRow) → row_at rs o p ≡ Some other → is_skipped skip other.frame.0 ≡ true → row_at rs2 o p ≡ Some other
row_stays skip key row rs rs2 found put unskipped o p other there skips = elim (row_cases key.object.0 key.page.0 None rs rs2 put o p) [
  | inl now ↦
      let same : row ≡ other = some_is row other (sym (stood rs key.object.0 key.page.0 o p (Some row) now.object now.page found) ∙ there) in
      absurd (let bad : false ≡ true = sym unskipped ∙ (ap (λ (z : PageRow). is_skipped skip z.frame.0) same ∙ skips) in cc)
  | inr apart ↦ apart.is ∙ there
]

-- no page was found
took_nothing : (header : Header) (h : ℕ) (outside : Outside) (doing : Command) (past : List Event) (ids : Ids) (skip : List FrameNo) (k k2 : Parts)
    (before after : List Event)
    → Rests header h k ids (before ++ past) → Beside k k2 → IsNothing skip k.memory k2.memory k.laundry k2.laundry before after
    → Took header h outside doing past ids reclaim.Nothing skip k k2 before after
took_nothing header h outside doing past ids skip k k2 before after rests beside is =
    let fits = rests.matches.core.fits in
    let core = (inside rests).core in
    subst (λ (z : List Event). Took header h outside doing past ids reclaim.Nothing skip k k2 before z) (sym is.events)
    (record {
      rests = rests_beside beside
          (amidst_moved (inside rests) leaves_all (record {
            fits = record { parts = beside.fit; plain = subst ArePlain (sym is.resident) fits.plain; buffers = beside.buffers ∙ fits.buffers };
            away = λ o p none. ap (λ z. row_at z o p) is.resident ∙ none;
            objects = same_objects is.objects;
            kinds = rw is.objects core.objects.kinds;
            copied = fits_same (same_objects is.objects) is.resident;
            pages = rw (is.objects, is.frames, is.resident, is.laundry) core.pages;
            waits = rw (is.objects, is.resident) rests.waits;
          }))
          rests.matches.settled rests.matches.replied (rw (is.objects, is.resident) rests.referred) (rw is.objects rests.thin)
          rests.idle;
      goes = goes_none header h outside doing past before;
      gone = record { more = []; is = refl; each = tt };
      reclaimed =
          record {
            waits = beside.waits;
            freed = λ bad. absurd (let clash : reclaim.Nothing ≡ reclaim.Freed = bad in cc);
            returned = λ bad. absurd (let clash : reclaim.Nothing ≡ reclaim.Returned = bad in cc);
            nothing =
                λ same. (
                  refl,
                  (λ o p row found here. is.skipped row.frame.0 (rests.matches.core.fits.parts.listed o p row
                      (ap (λ z. row_at z o p) (sym is.resident) ∙ found) ∙ here)),
                  ap free is.frames,
                );
            kept = λ o p row found here skips. ap (λ z. row_at z o p) is.resident ∙ found;
          };
    })

-- a clean page was dropped
took_freed : (header : Header) (h : ℕ) (outside : Outside) (doing : Command) (past : List Event) (ids : Ids) (skip : List FrameNo) (k k2 : Parts)
    (before after : List Event)
    → Rests header h k ids (before ++ past) → Beside k k2 → SkipLocked k.memory.resident skip → KeepsPages k.memory.queues (queues_after_search k.memory.queues)
    → MayTake header h doing (before ++ past) → IsFreed k.host skip k.memory k2.memory k.laundry k2.laundry before after
    → Took header h outside doing past ids reclaim.Freed skip k k2 before after
took_freed header h outside doing past ids skip k k2 before after rests beside locked keeps may freed =
    let m = rests.matches in
    let key = freed.key in
    let row = freed.row in
    let page = freed.page in
    let moment = before ++ past in
    let e = drops h key in
    let log : after ≡ e ∷ before = freed.events ∙ ap (λ z. event.Dropped z key.object key.page ∷ before) (named_host k.host h m.core.setting.numbered) in
    let none = unsent skip k.memory.resident key.object.0 key.page.0 row locked page.found freed.victim.unskipped in
    let gone : Amidst header h (record k { memory = k2.memory }) ids [] woken.Nobody (e ∷ moment) =
    amidst_gone key (inside_touched (queues_after_search k.memory.queues) (inside rests) keeps refl) freed.victim.here none page freed.objects beside.fit
    beside.buffers in
    let seen = seen_of key (inside rests) page.found freed.victim.here in
    let follows : Follows header h outside doing e moment = drop_follows key seen.here gone
    (ForFrames (seen.dirty ∙ freed.clean) (seen.precious ∙ freed.plain)
    (may_take header h doing key.object.0 key.page.0 moment (seen.unlocking ∙ none) may)) tt in
    subst (λ (z : List Event). Took header h outside doing past ids reclaim.Freed skip k k2 before z) (sym log)
    (record {
      rests =
          rests_beside beside (subst (λ (z : LaundryList). Amidst header h (record k { memory = k2.memory; laundry = z }) ids [] woken.Nobody (e ∷ moment))
          (sym freed.laundry) gone) (record { none_owed = refl; shut = λ region. refl }) (replied_behind tt m.replied) (rw freed.objects
          (referred_gone key.object.0 key.page.0 k.chains k.memory.objects k.memory.resident k2.memory.resident page.row rests.referred))
          (rw freed.objects rests.thin) rests.idle;
      goes = goes_one header h outside doing past before e m.settled follows;
      gone = record { more = e ∷ []; is = refl; each = (refl, tt) };
      reclaimed =
          record {
            waits = beside.waits;
            freed = λ same. (let less = page.claims in omega arith, (rw (own_host h) refl));
            returned = λ bad. absurd (let clash : reclaim.Freed ≡ reclaim.Returned = bad in cc);
            nothing = λ bad. absurd (let clash : reclaim.Freed ≡ reclaim.Nothing = bad in cc);
            kept =
                λ o p other found here skips. row_stays skip key row k.memory.resident k2.memory.resident page.found page.row freed.victim.unskipped o p other
                found skips;
          };
    })

-- a page is on its way to its pager, in its frame
on_its_way : (h : ℕ) (skip : List FrameNo) (k k2 : Parts) (before after : List Event) → Beside k k2 → claimed k2.memory.frames + 1 ≡ claimed k.memory.frames + 1
    → free k2.memory.frames + 1 ≡ free k.memory.frames + 1 → departures h after ≡ departures h before + 1 → 0 < returns_out h after
    → ((o p : ℕ) (other : PageRow) → row_at k.memory.resident o p ≡ Some other → is_skipped skip other.frame.0 ≡ true
    → row_at k2.memory.resident o p ≡ Some other) → FreesBut h skip reclaim.Returned k k2 before after
on_its_way h skip k k2 before after beside claims left less out stay =
    record {
      waits = beside.waits;
      freed = λ bad. absurd (let clash : reclaim.Returned ≡ reclaim.Freed = bad in cc);
      returned =
          λ same. (
            let kept : claimed k2.memory.frames ≡ claimed k.memory.frames = omega arith in kept,
            less,
            let kept : free k2.memory.frames ≡ free k.memory.frames = omega arith in kept,
            out,
          );
      nothing = λ bad. absurd (let clash : reclaim.Returned ≡ reclaim.Nothing = bad in cc);
      kept = λ o p other found here skips. stay o p other found skips;
    }

-- that a pager is told of an object
abbrev pub creating : ℕ → PageKey → ℕ → ℕ → Event
creating h key control size = event.Sent (Up (host_id h) key.object) (message.Create control size)

earlier : (o o2 count : ℕ) → count ≤ o → o2 < count → (o == o2) ≡ false
earlier o o2 count later less = grind (arith, nat_tests)

-- its first control is made, of an object that had none
inside_created : {header : Header} {h : ℕ} {k : Parts} {ids : Ids} {past : List Event} {row : ObjectRow} (key : PageKey) (os : ObjectTable)
    → Amidst header h k ids [] woken.Nobody past → object_at k.memory.objects key.object.0 ≡ Some row → row.state ≡ state.Without → row.control ≡ 0
    → live_control h key.object.0 past ≡ None → PutsObject key.object.0 (Some (controlled row)) k.memory.objects os → SameMarks k.memory.objects os
    → AllLive os
    → Amidst header h (record k { memory = record k.memory { objects = os } }) ids [] woken.Nobody (creating h key (row.control + 1) header.size ∷ past)
inside_created {header = header} {h = h} {k = k} {past = past} {row = row} key os a found without none dead puts marks all_live =
    let core = a.core in
    let o = key.object.0 in
    let now = creating h key (row.control + 1) header.size ∷ past in
    let put = subst (λ (z : PagerState). PutsObject o (Some (row_with_control z row)) k.memory.objects os) without puts in
    let controls : HasControls (named header) h os (λ o2. last_control h o2 now) (λ o2. live_control h o2 now) (λ o2. is_ready h o2 now)
    (λ o2. object_home o2 past) = rw (own_host h) (controls_begun k.memory.objects os _ _ _ o row core.controls all_live found none put) in
    let kind = core.objects.kinds.kinds o row found in
    let uncached : row.cache ≡ false = elim (kind_cases header o) [
      | inl declared ↦ let number = (kind.declared declared).number in absurd (omega (arith, number, none))
      | inr temporary ↦ (kind.temporary temporary).uncached
    ] in
    let later : named header ≤ o = elim (kind_cases header o) [
      | inl declared ↦ let number = (kind.declared declared).number in absurd (omega (arith, number, none))
      | inr temporary ↦ temporary
    ] in
    record {
      core = record {
        setting = core.setting;
        calm = rw (own_host h) (λ o2 is. let was = core.calm o2 is in
            (was.0, ap (λ b. if b then Some (row.control + 1) else live_control h o2 past) (earlier o o2 (named header) later was.0) ∙ was.1));
        fits = fits_known found put refl core.fits;
        spaces = core.spaces;
        objects =
            objects_known found put marks refl refl refl (kind_controlled header o state.Without row without (core.objects.kinds.kinds o row found))
            core.objects;
        copied = copied_put o row (row_with_control state.Without row) os found put refl (λ some. record { row = row; known = found; some = some }) core.copied;
        controls = controls;
        flags = rw (own_host h) (flags_set o (row_with_control state.Without row) false put uncached core.flags);
        pages = record {
          shown = pages_marked k.memory.frames k.memory.resident k.memory.objects os
              (λ o2 p2. known_local header o2 p2 (local header h (place_of o2 p2) now))
              (rw (own_host h)
              (pages_known header header.size (λ o2 p2. if o == o2 then Begins else Elsewhere) (λ o2 p2. local header h (place_of o2 p2) past)
              (λ o2 p2. other_if (o == o2) Begins tt)
              (pages_created header.size k.memory.frames k.memory.resident k.memory.objects
              (λ o2 p2. known_local header o2 p2 (local header h (place_of o2 p2) past)) o core.pages.shown (λ q. unasked header h o q past dead)))) marks;
          washed = core.pages.washed;
          counted = core.pages.counted;
        };
      };
      used = a.used;
      waits = waits_quiet header h (creating h key (row.control + 1) header.size) past
          (λ place. quiet_if (h == h && o == place.object.0) Begins Elsewhere tt tt)
          (waits_told k.maps k.chains k.memory.resident k.memory.objects os k.waits.rows (is_woken woken.Nobody) _ a.waits
          (told_all k.maps k.chains k.memory.objects os (told_controlled k.memory.objects os o row found puts))
          (λ o2 p2 r2 there is. ready_controlled k.memory.objects os o row found puts o2 is));
      order = a.order;
    }

-- the references stay, where a page has gone and its object has a control
referred_returned : {o p : ℕ} {object : ObjectRow} (k k2 : Parts) → AllReferred k.chains k.memory.objects k.memory.resident
    → object_at k.memory.objects o ≡ Some object → PutsObject o (Some (controlled object)) k.memory.objects k2.memory.objects
    → (controlled object).live ≡ true → IsReferred k.memory.objects o → PutsRow o p None k.memory.resident k2.memory.resident
    → AllReferred k.chains k2.memory.objects k2.memory.resident
referred_returned {o = o} {p = p} {object = object} k k2 all known put live is row =
    let counts = counts_controlled object.state object in
    let some : 0 < (controlled object).references =
    subst (λ (z : ℕ). 0 < z) (ap (λ (z : ObjectRow). z.references) (some_is is.row object (sym is.known ∙ known)) ∙ sym counts.references) is.some in
    referred_gone o p k.chains k2.memory.objects k.memory.resident k2.memory.resident row
    (referred_controlled o object (controlled object) k.chains k.memory.objects k2.memory.objects k.memory.resident known put counts.references
    (λ lives. some) (λ lives. live) counts.kind all)

-- so nothing can be merged still
thin_returned : {o : ℕ} {object : ObjectRow} (k k2 : Parts) → IsThin k.copies k.chains k.memory.objects → object_at k.memory.objects o ≡ Some object
    → PutsObject o (Some (controlled object)) k.memory.objects k2.memory.objects → IsThin k.copies k.chains k2.memory.objects
thin_returned {o = o} {object = object} k k2 thin known put =
    let counts = counts_controlled object.state object in
    thin_objects k.chains k.memory.objects k2.memory.objects
    (references_put o object (controlled object) k.memory.objects k2.memory.objects known counts.references (never_controlled object.state object) put) thin

-- what is said where a page goes back
abbrev sent_back : PageKey → Bool → ObjectRow → List ℕ → List Event → ℕ → PagerState → HostId → List Event
sent_back key dirty object bytes events size pager host =
    sends host key (message.Return (row_with_control pager object).control key.page dirty false bytes)
    ∷ told_from pager (sends host key (message.Create (row_with_control pager object).control size)) events

-- a changed page was returned, to a pager that was told of the object
took_told : (header : Header) (h : ℕ) (outside : Outside) (doing : Command) (past : List Event) (ids : Ids) (skip : List FrameNo) (k k2 : Parts)
    (before after : List Event) → Rests header h k ids (before ++ past) → Beside k k2 → SkipLocked k.memory.resident skip
    → KeepsPages k.memory.queues (queues_after_search k.memory.queues) → MayTake header h doing (before ++ past)
    → (is : IsReturned k.host skip k.memory k2.memory k.laundry k2.laundry before after) → has_pager is.object.state ≡ true → controlled is.object ≡ is.object
    → after ≡ gives h is.key is.object.control is.row.dirty false (page_in k.memory.frames is.row.frame.0) ∷ before
    → Took header h outside doing past ids reclaim.Returned skip k k2 before after
took_told header h outside doing past ids skip k k2 before after rests beside locked keeps may is paged same log =
    let m = rests.matches in
    let key = is.key in
    let row = is.row in
    let page = is.page in
    let o = key.object.0 in
    let p = key.page.0 in
    let moment = before ++ past in
    let e = gives h key is.object.control row.dirty false (page_in k.memory.frames row.frame.0) in
    let seen = seen_of key (inside rests) page.found is.victim.here in
    let none = unsent skip k.memory.resident o p row locked page.found is.victim.unskipped in
    let kind = m.core.objects.kinds.kinds o is.object is.known in
    let objects : SameObjects k.memory.objects k2.memory.objects = record {
      at = controls_told k.memory.objects k2.memory.objects o is.object is.known same
          is.objects;
    } in
    let back : Amidst header h (record k { memory = k2.memory; laundry = k2.laundry }) ids [] woken.Nobody (e ∷ moment) =
    amidst_returned key is.object.control (inside_touched (queues_after_search k.memory.queues) (inside rests) keeps refl) is.victim.here none page objects
    is.present beside.fit beside.buffers is.held is.room in
    let why : ReturnCause header doing h o p false moment = ForFrames refl (may_take header h doing o p moment (seen.unlocking ∙ none) may) in
    let follows : Follows header h outside doing e moment = return_follows key is.object.control (inside rests) page.found is.victim.here is.wanted
    (live_at k.memory.objects o is.known (kind.lives ∙ paged)) back why tt in
    subst (λ (z : List Event). Took header h outside doing past ids reclaim.Returned skip k k2 before z) (sym log)
    (record {
      rests =
          rests_beside beside back (record { none_owed = refl; shut = λ region. refl }) (replied_behind tt m.replied)
          (referred_returned k k2 rests.referred is.known is.objects is.live
          (rests.referred.pages o p row page.found) page.row) (thin_returned k k2 rests.thin is.known is.objects) rests.idle;
      goes = goes_one header h outside doing past before e m.settled follows;
      gone = record { more = e ∷ []; is = refl; each = (refl, tt) };
      reclaimed =
          on_its_way h skip k k2 moment (e ∷ moment) beside page.claims page.left (rw (own_host h) refl) (rw (own_host h) (omega arith))
          (row_stays skip key row k.memory.resident k2.memory.resident page.found page.row is.victim.unskipped);
    })

-- a changed page was returned, and its pager told of the object first
took_first : (header : Header) (h : ℕ) (outside : Outside) (doing : Command) (past : List Event) (ids : Ids) (skip : List FrameNo) (k k2 : Parts)
    (before after : List Event) → Rests header h k ids (before ++ past) → Beside k k2 → SkipLocked k.memory.resident skip
    → KeepsPages k.memory.queues (queues_after_search k.memory.queues) → MayTake header h doing (before ++ past)
    → (is : IsReturned k.host skip k.memory k2.memory k.laundry k2.laundry before after) → is.object.state ≡ state.Without
    → after ≡ gives h is.key (is.object.control + 1) is.row.dirty false (page_in k.memory.frames is.row.frame.0) ∷ creating h is.key (is.object.control + 1)
    header.size ∷ before → Took header h outside doing past ids reclaim.Returned skip k k2 before after
took_first header h outside doing past ids skip k k2 before after rests beside locked keeps may is without log =
    let m = rests.matches in
    let key = is.key in
    let row = is.row in
    let page = is.page in
    let o = key.object.0 in
    let p = key.page.0 in
    let control = is.object.control + 1 in
    let h0 = before ++ past in
    let e1 = creating h key control header.size in
    let e2 = gives h key control row.dirty false (page_in k.memory.frames row.frame.0) in
    let moment = e1 ∷ h0 in
    let referred = rests.referred.pages o p row page.found in
    let kind = m.core.objects.kinds.kinds o is.object is.known in
    let temporary = untold_temporary header k.memory.objects o is.object row m.core.setting.ranged is.known kind
    (rests.referred.locks o p row page.found) without in
    let first = first_of_object header k.memory.objects o is.object referred is.known kind temporary in
    let none : is.object.control ≡ 0 = first.number ∙ ap (λ z. if has_pager z then 1 else 0) without in
    let dead : live_control h o h0 ≡ None = m.core.controls.live o
    ∙ (ap live_in is.known ∙ ap (λ b. if b then Some is.object.control else None) (first.live ∙ ap has_pager without)) in
    let os : ObjectTable = record (k2.memory.objects) { absent = k.memory.objects.absent } in
    let told : Amidst header h (record k { memory = record (looked k.memory) { objects = os } }) ids [] woken.Nobody moment =
    inside_created key os (inside_touched (queues_after_search k.memory.queues) (inside rests) keeps refl) is.known without none dead
    (record { at = is.objects.at }) (record { at = λ o2 p2. refl }) (record { at = beside.live.at }) in
    let unlocked = unsent skip k.memory.resident o p row locked page.found is.victim.unskipped in
    let back : Amidst header h (record k { memory = k2.memory; laundry = k2.laundry }) ids [] woken.Nobody (e2 ∷ moment) =
    amidst_returned key control told is.victim.here unlocked (changes_among (record (looked k.memory) { objects = os }) k2.memory page)
    (record { at = λ o2. refl })
    (record { at = is.present.at }) beside.fit beside.buffers is.held is.room in
    let seen = seen_of key (inside rests) page.found is.victim.here in
    let alive : live_in (object_at k2.memory.objects o) ≡ Some control =
    ap live_in (known_put o (controlled is.object) k.memory.objects k2.memory.objects is.objects)
    ∙ ap (λ z. live_in (Some (row_with_control z is.object))) without in
    let why : ReturnCause header doing h o p false moment = Created control header.size h0 refl refl
    (may_take header h doing o p h0 (seen.unlocking ∙ unlocked) may) in
    let follows : Follows header h outside doing e2 moment =
    return_follows key control told page.found is.victim.here is.wanted alive back why tt in
    let creates : Creates header h control o header.size h0 =
    record {
      number = ap (λ z. z + 1) none;
      sized = refl;
      temporary = temporary;
      never = m.core.controls.last o ∙ (ap last_in is.known ∙ none);
      page = p;
      here = seen.here;
    } in
    subst (λ (z : List Event). Took header h outside doing past ids reclaim.Returned skip k k2 before z) (sym log)
    (record {
      rests =
          rests_beside beside back (record { none_owed = refl; shut = λ region. refl }) (replied_behind tt (replied_behind tt m.replied))
          (referred_returned k k2 rests.referred is.known is.objects is.live referred
          page.row) (thin_returned k k2 rests.thin is.known is.objects) rests.idle;
      goes =
          record {
            more = e2 ∷ e1 ∷ [];
            is = refl;
            follows = (tt, (tt, tt));
            licensed = ((follows.cause, refl), ((creates, behind_none e1 h0 m.settled.none_owed), tt));
            own_bytes = (tt, (tt, tt));
            frames = (follows.frames, (suffices header h k.memory.frames moment m.core.pages.counted, tt));
            inner = (tt, (tt, tt));
            said = (follows.said, (refl, tt));
            mine = (
              mine_of header h e2 moment (λ region. refl) follows.own tt,
              (mine_of header h e1 h0 m.settled.shut (own_named h) (m.core.controls.home o is.object temporary is.known), tt),
            );
          };
      gone = record { more = e2 ∷ e1 ∷ []; is = refl; each = (refl, (refl, tt)) };
      reclaimed =
          on_its_way h skip k k2 h0 (e2 ∷ moment) beside page.claims page.left (rw (own_host h) refl) (rw (own_host h) (omega arith))
          (row_stays skip key row k.memory.resident k2.memory.resident page.found page.row is.victim.unskipped);
    })

took_returned : (header : Header) (h : ℕ) (outside : Outside) (doing : Command) (past : List Event) (ids : Ids) (skip : List FrameNo) (k k2 : Parts)
    (before after : List Event) → Rests header h k ids (before ++ past) → Beside k k2 → SkipLocked k.memory.resident skip
    → KeepsPages k.memory.queues (queues_after_search k.memory.queues) → MayTake header h doing (before ++ past)
    → IsReturned k.host skip k.memory k2.memory k.laundry k2.laundry before after → Took header h outside doing past ids reclaim.Returned skip k k2 before after
took_returned header h outside doing past ids skip k k2 before after rests beside locked keeps may is = go is.object.state refl
  where
    bytes : List ℕ
    bytes = page_in k.memory.frames is.row.frame.0

    log : (pager : PagerState) → is.object.state ≡ pager → after ≡ sent_back is.key is.row.dirty is.object bytes before header.size pager (host_id h)
    log pager same =
        is.events
        ∙ (ap (λ z. sent_back is.key is.row.dirty is.object bytes before z is.object.state k.host)
        (rests.matches.core.fits.buffers ∙ rests.matches.core.setting.sized)
        ∙ (ap (sent_back is.key is.row.dirty is.object bytes before header.size is.object.state) (named_host k.host h rests.matches.core.setting.numbered)
        ∙ ap (λ z. sent_back is.key is.row.dirty is.object bytes before header.size z (host_id h)) same))

    go : (pager : PagerState) → is.object.state ≡ pager → Took header h outside doing past ids reclaim.Returned skip k k2 before after
    go state.Without same = took_first header h outside doing past ids skip k k2 before after rests beside locked keeps may is same (log state.Without same)
    go state.Sent same =
        took_told header h outside doing past ids skip k k2 before after rests beside locked keeps may is (ap has_pager same)
        (ap (λ z. row_with_control z is.object) same) (log state.Sent same)
    go state.Ready same =
        took_told header h outside doing past ids skip k k2 before after rests beside locked keeps may is (ap has_pager same)
        (ap (λ z. row_with_control z is.object) same) (log state.Ready same)

-- a page was reclaimed, or none is here
pub took : (header : Header) (h : ℕ) (outside : Outside) (doing : Command) (past : List Event) (ids : Ids) (answer : Reclaim) (skip : List FrameNo)
    (k k2 : Parts) (before after : List Event) → Rests header h k ids (before ++ past) → Beside k k2 → SkipLocked k.memory.resident skip
    → KeepsPages k.memory.queues (queues_after_search k.memory.queues) → MayTake header h doing (before ++ past)
    → ReclaimEffects answer k.host skip k.memory k2.memory k.laundry k2.laundry before after
    → Took header h outside doing past ids answer skip k k2 before after
took header h outside doing past ids reclaim.Freed skip k k2 before after rests beside locked keeps may is =
    took_freed header h outside doing past ids skip k k2 before after rests beside locked keeps may is
took header h outside doing past ids reclaim.Returned skip k k2 before after rests beside locked keeps may is =
    took_returned header h outside doing past ids skip k k2 before after rests beside locked keeps may is
took header h outside doing past ids reclaim.Nothing skip k k2 before after rests beside locked keeps may is =
    took_nothing header h outside doing past ids skip k k2 before after rests beside is

-- the lists of pages have another order

pub rests_touched : (header : Header) (h : ℕ) (ids : Ids) (k : Parts) (queues : Queues) (past : List Event) → Rests header h k ids past
    → KeepsPages k.memory.queues queues → queues.frames ≡ k.memory.queues.frames
    → Rests header h (record k { memory = record k.memory { queues = queues } }) ids past
rests_touched header h ids k queues past rests keeps count =
    rests_of (record k { memory = record k.memory { queues = queues } }) (inside_touched queues (inside rests) keeps count) rests.matches.settled
    rests.matches.replied
    rests.referred rests.thin rests.idle

pub reclaimed_touched : (h : ℕ) (answer : Reclaim) (skip : List FrameNo) (k k2 : Parts) (queues : Queues) (before after : List Event)
    → FreesBut h skip answer (record k { memory = record k.memory { queues = queues } }) k2 before after → FreesBut h skip answer k k2 before after
reclaimed_touched h answer skip k k2 queues before after r =
    record { waits = r.waits; freed = r.freed; returned = r.returned; nothing = r.nothing; kept = r.kept }

-- each page on a list is skipped, so each that is here is
pub all_skipped : (header : Header) (h : ℕ) (skip : List FrameNo) (k : Parts) (queues : Queues) (ids : Ids) (past : List Event) → Rests header h k ids past
    → AllSkipped skip k.memory.queues → FreesBut h skip reclaim.Nothing k (record k { memory = record k.memory { queues = queues } }) past past
all_skipped header h skip k queues ids past rests all =
    record {
      waits = refl;
      freed = λ bad. absurd (let clash : reclaim.Nothing ≡ reclaim.Freed = bad in cc);
      returned = λ bad. absurd (let clash : reclaim.Nothing ≡ reclaim.Returned = bad in cc);
      nothing = λ same. (refl, (λ o p row found here. all row.frame.0 (rests.matches.core.fits.parts.listed o p row found ∙ here)), refl);
      kept = λ o p row found here skips. found;
    }

-- a page is on a list, so a frame is not held by a return
pub room_for : (header : Header) (h : ℕ) (k : Parts) (ids : Ids) (past : List Event) (f : ℕ) → Rests header h k ids past → is_queued k.memory.queues f ≡ true
    → 0 < k.laundry.room
room_for header h k ids past f rests listed = go (owner_of k.memory.resident f) refl
  where
    m : Matches header h k ids [] past
    m = rests.matches

    mine : (b : Bool) (key : PageKey) → is_claimed k.memory.frames f ≡ b → owner_of k.memory.resident f ≡ Some key → is_claimed k.memory.frames f ≡ true
    mine true key is owner = is
    mine false key is owner = absurd (let bad : None ≡ Some key = sym (m.core.fits.parts.unowned f is) ∙ owner in cc)

    go : (x : Option PageKey) → owner_of k.memory.resident f ≡ x → 0 < k.laundry.room
    go None none = absurd (let bad : false ≡ true = sym (m.core.fits.parts.unlisted f none) ∙ listed in cc)
    go (Some key) owner =
        laundry_room k.memory.frames k.memory.resident k.laundry (returns_out h past) f key m.core.pages.washed (omega (arith, m.core.pages.counted.fits))
        (mine (is_claimed k.memory.frames f) key refl owner) owner

-- the front of the frame queue has to wait

-- a page that is here has a row that says so
here_row : (fs : FrameTable) (x : Option PageRow) (lacked : Bool) → (local_of_row fs x lacked).here ≡ true → (row : PageRow) × (x ≡ Some row)
    × (row.here ≡ true)
here_row fs None lacked bad = absurd (let no : false ≡ true = bad in cc)
here_row fs (Some row) lacked is = (row, refl, is)

-- the place of a page that is spared
abbrev spare_of : Option PageKey → Option Place
spare_of None = None
spare_of (Some key) = Some (place_of key.object.0 key.page.0)

-- each page that is here is the one that is spared, and that was to be copied at a moment, or somebody waits for its unlock: so nothing can be reclaimed
pub exhausted : (header : Header) (h : ℕ) (k : Parts) (ids : Ids) (spared : Option PageKey) (moment past : List Event) → Rests header h k ids past
    → IfSome spared (λ key. IsSource header h key.object.0 key.page.0 moment)
    → ((o p : ℕ) (row : PageRow) → row_at k.memory.resident o p ≡ Some row → row.here ≡ true → (spared ≡ Some (page_key o p)) ⊎ (row.unlock_sent ≡ true))
    → IsExhausted header h moment past
exhausted header h k ids spared moment past rests source each =
    record {
      spare = spare_of spared;
      source = source_spared spared source;
      held = λ o p here. elim (only o p here) [ inl one ↦ inr (ap spare_of one) | inr waits ↦ inl waits ];
    }
  where
    m : Matches header h k ids [] past
    m = rests.matches

    source_spared : (x : Option PageKey) → IfSome x (λ key. IsSource header h key.object.0 key.page.0 moment)
        → IfSome (spare_of x) (λ place. IsSource header h place.object place.page moment)
    source_spared None is = tt
    source_spared (Some key) is = is

    only : (o p : ℕ) → (local header h (place_of o p) past).here ≡ true → (spared ≡ Some (page_key o p)) ⊎ WaitsUnlocked header h o p past
    only o p here =
        let row = here_row k.memory.frames (row_at k.memory.resident o p) (absent_at k.memory.objects o p)
        (ap (λ z. z.here) (sym (m.core.pages.shown.shown o p)) ∙ here) in
        elim (each o p row.0 row.1 row.2) [
          | inl one ↦ inl one
          | inr sent ↦ inr (waits_unlocked header h k ids past o p row.0 m rests.waits rests.used.copies row.1 row.2 sent)
        ]

-- the page that is to be copied is so
pub source_of : (header : Header) (h : ℕ) (k : Parts) (source : Option PageKey) (past : List Event) → IsToCopy header h k source past
    → IfSome source (λ key. IsSource header h key.object.0 key.page.0 past)
source_of header h k None past is = tt
source_of header h k (Some key) past is = is.0

-- nothing was freed
pub full_after : (header : Header) (h : ℕ) (k k2 : Parts) (ids : Ids) (spared : Option PageKey) (answer : Reclaim) (past after : List Event)
    → Rests header h k2 ids after → free k.memory.frames ≡ 0 → IsToCopy header h k spared past → FreesOrReturns h spared answer k k2 past after
    → (answer ≡ reclaim.Returned) ⊎ (answer ≡ reclaim.Nothing) → HostIsFull header h after
full_after header h k k2 ids spared answer past after rests none source r (inl returned) =
    let all = r.returned returned in
    record { none = free_is header h k2.memory.frames after rests.matches.core.pages.counted ∙ (all.2 ∙ none); why = inl all.3 }
full_after header h k k2 ids spared answer past after rests none source r (inr nothing) =
    let all = r.nothing nothing in
    let still = subst (λ (z : List Event). IfSome spared (λ key. IsSource header h key.object.0 key.page.0 z)) (sym all.0)
    (source_of header h k spared past source) in
    record {
      none = free_is header h k2.memory.frames after rests.matches.core.pages.counted ∙ (all.2 ∙ none);
      why = inr (exhausted header h k2 ids spared after after rests still all.1);
    }
