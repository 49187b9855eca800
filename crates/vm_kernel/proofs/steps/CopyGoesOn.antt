-- A slow copy makes its next page and goes on: what that leaves of the kernel, and its cause.
use Rattle.vm_kernel.proofs.memory.CoreChanges.{core_rerowed}
use Rattle.vm_kernel.proofs.Common.{AllReferred, ChainTable, Command, Event, FrameNo, HasOrder, HasWaits, Header, HostParts, Ids, IsAllowed, IsAt, IsFilledIn}
use Rattle.vm_kernel.proofs.Common.{IsSizedWant, List, Local, Mapped, Matches, None, ObjectId, On, Option, Outside, PageKey, PageRow, Parts, PutsRow, Raises}
use Rattle.vm_kernel.proofs.Common.{Reason, Region, RegionRow, ResidentTable, Some, Suffice, Target, TaskId, WaitTable, Waiting, Want, Works, [], absent_at}
use Rattle.vm_kernel.proofs.Common.{access_in, address_in, ap, arith, begun_at, clean_row, copies_to, copy_target, entries_of, entry, entry_at, eqb_tells}
use Rattle.vm_kernel.proofs.Common.{false, fills_in, host_of, if◌then◌else◌, inl, inr, local, local_of_row, named, need_in, next_page, page_at, page_in}
use Rattle.vm_kernel.proofs.Common.{page_on, place_of, puts_cases, refl, region_at, region_of, row_at, row_cases, rows_in, shadow_at, some_is, subst, suc, sym}
use Rattle.vm_kernel.proofs.Common.{true, unlocked, waiting, waiting_in, zero, ℕ, ◌*◌, ◌+◌, ◌<◌, ◌==◌, ◌∙◌, ◌∷◌, ◌≡◌, ◌≤◌, ◌⊎◌}
use Rattle.vm_base.specs.declared.entry.Entry.{Entry}
use Rattle.vm_base.specs.declared.ids.Access.TheVariants as need
use Rattle.vm_fault.specs.Faults.{CopiesPage, KeepsPlan, References, copied_key}
use Rattle.vm_fault.specs.Walks.{Finds, WalksTo, keeps_out}
use Rattle.vm_kernel.proofs.controls.DeclaredKinds.{temporary_free}
use Rattle.vm_kernel.proofs.memory.ComesForAccess.{asks_none_now, page_referred, page_waits}
use Rattle.vm_kernel.proofs.steps.AccessCauses.{read_at}
use Rattle.vm_kernel.proofs.steps.EventsGrow.{Follows, suffices}
use Rattle.vm_kernel.proofs.memory.WhatIsKnown.{known_on}
use Rattle.vm_kernel.proofs.steps.WhereAccessLeads.{Leads, declared_bottom, leads_of}
use Rattle.vm_kernel.proofs.abroad.OwnEvents.{own_lives}
use Rattle.vm_kernel.proofs.steps.RowsInOrder.{PutsInOrder}
use Rattle.vm_kernel.proofs.abroad.OwnHost.{lives_here, own_host}
use Rattle.vm_kernel.proofs.memory.PagesShown.{bytes_now, itself, pages_moved, shown_as, shown_here}
use Rattle.vm_kernel.proofs.controls.LockReplied.{replied_behind}
use Rattle.vm_kernel.proofs.memory.WalksShown.{page_left, shown_at}
use Rattle.vm_legal.specs.Accesses.{HasPageLeft}
use Rattle.vm_kernel.proofs.abroad.OtherLists.{matches_with}
use Rattle.vm_kernel.specs.Serving.{runs_now}
use Rattle.vm_legal.specs.Outside.{is_wild}
use Rattle.vm_legal.specs.Walks.{IsTop}
use Rattle.vm_model.specs.Local.{CanRead}
use Rattle.vm_model.specs.declared.event.Event.TheVariants as event
use Rattle.vm_parts.proofs.Fitting.{fit_touched}
use Rattle.vm_parts.specs.Changes.{RaisesPage}
use Rattle.vm_state.proofs.Filling.{SameFills, fills_put, regions_filled}
use Rattle.vm_state.proofs.Referring.{refers_region}
use Rattle.vm_state.proofs.Shown.{IsShown, ShowsRow, shows_row}
use Rattle.vm_state.proofs.Waited.{AreTold}
use Rattle.vm_state.proofs.Locks.{open_number}
use Rattle.vm_state.proofs.Waiting.{AsksNone, Suits, asker_kept, here_unawaited, none_unawaited, waiters_put}
use Rattle.vm_state.specs.Filling.{FitsCopy, IsAlone, IsCopied, IsSlow, filled_row, is_destination}
use Rattle.vm_state.specs.Places.{known_local}
use Rattle.vm_state.specs.Waiters.{is_woken}
use Rattle.vm_supply.specs.declared.woken.Woken.TheVariants as woken
use Rattle.vm_waits.specs.Waits.{with_want}
use Rattle.vm_waits.specs.declared.waiting.Destination.{Destination}
use Rattle.vm_waits.specs.declared.waiting.On.TheVariants as on
use Rattle.vm_waits.specs.declared.waiting.Want.TheVariants as want
use Rattle.vm_copies.specs.Copies.{copy_at}
use Rattle.vm_kernel.proofs.memory.PageChanges.{same_objects}
use Rattle.vm_kernel.proofs.memory.PagesPushed.{copied_beside}
use Rattle.vm_kernel.proofs.steps.WhereAccessLeads.{is_fresh}
use Rattle.vm_kernel.proofs.memory.PlacesPassed.{waits_filled}
use Rattle.vm_state.specs.Passed.{IsUnmet, Passed, StaysAway}
use Rattle.vm_kernel.proofs.space.RegionsFilled.{place_unfilled}
use Rattle.vm_merge.specs.Merges.{IsThin}
use Rattle.vm_state.proofs.Waiting.{words_same}

-- a slow copy has made its next page, which its row doesn't say yet
pub record Copying (header : Header) (h : ℕ) (k : Parts) (ids : Ids) (past : List Event) (w : Waiting) (address pages : ℕ) (target : ObjectId) (next : ℕ) : Type
    0 where
  pub matches : Matches header h k ids [] past
  pub regions : (r : ℕ) (row : RegionRow) → region_at k.chains r ≡ Some row → (0 < row.entries) ⊎ IsFilledIn k.waits.rows r
  pub is : entry k.waits.rows w.task.0 ≡ Some w
  pub what : w.want ≡ want.CopyTo address pages target next
  pub slow : IsSlow header k.maps k.chains k.memory.resident w.task.0 address pages target (next + 1) w.destination (next_page w.task.0 past)
      (copy_target w.task.0 past)
  pub others : (t : ℕ) (v : Waiting) → (w.task.0 ≡ t → ⊥) → entry k.waits.rows t ≡ Some v
      → FitsCopy header k.maps k.chains k.memory.resident t v.want v.destination (next_page t past) (copy_target t past)
  pub apart : (t u r : ℕ) → fills_in r (entry k.waits.rows t) ≡ true → fills_in r (entry k.waits.rows u) ≡ true → t ≡ u
  pub referred : AllReferred k.chains k.memory.objects k.memory.resident
  pub thin : IsThin k.copies k.chains k.memory.objects
  pub waits : HasWaits header h k woken.Nobody past
  pub order : HasOrder k past

-- what a slow copy that waits is

pub slow_of : {header : Header} {h : ℕ} {k : Parts} {ids : Ids} {past : List Event} {w : Waiting} {address pages next : ℕ} {target : ObjectId}
    → Works header h k ids woken.Nobody past → entry k.waits.rows w.task.0 ≡ Some w → w.want ≡ want.CopyTo address pages target next
    → IsSlow header k.maps k.chains k.memory.resident w.task.0 address pages target next w.destination (next_page w.task.0 past) (copy_target w.task.0 past)
slow_of {header = header} {k = k} {past = past} {w = w} works is what =
    subst (λ (z : Want). FitsCopy header k.maps k.chains k.memory.resident w.task.0 z w.destination (next_page w.task.0 past) (copy_target w.task.0 past)) what
    (works.used.copies.each w.task.0 w is)

pub sized_of : {header : Header} {h : ℕ} {k : Parts} {ids : Ids} {past : List Event} {w : Waiting} {address pages next : ℕ} {target : ObjectId}
    → Works header h k ids woken.Nobody past → entry k.waits.rows w.task.0 ≡ Some w → w.want ≡ want.CopyTo address pages target next
    → IsSizedWant k.maps.size (want.CopyTo address pages target next)
sized_of {k = k} {w = w} works is what = subst (λ (z : Want). IsSizedWant k.maps.size z) what (works.waits.sized w.task.0 w is)

-- the history has it so too, with another page made

matches_copied : (header : Header) (h : ℕ) (k : Parts) (ids : Ids) (past : List Event) (task : TaskId) (low : PageKey) (target : ObjectId) (next : ℕ)
    (row : PageRow) (frame : FrameNo) (memory : HostParts) → Matches header h k ids [] past → host_of task.0 past ≡ Some h
    → row_at k.memory.resident low.object.0 low.page.0 ≡ Some row → row.here ≡ true
    → RaisesPage (copied_key target next) frame (page_in k.memory.frames row.frame.0) k.memory memory → KeepsPlan k.memory memory
    → copy_at k.copies target.0 ≡ None
    → Matches header h (record k { memory = memory }) ids [] (event.CopiedPage task (record { 0 = next }) low.object low.page target ∷ past)
matches_copied header h k ids past task low target next row frame memory m lives found here c plan plain =
    let top = copied_key target next in
    let e : Event = event.CopiedPage task (record { 0 = next }) low.object low.page target in
    let lower : Local = local header h (place_of low.object.0 low.page.0) past in
    let lacked = absent_at k.memory.objects low.object.0 low.page.0 in
    let now : PageRow = record (clean_row frame unlocked false) { dirty = true } in
    let seen : known_local header low.object.0 low.page.0 lower ≡ shown_as row true true (page_in k.memory.frames row.frame.0) lacked =
    m.core.pages.shown.shown low.object.0 low.page.0 ∙ (ap (λ z. local_of_row k.memory.frames z lacked) found ∙ shown_here k.memory.frames row lacked here) in
    let same : lower.bytes ≡ page_in memory.frames frame.0 = ap (λ (z : Local). z.bytes) seen ∙ sym (bytes_now top frame _ _ _ _ _ k.memory memory c) in
    let pages2 = known_on header header.size top (Raises lower.bytes) (λ o p. local header h (place_of o p) past) tt
    (pages_moved header.size (Raises lower.bytes) top frame _ _ _ _ _ k.memory memory k.memory.objects
    (λ o p. known_local header o p (local header h (place_of o p) past)) m.core.fits.parts m.core.pages.shown c
    (ap (λ z. shown_as now true true z (absent_at k.memory.objects top.object.0 top.page.0)) same) (λ o p apart. refl)) in
    record {
      core = core_rerowed top frame m.core c plan (λ away. record { lock = refl; precious = refl; unlock_sent = refl }) (rw (lives, own_host h) pages2)
          (rw (lives, own_host h) (λ held. let more = c.claims in omega arith))
          (copied_beside top _ (same_objects plan.objects) c.row plain m.core.copied);
      settled = record { none_owed = refl; shut = λ region. refl };
      replied = replied_behind tt m.replied;
    }

-- of the target's pages those behind it have no row still
unmade_next : (o next : ℕ) (x : Option PageRow) (rs rs2 : ResidentTable) → PutsRow o next x rs rs2 → ((p : ℕ) → next ≤ p → row_at rs o p ≡ None) → (p : ℕ)
    → next + 1 ≤ p → row_at rs2 o p ≡ None
unmade_next o next x rs rs2 put none p le = elim (row_cases o next x rs rs2 put o p) [
  | inl this ↦ let same = this.page in absurd (omega (arith, le, same))
  | inr other ↦ other.is ∙ none p (omega (arith, le))
]

-- another slow copy has another target
fits_beside : (header : Header) (maps : Mapped) (cs : ChainTable) (rs rs2 : ResidentTable) (t : ℕ) (what : Want) (destination : Option Destination) (next : ℕ)
    (made : Option Target) (o p : ℕ) (x : Option PageRow) → PutsRow o p x rs rs2
    → ((r : ℕ) (object : ObjectId) (pages : ℕ) → is_destination r destination ≡ true → region_at cs r ≡ Some (filled_row object pages) → IsAlone cs r object.0
    → o ≡ object.0 → ⊥)
    → FitsCopy header maps cs rs t what destination next made → FitsCopy header maps cs rs2 t what destination next made
fits_beside header maps cs rs rs2 t (want.Load address bytes) destination next made o p x put apart fits = fits
fits_beside header maps cs rs rs2 t (want.Store address bytes value) destination next made o p x put apart fits = fits
fits_beside header maps cs rs rs2 t (want.CopyTo address pages object left) destination next made o p x put apart slow =
    record {
      to = slow.to;
      goes = slow.goes;
      next = slow.next;
      made = slow.made;
      region = slow.region;
      alone = slow.alone;
      range = slow.range;
      place = slow.place;
      unmade = λ q le. elim (row_cases o p x rs rs2 put object.0 q) [
        | inl this ↦ absurd (apart slow.to.region.0 object pages (ap (is_destination slow.to.region.0) slow.goes ∙ itself slow.to.region.0) slow.region
            slow.alone this.object)
        | inr other ↦ other.is ∙ slow.unmade q le
      ];
    }

-- the task has that page behind it, and each other task what it had
next_own : (t next before : ℕ) → (if t == t then next + 1 else before) ≡ next + 1
next_own t next before = ap (λ b. if b then next + 1 else before) (itself t)

next_other : (t u next before : ℕ) → (t ≡ u → ⊥) → (if t == u then next + 1 else before) ≡ before
next_other t u next before apart = elim (eqb_tells t u) [
  | inl same ↦ absurd (apart same.1)
  | inr other ↦ ap (λ b. if b then next + 1 else before) other.0
]

page_made : (header : Header) (h : ℕ) (past : List Event) (k : Parts) (ids : Ids) (w : Waiting) (address pages : ℕ) (target : ObjectId) (next : ℕ)
    (key : PageKey) (row : PageRow) (frame : FrameNo) (memory : HostParts)
    → Works header h k ids woken.Nobody past → entry k.waits.rows w.task.0 ≡ Some w → w.want ≡ want.CopyTo address pages target next
    → row_at k.memory.resident key.object.0 key.page.0 ≡ Some row → row.here ≡ true
    → RaisesPage (copied_key target next) frame (page_in k.memory.frames row.frame.0) k.memory memory → KeepsPlan k.memory memory
    → Copying header h (record k { memory = memory }) ids (event.CopiedPage w.task (record { 0 = next }) key.object key.page target ∷ past) w address pages
    target next
page_made header h past k ids w address pages target next key row frame memory works is what found here c plan =
    let m = works.matches in
    let top = copied_key target next in
    let slow : IsSlow header k.maps k.chains k.memory.resident w.task.0 address pages target next w.destination (next_page w.task.0 past)
    (copy_target w.task.0 past) = slow_of works is what in
    let to = slow.to.region.0 in
    let fills_it : fills_in to (entry k.waits.rows w.task.0) ≡ true = ap (fills_in to) is ∙ (ap (is_destination to) slow.goes ∙ itself to) in
    let refers = refers_region m.core.objects.regions to (filled_row target pages) slow.region in
    let temporary = m.core.objects.kinds.tops to (filled_row target pages)
    (m.core.spaces.homes.1.fills w.task.0 (record { region = to; object = target.0 }) slow.made) slow.region in
    record {
      matches =
          matches_copied header h k ids past w.task key target next row frame memory m
          (lives_here m.core.spaces.tasks (works.waits.allowed w.task.0 w is).lives) found here
          c plan (is_fresh w (want.CopyTo address pages target next) m slow);
      regions = works.used.regions;
      is = is;
      what = what;
      slow = record {
        to = slow.to;
        goes = slow.goes;
        next = next_own w.task.0 next (next_page w.task.0 past);
        made = slow.made;
        region = slow.region;
        alone = slow.alone;
        range = slow.range;
        place = slow.place;
        unmade = unmade_next target.0 next _ k.memory.resident memory.resident c.row slow.unmade;
      };
      others = λ t v apart there.
          subst (λ (z : ℕ). FitsCopy header k.maps k.chains memory.resident t v.want v.destination z (copy_target t past))
          (sym (next_other w.task.0 t next (next_page t past) apart))
          (fits_beside header k.maps k.chains k.memory.resident memory.resident t v.want v.destination (next_page t past) (copy_target t past) target.0 next _
          c.row
          (λ r object size goes region alone same.
          (let at : to ≡ r = alone.tops to (filled_row target pages) slow.region same in
          apart (works.used.copies.apart w.task.0 t r (subst (λ (z : ℕ). fills_in z (entry k.waits.rows w.task.0) ≡ true) at fills_it)
          (ap (fills_in r) there ∙ goes))))
          (works.used.copies.each t v there));
      apart = works.used.copies.apart;
      referred =
          page_referred top frame _ _ _ _ _ k memory c plan refers
          (λ row2 same. temporary_free target.0 _ row2 m.core.objects.kinds temporary refers refl same) works.referred;
      thin = rw plan.objects works.thin;
      waits =
          page_waits top frame _ _ _ _ _ k memory (is_woken woken.Nobody) (λ u. waiting u past) c plan (none_unawaited None refl)
          (here_unawaited _ _ refl refl refl)
          (waits_filled header h k ids past w.task key top (λ t wanted place. place_unfilled header.size t wanted top k.maps k.chains [] m.core.spaces.entries
          place to
          target pages slow.region slow.alone refl) works.waits);
      order = works.order;
    }

-- the lists of pages have another order
copying_touched : (header : Header) (h : ℕ) (past : List Event) (k : Parts) (ids : Ids) (w : Waiting) (address pages : ℕ) (target : ObjectId) (next : ℕ)
    (frame : FrameNo) (memory : HostParts) → References frame k.memory memory → Copying header h k ids past w address pages target next
    → Copying header h (record k { memory = memory }) ids past w address pages target next
copying_touched header h past k ids w address pages target next frame memory touched copying =
    subst (λ (z : HostParts). Copying header h (record k { memory = z }) ids past w address pages target next) (sym touched.is) with_queues
  where
    m : Matches header h k ids [] past
    m = copying.matches

    with_queues : Copying header h (record k { memory = record k.memory { queues = memory.queues } }) ids past w address pages target next
    with_queues =
        record {
          matches =
              matches_with memory.queues k.memory.buffers k.waits (λ t r. refl) (fit_touched k.memory memory.queues m.core.fits.parts touched.keeps
              touched.frames)
              refl m;
          regions = copying.regions;
          is = copying.is;
          what = copying.what;
          slow = copying.slow;
          others = copying.others;
          apart = copying.apart;
          referred = copying.referred;
          thin = copying.thin;
          waits = copying.waits;
          order = copying.order;
        }

-- a slow copy makes its next page
pub page_copied : (header : Header) (h : ℕ) (past : List Event) (k : Parts) (ids : Ids) (w : Waiting) (address pages : ℕ) (target : ObjectId) (next : ℕ)
    (key : PageKey) (row : PageRow) (memory : HostParts) (before after : List Event) → Works header h k ids woken.Nobody past
    → entry k.waits.rows w.task.0 ≡ Some w → runs_now w.on ≡ true → w.want ≡ want.CopyTo address pages target next
    → row_at k.memory.resident key.object.0 key.page.0 ≡ Some row → row.here ≡ true → CopiesPage w.task key row target next k.memory memory before after
    → Copying header h (record k { memory = memory }) ids (event.CopiedPage w.task (record { 0 = next }) key.object key.page target ∷ past) w address pages
    target next
page_copied header h past k ids w address pages target next key row memory before after works is now what found here copies =
    let e : Event = event.CopiedPage w.task (record { 0 = next }) key.object key.page target in
    let made = page_made header h past k ids w address pages target next key row copies.frame copies.copied works is what found here copies.page copies.plan in
    let hit = copying_touched header h (e ∷ past) (record k { memory = copies.copied }) ids w address pages target next copies.frame copies.hit copies.marks
    made in
    copying_touched header h (e ∷ past) (record k { memory = copies.hit }) ids w address pages target next row.frame memory copies.source hit

-- the row says so too: it goes on with another page

-- its next page lies in the same entry
next_allowed : {header : Header} {maps : Mapped} (task address pages next : ℕ) → IsCopied header maps task address pages → next + 1 < pages
    → IsAllowed maps task (address + next * maps.size) need.Load → IsAllowed maps task (address + (next + 1) * maps.size) need.Load
next_allowed task address pages next range more was =
    let same : range.entry ≡ was.entry = some_is range.entry was.entry (sym (range.whole next (omega (arith, more))) ∙ was.found) in
    record { entry = was.entry; lives = was.lives; found = range.whole (next + 1) more ∙ ap Some same; allowed = was.allowed }

pub copy_goes_on : (header : Header) (h : ℕ) (past : List Event) (k : Parts) (ids : Ids) (w : Waiting) (address pages : ℕ) (target : ObjectId) (next : ℕ)
    (waits2 : WaitTable) → Copying header h k ids past w address pages target next → next + 1 < pages → runs_now w.on ≡ true
    → PutsInOrder w.task.0 (Some (with_want w (want.CopyTo address pages target (next + 1)))) k.waits.rows waits2.rows
    → Works header h (record k { waits = waits2 }) ids woken.Nobody past
copy_goes_on header h past k ids w address pages target next waits2 c more now put =
    record {
      matches = matches_with k.memory.queues k.memory.buffers waits2 same_fills c.matches.core.fits.parts refl c.matches;
      used = record {
        regions = regions_filled k.chains k.waits.rows waits2.rows same_fills c.regions;
        copies = record {
          each =
              λ t v there. puts_cases {P = FitsCopy header k.maps k.chains k.memory.resident t v.want v.destination (next_page t past) (copy_target t past)}
              w.task.0 t (Some w2) k.waits.rows waits2.rows v put.entry there
              (λ same it.
              subst (λ (z : ℕ). FitsCopy header k.maps k.chains k.memory.resident z v.want v.destination (next_page z past) (copy_target z past)) same
              (subst (λ (z : Waiting). FitsCopy header k.maps k.chains k.memory.resident w.task.0 z.want z.destination (next_page w.task.0 past)
              (copy_target w.task.0 past)) (some_is w2 v it) c.slow))
              (λ apart was. c.others t v apart was);
          apart = λ t u r one two. c.apart t u r (sym (same_fills t r) ∙ one) (sym (same_fills u r) ∙ two);
        };
      };
      referred = c.referred;
      thin = c.thin;
      waits =
          waiters_put k.maps k.chains k.memory.resident k.memory.resident k.memory.objects k.waits.rows waits2.rows (λ u. waiting u past) (λ u. waiting u past)
          w.task.0 (Some w2) c.waits put.entry told
          (λ v it. subst (λ (z : Waiting). Suits k.maps w.task.0 z) (some_is w2 v it) suits)
          (λ v it. subst (λ (z : Waiting). Reason k.maps k.chains k.copies k.memory.resident k.memory.objects w.task.0 z.want z.on) (some_is w2 v it)
          (reason w.on now))
          (λ v it. subst (λ (z : Waiting). Passed (StaysAway header h past) (IsUnmet header h past) k.maps k.chains w.task.0 z.want z.on) (some_is w2 v it)
          (passed w.on now))
          (words_same k.memory.resident)
          (λ o p row found awaits. asker_kept k.waits.rows waits2.rows w.task.0 w (Some w2) o p put.entry c.is (λ why. none.at o p row found awaits why)
          (c.waits.askers o p row found awaits))
          c.waits.ready;
      order = put.order.keeps (λ u. begun_at u past) 0 c.order;
    }
  where
    w2 : Waiting
    w2 = with_want w (want.CopyTo address pages target (next + 1))

    none : AsksNone k.memory.resident w.on
    none = asks_none_now k w.on now

    same_fills : SameFills k.waits.rows waits2.rows
    same_fills = fills_put w.task.0 (Some w2) k.waits.rows waits2.rows put.entry (λ r. sym (ap (fills_in r) c.is))

    sized : IsSizedWant k.maps.size (want.CopyTo address pages target next)
    sized = subst (λ (z : Want). IsSizedWant k.maps.size z) c.what (c.waits.sized w.task.0 w c.is)

    suits : Suits k.maps w.task.0 w2
    suits = record {
      allowed =
          next_allowed w.task.0 address pages next c.slow.range more (subst (λ (z : Want). IsAllowed k.maps w.task.0 (address_in k.maps.size z) (need_in z))
          c.what (c.waits.allowed w.task.0 w c.is));
      sized = (sized.0, more, sized.2);
    }

    reason : (why : On) → runs_now why ≡ true → Reason k.maps k.chains k.copies k.memory.resident k.memory.objects w.task.0 w2.want why
    reason on.Again is = tt
    reason on.Frame is = tt
    reason (on.Ready object) is = absurd (let bad : false ≡ true = is in cc)
    reason (on.Page key) is = absurd (let bad : false ≡ true = is in cc)
    reason (on.Push key) is = absurd (let bad : false ≡ true = is in cc)

    passed : (why : On) → runs_now why ≡ true → Passed (StaysAway header h past) (IsUnmet header h past) k.maps k.chains w.task.0 w2.want why
    passed on.Again is = tt
    passed on.Frame is = tt
    passed (on.Ready object) is = absurd (let bad : false ≡ true = is in cc)
    passed (on.Page key) is = absurd (let bad : false ≡ true = is in cc)
    passed (on.Push key) is = absurd (let bad : false ≡ true = is in cc)

    shown_now : (u : ℕ) → waiting_in k.maps.size (entry waits2.rows u) ≡ waiting_in k.maps.size (entry k.waits.rows u)
    shown_now u = elim (eqb_tells w.task.0 u) [
      | inl same ↦
          ap (waiting_in k.maps.size) (put.entry.at u ∙ ap (λ b. if b then Some w2 else entry k.waits.rows u) same.0)
          ∙ (sym (ap (λ z. Some (access_in k.maps.size (copies_to w.destination) z)) c.what)
          ∙ ap (λ z. waiting_in k.maps.size z) (sym (ap (λ z. entry k.waits.rows z) (sym same.1) ∙ c.is)))
      | inr apart ↦ ap (waiting_in k.maps.size) (put.entry.at u ∙ ap (λ b. if b then Some w2 else entry k.waits.rows u) apart.0)
    ]

    told : AreTold k.maps waits2.rows (λ u. waiting u past)
    told u here = c.waits.is u here ∙ sym (shown_now u)

-- where nothing is under an object, a walk ends where it begins
ends_at_once : (parts : HostParts) (chains : ChainTable) (n : ℕ) (top key : PageKey) → shadow_at chains top.object.0 ≡ None → WalksTo parts chains n top key
    → top ≡ key
ends_at_once parts chains zero top key bottom walks = walks
ends_at_once parts chains (suc n) top key bottom walks = absurd (let bad : None ≡ Some walks.1.1.row = sym bottom ∙ walks.1.1.found in cc)

-- a page without a row is neither here nor asked
pub record IsAway (header : Header) (h : ℕ) (past : List Event) (o p : ℕ) : Type 0 where
  pub away : (page_on header h o p past).here ≡ false
  pub unasked : (page_on header h o p past).asked ≡ false

pub none_away : {header : Header} {h : ℕ} {parts : HostParts} {chains : ChainTable} {past : List Event} → IsShown header h parts chains past → (o p : ℕ)
    → row_at parts.resident o p ≡ None → IsAway header h past o p
none_away {header = header} {h = h} {parts = parts} {past = past} s o p none =
    let is : known_local header o p (page_on header h o p past) ≡ local_of_row parts.frames None (absent_at parts.objects o p) = s.pages.shown o p
    ∙ ap (λ z. local_of_row parts.frames z (absent_at parts.objects o p)) none in
    record { away = ap (λ (z : Local). z.here) is; unasked = ap (λ (z : Local). z.asked) is }

-- why a page of a slow copy is made
pub copied_follows : (header : Header) (h : ℕ) (outside : Outside) (doing : Command) (past : List Event) (k : Parts) (ids : Ids) (task : TaskId) (what : Want)
    (top : PageKey) (at : IsAt k.maps k.chains task.0 what top) (address pages : ℕ) (target : ObjectId) (next : ℕ) (destination : Option Destination)
    (steps : ℕ) (key : PageKey) (row : PageRow) → Matches header h k ids [] past → Leads header h past k task.0 what top at
    → what ≡ want.CopyTo address pages target next
    → IsSlow header k.maps k.chains k.memory.resident task.0 address pages target next destination (next_page task.0 past) (copy_target task.0 past)
    → next < pages → Finds k.memory k.chains steps top key row → keeps_out row.lock false ≡ false
    → Suffice header h (event.CopiedPage task (record { 0 = next }) key.object key.page target ∷ past)
    → Follows header h outside doing (event.CopiedPage task (record { 0 = next }) key.object key.page target) past
copied_follows header h outside doing past k ids task what top at address pages target next destination steps key row m to is slow left finds open_it frames =
    record {
      consequence = tt;
      cause = record {
        address = address;
        bytes = pages * k.maps.size;
        to = to.destination;
        waits = record {
          waits = to.waits ∙ ap (λ z. Some (access_in k.maps.size to.destination z)) is;
          at =
              record {
                host = h;
                entry = at.entry;
                lives = to.lives;
                found = ap (λ z. entry_at z (entries_of header.size task.0 past)) (sym now_at)
                    ∙ to.found;
              };
          left =
              subst (λ (z : Want). HasPageLeft header.size (access_in k.maps.size to.destination z) (next_page task.0 past)) is
              (page_left k.maps.size header.size (next_page task.0 past) to.destination what to.sized to.some to.shape to.agrees);
        };
        next = sym slow.next;
        declared = subst (λ (z : Entry). z.region.0 < named header) one slow.range.declared;
        supplied = ap (λ (z : Entry). is_wild header z.region.0) (sym one) ∙ slow.range.supplied;
        is_top =
            subst (λ (z : PageKey). IsTop (region_of header at.entry.region.0 past)
            (page_at header.size (address + next_page task.0 past * header.size) at.entry) z.object.0 z.page.0) there
            (subst (λ (z : ℕ). IsTop (region_of header at.entry.region.0 past) (page_at header.size z at.entry) top.object.0 top.page.0) now_at to.is_top);
        here = shows.here;
        region = slow.to.region.0;
        filled = slow.made;
        inside = subst (λ (z : Region). next < z.pages) (sym (m.core.objects.regions.rows slow.to.region.0 (filled_row target pages) slow.region)) left;
        away = none.away;
        unasked = none.unasked;
      };
      own_bytes =
          λ g lives. subst (λ (z : ℕ). CanRead (page_on header z key.object.0 key.page.0 past)) (sym (own_lives h task.0 past to.lives g lives))
          (record { here = shows.here; unlocked = read_at shows.lock (open_number row.lock open_it) });
      frames = frames;
      inner = tt;
      said = tt;
      own = own_lives h task.0 past to.lives;
      creates = tt;
    }
  where
    s : IsShown header h k.memory k.chains past
    s = shown_at m

    shows : ShowsRow header h k.memory past key.object.0 key.page.0 row
    shows = shows_row s key.object.0 key.page.0 row finds.found finds.here

    none : IsAway header h past target.0 next
    none = none_away s target.0 next (slow.unmade next (omega arith))

    now_at : address_in k.maps.size what ≡ address + next_page task.0 past * header.size
    now_at = ap (address_in k.maps.size) is ∙ (ap (λ z. address + next * z) m.core.spaces.tasks.sized ∙ ap (λ z. address + z * header.size) (sym slow.next))

    one : slow.range.entry ≡ at.entry
    one =
        some_is slow.range.entry at.entry (sym (slow.range.whole next left)
        ∙ (ap (λ z. entry_at z (rows_in task.0 k.maps)) (sym (ap (address_in k.maps.size) is)) ∙ at.found))

    declared : at.entry.region.0 < named header
    declared = subst (λ (z : Entry). z.region.0 < named header) one slow.range.declared

    bottom : shadow_at k.chains top.object.0 ≡ None
    bottom =
        subst (λ (z : ℕ). shadow_at k.chains z ≡ None) (sym (ap (λ (z : PageKey). z.object.0) at.is))
        (declared_bottom at.entry.region.0 at.row m declared at.region).bottom

    there : top ≡ key
    there = ends_at_once k.memory k.chains steps top key bottom finds.walks

-- so it follows where the access was run
pub copy_follows : (header : Header) (h : ℕ) (outside : Outside) (doing : Command) (past : List Event) (k : Parts) (ids : Ids) (w : Waiting) (top : PageKey)
    (address pages : ℕ) (target : ObjectId) (next steps : ℕ) (key : PageKey) (row : PageRow) (memory : HostParts) (before after : List Event)
    → Works header h k ids woken.Nobody past → entry k.waits.rows w.task.0 ≡ Some w → runs_now w.on ≡ true → w.want ≡ want.CopyTo address pages target next
    → IsAt k.maps k.chains w.task.0 w.want top → Finds k.memory k.chains steps top key row → keeps_out row.lock false ≡ false
    → CopiesPage w.task key row target next k.memory memory before after
    → Follows header h outside doing (event.CopiedPage w.task (record { 0 = next }) key.object key.page target) past
copy_follows header h outside doing past k ids w top address pages target next steps key row memory before after works is now what at finds open_it copies =
    let e : Event = event.CopiedPage w.task (record { 0 = next }) key.object key.page target in
    let made = page_copied header h past k ids w address pages target next key row memory before after works is now what finds.found finds.here copies in
    copied_follows header h outside doing past k ids w.task w.want top at address pages target next w.destination steps key row works.matches
    (leads_of header h k ids past woken.Nobody w.task.0 w top works.matches works.waits works.used.copies is at) what (slow_of works is what)
    (sized_of works is what).1 finds open_it
    (suffices header h memory.frames (e ∷ past) made.matches.core.pages.counted)
