-- An object to which nothing refers: its pages go, its control ends, where one lives, and what stood under it has one reference less.
use Rattle.vm_kernel.proofs.memory.CoreChanges.{pages_known_so}
use Rattle.vm_state.proofs.KnownPages.{sizes_put}
use Rattle.vm_kernel.proofs.Common.{AllEntriesInside, Below, Bool, CausedInTurn, ChainTable, Changes, Command, Does, Elsewhere, EndsObject, Entry, Event}
use Rattle.vm_kernel.proofs.Common.{FrameTable, HasControls, HasEntries, HasFrames, HasPages, HasSlow, HaveHomes, Header, HostParts, Ids, Inside, IsAmid}
use Rattle.vm_kernel.proofs.Common.{IsInside, IsOfKind, IsSettled, IsWhole, LaundryList, LegalEvents, List, Local, Mapped, Matches, None, ObjectId, ObjectRow}
use Rattle.vm_kernel.proofs.Common.{ObjectTable, Option, Outside, PageKey, PageRow, Parts, PutsAbsent, PutsObject, Reach, RegionRow, ResidentTable, SameMarks}
use Rattle.vm_kernel.proofs.Common.{SameObjects, Some, Unreached, Up, Woken, [], absent_at, all_tasks, ap, arith, away, backing_of, entries_in, entries_of}
use Rattle.vm_kernel.proofs.Common.{eqb_tells, false, has_entry, has_region, host_id, if◌then◌else◌, in_use, inl, inr, is_control, is_ready, is_some, is_woken}
use Rattle.vm_kernel.proofs.Common.{last_control, last_in, live_control, live_in, local, local_after, local_of_row, named, object_at, object_home, one_case}
use Rattle.vm_kernel.proofs.Common.{page_in, pages_in, paging, place_of, queues_except, ready_in, refl, region_at, region_of, reverse, row_at, rows_in}
use Rattle.vm_kernel.proofs.Common.{rows_map, slice_get, some_is, subst, sym, true, waiting, without_control, ℕ, ◌&&◌, ◌++◌, ◌+◌, ◌-◌, ◌<◌, ◌==◌, ◌^◌, ◌||◌}
use Rattle.vm_kernel.proofs.Common.{◌∙◌, ◌∷◌, ◌≡◌, ◌≤◌, ◌⊎◌}
use Rattle.std.proofs.lemmas.Bool.{or_parts}
use Rattle.vm_legal.specs.Licences.{DropCause, Ended, Unheld, Unreachable}
use Rattle.vm_legal.specs.Swept.{IsUnheld}
use Rattle.vm_kernel.specs.Plays.{AsUnheld, AsUnreached, Departs, DepartsUnheld}
use Rattle.vm_model.specs.Local.{Ends as EndsControl}
use Rattle.vm_parts.specs.Changes.{Discards, Removes}
use Rattle.vm_shadow.specs.Chains.{DropsShadow, shadow_at}
use Rattle.vm_shadow.specs.declared.shadow_row.ShadowRow.{ShadowRow}
use Rattle.vm_kernel.proofs.space.EntriesCounted.{by_some}
use Rattle.vm_kernel.proofs.steps.EventsGrow.{goes_one, suffices}
use Rattle.vm_kernel.proofs.memory.WhatIsKnown.{other_if, pages_known}
use Rattle.vm_kernel.proofs.memory.MayLeave.{IsSeen}
use Rattle.vm_kernel.proofs.abroad.OwnEvents.{own_named}
use Rattle.vm_kernel.proofs.abroad.OwnHost.{own_host}
use Rattle.vm_kernel.proofs.memory.PagesShown.{itself}
use Rattle.vm_kernel.proofs.lists.ListsAsTold.{frames_put, here_is, same_paging}
use Rattle.vm_kernel.proofs.space.RegionRows.{region_row}
use Rattle.vm_kernel.proofs.space.RegionEnds.{controls_referred}
use Rattle.vm_kernel.proofs.controls.LockReplied.{replied_behind}
use Rattle.vm_abroad.proofs.Regions.{kind_cases}
use Rattle.vm_state.proofs.Declared.{kind_referred, kinds_dropped, kinds_put, whole_row}
use Rattle.vm_state.proofs.Files.{files_put}
use Rattle.vm_state.proofs.Going.{regions_dropped}
use Rattle.vm_state.proofs.Knowing.{known_put}
use Rattle.vm_state.proofs.Places.{told_apart, unsent_apart, waits_dropped}
use Rattle.vm_state.proofs.Reaching.{chain_declared, region_down, temporary_down}
use Rattle.vm_state.proofs.Referred.{but_dropped, but_gone, but_known, referred_dropped, stays_served}
use Rattle.vm_state.proofs.Referring.{unreferred_region, unreferred_shadow, uncached_unreferred}
use Rattle.vm_state.proofs.Filling.{copies_kept, filled_there, rows_unmade}
use Rattle.vm_state.proofs.Told.{waits_told}
use Rattle.vm_state.specs.Filling.{filled_row}
use Rattle.vm_kernel.proofs.space.RegionsFilled.{dropped_filled}
use Rattle.vm_state.specs.Places.{known_local}
use Rattle.vm_legal.specs.InTurn.{DropsInTurn}
use Rattle.vm_legal.specs.Walks.{page_on}
use Rattle.vm_state.proofs.Bypassing.{waits_quiet}
use Rattle.vm_state.proofs.Passing.{quiet_if}
use Rattle.vm_kernel.proofs.memory.PageChanges.{amidst_gone, amidst_of, amidst_returned, drop_follows, drops, fit_lost, fits_known, gives, live_at, matches_of}
use Rattle.vm_kernel.proofs.memory.PageChanges.{objects_known, return_follows, same_objects, seen_of}
use Rattle.vm_kernel.specs.Matches.{Amidst, IsCalm, IsReplied}
use Rattle.vm_copies.specs.Copies.{CopyTable, LeavesCopies, WasCopy, WasNone}
use Rattle.vm_kernel.proofs.Common.{HasWaits}
use Rattle.vm_kernel.proofs.memory.CopiesKept.{copied_put}
use Rattle.vm_kernel.proofs.space.CopiesEnd.{copied_dropped, copied_ended, copied_referred}
use Rattle.vm_state.proofs.CopyFits.{IsNoNewest}
use Rattle.vm_state.proofs.CopyObjects.{not_referred}
use Rattle.vm_state.proofs.Owing.{waits_ended}
use Rattle.vm_model.specs.declared.event.Event.TheVariants as event
use Rattle.vm_model.specs.declared.message.Message.TheVariants as message
use Rattle.vm_objects.specs.declared.row.PagerState.TheVariants as state
use Rattle.vm_state.specs.Pagers.{cached_in}
use Rattle.vm_kernel.proofs.controls.FlagsKept.{flags_put, flags_set}
use Rattle.vm_legal.specs.Destroyed.{destroy_taken, is_destroyed}
use Rattle.vm_legal.specs.Frames.{frames_held, frames_wired}

-- no region that is in use leads to it

pub entry_there : (size r : ℕ) (cs : ChainTable) (rows : List Entry) → AllEntriesInside size cs rows → has_entry r rows ≡ true → has_region cs r ≡ true
entry_there size r cs [] all has = absurd (let bad : false ≡ true = has in cc)
entry_there size r cs (row ∷ rows) all has = elim (eqb_tells row.region.0 r) [
  | inl same ↦ subst (λ (z : ℕ). has_region cs z ≡ true) same.1 all.0.region
  | inr apart ↦ entry_there size r cs rows all.1 (rw apart.0 at has)
]

-- a temporary region in use is there
pub used_there : (header : Header) (h : ℕ) (k : Parts) (ids : Ids) (rest : List Entry) (past : List Event) (r : ℕ) → Matches header h k ids rest past
    → HasSlow header k past → named header ≤ r → in_use header h r past ≡ true → (row : RegionRow) × (region_at k.chains r ≡ Some row)
used_there header h k ids rest past r m copies temporary used = elim ((m.core.spaces.uses.used r temporary).why used) [
  | inl some ↦ let task =
      by_some all_tasks r k.maps some in region_row k.chains r (entry_there header.size r k.chains (rows_in task.0 k.maps) (m.core.spaces.entries.inside task.0)
      task.1)
  | inr filled ↦ let there = filled_there copies filled.task r filled.fills in (filled_row there.object there.pages, there.region)
]

-- the chain of a declared region is of its own object alone
pub declared_chain : (header : Header) (past : List Event) (r n u : ℕ) → HaveHomes header past → r < named header
    → Below (λ o. backing_of header o past) n (region_of header r past).top u → r ≡ u
declared_chain header past r n u homes declared below = chain_declared homes r n u declared below

pub unreached : (header : Header) (h : ℕ) (k : Parts) (ids : Ids) (rest : List Entry) (past : List Event) (o : ℕ) (row : ObjectRow)
    → Matches header h k ids rest past → HasSlow header k past → object_at k.memory.objects o ≡ Some row → row.references ≡ 0 → named header ≤ o
    → Reach header h o past → ⊥
unreached header h k ids rest past o row m copies known none least reach =
    let is = temporary_down m.core.objects.regions m.core.spaces.homes.1 (λ r. in_use header h r past)
    (λ r temporary used. used_there header h k ids rest past r m copies temporary used) o least reach in
    let some = is.some in
    let same = ap (λ z. z.references) (some_is row is.row (sym known ∙ is.known)) in
    omega (arith, some, same, none)

-- nothing holds a declared object to which nothing refers
pub unheld : (header : Header) (h : ℕ) (k : Parts) (ids : Ids) (rest : List Entry) (past : List Event) (o : ℕ) (row : ObjectRow)
    → Matches header h k ids rest past → HasSlow header k past → object_at k.memory.objects o ≡ Some row → row.references ≡ 0 → o < named header
    → IsUnheld header h o past
unheld header h k ids rest past o row m copies known none declared =
    record {
      unmapped = λ task lives. by_test task (sym (m.core.spaces.tasks.hosts task) ∙ lives) (has_entry o (entries_of header.size task past)) refl;
      uncached = m.core.flags o declared ∙ (ap cached_in known ∙ uncached_unreferred m.core.objects.regions o row known none);
      unreached =
          λ r depth temporary used below.
          let is = region_down header m.core.objects.regions (λ q. in_use header h q past)
          (λ q later in_it. used_there header h k ids rest past q m copies later in_it) r depth o temporary used below in
          let some = is.some in
          let same = ap (λ z. z.references) (some_is row is.row (sym known ∙ is.known)) in
          absurd (omega (arith, some, same, none));
    }
  where
    by_test : (task : ℕ) → is_some (entries_in task k.maps) ≡ true → (b : Bool) → has_entry o (entries_of header.size task past) ≡ b → b ≡ false
    by_test task here false is = refl
    by_test task here true is =
        let there = region_row k.chains o (entry_there header.size o k.chains (rows_in task k.maps) (m.core.spaces.entries.inside task)
        (sym (ap (has_entry o) (m.core.spaces.tasks.rows task here)) ∙ is)) in
        absurd (unreferred_region m.core.objects.regions o row known none o there.0 there.1
        (whole_row m.core.objects.regions m.core.spaces.homes.1 o there.0 declared there.1).top)

-- the kernel in groups, and back
inside : {header : Header} {h : ℕ} {who : Woken} {k : Parts} {ids : Ids} {rest : List Entry} {object : ℕ} {past : List Event}
    → EndsObject header h who k ids rest object past → Amidst header h k ids rest who past
inside e = amidst_of e.runs.matches e.used e.runs.waits e.runs.order

amid_of : {header : Header} {h : ℕ} {who : Woken} {k : Parts} {ids : Ids} {rest : List Entry} {past : List Event} → Amidst header h k ids rest who past
    → IsSettled past → IsReplied header past → IsAmid header h who k ids rest past
amid_of {k = k} a settled replied = record { matches = matches_of k a settled replied; waits = a.waits; order = a.order }

-- nobody waits for the unlock of a page of it
unsent : (header : Header) (h : ℕ) (past : List Event) (who : Woken) (k : Parts) (ids : Ids) (rest : List Entry) (key : PageKey) (row : PageRow)
    (events : List Event)
    → EndsObject header h who k ids rest key.object.0 (events ++ past) → row_at k.memory.resident key.object.0 key.page.0 ≡ Some row → row.unlock_sent ≡ false
unsent header h past who k ids rest key row events e found =
    let m = e.runs.matches in
    unsent_apart k.maps k.chains k.memory.resident k.memory.objects k.waits.rows (is_woken who) (λ t. waiting t (events ++ past)) key.object.0 key.page.0 row
    e.runs.waits
    (unreferred_region m.core.objects.regions key.object.0 e.row e.known e.none) (unreferred_shadow m.core.objects.regions key.object.0 e.row e.known e.none)
    found

-- none of its pages in front is here
none_in_front : {header : Header} {h : ℕ} {k : Parts} {ids : Ids} {rest : List Entry} {past : List Event} → Matches header h k ids rest past → (o p : ℕ)
    → ((q : ℕ) → q < p → row_at k.memory.resident o q ≡ None) → (q : ℕ) → q < p → (local header h (place_of o q) past).here ≡ false
none_in_front {k = k} m o p first q low =
    ap (λ z. z.here) (m.core.pages.shown.shown o q ∙ ap (λ z. local_of_row k.memory.frames z (absent_at k.memory.objects o q)) (first q low))

-- a page of it goes
pub ends_lost : (header : Header) (h : ℕ) (outside : Outside) (doing : Command) (past : List Event) (who : Woken) (k : Parts) (ids : Ids) (rest : List Entry)
    (key : PageKey) (row : PageRow) (memory : HostParts) (events : List Event)
    → EndsObject header h who k ids rest key.object.0 (events ++ past) → ((q : ℕ) → q < key.page.0 → row_at k.memory.resident key.object.0 q ≡ None)
    → row.here ≡ true → (key.object.0 < named header → (row.dirty || row.precious) ≡ false) → Discards key row k.memory memory
    → memory.objects ≡ k.memory.objects → memory.buffers ≡ k.memory.buffers
    → EndsObject header h who (record k { memory = memory }) ids rest key.object.0 ((event.Dropped (host_id h) key.object key.page ∷ events) ++ past)
    × LegalEvents header h outside doing past events (event.Dropped (host_id h) key.object key.page ∷ events)
ends_lost header h outside doing past who k ids rest key row memory events e first is_here clean c objects buffers = (
  record {
    runs = amid_of after (record { none_owed = refl; shut = λ region. refl }) (replied_behind tt m.replied);
    used = after.used;
    row = e.row;
    known = rw objects e.known;
    none = e.none;
    referred = rw objects (but_gone o o p k.chains k.memory.objects k.memory.resident memory.resident c.row e.referred);
  },
  goes_one header h outside doing past events (drops h key) m.settled (drop_follows key seen.here after why (turn why)),
)
  where
    m : Matches header h k ids rest (events ++ past)
    m = e.runs.matches

    o : ℕ
    o = key.object.0

    p : ℕ
    p = key.page.0

    after : Amidst header h (record k { memory = memory }) ids rest who (drops h key ∷ (events ++ past))
    after =
        amidst_gone key (inside e) is_here (unsent header h past who k ids rest key row events e c.found) c objects
        (fit_lost m.core.fits.parts c (same_objects objects) buffers) (ap (λ z. z.size) buffers)

    seen : IsSeen (known_local header key.object.0 key.page.0 (local header h (place_of key.object.0 key.page.0) (events ++ past))) row
        (page_in k.memory.frames row.frame.0)
    seen = seen_of key (inside e) c.found is_here

    why : DropCause header doing h o p (page_on header h o p (events ++ past)) (events ++ past)
    why = elim (kind_cases header o) [
      | inl declared ↦ Ended (seen.dirty ∙ (or_parts row.dirty row.precious (clean declared)).0)
          (seen.precious ∙ (or_parts row.dirty row.precious (clean declared)).1) declared
          (unheld header h k ids rest (events ++ past) o e.row m e.used.copies e.known e.none declared)
      | inr temporary ↦ Unreached temporary (unreached header h k ids rest (events ++ past) o e.row m e.used.copies e.known e.none temporary)
    ]

    turn : (cause : DropCause header doing h o p (page_on header h o p (events ++ past)) (events ++ past))
        → DropsInTurn header doing h o p (page_on header h o p (events ++ past)) (events ++ past) cause
    turn (Unreached temporary unreached) = none_in_front m o p first
    turn (Ended clean plain declared unheld) = none_in_front m o p first
    turn other = tt

-- and is off the lists

pub leaves_lists : (k : Parts) (key : PageKey) (row : PageRow) (held : Bool) (bytes : List ℕ) (memory : HostParts) → row.here ≡ true
    → Changes key row.frame (Some row) None held bytes (queues_except row.frame.0 k.memory.queues) k.memory memory
    → Departs key.object.0 key.page.0 k.memory.queues (paging k) (paging (record k { memory = memory }))
leaves_lists k key row held bytes memory is_here c = record {
  frame = row.frame;
  here = here_is (row_at k.memory.resident key.object.0 key.page.0) row row.frame c.found is_here refl;
  is = same_paging _ _ _ _ (frames_put k.memory.resident memory.resident key.object.0 key.page.0 None None c.row refl) c.queues;
}

-- of a declared object, which nothing holds
pub departs_unheld : (header : Header) (h : ℕ) (past : List Event) (who : Woken) (k : Parts) (ids : Ids) (rest : List Entry) (key : PageKey) (row : PageRow)
    (held : Bool) (bytes : List ℕ) (memory : HostParts) (events : List Event)
    → EndsObject header h who k ids rest key.object.0 (events ++ past) → key.object.0 < named header → row.here ≡ true
    → Changes key row.frame (Some row) None held bytes (queues_except row.frame.0 k.memory.queues) k.memory memory
    → DepartsUnheld header h (events ++ past) key.object.0 key.page.0 (paging k) (paging (record k { memory = memory }))
departs_unheld header h past who k ids rest key row held bytes memory events e declared is_here c =
    record {
      declared = declared;
      unheld = unheld header h k ids rest (events ++ past) key.object.0 e.row e.runs.matches e.used.copies e.known e.none declared;
      departs = leaves_lists k key row held bytes memory is_here c;
    }

pub lost_plays : (header : Header) (h : ℕ) (past : List Event) (who : Woken) (k : Parts) (ids : Ids) (rest : List Entry) (key : PageKey) (row : PageRow)
    (memory : HostParts) (events : List Event)
    → EndsObject header h who k ids rest key.object.0 (events ++ past) → row.here ≡ true → Discards key row k.memory memory
    → Does header (events ++ past) (event.Dropped (host_id h) key.object key.page) (paging k) (paging (record k { memory = memory }))
lost_plays header h past who k ids rest key row memory events e is_here c = elim (kind_cases header key.object.0) [
  | inl declared ↦ AsUnheld (departs_unheld header h past who k ids rest key row _ _ memory events e declared is_here c)
  | inr temporary ↦ AsUnreached (unreached header h k ids rest (events ++ past) key.object.0 e.row e.runs.matches e.used.copies e.known e.none temporary)
      (leaves_lists k key row _ _ memory is_here c)
]

-- or it goes back to its pager, in its frame

-- the return of a page of an object that ends
abbrev pub going_back : ℕ → PageKey → ObjectRow → PageRow → List ℕ → Event
going_back h key known row bytes = gives h key known.control row.dirty false bytes

-- an object is put where it is
pub put_same : (o : ℕ) (row : ObjectRow) (os os2 : ObjectTable) → SameObjects os os2 → object_at os o ≡ Some row → PutsObject o (Some row) os os2
put_same o row os os2 same found = record {
  at = λ x. elim (eqb_tells o x) [
    | inl is ↦ same.at x ∙ (sym (ap (object_at os) is.1) ∙ (found ∙ sym (ap (λ b. if b then Some row else object_at os x) is.0)))
    | inr apart ↦ same.at x ∙ sym (ap (λ b. if b then Some row else object_at os x) apart.0)
  ];
}

-- A changed or precious page of a declared object that ends has gone to the pager, which has its control still.
pub record GoesToPager (header : Header) (k : Parts) (key : PageKey) (known : ObjectRow) (row : PageRow) (memory : HostParts) (laundry : LaundryList) : Type 0
  where
    pub declared : key.object.0 < named header
    pub first : (q : ℕ) → q < key.page.0 → row_at k.memory.resident key.object.0 q ≡ None
    pub found : object_at k.memory.objects key.object.0 ≡ Some known
    pub live : known.live ≡ true
    pub here : row.here ≡ true
    pub wanted : (row.dirty || row.precious) ≡ true
    pub removes : Removes key row k.memory memory
    pub objects : SameObjects k.memory.objects memory.objects
    pub absent : PutsAbsent key.object.0 key.page.0 false k.memory.objects memory.objects
    pub buffers : memory.buffers ≡ k.memory.buffers
    pub held : laundry.held ≡ k.laundry.held ++ row.frame ∷ []
    pub room : laundry.room + 1 ≡ k.laundry.room

pub ends_returned : (header : Header) (h : ℕ) (outside : Outside) (doing : Command) (past : List Event) (who : Woken) (k : Parts) (ids : Ids)
    (rest : List Entry) (key : PageKey) (known : ObjectRow) (row : PageRow) (memory : HostParts) (laundry : LaundryList) (events : List Event)
    → EndsObject header h who k ids rest key.object.0 (events ++ past) → GoesToPager header k key known row memory laundry
    → EndsObject header h who (record k { memory = memory; laundry = laundry }) ids rest key.object.0
    ((going_back h key known row (page_in k.memory.frames row.frame.0) ∷ events) ++ past)
    × LegalEvents header h outside doing past events (going_back h key known row (page_in k.memory.frames row.frame.0) ∷ events)
ends_returned header h outside doing past who k ids rest key known row memory laundry events e goes = (
  record {
    runs = amid_of after (record { none_owed = refl; shut = λ region. refl }) (replied_behind tt m.replied);
    used = after.used;
    row = e.row;
    known = goes.objects.at o ∙ e.known;
    none = e.none;
    referred =
        but_known o known k.chains k.memory.objects memory.objects memory.resident (put_same o known k.memory.objects memory.objects goes.objects goes.found)
        (λ p2 row2 found. stays_served goes.found refl refl)
        (but_gone o o key.page.0 k.chains k.memory.objects k.memory.resident memory.resident c.row e.referred);
  },
  goes_one header h outside doing past events (going_back h key known row (page_in k.memory.frames row.frame.0)) m.settled
      (return_follows key known.control (inside e) c.found goes.here goes.wanted (live_at k.memory.objects o goes.found goes.live) after
      (Ended refl goes.declared (unheld header h k ids rest (events ++ past) o e.row m e.used.copies e.known e.none goes.declared))
      (none_in_front m o key.page.0 goes.first)),
)
  where
    m : Matches header h k ids rest (events ++ past)
    m = e.runs.matches

    o : ℕ
    o = key.object.0

    c : Removes key row k.memory memory
    c = goes.removes

    after : Amidst header h (record k { memory = memory; laundry = laundry }) ids rest who
        (going_back h key known row (page_in k.memory.frames row.frame.0) ∷ (events ++ past))
    after =
        amidst_returned key known.control (inside e) goes.here (unsent header h past who k ids rest key row events e c.found) c goes.objects goes.absent
        (fit_lost m.core.fits.parts c goes.objects goes.buffers) (ap (λ z. z.size) goes.buffers) goes.held goes.room

-- its control ends

-- the row of an object whose control has ended
abbrev pub quiet_row : ObjectRow → ObjectRow
quiet_row row = record row { live = false; state = state.Without }

pub pages_quiet : (size control o : ℕ) (fs : FrameTable) (rs : ResidentTable) (os os2 : ObjectTable) (local_at : ℕ → ℕ → Local) (live_at : ℕ → Option ℕ)
    → HasPages fs rs os local_at → live_at o ≡ Some control → ((p : ℕ) → row_at rs o p ≡ None) → SameMarks os os2
    → HasPages fs rs os2 (λ o2 p. local_after size (if o == o2 then (if is_control control (live_at o2) then EndsControl else Elsewhere) else Elsewhere)
    (local_at o2 p))
pages_quiet size control o fs rs os os2 local_at live_at has live bare marks =
    record {
      shown = λ o2 p. elim (eqb_tells o o2) [
        | inl same ↦
            let none : row_at rs o2 p ≡ None = subst (λ (z : ℕ). row_at rs z p ≡ None) same.1 (bare p) in
            let had : local_at o2 p ≡ local_of_row fs None (absent_at os o2 p) = has.shown o2 p ∙ ap (λ z. local_of_row fs z (absent_at os o2 p)) none in
            let its : is_control control (live_at o2) ≡ true = ap (λ z. is_control control (live_at z)) (sym same.1)
            ∙ (ap (is_control control) live ∙ itself control) in
            ap (λ b. local_after size (if b then (if is_control control (live_at o2) then EndsControl else Elsewhere) else Elsewhere) (local_at o2 p)) same.0
            ∙ (ap (λ b. local_after size (if b then EndsControl else Elsewhere) (local_at o2 p)) its
            ∙ (ap (local_after size EndsControl) had ∙ (ap (λ z. record away { absent = z }) (sym (marks.at o2 p))
            ∙ sym (ap (λ z. local_of_row fs z (absent_at os2 o2 p)) none))))
        | inr apart ↦
            ap (λ b. local_after size (if b then (if is_control control (live_at o2) then EndsControl else Elsewhere) else Elsewhere) (local_at o2 p)) apart.0
            ∙ (has.shown o2 p ∙ ap (local_of_row fs (row_at rs o2 p)) (sym (marks.at o2 p)))
      ];
    }

pub controls_quiet : {d h : ℕ} {home_at : ℕ → Option ℕ} (control o : ℕ) (row : ObjectRow) (os os2 : ObjectTable) (last_at : ℕ → ℕ) (live_at : ℕ → Option ℕ)
    (ready_at : ℕ → Bool) → HasControls d h os last_at live_at ready_at home_at → object_at os o ≡ Some row → live_at o ≡ Some control
    → PutsObject o (Some (quiet_row row)) os os2 → HasControls d h os2 last_at (λ o2. if o == o2 then without_control control (live_at o2) else live_at o2)
    ready_at home_at
controls_quiet {h = h} {home_at = home_at} control o row os os2 last_at live_at ready_at has found live put =
    record {
      last = λ o2. elim (cases o2) [
        | inl this ↦ has.last o2 ∙ (ap last_in (was o2 this.0) ∙ sym (ap last_in this.1))
        | inr other ↦ has.last o2 ∙ sym (ap last_in other.1)
      ];
      live = λ o2. elim (eqb_tells o o2) [
        | inl same ↦
            ap (λ b. if b then without_control control (live_at o2) else live_at o2) same.0
            ∙ (ap (without_control control) (alive o2 same.1) ∙ (ended ∙ sym (ap live_in (now o2 same.1))))
        | inr apart ↦ ap (λ b. if b then without_control control (live_at o2) else live_at o2) apart.0 ∙ (has.live o2 ∙ sym (ap live_in (kept o2 apart.1)))
      ];
      ready = λ o2 number is. elim (eqb_tells o o2) [
        | inl same ↦
            let none : (if o == o2 then without_control control (live_at o2) else live_at o2) ≡ None = ap
            (λ b. if b then without_control control (live_at o2) else live_at o2) same.0 ∙ (ap (without_control control) (alive o2 same.1) ∙ ended) in
            absurd (let bad : None ≡ Some number = sym none ∙ is in cc)
        | inr apart ↦
            let still : (if o == o2 then without_control control (live_at o2) else live_at o2) ≡ live_at o2 = ap
            (λ b. if b then without_control control (live_at o2) else live_at o2) apart.0 in
            has.ready o2 number (sym still ∙ is) ∙ sym (ap ready_in (kept o2 apart.1))
      ];
      all_live = record {
        at = λ o2 row2 is told. elim (cases o2) [
          | inl this ↦ absurd (told (ap (λ z. z.state) (some_is row2 (quiet_row row) (sym is ∙ this.1))))
          | inr other ↦ has.all_live.at o2 row2 (sym other.1 ∙ is) told
        ];
      };
      numbers = record {
        at = λ o2 row2 is. elim (cases o2) [
          | inl this ↦ subst (λ (z : ℕ). z < 2 ^ 32 - 1) (ap (λ z. z.control) (some_is (quiet_row row) row2 (sym this.1 ∙ is))) (has.numbers.at o row found)
          | inr other ↦ has.numbers.at o2 row2 (sym other.1 ∙ is)
        ];
      };
      ended = λ o2 row2 is lives none. elim (cases o2) [
        | inl this ↦ absurd (let bad : true ≡ false = sym lives ∙ ap (λ z. z.live) (some_is row2 (quiet_row row) (sym is ∙ this.1)) in cc)
        | inr other ↦ has.ended o2 row2 (sym other.1 ∙ is) lives none
      ];
      home = λ o2 row2 least is. elim (cases o2) [
        | inl this ↦ subst (λ (z : ℕ). home_at z ≡ Some h) this.0 (has.home o row (let same = this.0 in omega (arith, same, least)) found)
        | inr other ↦ has.home o2 row2 least (sym other.1 ∙ is)
      ];
    }
  where
    cases : (o2 : ℕ) → ((o ≡ o2) × (object_at os2 o2 ≡ Some (quiet_row row))) ⊎ ((o ≡ o2 → ⊥) × (object_at os2 o2 ≡ object_at os o2))
    cases o2 = one_case o o2 (Some (quiet_row row)) (object_at os o2) (object_at os2 o2) (put.at o2)

    was : (o2 : ℕ) → o ≡ o2 → object_at os o2 ≡ Some row
    was o2 same = subst (λ (z : ℕ). object_at os z ≡ Some row) same found

    now : (o2 : ℕ) → o ≡ o2 → object_at os2 o2 ≡ Some (quiet_row row)
    now o2 same = elim (cases o2) [ inl this ↦ this.1 | inr other ↦ absurd (other.0 same) ]

    kept : (o2 : ℕ) → (o ≡ o2 → ⊥) → object_at os2 o2 ≡ object_at os o2
    kept o2 apart = elim (cases o2) [ inl this ↦ absurd (apart this.0) | inr other ↦ other.1 ]

    alive : (o2 : ℕ) → o ≡ o2 → live_at o2 ≡ Some control
    alive o2 same = subst (λ (z : ℕ). live_at z ≡ Some control) same live

    ended : without_control control (Some control) ≡ None
    ended = ap (λ b. if b then None else Some control) (itself control)

no_less : (n : ℕ) → n ≡ n - 0
no_less n = omega arith

none_without : (b : Bool) (control : ℕ) → (if b then without_control control None else None) ≡ None
none_without true control = refl
none_without false control = refl

-- the control ends, and its pager is told
pub ends_told : (header : Header) (h : ℕ) (outside : Outside) (doing : Command) (past : List Event) (who : Woken) (k : Parts) (ids : Ids) (rest : List Entry)
    (object : ObjectId) (events : List Event) (row : ObjectRow) (objects : ObjectTable)
    → EndsObject header h who k ids rest object.0 (events ++ past) → ((p : ℕ) → row_at k.memory.resident object.0 p ≡ None)
    → object_at k.memory.objects object.0 ≡ Some row → row.live ≡ true
    → PutsObject object.0 (Some (quiet_row row)) k.memory.objects objects → SameMarks k.memory.objects objects
    → EndsObject header h who (record k { memory = record k.memory { objects = objects } }) ids rest object.0
    ((event.Sent (Up (host_id h) object) (message.Terminate row.control) ∷ events) ++ past)
    × LegalEvents header h outside doing past events (event.Sent (Up (host_id h) object) (message.Terminate row.control) ∷ events)
ends_told header h outside doing past who k ids rest object events row objects s none found live put marks = (
  record {
    runs = amid_of after (record { none_owed = refl; shut = λ region. refl }) (replied_behind tt m.replied);
    used = after.used;
    row = quiet_row row;
    known = known_put o (quiet_row row) k.memory.objects objects put;
    none = unreferred;
    referred =
        but_known o (quiet_row row) k.chains k.memory.objects objects k.memory.resident put
        (λ p row2 there. absurd (let bad : None ≡ Some row2 = sym (none p) ∙ there in cc)) s.referred;
  },
  goes_one header h outside doing past events ending m.settled (record {
    consequence = tt;
    cause = cause;
    own_bytes = tt;
    frames = suffices header h k.memory.frames (ending ∷ moment) counted;
    inner = tt;
    said = refl;
    own = own_named h;
    creates = tt;
  }),
)
  where
    moment : List Event
    moment = events ++ past

    o : ℕ
    o = object.0

    m : Matches header h k ids rest (events ++ past)
    m = s.runs.matches

    ending : Event
    ending = event.Sent (Up (host_id h) object) (message.Terminate row.control)

    unreferred : row.references ≡ 0
    unreferred = ap (λ z. z.references) (some_is row s.row (sym found ∙ s.known)) ∙ s.none

    uncached : row.cache ≡ false
    uncached = uncached_unreferred m.core.objects.regions o row found unreferred

    quiet : IsOfKind header object.0 (quiet_row row)
    quiet =
        let its = m.core.objects.kinds.kinds object.0 row found in
        record {
          lives = refl;
          temporary = λ least. record {
            kind = (its.temporary least).kind;
            uncached = uncached;
            number = λ some. absurd (omega (arith, some, unreferred));
          };
          declared =
              λ less. record {
                kind = (its.declared less).kind;
                pages = (its.declared less).pages;
                told = λ tame some. absurd (omega (arith, some, unreferred));
                number = (its.declared less).number;
              };
        }

    alive : live_control h object.0 (events ++ past) ≡ Some row.control
    alive = m.core.controls.live object.0 ∙ (ap live_in found ∙ ap (λ b. if b then Some row.control else None) live)

    bare : (p : ℕ) → known_local header object.0 p (local header h (place_of object.0 p) (events ++ past)) ≡ local_of_row k.memory.frames None
        (absent_at k.memory.objects object.0 p)
    bare p = m.core.pages.shown.shown object.0 p ∙ ap (λ z. local_of_row k.memory.frames z (absent_at k.memory.objects object.0 p)) (none p)

    pages : HasPages k.memory.frames k.memory.resident objects (λ o2 p. known_local header o2 p (local header h (place_of o2 p)
        (event.Sent (Up (host_id h) object) (message.Terminate row.control) ∷ (events ++ past))))
    pages = rw (own_host h)
        (pages_known header header.size (λ o2 p. if o == o2 then (if is_control row.control (live_control h o2 moment) then EndsControl else Elsewhere) else
        Elsewhere) (λ o2 p. local header h (place_of o2 p) moment)
        (λ o2 p. other_if (o == o2) (if is_control row.control (live_control h o2 moment) then EndsControl else Elsewhere)
        (other_if (is_control row.control (live_control h o2 moment)) EndsControl tt))
        (pages_quiet header.size row.control o k.memory.frames k.memory.resident k.memory.objects objects
        (λ o2 p. known_local header o2 p (local header h (place_of o2 p) moment)) (λ o2. live_control h o2 moment) m.core.pages.shown alive none marks))

    controls : HasControls (named header) h objects (λ o2. last_control h o2 (ending ∷ moment)) (λ o2. live_control h o2 (ending ∷ moment))
        (λ o2. is_ready h o2 (ending ∷ moment)) (λ o2. object_home o2 moment)
    controls =
        rw (own_host h) (controls_quiet row.control o row k.memory.objects objects (λ o2. last_control h o2 moment)
        (λ o2. live_control h o2 moment) (λ o2. is_ready h o2 moment) m.core.controls found alive put)

    -- its pager didn't destroy it in this step: then it had no control
    kept : is_destroyed h o (destroy_taken moment) ≡ false
    kept = by (is_destroyed h o (destroy_taken moment)) refl
      where
        by : (b : Bool) → is_destroyed h o (destroy_taken moment) ≡ b → is_destroyed h o (destroy_taken moment) ≡ false
        by true is = absurd (let bad : None ≡ Some row.control = sym (m.core.calm o is).1 ∙ alive in cc)
        by false is = is

    calm_end : IsCalm (named header) (λ o2. live_control h o2 (ending ∷ moment)) (λ o2. is_destroyed h o2 (destroy_taken (ending ∷ moment)))
    calm_end o2 is =
        let was = m.core.calm o2 is in
        (was.0, ap (λ z. if h == h && o == o2 then without_control row.control z else z) was.1 ∙ none_without (h == h && o == o2) row.control)

    counted : HasFrames (slice_get (reverse header.frames.items) h) k.memory.frames (frames_held header h (ending ∷ moment)) (frames_wired h (ending ∷ moment))
    counted = rw (own_host h, kept) (subst (λ (n : ℕ). HasFrames (slice_get (reverse header.frames.items) h) k.memory.frames n (frames_wired h moment))
        (no_less (frames_held header h moment)) m.core.pages.counted)

    after : Amidst header h (record k { memory = record k.memory { objects = objects } }) ids rest who
        (event.Sent (Up (host_id h) object) (message.Terminate row.control) ∷ (events ++ past))
    after =
        let core = m.core in
        record {
          core = record {
            setting = core.setting;
            calm = calm_end;
            fits = fits_known found put refl core.fits;
            spaces = core.spaces;
            objects = objects_known found put marks refl refl refl quiet core.objects;
            copied = copied_put o row (quiet_row row) objects found put refl (λ some. absurd (omega (arith, some, unreferred))) core.copied;
            controls = controls;
            flags = rw (own_host h) (flags_set o (quiet_row row) false put uncached core.flags);
            pages = record { shown = pages; washed = m.core.pages.washed; counted = counted };
          };
          used = s.used;
          waits = waits_quiet header h ending moment
              (λ place. quiet_if (h == h && o == place.object.0) (if is_control row.control (live_control h place.object.0 moment) then EndsControl else
              Elsewhere)
              Elsewhere (quiet_if (is_control row.control (live_control h place.object.0 moment)) EndsControl Elsewhere tt tt) tt)
              (waits_told k.maps k.chains k.memory.resident k.memory.objects objects k.waits.rows (is_woken who) (λ t. waiting t moment) s.runs.waits
              (told_apart k.maps k.chains k.memory.objects objects o (Some (quiet_row row)) put
              (unreferred_region m.core.objects.regions o row found unreferred)
              (unreferred_shadow m.core.objects.regions o row found unreferred))
              (λ o2 p page there is. elim (one_case o o2 (Some (quiet_row row)) (object_at k.memory.objects o2) (object_at objects o2) (put.at o2)) [
                | inl this ↦ absurd (let bad : None ≡ Some page = sym (subst (λ (z : ℕ). row_at k.memory.resident z p ≡ None) this.0 (none p)) ∙ there in cc)
                | inr other ↦ ap ready_in other.1 ∙ is
              ]));
          order = s.runs.order;
        }

    cause : CausedInTurn header outside doing (event.Sent (Up (host_id h) object) (message.Terminate row.control)) (events ++ past)
    cause = record {
      live = alive;
      away = λ p. ap (λ z. z.here) (bare p);
      why = elim (kind_cases header object.0) [
        | inl declared ↦ Unheld declared (unheld header h k ids rest (events ++ past) object.0 row m s.used.copies found unreferred declared)
            (λ p. ap (λ z. z.asked) (bare p))
        | inr temporary ↦ Unreachable temporary (unreached header h k ids rest (events ++ past) object.0 row m s.used.copies found unreferred temporary)
            (λ p. ap (λ z. z.asked) (bare p))
      ];
    }

-- what stood under it goes

pub entries_kept : (size : ℕ) (maps : Mapped) (cs cs2 : ChainTable) (rest : List Entry) → ((r : ℕ) → region_at cs2 r ≡ region_at cs r)
    → HasEntries size maps cs rest → HasEntries size maps cs2 rest
entries_kept size maps cs cs2 rest same has =
    record {
      inside = λ task.
          rows_map (IsInside size cs) (IsInside size cs2)
          (λ row is. record {
            region = ap is_some (same row.region.0) ∙ is.region;
            some = is.some;
            below = is.below;
            inside = subst (λ (z : ℕ). Inside size z row) (sym (ap pages_in (same row.region.0))) is.inside;
          })
          (rows_in task maps) (has.inside task);
      known =
          rows_map (λ row. has_region cs row.region.0 ≡ true) (λ row. has_region cs2 row.region.0 ≡ true) (λ row is. ap is_some (same row.region.0) ∙ is) rest
          has.known;
      most = has.most;
      few = has.few;
      counts = λ r row found. has.counts r row (sym (same r) ∙ found);
    }

-- it is one copy object less, or was none

ended_waits : (header : Header) (h : ℕ) (who : Woken) (k : Parts) (past : List Event) {copies : CopyTable} (o : ℕ)
    → LeavesCopies o k.copies copies → ((p : ℕ) → row_at k.memory.resident o p ≡ None) → HasWaits header h k who past
    → HasWaits header h (record k { copies = copies }) who past
ended_waits header h who k past o (WasCopy row ends living) bare waits =
    waits_ended k.maps k.chains k.memory.resident k.memory.objects k.waits.rows (is_woken who) (λ t. waiting t past) o row waits ends
    (λ p asked. let bad : None ≡ Some asked.row = sym (bare p) ∙ asked.found in cc)
ended_waits header h who k past o (WasNone plain same) bare waits =
    subst (λ (z : CopyTable). HasWaits header h (record k { copies = z }) who past) (sym same) waits

-- its row among the copy objects goes, once its pages have
pub ends_copy : {header : Header} {h : ℕ} {past : List Event} {who : Woken} {k : Parts} {ids : Ids} {rest : List Entry} {copies : CopyTable} (o : ℕ)
    → EndsObject header h who k ids rest o past → LeavesCopies o k.copies copies → ((p : ℕ) → row_at k.memory.resident o p ≡ None)
    → EndsObject header h who (record k { copies = copies }) ids rest o past
ends_copy {header = header} {h = h} {past = past} {who = who} {k = k} o e leaves bare =
    let m = e.runs.matches in
    let core = m.core in
    record {
      runs = record {
        matches = record {
          core = record {
            setting = core.setting;
            calm = core.calm;
            fits = core.fits;
            spaces = core.spaces;
            objects = core.objects;
            copied = copied_ended o leaves (not_referred o e.row k.memory.objects e.known e.none) core.copied;
            controls = core.controls;
            flags = core.flags;
            pages = core.pages;
          };
          settled = m.settled;
          replied = m.replied;
        };
        waits = ended_waits header h who k past o leaves bare e.runs.waits;
        order = e.runs.order;
      };
      used = e.used;
      row = e.row;
      known = e.known;
      none = e.none;
      referred = e.referred;
    }

-- An object to which nothing refers, without pages and without a control, loses what stands under it: that has so many references left. It is no newest copy.
pub record LeavesOne (k : Parts) (o left : ℕ) (row : ShadowRow) (known : ObjectRow) (chains : ChainTable) (objects : ObjectTable) : Type 0 where
  pub bare : (p : ℕ) → row_at k.memory.resident o p ≡ None
  pub quiet : (known : ObjectRow) → object_at k.memory.objects o ≡ Some known → known.live ≡ false
  pub found : shadow_at k.chains o ≡ Some row
  pub drops : DropsShadow o k.chains chains
  pub under : object_at k.memory.objects row.under.0 ≡ Some known
  pub less : left + 1 ≡ known.references
  pub put : PutsObject row.under.0 (Some (record known { references = left })) k.memory.objects objects
  pub marks : SameMarks k.memory.objects objects
  pub none : IsNoNewest k.copies o

inside_dropped : (header : Header) (h : ℕ) (past : List Event) (who : Woken) (k : Parts) (ids : Ids) (rest : List Entry) (o left : ℕ) (row : ShadowRow)
    (known : ObjectRow) (chains : ChainTable) (objects : ObjectTable)
    → EndsObject header h who k ids rest o past → LeavesOne k o left row known chains objects
    → Amidst header h (record k { chains = chains; memory = record k.memory { objects = objects } }) ids rest who past
inside_dropped header h past who k ids rest o left row known chains objects e leaves =
    let core = (inside e).core in
    let under = row.under.0 in
    let regions = core.objects.regions in
    record {
      core = record {
        setting = core.setting;
        calm = core.calm;
        fits = fits_known leaves.under leaves.put refl core.fits;
        spaces = record {
          tasks = core.spaces.tasks;
          entries = entries_kept header.size k.maps k.chains chains rest (λ r. ap (λ f. f r) leaves.drops.regions) core.spaces.entries;
          shared = core.spaces.shared;
          uses = core.spaces.uses;
          homes = (λ r region paged found. core.spaces.homes.0 r region paged (sym (ap (λ f. f r) leaves.drops.regions) ∙ found), core.spaces.homes.1);
        };
        objects = record {
          regions = regions_dropped o left row e.row known k.chains chains k.memory.objects objects ids _ _ _ _ _ leaves.found e.known e.none leaves.drops
              leaves.under leaves.less leaves.put regions;
          kinds = kinds_put header under (record known { references = left }) k.memory.objects objects chains leaves.put leaves.marks
              (kind_referred header under known left (let less = leaves.less in omega (arith, less)) (core.objects.kinds.kinds under known leaves.under))
              (kinds_dropped header o k.memory.objects k.chains chains leaves.drops core.objects.kinds);
          files = files_put header h under known (record known { references = left }) k.memory.objects objects _ leaves.under leaves.put core.objects.files;
          sizes = sizes_put (named header) under known (record known { references = left }) k.memory.objects objects _ leaves.under refl leaves.put
              core.objects.sizes;
          undelayed = core.objects.undelayed;
        };
        copied = copied_dropped o leaves.drops leaves.none (copied_referred under left known objects leaves.under leaves.put
            (λ some. let less = leaves.less in omega (arith, less)) core.copied);
        controls = controls_referred under left known k.memory.objects objects _ _ _ leaves.under leaves.put core.controls;
        flags = flags_put under (record known { references = left }) leaves.put (ap cached_in leaves.under) core.flags;
        pages = pages_known_so leaves.marks core.pages;
      };
      used = record {
        regions = λ r row found. e.used.regions r row (sym (ap (λ f. f r) leaves.drops.regions) ∙ found);
        copies =
            copies_kept k.maps k.maps k.chains chains k.memory.resident k.memory.resident e.used.copies (λ t w found. record { size = refl; entries = refl })
            (dropped_filled o k.chains chains leaves.drops) (rows_unmade k.chains k.memory.resident);
      };
      waits =
          waits_dropped k.maps k.chains chains k.memory.resident k.memory.objects objects k.waits.rows (is_woken who) (λ t. waiting t past) o under left known
          e.runs.waits leaves.drops (unreferred_region regions o e.row e.known e.none) (unreferred_shadow regions o e.row e.known e.none) leaves.under
          leaves.put;
      order = e.runs.order;
    }

-- something else refers to that still
pub whole_dropped : (header : Header) (h : ℕ) (past : List Event) (who : Woken) (k : Parts) (ids : Ids) (rest : List Entry) (o left : ℕ) (row : ShadowRow)
    (known : ObjectRow) (events : List Event) (chains : ChainTable) (objects : ObjectTable)
    → EndsObject header h who k ids rest o (events ++ past) → LeavesOne k o left row known chains objects → 0 < left
    → IsWhole header h who (record k { chains = chains; memory = record k.memory { objects = objects } }) ids rest (events ++ past)
whole_dropped header h past who k ids rest o left row known events chains objects e leaves some =
    let after = inside_dropped header h (events ++ past) who k ids rest o left row known chains objects e leaves in
    record {
      runs = amid_of after e.runs.matches.settled e.runs.matches.replied;
      used = after.used;
      referred =
          referred_dropped o row.under.0 (record known { references = left }) k.chains chains k.memory.objects objects k.memory.resident leaves.drops leaves.put
          some (stays_served leaves.under refl refl) leaves.quiet leaves.bare e.referred;
    }

-- or nothing does, and it ends too
pub ends_dropped : (header : Header) (h : ℕ) (past : List Event) (who : Woken) (k : Parts) (ids : Ids) (rest : List Entry) (o : ℕ) (row : ShadowRow)
    (known : ObjectRow) (events : List Event) (chains : ChainTable) (objects : ObjectTable)
    → EndsObject header h who k ids rest o (events ++ past) → LeavesOne k o 0 row known chains objects
    → EndsObject header h who (record k { chains = chains; memory = record k.memory { objects = objects } }) ids rest row.under.0 (events ++ past)
ends_dropped header h past who k ids rest o row known events chains objects e leaves =
    let after = inside_dropped header h (events ++ past) who k ids rest o 0 row known chains objects e leaves in
    record {
      runs = amid_of after e.runs.matches.settled e.runs.matches.replied;
      used = after.used;
      row = record known { references = 0 };
      known = known_put row.under.0 (record known { references = 0 }) k.memory.objects objects leaves.put;
      none = refl;
      referred =
          but_dropped o row.under.0 (record known { references = 0 }) k.chains chains k.memory.objects objects k.memory.resident leaves.drops leaves.put
          (stays_served leaves.under refl refl) leaves.quiet leaves.bare e.referred;
    }
