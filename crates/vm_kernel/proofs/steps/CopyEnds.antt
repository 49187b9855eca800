-- A slow copy ends once all its pages are copied: its row goes, and its task gets the entry of what it filled.
use Rattle.vm_kernel.proofs.Common.{Bool, ChainTable, ChangesOnly, Command, Enters, Entry, Event, HasCopies, HasUse, HasWaiters, Header, Ids, IsFilledIn}
use Rattle.vm_kernel.proofs.Common.{IsInside, IsUsed, LegalEvents, List, Mapped, Matches, None, ObjectId, Option, Outside, Parts, PutsEntries, PutsEntry}
use Rattle.vm_kernel.proofs.Common.{RegionRow, Some, TaskId, WaitTable, Waiting, Works, [], ap, arith, begun_at, copy_target, entered, entries_in}
use Rattle.vm_kernel.proofs.Common.{entries_in_row, entries_of, entry, eqb_tells, false, fills_in, got, holds, host_of, if◌then◌else◌, in_use, inl, inr}
use Rattle.vm_kernel.proofs.Common.{is_range, is_some, is_woken, length, lives_on, most_entries, named, nat_lt, nat_tests, next_page, next_region, one_case}
use Rattle.vm_kernel.proofs.Common.{owed, page_below, pages_in, refl, region_at, region_entries, region_of, region_pages, rows_in, some_is, subst, sym, tasks}
use Rattle.vm_kernel.proofs.Common.{true, waiting, waiting_in, whole_entry, with_entries, ℕ, ◌*◌, ◌++◌, ◌+◌, ◌-◌, ◌/◌, ◌<◌, ◌^◌, ◌∙◌, ◌∷◌, ◌≡◌, ◌≤◌, ◌⊎◌}
use Rattle.vm_legal.proofs.Files.{file_paged}
use Rattle.std.proofs.Math.Nat.{mul-div_cancel}
use Rattle.std.specs.Prelude.{MatchOption}
use Rattle.vm_abroad.proofs.Home.{object_stays}
use Rattle.vm_base.specs.Pages.{IsPageSize}
use Rattle.vm_kernel.proofs.memory.ComesForAccess.{asks_none_now}
use Rattle.vm_kernel.proofs.space.RegionCopied.{keeps_recounted, same_put}
use Rattle.vm_kernel.proofs.space.RegionsFilled.{same_waiting}
use Rattle.vm_kernel.proofs.steps.CopyGoesOn.{Copying}
use Rattle.vm_kernel.proofs.steps.EventsGrow.{licensed, suffices}
use Rattle.vm_kernel.proofs.abroad.OwnEvents.{mine_of, own_task}
use Rattle.vm_kernel.proofs.steps.RowsInOrder.{PutsInOrder}
use Rattle.vm_kernel.proofs.abroad.OwnHost.{lives_here}
use Rattle.vm_kernel.proofs.memory.PagesShown.{itself}
use Rattle.vm_kernel.proofs.space.CountsChanged.{recounts_put}
use Rattle.vm_kernel.proofs.controls.LockReplied.{replied_behind}
use Rattle.vm_kernel.proofs.space.EntriesRewritten.{lives_below, recount_homes}
use Rattle.vm_kernel.proofs.space.ForkShares.{entries_share, lives_some}
use Rattle.vm_kernel.proofs.space.SharedEntries.{kinds_recounted, shared_entered, temporary_shared}
use Rattle.vm_kernel.proofs.space.TaskTables.{tasks_entered}
use Rattle.vm_kernel.proofs.space.RegionsInUse.{fills_here, holds_rows, holds_waits, unfilled, uses_entered}
use Rattle.vm_kernel.specs.Serving.{runs_now}
use Rattle.vm_kernel.specs.Slow.{CanEndCopy, CanEndWant, EndsCopyIn, EndsWant, MapsFilled, filled_entry}
use Rattle.vm_legal.specs.Licences.{EndsCopy, EntryOf, Owed, Pays, entry_of}
use Rattle.vm_maps.proofs.Range.{range_is}
use Rattle.vm_model.specs.Waiting.{Copying as Copies}
use Rattle.vm_model.specs.declared.event.Event.TheVariants as event
use Rattle.vm_state.proofs.Changing.{SameButEntries, regions_recounted, row_before}
use Rattle.vm_state.proofs.Files.{files_entered}
use Rattle.vm_state.proofs.Filling.{KeepsRegionOf, copies_kept_where, rows_unmade}
use Rattle.vm_state.proofs.Referred.{referred_recounted}
use Rattle.vm_state.proofs.Referring.{small_region}
use Rattle.vm_state.proofs.Waited.{told_changed, waits_changed}
use Rattle.vm_state.proofs.Waiting.{waiters_over}
use Rattle.vm_state.specs.Filling.{filled_row, is_destination}
use Rattle.vm_state.specs.Waiters.{access_in, copies_to}
use Rattle.vm_supply.specs.declared.woken.Woken.TheVariants as woken
use Rattle.vm_waits.specs.declared.waiting.Destination.{Destination}
use Rattle.vm_waits.specs.declared.waiting.Want.{Want}
use Rattle.vm_waits.specs.declared.waiting.Want.TheVariants as want
use Rattle.vm_kernel.proofs.controls.WaitersFail.{fills_apart}
use Rattle.vm_kernel.proofs.space.CopiesEnd.{copied_regions}
use Rattle.vm_state.specs.Passed.{IsUnmet, StaysAway}
use Rattle.vm_kernel.proofs.memory.PageReturned.{controls_stay}
use Rattle.vm_kernel.proofs.space.RegionHomes.{homes_caused}
use Rattle.vm_kernel.proofs.space.StillThin.{thin_chains}

-- so many whole pages are so many
counted_pages : (size pages : ℕ) → 0 < size → pages * size / size ≡ pages
counted_pages size pages some = mul-div_cancel pages some

-- a page has bytes
some_bytes : (size address bytes : ℕ) → is_range size address (bytes * size) ≡ true → 0 < size
some_bytes size address bytes range = let is = (range_is size address (bytes * size) range).some in by size is
  where
    by : (n : ℕ) → 0 < bytes * n → 0 < n
    by n some = grind arith

-- and no more than their bytes
few_pages : (size pages : ℕ) → IsPageSize size → pages * size ≤ 2 ^ 32 → pages < 2 ^ 32
few_pages size pages page end = grind arith

-- the row of one access goes

row_gone : (t : ℕ) (rows rows2 : List Waiting) → PutsEntry t None rows rows2 → entry rows2 t ≡ None
row_gone t rows rows2 put = put.at t ∙ ap (λ b. if b then None else entry rows t) (itself t)

row_left : (t u : ℕ) (w : Waiting) (rows rows2 : List Waiting) → PutsEntry t None rows rows2 → entry rows2 u ≡ Some w → (t ≡ u → ⊥) × (entry rows u ≡ Some w)
row_left t u w rows rows2 put found = elim (one_case t u None (entry rows u) (entry rows2 u) (put.at u)) [
  | inl this ↦ absurd (let bad : None ≡ Some w = sym this.1 ∙ found in cc)
  | inr other ↦ (other.0, sym other.1 ∙ found)
]

-- what others fill they filled
filled_left : (t r : ℕ) (rows rows2 : List Waiting) → PutsEntry t None rows rows2 → IsFilledIn rows2 r → IsFilledIn rows r
filled_left t r rows rows2 put filled = record { task = filled.task; fills = (fills_apart t filled.task r rows rows2 put filled.fills).1 }

-- and what the access didn't fill is filled still
filled_still : (t r : ℕ) (rows rows2 : List Waiting) → PutsEntry t None rows rows2 → fills_in r (entry rows t) ≡ false → IsFilledIn rows r → IsFilledIn rows2 r
filled_still t r rows rows2 put none filled = elim (one_case t filled.task None (entry rows filled.task) (entry rows2 filled.task) (put.at filled.task)) [
  | inl this ↦ absurd (let bad : false ≡ true = sym none ∙ (ap (λ z. fills_in r (entry rows z)) this.0 ∙ filled.fills) in cc)
  | inr other ↦ record { task = filled.task; fills = ap (fills_in r) other.1 ∙ filled.fills }
]

-- regions that are filled by others are as they were, where one region counts anew
keeps_others : (n count : ℕ) (cs cs2 : ChainTable) (x : Option Waiting) → PutsEntries n count cs cs2 → fills_in n x ≡ false → KeepsRegionOf cs cs2 x
keeps_others n count cs cs2 x put none r object pages fills_it region alone = (
  elim (one_case n r (with_entries count (region_at cs n)) (region_at cs r) (region_at cs2 r) (put.at r)) [
    | inl this ↦ absurd (let bad : false ≡ true = sym none ∙ (ap (λ z. fills_in z x) this.0 ∙ fills_it) in cc)
    | inr other ↦ other.1 ∙ region
  ],
  record {
    tops =
        λ q row found top. let b = row_before _ cs cs2 (recounts_put n count cs cs2 put) q row found in alone.tops q b.was b.found
        (sym (ap (λ z. z.top.0) b.is) ∙ top);
    unders = λ s row found under. alone.unders s row (sym (ap (λ f. f s) put.shadows) ∙ found) under;
  },
)

-- What is known of a slow copy whose row has gone.

-- the region that the access fills
fills_own : {header : Header} {h : ℕ} {k : Parts} {ids : Ids} {past : List Event} {w : Waiting} {address pages : ℕ} {target : ObjectId} {next : ℕ}
    → (c : Copying header h k ids past w address pages target next) → fills_in c.slow.to.region.0 (entry k.waits.rows w.task.0) ≡ true
fills_own c = ap (fills_in c.slow.to.region.0) c.is ∙ (ap (is_destination c.slow.to.region.0) c.slow.goes ∙ itself c.slow.to.region.0)

-- is the only one that it fills
fills_one : {header : Header} {h : ℕ} {k : Parts} {ids : Ids} {past : List Event} {w : Waiting} {address pages : ℕ} {target : ObjectId} {next : ℕ}
    → (c : Copying header h k ids past w address pages target next) → (r : ℕ) → (c.slow.to.region.0 ≡ r → ⊥) → fills_in r (entry k.waits.rows w.task.0) ≡ false
fills_one c r apart =
    ap (fills_in r) c.is ∙ (ap (is_destination r) c.slow.goes
    ∙ elim (eqb_tells c.slow.to.region.0 r) [ inl same ↦ absurd (apart same.1) | inr other ↦ other.0 ])

-- and nobody else does
fills_nobody : {header : Header} {h : ℕ} {k : Parts} {ids : Ids} {past : List Event} {w : Waiting} {address pages : ℕ} {target : ObjectId} {next : ℕ}
    → (c : Copying header h k ids past w address pages target next) → (rows2 : List Waiting) → PutsEntry w.task.0 None k.waits.rows rows2
    → (t : ℕ) → fills_in c.slow.to.region.0 (entry rows2 t) ≡ false
fills_nobody {k = k} {w = w} c rows2 put t = by (fills_in c.slow.to.region.0 (entry rows2 t)) refl
  where
    by : (b : Bool) → fills_in c.slow.to.region.0 (entry rows2 t) ≡ b → b ≡ false
    by false is = refl
    by true is =
        let left = fills_apart w.task.0 t c.slow.to.region.0 k.waits.rows rows2 put is in absurd
        (left.0 (c.apart w.task.0 t c.slow.to.region.0 (fills_own c) left.1))

-- the others are as they were
copies_left : {header : Header} {h : ℕ} {k : Parts} {ids : Ids} {past : List Event} {w : Waiting} {address pages : ℕ} {target : ObjectId} {next : ℕ}
    → (c : Copying header h k ids past w address pages target next) → (rows2 : List Waiting) → PutsEntry w.task.0 None k.waits.rows rows2
    → HasCopies header k.maps k.chains k.memory.resident rows2 (λ t. next_page t past) (λ t. copy_target t past)
copies_left {k = k} {w = w} c rows2 put =
    record {
      each = λ t v found. let was = row_left w.task.0 t v k.waits.rows rows2 put found in c.others t v was.0 was.1;
      apart = λ t u r one two. c.apart t u r (fills_apart w.task.0 t r k.waits.rows rows2 put one).1 (fills_apart w.task.0 u r k.waits.rows rows2 put two).1;
    }

waits_left : {header : Header} {h : ℕ} {k : Parts} {ids : Ids} {past : List Event} {w : Waiting} {address pages : ℕ} {target : ObjectId} {next : ℕ}
    → (c : Copying header h k ids past w address pages target next) → runs_now w.on ≡ true → (rows2 : List Waiting) → PutsEntry w.task.0 None k.waits.rows rows2
    → HasWaiters k.maps k.chains k.copies k.memory.resident k.memory.objects rows2 (is_woken woken.Nobody) (λ t. waiting t (event.CopyEnded w.task ∷ past))
    (StaysAway header h (event.CopyEnded w.task ∷ past)) (IsUnmet header h (event.CopyEnded w.task ∷ past))
waits_left {k = k} {past = past} {w = w} c now rows2 put =
    waiters_over k.maps k.chains k.memory.resident k.memory.objects k.waits.rows rows2 (λ t. waiting t past) (λ t. waiting t (event.CopyEnded w.task ∷ past))
    w.task.0 w c.waits c.is (asks_none_now k w.on now) put (λ t. refl)

-- what holds of the range, the region and the task
record Ends (header : Header) (h : ℕ) (k : Parts) (past : List Event) (w : Waiting) (address pages : ℕ) (to : Destination) : Type 0 where
  lives : entries_in w.task.0 k.maps ≡ Some (rows_in w.task.0 k.maps)
  host : host_of w.task.0 past ≡ Some h
  here : lives_on h w.task.0 past ≡ true
  page : 0 < header.size
  range : is_range header.size to.address (pages * header.size) ≡ true
  waits : waiting w.task.0 past ≡ Some (Copies address (pages * header.size) to.address)
  temporary : named header ≤ to.region.0
  used : in_use header h to.region.0 past ≡ true
  made : to.region.0 < next_region header past
  pages_of : (region_of header to.region.0 past).pages ≡ pages
  inside : IsInside header.size k.chains (whole_entry to.address (pages * header.size) to.region)

ends_of : (header : Header) (h : ℕ) (k : Parts) (ids : Ids) (past : List Event) (w : Waiting) (address pages : ℕ) (target : ObjectId) (next : ℕ)
    → (c : Copying header h k ids past w address pages target next) → Ends header h k past w address pages c.slow.to
ends_of header h k ids past w address pages target next c =
    let m = c.matches in
    let to = c.slow.to in
    let lives = (c.waits.allowed w.task.0 w c.is).lives in
    let sized = m.core.spaces.tasks.sized in
    let range : is_range header.size to.address (pages * header.size) ≡ true = subst (λ (z : ℕ). is_range z to.address (pages * z) ≡ true) sized
    c.slow.place.range in
    let page = some_bytes header.size to.address pages range in
    let tests = range_is header.size to.address (pages * header.size) range in
    let count = counted_pages header.size pages page in
    let found = c.slow.region in
    let own : region_pages k.chains to.region.0 ≡ pages = ap pages_in found in
    let temporary = m.core.spaces.homes.1.fills w.task.0 (record { region = to.region.0; object = target.0 }) c.slow.made in
    record {
      lives = lives;
      host = lives_here m.core.spaces.tasks lives;
      here = m.core.spaces.tasks.hosts w.task.0 ∙ ap is_some lives;
      page = page;
      range = range;
      waits =
          c.waits.is w.task.0 (ap is_some lives) ∙ (ap (waiting_in k.maps.size) c.is
          ∙ (ap (λ z. Some (access_in k.maps.size (copies_to w.destination) z)) c.what
          ∙ (ap (λ z. Some (Copies address (pages * k.maps.size) (copies_to z))) c.slow.goes ∙ ap (λ z. Some (Copies address (pages * z) to.address)) sized)));
      temporary = temporary;
      used = (m.core.spaces.uses.used to.region.0 temporary).is (inr (record { task = w.task.0; fills = fills_own c }));
      made = small_region m.core.objects.regions to.region.0 (filled_row target pages) found;
      pages_of = ap (λ z. z.pages) (m.core.objects.regions.rows to.region.0 (filled_row target pages) found);
      inside =
          record {
            region = ap is_some found;
            some = tests.some;
            below = tests.end;
            inside =
                rw own (record {
                  whole = omega (arith, count);
                  each = λ a low high. let less = page_below header.size (a - to.address) (pages * header.size) (omega arith) tests.whole in omega
                      (arith, less, count);
                });
          };
    }

-- The two events.

-- the end has its cause
ends_cause : (header : Header) (h : ℕ) (k : Parts) (ids : Ids) (past : List Event) (w : Waiting) (address pages : ℕ) (target : ObjectId) (next : ℕ)
    → Copying header h k ids past w address pages target next → next + 1 ≡ pages → EndsCopy header w.task.0 past
ends_cause header h k ids past w address pages target next c last =
    let e = ends_of header h k ids past w address pages target next c in
    record { address = address; bytes = pages * header.size; to = c.slow.to.address; waits = e.waits; all = ap (λ z. z * header.size) (c.slow.next ∙ last) }

-- and so has the entry
enters_cause : (header : Header) (h : ℕ) (k : Parts) (ids : Ids) (past : List Event) (w : Waiting) (address pages : ℕ) (target : ObjectId) (next : ℕ)
    (rows2 : List Waiting) → (c : Copying header h k ids past w address pages target next) → runs_now w.on ≡ true → PutsEntry w.task.0 None k.waits.rows rows2
    → Enters header w.task.0 (pages * header.size) c.slow.to.region.0 0 (event.CopyEnded w.task ∷ past)
enters_cause header h k ids past w address pages target next rows2 c now put =
    let m = c.matches in
    let t = w.task.0 in
    let r = c.slow.to.region.0 in
    let first : Event = event.CopyEnded w.task in
    let e = ends_of header h k ids past w address pages target next c in
    let count = counted_pages header.size pages e.page in
    let own = e.pages_of in
    let copies_now : HasCopies header k.maps k.chains k.memory.resident rows2 (λ u. next_page u past) (λ u. copy_target u (first ∷ past)) = copies_left c rows2
    put in
    record {
      idle = ap (λ b. if b then None else waiting t past) (itself t);
      host = h;
      lives = e.host;
      whole = (range_is header.size c.slow.to.address (pages * header.size) e.range).whole;
      inside = omega (arith, own, count);
      made = e.made;
      used = λ temporary. e.used;
      file = λ is. e.used;
      unfilled =
          unfilled header.size r (tasks past) k.maps rows2 (first ∷ past) (fills_here {past = first ∷ past} (waits_left c now rows2 put) copies_now)
          (fills_nobody c rows2 put)
          (λ u none. holds_waits header.size t u r k.maps (rows_in t k.maps) past None e.lives none ∙ m.core.spaces.uses.apart u r none (inl e.used));
    }

-- and is owed
entry_owed : (header : Header) (h : ℕ) (k : Parts) (ids : Ids) (past : List Event) (w : Waiting) (address pages : ℕ) (target : ObjectId) (next : ℕ)
    → (c : Copying header h k ids past w address pages target next)
    → owed (event.CopyEnded w.task ∷ past) ≡ Some (EntryOf (record {
      task = w.task;
      address = c.slow.to.address;
      bytes = pages * header.size;
      region = c.slow.to.region.0;
    }))
entry_owed header h k ids past w address pages target next c =
    let e = ends_of header h k ids past w address pages target next c in
    ap (λ z. entry_of w.task z (copy_target w.task.0 past)) e.waits
    ∙ ap (entry_of w.task (Some (Copies address (pages * header.size) c.slow.to.address))) c.slow.made

-- the two events of the end, the newest first
abbrev pub copy_ending : TaskId → Entry → List Event
copy_ending task row = got task row ∷ event.CopyEnded task ∷ []

-- they follow from what stands in front of them
pub copy_end_goes : (header : Header) (h : ℕ) (outside : Outside) (doing : Command) (k : Parts) (ids : Ids) (past events : List Event) (w : Waiting)
    (address pages : ℕ) (target : ObjectId) (next : ℕ) (waits2 : WaitTable) → (c : Copying header h k ids (events ++ past) w address pages target next)
    → next + 1 ≡ pages → runs_now w.on ≡ true → PutsInOrder w.task.0 None k.waits.rows waits2.rows
    → LegalEvents header h outside doing past events (copy_ending w.task (filled_entry header.size pages c.slow.to) ++ events)
copy_end_goes header h outside doing k ids past events w address pages target next waits2 c last now put =
    let m = c.matches in
    let to = c.slow.to in
    let front = events ++ past in
    let e = ends_of header h k ids front w address pages target next c in
    let row = filled_entry header.size pages to in
    let first : Event = event.CopyEnded w.task in
    let second : Event = got w.task row in
    let due = entry_owed header h k ids front w address pages target next c in
    let fine = suffices header h k.memory.frames front m.core.pages.counted in
    record {
      more = copy_ending w.task row;
      is = refl;
      follows = (subst (λ (z : Option Owed). MatchOption z ⊥ (λ owes. Pays owes second)) (sym due) refl, (tt, tt));
      licensed = (
        (
          enters_cause header h k ids front w address pages target next waits2.rows c now put.entry,
          subst (λ (z : Option Owed). MatchOption z (Unit {0}) (λ owes. Pays owes second)) (sym due) refl,
        ),
        (licensed header outside doing first front m.settled.none_owed (ends_cause header h k ids front w address pages target next c last), tt),
      );
      own_bytes = (tt, (tt, tt));
      frames = (fine, (fine, tt));
      inner = (tt, (tt, tt));
      said = (tt, (tt, tt));
      mine = (
        mine_of header h second (first ∷ front) (λ region. refl) (own_task h w.task.0 (first ∷ front) e.here) tt,
        (mine_of header h first front m.settled.shut (own_task h w.task.0 front e.here) tt, tt),
      );
    }

-- The kernel behind them.

-- each region has an entry, or another access fills it
used_ended : {header : Header} {h : ℕ} {k : Parts} {ids : Ids} {past : List Event} {w : Waiting} {address pages : ℕ} {target : ObjectId} {next : ℕ}
    → (c : Copying header h k ids past w address pages target next) → (rows2 : List Waiting) → PutsEntry w.task.0 None k.waits.rows rows2
    → (cs2 : ChainTable) → PutsEntries c.slow.to.region.0 1 k.chains cs2 → (r : ℕ) (row : RegionRow) → region_at cs2 r ≡ Some row → (0 < row.entries)
    ⊎ IsFilledIn rows2 r
used_ended {k = k} {w = w} {pages = pages} {target = target} c rows2 put cs2 counts r row found =
    elim (one_case c.slow.to.region.0 r (with_entries 1 (region_at k.chains c.slow.to.region.0)) (region_at k.chains r) (region_at cs2 r) (counts.at r)) [
      | inl this ↦
          let count : 1 ≡ row.entries = ap (λ z. z.entries) (some_is (record (filled_row target pages) { entries = 1 }) row
          (sym (this.1 ∙ ap (with_entries 1) c.slow.region) ∙ found)) in
          inl (omega (arith, count))
      | inr other ↦ elim (c.regions r row (sym other.1 ∙ found)) [
        | inl some ↦ inl some
        | inr filled ↦ inr (filled_still w.task.0 r k.waits.rows rows2 put (fills_one c r other.0) filled)
      ]
    ]

-- the others' copies are as they were
copies_ended : {header : Header} {h : ℕ} {k : Parts} {ids : Ids} {past : List Event} {w : Waiting} {address pages : ℕ} {target : ObjectId} {next : ℕ}
    → (c : Copying header h k ids past w address pages target next) → (rows2 : List Waiting) → PutsEntry w.task.0 None k.waits.rows rows2
    → (maps2 : Mapped) (made : Option (List Entry)) → ChangesOnly k.maps maps2 w.task.0 made → (cs2 : ChainTable)
    → PutsEntries c.slow.to.region.0 1 k.chains cs2
    → HasCopies header maps2 cs2 k.memory.resident rows2 (λ t. next_page t past) (λ t. copy_target t past)
copies_ended {k = k} {w = w} c rows2 put maps2 made changes cs2 counts =
    copies_kept_where k.maps maps2 k.chains cs2 k.memory.resident k.memory.resident (copies_left c rows2 put)
    (same_waiting k.maps maps2 w.task.0 made rows2 changes (row_gone w.task.0 k.waits.rows rows2 put))
    (λ t. keeps_others c.slow.to.region.0 1 k.chains cs2 (entry rows2 t) counts (fills_nobody c rows2 put t)) (rows_unmade k.chains k.memory.resident)

-- the regions in use are
use_ended : (header : Header) (h : ℕ) (k : Parts) (ids : Ids) (past : List Event) (w : Waiting) (address pages : ℕ) (target : ObjectId) (next : ℕ)
    → (c : Copying header h k ids past w address pages target next) → (rows2 : List Waiting) → PutsEntry w.task.0 None k.waits.rows rows2
    → (maps2 : Mapped) → ChangesOnly k.maps maps2 w.task.0 (Some (entered (filled_entry header.size pages c.slow.to) (rows_in w.task.0 k.maps)))
    → HasUse header maps2 rows2 (λ r. in_use header h r (copy_ending w.task (filled_entry header.size pages c.slow.to) ++ past)) (tasks past)
    (λ t r. holds header.size t r (copy_ending w.task (filled_entry header.size pages c.slow.to) ++ past)) (next_region header past)
use_ended header h k ids past w address pages target next c rows2 put maps2 changes =
    let m = c.matches in
    let t = w.task.0 in
    let row = filled_entry header.size pages c.slow.to in
    let e = ends_of header h k ids past w address pages target next c in
    uses_entered header k.maps maps2 (λ r. in_use header h r past) (tasks past) (λ u r. holds header.size u r (copy_ending w.task row ++ past))
    (next_region header past) t row (lives_on h t past)
    (λ r temporary apart. still r (λ same. apart (sym same)) (m.core.spaces.uses.used r temporary)) (λ r file apart some. m.core.spaces.uses.files r file some)
    (λ paged. e.used)
    m.core.spaces.uses.among changes e.lives (lives_below header.size t k.maps k.chains [] m.core.spaces.entries e.lives) e.here
    (λ u r none why. holds_rows header.size t u r k.maps (rows_in t k.maps) (entered row (entries_of header.size u past)) (event.CopyEnded w.task ∷ past)
    e.lives none ∙ (holds_waits header.size t u r k.maps (rows_in t k.maps) past None e.lives none ∙ m.core.spaces.uses.apart u r none why))
  where
    still : (r : ℕ) {used : Bool} → (c.slow.to.region.0 ≡ r → ⊥) → IsUsed k.maps k.waits.rows r used → IsUsed k.maps rows2 r used
    still r apart is =
        record {
          why =
              λ used. elim (is.why used) [
                | inl some ↦ inl some
                | inr filled ↦ inr
                    (filled_still w.task.0 r k.waits.rows rows2 put (fills_one c r apart) filled)
              ];
          is = λ needed. elim needed [ inl some ↦ is.is (inl some) | inr filled ↦ is.is (inr (filled_left w.task.0 r k.waits.rows rows2 put filled)) ];
        }

-- the tables say of the history what they said
matches_ended : (header : Header) (h : ℕ) (outside : Outside) (doing : Command) (k : Parts) (ids : Ids) (past : List Event) (w : Waiting) (address pages : ℕ)
    (target : ObjectId) (next : ℕ) → (c : Copying header h k ids past w address pages target next) → next + 1 ≡ pages → runs_now w.on ≡ true
    → (waits2 : WaitTable) → PutsEntry w.task.0 None k.waits.rows waits2.rows
    → (k2 : Parts) → ChangesOnly k.maps k2.maps w.task.0 (Some (entered (filled_entry header.size pages c.slow.to) (rows_in w.task.0 k.maps)))
    → PutsEntries c.slow.to.region.0 1 k.chains k2.chains
    → Matches header h (record k { alloc = k2.alloc; maps = k2.maps; chains = k2.chains; waits = waits2 }) ids []
    (copy_ending w.task (filled_entry header.size pages c.slow.to) ++ past)
matches_ended header h outside doing k ids past w address pages target next c last now waits2 put k2 changes counts =
    let m = c.matches in
    let size = header.size in
    let t = w.task.0 in
    let to = c.slow.to in
    let r = to.region.0 in
    let row = filled_entry size pages to in
    let first : Event = event.CopyEnded w.task in
    let second : Event = got w.task row in
    let e = ends_of header h k ids past w address pages target next c in
    let recount : SameButEntries k.chains k2.chains = same_put r 1 k.chains k2.chains counts in
    let none : region_entries k.chains r ≡ 0 = ap entries_in_row c.slow.region in
    let counts_more : PutsEntries row.region.0 (region_entries k.chains row.region.0 + 1) k.chains k2.chains = subst
    (λ (z : ℕ). PutsEntries r (z + 1) k.chains k2.chains) (sym none) counts in
    let room = c.slow.place.room in
    record {
      core = record {
        setting = m.core.setting;
        calm = m.core.calm;
        fits = m.core.fits;
        spaces = record {
          tasks = tasks_entered h size k.maps k2.maps (first ∷ past) w.task row m.core.spaces.tasks changes e.lives;
          entries = entries_share size k.maps k2.maps k.chains k2.chains t row m.core.spaces.entries e.inside counts_more changes
              (lives_below size t k.maps k.chains [] m.core.spaces.entries e.lives) room;
          shared = shared_entered header t k.maps k2.maps row changes (temporary_shared header row e.temporary) m.core.spaces.shared;
          uses = use_ended header h k ids past w address pages target next c waits2.rows put k2.maps changes;
          homes = homes_caused header outside h k2.chains second (first ∷ past)
              (doing, enters_cause header h k ids past w address pages target next waits2.rows c now put)
              (homes_caused header outside h k2.chains first past (doing, ends_cause header h k ids past w address pages target next c last)
              (recount_homes _ header h k.chains k2.chains past (recounts_put r 1 k.chains k2.chains counts) m.core.spaces.homes));
        };
        objects = record {
          regions = regions_recounted k.chains k2.chains k.memory.objects ids _ _ _ _ _ recount m.core.objects.regions;
          kinds = kinds_recounted header _ k.memory.objects k.chains k2.chains (recounts_put r 1 k.chains k2.chains counts) m.core.objects.kinds;
          files =
              files_entered header h w.task row k.memory.objects (first ∷ past) (λ file. m.core.spaces.homes.0 r (filled_row target pages)
              (file_paged header r file)
              c.slow.region) m.core.objects.files;
          sizes = m.core.objects.sizes;
          undelayed = m.core.objects.undelayed;
        };
        copied = let is = copied_regions counts.shadows m.core.copied in record { known = is.known; fits = is.fits };
        controls = controls_stay (λ o home. object_stays o h second (first ∷ past) home) m.core.controls;
        flags = m.core.flags;
        pages = m.core.pages;
      };
      settled = record { none_owed = refl; shut = λ region. refl };
      replied = replied_behind tt (replied_behind tt m.replied);
    }

-- what the tables of a call tell, as the history has it
works_ended : (header : Header) (h : ℕ) (outside : Outside) (doing : Command) (k : Parts) (ids : Ids) (past : List Event) (w : Waiting) (address pages : ℕ)
    (target : ObjectId) (next : ℕ) → (c : Copying header h k ids past w address pages target next) → next + 1 ≡ pages → runs_now w.on ≡ true
    → (waits2 : WaitTable) → PutsInOrder w.task.0 None k.waits.rows waits2.rows
    → (k2 : Parts) → ChangesOnly k.maps k2.maps w.task.0 (Some (entered (filled_entry header.size pages c.slow.to) (rows_in w.task.0 k.maps)))
    → PutsEntries c.slow.to.region.0 1 k.chains k2.chains
    → Works header h (record k { alloc = k2.alloc; maps = k2.maps; chains = k2.chains; waits = waits2 }) ids woken.Nobody
    (copy_ending w.task (filled_entry header.size pages c.slow.to) ++ past)
works_ended header h outside doing k ids past w address pages target next c last now waits2 put k2 changes counts =
    let t = w.task.0 in
    let row = filled_entry header.size pages c.slow.to in
    let first : Event = event.CopyEnded w.task in
    let e = ends_of header h k ids past w address pages target next c in
    let recount : SameButEntries k.chains k2.chains = same_put c.slow.to.region.0 1 k.chains k2.chains counts in
    let left = waits_left c now waits2.rows put.entry in
    record {
      matches = matches_ended header h outside doing k ids past w address pages target next c last now waits2 put.entry k2 changes counts;
      used =
          record {
            regions = used_ended c waits2.rows put.entry k2.chains counts;
            copies = copies_ended c waits2.rows put.entry k2.maps _ changes k2.chains counts;
          };
      referred = referred_recounted k.chains k2.chains k.memory.objects k.memory.resident recount c.referred;
      thin = thin_chains k.chains k2.chains k.memory.objects recount.recounts.shadows c.thin;
      waits =
          waits_changed k.maps k2.maps k.chains k2.chains k.memory.resident k.memory.objects waits2.rows (is_woken woken.Nobody) (λ u. waiting u (first ∷ past))
          t (Some (entered row (rows_in t k.maps))) left changes (row_gone t k.waits.rows waits2.rows put.entry)
          (keeps_recounted k.chains k2.chains recount)
          (told_changed k.maps k2.maps waits2.rows (λ u. waiting u (first ∷ past)) t (rows_in t k.maps) (Some (entered row (rows_in t k.maps))) left.is changes
          e.lives);
      order = put.order.keeps (λ u. begun_at u past) 0 c.order;
    }

-- what the call did for a slow copy
pub maps_filled : (w : Waiting) (address pages : ℕ) (target : ObjectId) (next : ℕ) (to : Destination) (old new : Parts) (before after : List Event)
    → w.want ≡ want.CopyTo address pages target next → w.destination ≡ Some to → EndsCopyIn w old new before after
    → MapsFilled w.task (filled_entry old.size pages to) old new before after
maps_filled w address pages target next to old new before after what goes did =
    subst (λ (z : Option Destination). EndsWant w.task (want.CopyTo address pages target next) z old new before after) goes
    (subst (λ (z : Want). EndsWant w.task z w.destination old new before after) what did)

-- the kernel behind the end of a slow copy whose last page is copied
pub copy_ends : (header : Header) (h : ℕ) (outside : Outside) (doing : Command) (k k2 : Parts) (ids : Ids) (past : List Event) (w : Waiting) (address pages : ℕ)
    (target : ObjectId) (next : ℕ) (waits2 : WaitTable) (before after : List Event) → (c : Copying header h k ids past w address pages target next)
    → next + 1 ≡ pages
    → runs_now w.on ≡ true → PutsInOrder w.task.0 None k.waits.rows waits2.rows → EndsCopyIn w (record k { waits = waits2 }) k2 before after
    → Works header h k2 ids woken.Nobody (copy_ending w.task (filled_entry header.size pages c.slow.to) ++ past)
copy_ends header h outside doing k k2 ids past w address pages target next waits2 before after c last now put did =
    let is = maps_filled w address pages target next c.slow.to (record k { waits = waits2 }) k2 before after c.what c.slow.goes did in
    let changes = subst (λ (z : ℕ). ChangesOnly k.maps k2.maps w.task.0 (Some (entered (filled_entry z pages c.slow.to) (rows_in w.task.0 k.maps))))
    c.matches.core.setting.sized is.maps in
    let works = works_ended header h outside doing k ids past w address pages target next c last now waits2 put k2 changes is.counts in
    let same : record k { alloc = k2.alloc; maps = k2.maps; chains = k2.chains; waits = waits2 } ≡ k2 =
    λ i. record {
      alloc = k2.alloc;
      host = sym is.host i;
      size = sym is.size i;
      declared = sym is.declared i;
      memory = sym is.memory i;
      maps = k2.maps;
      chains = k2.chains;
      copies = sym is.copied i;
      laundry = sym is.laundry i;
      waits = sym is.waits i;
    } in
    subst (λ (z : Parts). Works header h z ids woken.Nobody (copy_ending w.task (filled_entry header.size pages c.slow.to) ++ past)) same works

-- what was told
pub copy_end_told : (header : Header) (h : ℕ) (k k2 : Parts) (ids : Ids) (past : List Event) (w : Waiting) (address pages : ℕ) (target : ObjectId) (next : ℕ)
    (waits2 : WaitTable) (before after : List Event) → (c : Copying header h k ids past w address pages target next)
    → EndsCopyIn w (record k { waits = waits2 }) k2 before after → after ≡ copy_ending w.task (filled_entry header.size pages c.slow.to) ++ before
copy_end_told header h k k2 ids past w address pages target next waits2 before after c did =
    let is = maps_filled w address pages target next c.slow.to (record k { waits = waits2 }) k2 before after c.what c.slow.goes did in
    is.told ∙ ap (λ z. copy_ending w.task (filled_entry z pages c.slow.to) ++ before) c.matches.core.setting.sized

-- both, of what the call told
pub record HasEndedCopy (header : Header) (h : ℕ) (outside : Outside) (doing : Command) (past : List Event) (k : Parts) (ids : Ids)
    (before after : List Event) : Type 0 where
  pub works : Works header h k ids woken.Nobody (after ++ past)
  pub goes : LegalEvents header h outside doing past before after

pub copy_ended : (header : Header) (h : ℕ) (outside : Outside) (doing : Command) (k k2 : Parts) (ids : Ids) (past : List Event) (w : Waiting)
    (address pages : ℕ) (target : ObjectId) (next : ℕ) (waits2 : WaitTable) (before after : List Event)
    → Copying header h k ids (before ++ past) w address pages target next
    → next + 1 ≡ pages → runs_now w.on ≡ true → PutsInOrder w.task.0 None k.waits.rows waits2.rows → EndsCopyIn w (record k { waits = waits2 }) k2 before after
    → HasEndedCopy header h outside doing past k2 ids before after
copy_ended header h outside doing k k2 ids past w address pages target next waits2 before after c last now put did =
    subst (λ (z : List Event). HasEndedCopy header h outside doing past k2 ids before z)
    (sym (copy_end_told header h k k2 ids (before ++ past) w address pages target next waits2 before after c did))
    (record {
      works = copy_ends header h outside doing k k2 ids (before ++ past) w address pages target next waits2 before after c last now put did;
      goes = copy_end_goes header h outside doing k ids past before w address pages target next waits2 c last now put;
    })

-- the call may end it
pub can_end_copy : (header : Header) (h : ℕ) (k : Parts) (ids : Ids) (past : List Event) (w : Waiting) (address pages : ℕ) (target : ObjectId) (next : ℕ)
    (waits2 : WaitTable) → Copying header h k ids past w address pages target next → CanEndCopy w (record k { waits = waits2 })
can_end_copy header h k ids past w address pages target next waits2 c =
    let t = w.task.0 in
    let to = c.slow.to in
    let sized : k.maps.size ≡ k.size = c.matches.core.spaces.tasks.sized ∙ sym c.matches.core.setting.sized in
    let place = c.slow.place in
    let page = some_bytes k.maps.size to.address pages place.range in
    let tests = range_is k.maps.size to.address (pages * k.maps.size) place.range in
    let room = place.room in
    let range = place.range in
    let free = place.free in
    let fits : nat_lt most_entries (length (rows_in t k.maps) + 1) ≡ false = grind (arith, nat_tests) in
    let count = counted_pages k.maps.size pages page in
    let end = tests.end in
    let lives = (c.waits.allowed t w c.is).lives in
    let can : CanEndWant t (want.CopyTo address pages target next) (Some to) (record k { size = k.maps.size; waits = waits2 }) =
    record {
      lives = lives_some (entries_in t k.maps) (rows_in t k.maps) lives;
      free = rw (range, free, fits) refl;
      pages =
          omega (
            arith,
            count,
            few_pages k.maps.size pages (subst IsPageSize (sym c.matches.core.spaces.tasks.sized) c.matches.core.setting.ranged.size)
                (omega (arith, end)),
          );
      region = ap is_some c.slow.region;
    } in
    subst (λ (z : Want). CanEndWant t z w.destination (record k { waits = waits2 })) (sym c.what)
    (subst (λ (z : Option Destination). CanEndWant t (want.CopyTo address pages target next) z (record k { waits = waits2 })) (sym c.slow.goes)
    (subst (λ (z : ℕ). CanEndWant t (want.CopyTo address pages target next) (Some to) (record k { size = z; waits = waits2 })) sized can))
