-- The region of a declared object is made, and a control of the object lives: what that leaves of each table, and of the kernel.
use Rattle.vm_kernel.proofs.Common.{AllReferred, Bool, ChainTable, ChangesOnly, Command, Enters, Entry, Event, Fit, HasControls, HasEntries, HasKinds, HasPages}
use Rattle.vm_kernel.proofs.Common.{HasRegions, HasWaiters, HaveHomes, Header, HostParts, Ids, IfSome, IsFilledIn, IsInside, List, Mapped, Matches, None}
use Rattle.vm_kernel.proofs.Common.{ObjectId, ObjectRow, ObjectTable, On, Option, Outside, Parts, PutsObject, PutsRegion, RegionRow, ResidentTable, Rests}
use Rattle.vm_kernel.proofs.Common.{SameMarks, Some, TaskId, Waiting, Without, [], all_tasks, ap, arith, backing_of, count_by, entered, entries_in, entries_of}
use Rattle.vm_kernel.proofs.Common.{entry, eqb_tells, false, fit_within, got, has_entry, has_pager, holds, home_of, host_of, if◌then◌else◌, in_use, inl, inr}
use Rattle.vm_kernel.proofs.Common.{is_on, is_ready_state, is_some, is_woken, last_in, length, length_entered, live_in, lives_on, marks_of, meets_range}
use Rattle.vm_kernel.proofs.Common.{most_entries, named, next_object, next_region, object_at, object_home, page_below, pages_in, pages_of_row, ready_in, refl}
use Rattle.vm_kernel.proofs.Common.{region_at, region_of, region_pages, rows_entered, rows_in, rows_map, shadow_at, some_is, subst, sym, tasks, true, waiting}
use Rattle.vm_kernel.proofs.Common.{ℕ, ◌%◌, ◌+◌, ◌-◌, ◌/◌, ◌<◌, ◌==◌, ◌^◌, ◌∙◌, ◌∷◌, ◌≡◌, ◌≤◌, ◌⊎◌}
use Rattle.std.specs.Prelude.{IsSome}
use Rattle.vm_legal.specs.Outside.{is_file, kind_of}
use Rattle.vm_model.specs.Named.{declared, declared_pages}
use Rattle.vm_model.specs.declared.script.Declared.{Declared}
use Rattle.vm_model.specs.Waiting.{Access}
use Rattle.vm_parts.specs.Changes.{one}
use Rattle.vm_parts.specs.Fits.{object_pages}
use Rattle.vm_shadow.proofs.Ranks.{ranked_same}
use Rattle.vm_state.proofs.Declared.{kinds_put, kinds_region}
use Rattle.vm_state.proofs.Fresh.{other_test, pages_put, seen}
use Rattle.vm_state.proofs.Going.{one_other, one_own}
use Rattle.vm_state.proofs.Knowing.{counts_still, known_cases, known_put, known_still, put_else, put_here, referred_other, unknown_still}
use Rattle.vm_state.proofs.Tallies.{tally_put, tally_same}
use Rattle.vm_state.proofs.Told.{told_all, waits_told}
use Rattle.vm_state.specs.References.{is_backing, is_over, is_temporary_in, is_temporary_kind, references_to}
use Rattle.vm_kernel.specs.Mapping.{Again, Holds, referred, shared_entry}
use Rattle.vm_kernel.proofs.space.EntriesCounted.{by_none, most_is, none_on, on_entered, one_on}
use Rattle.vm_kernel.proofs.space.RegionRows.{apart_there, none_leads}
use Rattle.vm_kernel.proofs.space.RegionCases.{region_cases}
use Rattle.vm_kernel.proofs.space.TaskTables.{Keeps, entries_changed, inside_kept, tasks_entered}
use Rattle.vm_base.specs.declared.ids.PageKey.{PageKey}
use Rattle.vm_kernel.proofs.controls.CopiesAnswered.{copied_declared}
use Rattle.vm_kernel.proofs.controls.DeclaredKinds.{declared_few}
use Rattle.vm_kernel.proofs.controls.DeclaredReferences.{counts_known, references_of}
use Rattle.vm_state.specs.Pagers.{cached_in}
use Rattle.vm_state.proofs.KnownPages.{sizes_new}
use Rattle.vm_kernel.specs.Changes.{CanEnter}
use Rattle.vm_kernel.proofs.space.RegionsFilled.{declared_unfilled, put_filled, same_waiting}
use Rattle.vm_state.proofs.Filling.{copies_kept, rows_unmade}
use Rattle.vm_abroad.proofs.Home.{home_used, named_objects, named_regions, object_stays}
use Rattle.vm_legal.specs.Licences.{is_paged}
use Rattle.vm_model.specs.Homes.{first_of}
use Rattle.vm_objects.specs.declared.row.PagerState.{PagerState}
use Rattle.vm_state.proofs.Places.{keeps_made}
use Rattle.vm_state.proofs.Referred.{StaysServed, referred_put}
use Rattle.vm_kernel.proofs.space.StillThin.{keeps_same, thin_paged}
use Rattle.vm_state.proofs.Waited.{told_changed, waits_changed}
use Rattle.vm_kernel.proofs.space.RegionCopied.{file_of, no_row}
use Rattle.vm_kernel.proofs.abroad.OwnHost.{lives_here, own_host}
use Rattle.vm_kernel.proofs.memory.PagesShown.{pages_marked}
use Rattle.vm_kernel.proofs.memory.PageReturned.{controls_stay}
use Rattle.vm_kernel.proofs.space.ForkShares.{unfilled_declared}
use Rattle.vm_kernel.proofs.space.SharedEntries.{shared_entered}
use Rattle.vm_kernel.proofs.space.RegionsInUse.{holds_rows, uses_entered}
use Rattle.vm_kernel.proofs.space.RegionHomes.{homes_caused, homes_put}
use Rattle.vm_state.specs.Stands.{HasFlags}
use Rattle.vm_kernel.specs.Matches.{ControlFacts, Core, HasOrder, HasWaits, IsCalm, UsesAll, memory_facts, space_facts}
use Rattle.vm_model.specs.Local.{Local}
use Rattle.vm_model.specs.Regions.{object_pages as pages_told}
use Rattle.vm_objects.specs.declared.row.PagerState.TheVariants as state
use Rattle.vm_base.specs.declared.ids.Inherit.TheVariants as inherit
use Rattle.vm_supply.specs.declared.woken.Woken.TheVariants as woken
use Rattle.vm_copies.specs.Copies.{CopyTable}
use Rattle.vm_state.specs.Passed.{Unmet}

-- the region of a declared object, with its first entry
abbrev pub own_region : ObjectId → ℕ → RegionRow
own_region object pages = record { top = object; shift = 0; pages = pages; marked = false; entries = 1 }

-- what a host knows of a declared object once its region is there, which refers to it: a control of it lives, and its pager is as ready as it was
pub record BecomesKnown (header : Header) (o : ℕ) (was : Option ObjectRow) (new : ObjectRow) : Type 0 where
  pub sized : (row : ObjectRow) → was ≡ Some row → row.pages ≡ declared_pages header o
  pub told : (row : ObjectRow) → was ≡ Some row → has_pager row.state ≡ true → new.state ≡ row.state
  pub kind : new.kind ≡ kind_of header o
  pub pages : new.pages ≡ declared_pages header o
  pub pager : has_pager new.state ≡ true
  pub live : new.live ≡ true
  pub references : new.references + one (cached_in was) ≡ references_of was + 1 + one new.cache
  pub number : 0 < new.control

-- that control lived before
pub record LivesStill (was : Option ObjectRow) (new : ObjectRow) : Type 0 where
  pub row : ObjectRow
  pub found : was ≡ Some row
  pub lives : row.live ≡ true
  pub same : new ≡ record row { references = row.references + 1 }

-- or none did, and it begins
pub record BeginsAnew (was : Option ObjectRow) (new : ObjectRow) : Type 0 where
  pub dead : live_in was ≡ None
  pub state : new.state ≡ state.Sent
  pub control : new.control ≡ last_in was + 1
  pub number : new.control < 2 ^ 32 - 1
  pub uncached : new.cache ≡ false

-- each object that was known has as many pages
pages_still : (header : Header) (o : ℕ) (new : ObjectRow) (os os2 : ObjectTable) → BecomesKnown header o (object_at os o) new → PutsObject o (Some new) os os2
    → (x : ℕ) → IsSome (object_at os x) → object_pages os2 x ≡ object_pages os x
pages_still header o new os os2 known put x there = elim (known_cases o new os os2 put x) [
  | inl this ↦ ap pages_of_row this.1 ∙ (known.pages ∙ sym (by (object_at os o) refl (ap (λ z. is_some (object_at os z)) this.0 ∙ there))
      ∙ ap (λ z. pages_of_row (object_at os z)) this.0)
  | inr other ↦ ap pages_of_row other.1
]
  where
    by : (was : Option ObjectRow) → object_at os o ≡ was → is_some was ≡ true → pages_of_row was ≡ declared_pages header o
    by None is some = absurd (let bad : false ≡ true = some in cc)
    by (Some row) is some = known.sized row is

-- the regions, where one is made over a declared object
pub regions_declared : (header : Header) (past : List Event) (o : ObjectId) (new : ObjectRow) (pages : ℕ) (cs cs2 : ChainTable) (os os2 : ObjectTable)
    (ids : Ids) (rm om marked : ℕ)
    → HasRegions cs os ids (λ r. region_of header r past) (λ q. backing_of header q past) rm om marked → HasKinds header os cs → HaveHomes header past
    → o.0 < named header → named header ≤ rm → named header ≤ om → region_at cs o.0 ≡ None
    → pages ≡ declared_pages header o.0 → BecomesKnown header o.0 (object_at os o.0) new → PutsRegion o.0 (Some (own_region o pages)) cs cs2
    → PutsObject o.0 (Some new) os os2
    → HasRegions cs2 os2 ids (λ r. region_of header r past) (λ q. backing_of header q past) rm om marked
regions_declared header past o new pages cs cs2 os os2 ids rm om marked has kinds homes declared regions objects free sized known put putting =
    record {
      region = has.region;
      object = has.object;
      marks = has.marks;
      few = has.few;
      rows = λ q region found. elim (cases q) [
        | inl this ↦
            let its : region ≡ own_region o pages = some_is region (own_region o pages) (sym found ∙ this.1) in
            ap (λ z. region_of header z past) (sym this.0)
            ∙ (homes.whole o.0 declared ∙ (ap (λ z. record { mark = false; top = o.0; shift = 0; pages = z }) (sym sized) ∙ sym (ap seen its)))
        | inr other ↦ has.rows q region (sym other.1 ∙ found)
      ];
      shadows = λ q shadow found. has.shadows q shadow (still q ∙ found);
      ranked = ranked_same cs cs2 (λ q. sym (still q)) has.ranked;
      bottoms = λ q referred none. elim (known_cases o.0 new os os2 putting q) [
        | inl this ↦ ap (λ z. (backing_of header z past).backed) (sym this.0) ∙ homes.bare o.0 declared
        | inr other ↦ has.bottoms q (referred_other o.0 new os os2 putting q other.0 referred) (still q ∙ none)
      ];
      unmade = λ q le. elim (cases q) [
        | inl this ↦ absurd (let same = this.0 in omega (arith, same, le, declared, regions))
        | inr other ↦ other.1 ∙ has.unmade q le
      ];
      unknown = λ q le. unknown_still o.0 new os os2 putting q (λ e. omega (arith, e, le, declared, objects)) (has.unknown q le);
      tops = λ q region found. elim (cases q) [
        | inl this ↦
            let its : region.top ≡ o = ap (λ z. z.top) (some_is region (own_region o pages) (sym found ∙ this.1)) in
            ap (λ z. is_some (object_at os2 z.0)) its ∙ ap is_some (known_put o.0 new os os2 putting)
        | inr other ↦ known_still o.0 new os os2 putting region.top.0 (has.tops q region (sym other.1 ∙ found))
      ];
      unders =
          λ q shadow found. let both = has.unders q shadow (still q ∙ found) in (
            known_still o.0 new os os2 putting q both.0,
            known_still o.0 new os os2 putting shadow.under.0 both.1,
          );
      fits = record {
        tops = λ q region found. elim (cases q) [
          | inl this ↦
              let its : region ≡ own_region o pages = some_is region (own_region o pages) (sym found ∙ this.1) in
              let all : object_pages os2 o.0 ≡ pages = pages_put o.0 new os os2 putting ∙ (known.pages ∙ sym sized) in
              subst (λ (z : RegionRow). z.shift + z.pages ≤ object_pages os2 z.top.0) (sym its) (subst (λ (z : ℕ). 0 + pages ≤ z) (sym all) (omega arith))
          | inr other ↦
              let before : region_at cs q ≡ Some region = sym other.1 ∙ found in
              subst (λ (z : ℕ). region.shift + region.pages ≤ z) (sym (pages_still header o.0 new os os2 known putting region.top.0 (has.tops q region before)))
              (has.fits.tops q region before)
        ];
        unders = λ q shadow found.
            let before : shadow_at cs q ≡ Some shadow = still q ∙ found in
            let both = has.unders q shadow before in
            let le = has.fits.unders q shadow before in
            let a = pages_still header o.0 new os os2 known putting q both.0 in
            let b = pages_still header o.0 new os os2 known putting shadow.under.0 both.1 in
            omega (arith, le, a, b);
      };
      counts = counts_still o.0 new os os2 (references_to cs rm om) (references_to cs2 rm om) putting its_own others has.counts;
    }
  where
    cases : (q : ℕ) → ((o.0 ≡ q) × (region_at cs2 q ≡ Some (own_region o pages))) ⊎ ((o.0 ≡ q → ⊥) × (region_at cs2 q ≡ region_at cs q))
    cases q = region_cases o.0 (Some (own_region o pages)) cs cs2 put q

    still : (q : ℕ) → shadow_at cs q ≡ shadow_at cs2 q
    still q = sym (ap (λ f. f q) put.shadows)

    now : region_at cs2 o.0 ≡ Some (own_region o pages)
    now = elim (cases o.0) [ inl this ↦ this.1 | inr other ↦ absurd (other.0 refl) ]

    more : (x : ℕ) → references_to cs2 rm om x ≡ references_to cs rm om x + one (o.0 == x)
    more x =
        let tops = tally_put (λ r. is_over x (region_at cs r)) (λ r. is_over x (region_at cs2 r)) rm o.0 (omega (arith, declared, regions))
        (λ r apart. ap (is_over x) (elsewhere r apart)) in
        let unders = tally_same (λ s. is_backing x (shadow_at cs s)) (λ s. is_backing x (shadow_at cs2 s)) om (λ s less. ap (is_backing x) (sym (still s))) in
        let before : one (is_over x (region_at cs o.0)) ≡ 0 = ap (λ z. one (is_over x z)) free in
        let after : one (is_over x (region_at cs2 o.0)) ≡ one (o.0 == x) = ap (λ z. one (is_over x z)) now in
        omega (arith, tops, unders, before, after)
      where
        elsewhere : (r : ℕ) → (o.0 ≡ r → ⊥) → region_at cs2 r ≡ region_at cs r
        elsewhere r apart = elim (cases r) [ inl this ↦ absurd (apart this.0) | inr other ↦ other.1 ]

    its_own : new.references ≡ references_to cs2 rm om o.0 + one new.cache
    its_own =
        let count = more o.0 in
        let was = counts_known o.0 has in
        let own = one_own o.0 in
        let single = known.references in
        omega (arith, count, was, own, single)

    others : (x : ℕ) → (o.0 ≡ x → ⊥) → references_to cs2 rm om x ≡ references_to cs rm om x
    others x apart = let count = more x in let none = one_other o.0 x apart in omega (arith, count, none)

-- the kinds of the objects
pub kinds_declared : (header : Header) (o : ObjectId) (new : ObjectRow) (pages : ℕ) (cs cs2 : ChainTable) (os os2 : ObjectTable) → o.0 < named header
    → BecomesKnown header o.0 (object_at os o.0) new → PutsRegion o.0 (Some (own_region o pages)) cs cs2 → PutsObject o.0 (Some new) os os2 → SameMarks os os2
    → HasKinds header os cs → HasKinds header os2 cs2
kinds_declared header o new pages cs cs2 os os2 declared known put putting marks has =
    kinds_region header o.0 (own_region o pages) os2 cs cs2 put (λ least. absurd (omega (arith, least, declared)))
    (kinds_put header o.0 new os os2 cs putting marks
    (record {
      lives = known.live ∙ sym known.pager;
      temporary = λ least. absurd (omega (arith, least, declared));
      declared = λ less. record {
        kind = known.kind;
        pages = known.pages;
        told = λ tame some. known.live;
        number = known.number;
      };
    })
    has)

-- each page is of an object that was known, and that has as many pages
pub fit_declared : (header : Header) (parts : HostParts) (os : ObjectTable) (chains : ChainTable) (o : ℕ) (new : ObjectRow) → Fit parts
    → AllReferred chains parts.objects parts.resident → BecomesKnown header o (object_at parts.objects o) new
    → PutsObject o (Some new) parts.objects os → Fit (record parts { objects = os })
fit_declared header parts os chains o new fit referred known put =
    fit_within parts os fit
    (λ x p row found. let is = referred.pages x p row found in
    subst (λ (z : ℕ). p < z) (sym (pages_still header o new parts.objects os known put x (ap is_some is.known))) (fit.inside x p row found))

-- regions that were there stay
pub keeps_declared : (o : ObjectId) (pages : ℕ) (cs cs2 : ChainTable) → region_at cs o.0 ≡ None → PutsRegion o.0 (Some (own_region o pages)) cs cs2
    → Keeps cs cs2
keeps_declared o pages cs cs2 none put =
    record {
      there = λ r is. elim (region_cases o.0 (Some (own_region o pages)) cs cs2 put r) [
        | inl same ↦ ap is_some same.1
        | inr apart ↦ ap is_some apart.1 ∙ is
      ];
      pages = λ r is. elim (region_cases o.0 (Some (own_region o pages)) cs cs2 put r) [
        | inl same ↦ absurd (apart_there cs o.0 r none is same.0)
        | inr apart ↦ ap pages_in apart.1
      ];
    }

pub used_declared : (o : ObjectId) (pages : ℕ) (cs cs2 : ChainTable) (list : List Waiting) → PutsRegion o.0 (Some (own_region o pages)) cs cs2
    → ((r : ℕ) (row : RegionRow) → region_at cs r ≡ Some row → (0 < row.entries) ⊎ IsFilledIn list r)
    → (r : ℕ) (row : RegionRow) → region_at cs2 r ≡ Some row → (0 < row.entries) ⊎ IsFilledIn list r
used_declared o pages cs cs2 list put used r row found = elim (region_cases o.0 (Some (own_region o pages)) cs cs2 put r) [
  | inl same ↦ let count : 1 ≡ row.entries = ap (λ z. z.entries) (some_is (own_region o pages) row (sym same.1 ∙ found)) in inl (omega arith)
  | inr apart ↦ used r row (sym apart.1 ∙ found)
]

-- a task has an entry on the region, the first
pub entries_declared : (size : ℕ) (maps new : Mapped) (cs cs2 : ChainTable) (task : ℕ) (o : ObjectId) (pages : ℕ) (row : Entry) → HasEntries size maps cs []
    → region_at cs o.0 ≡ None → PutsRegion o.0 (Some (own_region o pages)) cs cs2
    → ChangesOnly maps new task (Some (entered row (rows_in task maps))) → row.region.0 ≡ o.0 → task < all_tasks → row.bytes % size ≡ 0 → 0 < row.bytes
    → row.address + row.bytes ≤ 2 ^ 32 → row.offset + row.bytes / size ≤ pages → length (rows_in task maps) < most_entries
    → HasEntries size new cs2 []
entries_declared size maps new cs cs2 task o pages row has none put changes on below whole some end inside room =
    let keeps = keeps_declared o pages cs cs2 none put in
    let made : region_at cs2 row.region.0 ≡ Some (own_region o pages) = ap (region_at cs2) on ∙ now in
    let count : region_pages cs2 row.region.0 ≡ pages = ap pages_in made in
    let one_row : IsInside size cs2 row =
    record {
      region = ap is_some made;
      some = some;
      below = end;
      inside =
          rw count (record {
            whole = inside;
            each = λ a low high. let less = page_below size (a - row.address) row.bytes (omega (arith, low, high))
                whole in omega (arith, less, inside);
          });
    } in
    let all = rows_map (IsInside size cs) (IsInside size cs2) (λ other is. inside_kept size cs cs2 other keeps is) (rows_in task maps) (has.inside task) in
    entries_changed size maps new cs cs2 task (entered row (rows_in task maps)) has keeps changes below
    (rows_entered (IsInside size cs2) row (rows_in task maps) one_row all) (omega (arith, length_entered row (rows_in task maps), room))
    (λ r row2 found. elim (region_cases o.0 (Some (own_region o pages)) cs cs2 put r) [
      | inl same ↦
          let is : own_region o pages ≡ row2 = some_is (own_region o pages) row2 (sym same.1 ∙ found) in
          let single : 1 ≡ row2.entries = ap (λ z. z.entries) is in
          let nothing : count_by all_tasks r maps ≡ 0 = by_none all_tasks r maps (λ t. subst (λ (z : ℕ). has_entry z (rows_in t maps) ≡ false) same.0
          (none_leads size cs o.0 (rows_in t maps) none (has.inside t))) in
          omega (arith, single, nothing, one_on row.region.0 r (on ∙ same.0), on_entered r row (rows_in task maps))
      | inr apart ↦
          omega (arith, has.counts r row2 (sym apart.1 ∙ found), none_on row.region.0 r (λ e. apart.0 (sym on ∙ e)), on_entered r row (rows_in task maps))
    ])
  where
    now : region_at cs2 o.0 ≡ Some (own_region o pages)
    now = elim (region_cases o.0 (Some (own_region o pages)) cs cs2 put o.0) [ inl same ↦ same.1 | inr apart ↦ absurd (apart.0 refl) ]

-- its next control begins
pub controls_opened : {h : ℕ} {home_at : ℕ → Option ℕ} (header : Header) (os os2 : ObjectTable) (last_at : ℕ → ℕ) (live_at : ℕ → Option ℕ) (ready_at : ℕ → Bool)
    (o : ℕ) (new : ObjectRow) → HasControls (named header) h os last_at live_at ready_at home_at
    → o < named header → new.live ≡ true → BeginsAnew (object_at os o) new → PutsObject o (Some new) os os2
    → HasControls (named header) h os2 (λ k. if o == k then new.control else last_at k) (λ k. if o == k then Some new.control else live_at k)
    (λ k. if o == k then false else ready_at k) home_at
controls_opened header os os2 last_at live_at ready_at o new has declared lives anew put =
    record {
      last = λ k. elim (eqb_tells o k) [
        | inl same ↦ ap (λ b. if b then new.control else last_at k) same.0 ∙ sym (ap last_in (put_here put k same.0))
        | inr apart ↦ ap (λ b. if b then new.control else last_at k) apart.0 ∙ (has.last k ∙ sym (ap last_in (put_else put k apart.0)))
      ];
      live = λ k. elim (eqb_tells o k) [
        | inl same ↦ ap (λ b. if b then Some new.control else live_at k) same.0
            ∙ (sym (ap (λ b. if b then Some new.control else None) lives) ∙ sym (ap live_in (put_here put k same.0)))
        | inr apart ↦ ap (λ b. if b then Some new.control else live_at k) apart.0 ∙ (has.live k ∙ sym (ap live_in (put_else put k apart.0)))
      ];
      ready = λ k control is. elim (eqb_tells o k) [
        | inl same ↦ ap (λ b. if b then false else ready_at k) same.0 ∙ (sym (ap is_ready_state anew.state) ∙ sym (ap ready_in (put_here put k same.0)))
        | inr apart ↦ ap (λ b. if b then false else ready_at k) apart.0
            ∙ (has.ready k control (sym (ap (λ b. if b then Some new.control else live_at k) apart.0) ∙ is) ∙ sym (ap ready_in (put_else put k apart.0)))
      ];
      all_live = record {
        at = λ k row found told. elim (known_cases o new os os2 put k) [
          | inl this ↦ sym (ap (λ z. z.live) (some_is new row (sym this.1 ∙ found))) ∙ lives
          | inr other ↦ has.all_live.at k row (sym other.1 ∙ found) told
        ];
      };
      numbers = record {
        at = λ k row found. elim (known_cases o new os os2 put k) [
          | inl this ↦ subst (λ (z : ObjectRow). z.control < 2 ^ 32 - 1) (some_is new row (sym this.1 ∙ found)) anew.number
          | inr other ↦ has.numbers.at k row (sym other.1 ∙ found)
        ];
      };
      ended = λ k row found alive. elim (known_cases o new os os2 put k) [
        | inl this ↦ λ without. (let bad : state.Sent ≡ Without = sym anew.state ∙ (ap (λ z. z.state) (some_is new row (sym this.1 ∙ found)) ∙ without) in cc)
        | inr other ↦ has.ended k row (sym other.1 ∙ found) alive
      ];
      home = λ k row least found. elim (known_cases o new os os2 put k) [
        | inl this ↦ absurd (let same = this.0 in omega (arith, same, least, declared))
        | inr other ↦ has.home k row least (sym other.1 ∙ found)
      ];
    }

-- a pager that is ready is known
pub ready_paged : (pager : PagerState) → is_ready_state pager ≡ true → has_pager pager ≡ true
ready_paged state.Without is = is
ready_paged state.Sent is = refl
ready_paged state.Ready is = refl

-- whoever waits for its pager does so still
pub waits_declared : {copies : CopyTable} {stays : PageKey → Type 0} {unmet : PageKey → Unmet} (header : Header) (maps : Mapped) (cs : ChainTable)
    (rs : ResidentTable)
    (os os2 : ObjectTable)
    (rows : List Waiting) (who : On → Bool) (waiting_at : ℕ → Option Access) (o : ℕ) (new : ObjectRow)
    → HasWaiters maps cs copies rs os rows who waiting_at stays unmet → BecomesKnown header o (object_at os o) new → PutsObject o (Some new) os os2
    → HasWaiters maps cs copies rs os2 rows who waiting_at stays unmet
waits_declared header maps cs rs os os2 rows who waiting_at o new has known put =
    waits_told maps cs rs os os2 rows who waiting_at has
    (told_all maps cs os os2 (λ x told. elim (known_cases o new os os2 put x) [
      | inl this ↦ record {
        row = new;
        found = this.1;
        sent = known.told told.row (ap (object_at os) this.0 ∙ told.found) (ap has_pager told.sent) ∙ told.sent;
      }
      | inr other ↦ record { row = told.row; found = other.1 ∙ told.found; sent = told.sent }
    ]))
    (λ x p row there is. elim (known_cases o new os os2 put x) [
      | inl this ↦ ap ready_in this.1 ∙ still (object_at os o) refl (ap (λ z. ready_in (object_at os z)) this.0 ∙ is)
      | inr other ↦ ap ready_in other.1 ∙ is
    ])
  where
    still : (was : Option ObjectRow) → object_at os o ≡ was → ready_in was ≡ true → is_ready_state new.state ≡ true
    still None found is = absurd (let bad : false ≡ true = is in cc)
    still (Some row) found is = ap is_ready_state (known.told row found (ready_paged row.state is)) ∙ is

-- what a mapping that isn't refused has
pub record MayMap (header : Header) (h : ℕ) (k : Parts) (task address bytes : ℕ) (object : ObjectId) (offset : ℕ) (past : List Event) : Type 0 where
  pub lives : entries_in task k.maps ≡ Some (rows_in task k.maps)
  pub idle : waiting task past ≡ None
  pub declared : object.0 < named header
  pub below : task < 1024
  pub whole : bytes % header.size ≡ 0
  pub some : 0 < bytes
  pub end : address + bytes ≤ 2 ^ 32
  pub inside : offset + bytes / header.size ≤ declared_pages header object.0
  pub used : is_file header object.0 ≡ true → in_use header h object.0 past ≡ true
  pub free : meets_range address bytes (rows_in task k.maps) ≡ false
  pub room : length (rows_in task k.maps) < most_entries
  pub judged : CanEnter task (shared_entry address bytes object offset) k
  pub pages : offset + bytes / k.maps.size < 2 ^ 32

-- the entry has its cause
pub map_enters : (header : Header) (h : ℕ) (task : TaskId) (address bytes : ℕ) (object : ObjectId) (offset : ℕ) (past : List Event) (k : Parts) (ids : Ids)
    → Rests header h k ids past → MayMap header h k task.0 address bytes object offset past
    → Enters header task.0 bytes object.0 offset past
map_enters header h task address bytes object offset past k ids rests may =
    let m = rests.matches in
    let pages : (region_of header object.0 past).pages ≡ declared_pages header object.0 = ap (λ z. z.pages)
    (m.core.spaces.homes.1.whole object.0 may.declared) in
    let inside = may.inside in
    let less = may.declared in
    let more = named_regions header past in
    record {
      idle = may.idle;
      host = h;
      lives = lives_here m.core.spaces.tasks may.lives;
      whole = may.whole;
      inside = omega (arith, inside, pages);
      made = omega (arith, less, more);
      used = λ temporary. absurd (omega (arith, temporary, less));
      file = may.used;
      unfilled = unfilled_declared header object.0 (tasks past) past may.declared m.core.spaces.homes.1;
    }

-- what a kernel has whose task has the first entry on the region of a declared object
pub record OpensDeclared (header : Header) (task : TaskId) (row : Entry) (object : ObjectId) (pages : ℕ) (new : ObjectRow) (k : Parts) (objects : ObjectTable)
    (chains : ChainTable) (maps : Mapped) : Type 0 where
  pub free : region_at k.chains object.0 ≡ None
  pub sized : pages ≡ declared_pages header object.0
  pub known : BecomesKnown header object.0 (object_at k.memory.objects object.0) new
  pub region : PutsRegion object.0 (Some (own_region object pages)) k.chains chains
  pub put : PutsObject object.0 (Some new) k.memory.objects objects
  pub marks : SameMarks k.memory.objects objects
  pub changes : ChangesOnly k.maps maps task.0 (Some (entered row (rows_in task.0 k.maps)))

-- the kernel with the entry, the region and the object
abbrev pub with_declared : Parts → ObjectTable → ChainTable → Mapped → Parts
with_declared k objects chains maps =
    record {
      alloc = k.alloc;
      host = k.host;
      size = k.size;
      declared = k.declared;
      memory = record k.memory { objects = objects };
      maps = maps;
      chains = chains;
      copies = k.copies;
      laundry = k.laundry;
      waits = k.waits;
    }

-- a file's region is on the host behind its entry
pub map_home : (header : Header) (h : ℕ) (task : TaskId) (address bytes : ℕ) (object : ObjectId) (offset : ℕ) (past : List Event) (k : Parts) (ids : Ids)
    → Rests header h k ids past → MayMap header h k task.0 address bytes object offset past
    → is_file header object.0 ≡ true → home_of object.0 (got task (shared_entry address bytes object offset) ∷ past) ≡ Some h
map_home header h task address bytes object offset past k ids rests may file =
    let row = shared_entry address bytes object offset in
    home_used header h task row.address row.bytes row.region row.offset row.prot row.inherit past rests.matches.core.spaces.homes.1 (may.used file)
    (lives_here rests.matches.core.spaces.tasks may.lives)

-- each other region is where it was
other_home : (task : TaskId) (address bytes : ℕ) (object : ObjectId) (offset : ℕ) (past : List Event) (r : ℕ) → (object.0 ≡ r → ⊥)
    → home_of r (got task (shared_entry address bytes object offset) ∷ past) ≡ home_of r past
other_home task address bytes object offset past r apart =
    ap (λ b. if b then first_of (home_of r past) (host_of task.0 past) else home_of r past) (other_test object.0 r apart)

-- all but the controls and what the pages show, which are what these say
pub core_declared : (header : Header) (h : ℕ) (outside : Outside) (doing : Command) (task : TaskId) (address bytes : ℕ) (object : ObjectId) (offset pages : ℕ)
    (new : ObjectRow) (past : List Event) (k : Parts) (ids : Ids) (objects : ObjectTable) (chains : ChainTable) (maps : Mapped) (c : ControlFacts)
    (local_at : ℕ → ℕ → Local) → Rests header h k ids past → MayMap header h k task.0 address bytes object offset past
    → OpensDeclared header task (shared_entry address bytes object offset) object pages new k objects chains maps
    → HasControls (named header) h objects c.last c.live c.ready (λ x. object_home x past) → HasFlags (named header) objects c.cached
    → IsCalm (named header) c.live c.destroyed → HasPages k.memory.frames k.memory.resident k.memory.objects local_at
    → Core header h (with_declared k objects chains maps) ids [] (space_facts header (got task (shared_entry address bytes object offset) ∷ past)) c
    (record (memory_facts header h past) { seen = local_at })
core_declared header h outside doing task address bytes object offset pages new past k ids objects chains maps c local_at rests may o controls flags calm
    shown =
    let m = rests.matches in
    let size = header.size in
    let row = shared_entry address bytes object offset in
    let enters = got task row in
    let now = enters ∷ past in
    let lives = may.lives in
    let below : task.0 < all_tasks = rw most_is may.below in
    let regions = named_regions header past in
    let known_objects = named_objects header past in
    let used = λ (paged : is_paged header object.0 ≡ true). may.used (file_of header object.0 may.declared paged) in
    let copied = copied_declared past object.0 new objects may.declared m.core.spaces.homes.1 m.core.objects
    (λ known is. o.known.pages ∙ sym (o.known.sized known is)) o.put o.region.shadows m.core.copied in
    record {
      setting = m.core.setting;
      calm = calm;
      fits = record {
        parts = fit_declared header k.memory objects k.chains object.0 new m.core.fits.parts rests.referred o.known o.put;
        plain = m.core.fits.plain;
        buffers = m.core.fits.buffers;
      };
      spaces = record {
        tasks = tasks_entered h size k.maps maps past task row m.core.spaces.tasks o.changes lives;
        entries =
            entries_declared size k.maps maps k.chains chains task.0 object pages row m.core.spaces.entries o.free o.region o.changes refl below may.whole
            may.some may.end (let inside = may.inside in let all = o.sized in omega (arith, inside, all)) may.room;
        shared =
            shared_entered header task.0 k.maps maps row o.changes (λ less other same. let bad : inherit.Share ≡ inherit.Copy = same in cc)
            m.core.spaces.shared;
        uses =
            uses_entered header k.maps maps (λ r. in_use header h r past) (tasks past) (λ t r. holds size t r now) (next_region header past) task.0 row
            (lives_on h task.0 past) (λ r temporary apart. m.core.spaces.uses.used r temporary)
            (λ r file apart some. m.core.spaces.uses.files r file some) used m.core.spaces.uses.among o.changes lives below
            (m.core.spaces.tasks.hosts task.0 ∙ ap is_some lives)
            (λ t r away why. holds_rows size task.0 t r k.maps (rows_in task.0 k.maps) (entered row (entries_of size t past)) past lives away
            ∙ m.core.spaces.uses.apart t r away why);
        homes =
            homes_put header h k.chains chains object.0 (own_region object pages) now o.region.at
            (λ paged. map_home header h task address bytes object offset past k ids rests may (file_of header object.0 may.declared paged))
            (homes_caused header outside h k.chains enters past (doing, map_enters header h task address bytes object offset past k ids rests may)
            m.core.spaces.homes);
      };
      objects = record {
        regions =
            regions_declared header past object new pages k.chains chains k.memory.objects objects ids (next_region header past) (next_object header past)
            (marks_of header past) m.core.objects.regions m.core.objects.kinds m.core.spaces.homes.1 may.declared regions known_objects o.free o.sized o.known
            o.region o.put;
        kinds =
            kinds_declared header object new pages k.chains chains k.memory.objects objects may.declared o.known o.region o.put o.marks m.core.objects.kinds;
        files = λ x file. elim (known_cases object.0 new k.memory.objects objects o.put x) [
          | inl this ↦
              ap (is_on h) (subst (λ (z : ℕ). home_of z now ≡ Some h) this.0 (map_home header h task address bytes object offset past k ids rests may
              (ap (is_file header) this.0 ∙ file)))
              ∙ (own_host h ∙ sym (ap is_some this.1))
          | inr other ↦ ap (is_on h) (other_home task address bytes object offset past x other.0) ∙ (m.core.objects.files x file ∙ sym (ap is_some other.1))
        ];
        sizes = sizes_new (named header) object.0 new k.memory.objects objects (λ x. pages_told header x past) (λ x. pages_told header x past) o.put
            (let pages = o.known.pages in let most = declared_few header object.0 m.core.setting.ranged may.declared in omega (arith, pages, most))
            (λ least. let declared = may.declared in absurd (omega (arith, least, declared))) (λ x apart. refl) m.core.objects.sizes;
        undelayed = m.core.objects.undelayed;
      };
      copied = record { known = copied.known; fits = copied.fits };
      controls = controls_stay (λ x at_home. object_stays x h enters past at_home) controls;
      flags = flags;
      pages = record {
        shown = pages_marked k.memory.frames k.memory.resident k.memory.objects objects local_at shown o.marks;
        washed = m.core.pages.washed;
        counted = m.core.pages.counted;
      };
    }

-- the task whose entry it is doesn't wait
unblocked : {header : Header} {h : ℕ} {k : Parts} {ids : Ids} {past : List Event} {task address bytes : ℕ} {object : ObjectId} {offset : ℕ}
    → Rests header h k ids past → MayMap header h k task address bytes object offset past → entry k.waits.rows task ≡ None
unblocked {k = k} {past = past} {task = task} rests may =
    no_row k.maps.size (entry k.waits.rows task) (waiting task past) (rests.waits.is task (ap is_some may.lives)) may.idle

pub waits_mapped : (header : Header) (h : ℕ) (task : TaskId) (address bytes : ℕ) (object : ObjectId) (offset pages : ℕ) (new : ObjectRow) (past : List Event)
    (k : Parts) (ids : Ids) (objects : ObjectTable) (chains : ChainTable) (maps : Mapped) → Rests header h k ids past
    → MayMap header h k task.0 address bytes object offset past
    → OpensDeclared header task (shared_entry address bytes object offset) object pages new k objects chains maps
    → HasWaits header h (with_declared k objects chains maps) woken.Nobody (got task (shared_entry address bytes object offset) ∷ past)
waits_mapped header h task address bytes object offset pages new past k ids objects chains maps rests may o =
    let row = shared_entry address bytes object offset in
    let waits_at = λ (t : ℕ). waiting t past in
    waits_declared header maps chains k.memory.resident k.memory.objects objects k.waits.rows (is_woken woken.Nobody) waits_at object.0 new
    (waits_changed k.maps maps k.chains chains k.memory.resident k.memory.objects k.waits.rows (is_woken woken.Nobody) waits_at task.0
    (Some (entered row (rows_in task.0 k.maps))) rests.waits o.changes (unblocked rests may)
    (keeps_made k.chains chains object.0 (own_region object pages) o.free o.region)
    (told_changed k.maps maps k.waits.rows waits_at task.0 (rows_in task.0 k.maps) (Some (entered row (rows_in task.0 k.maps))) rests.waits.is o.changes
    may.lives))
    o.known o.put

pub used_mapped : (header : Header) (h : ℕ) (task : TaskId) (address bytes : ℕ) (object : ObjectId) (offset pages : ℕ) (new : ObjectRow) (past : List Event)
    (k : Parts) (ids : Ids) (objects : ObjectTable) (chains : ChainTable) (maps : Mapped) → Rests header h k ids past
    → MayMap header h k task.0 address bytes object offset past
    → OpensDeclared header task (shared_entry address bytes object offset) object pages new k objects chains maps
    → UsesAll header (with_declared k objects chains maps) (got task (shared_entry address bytes object offset) ∷ past)
used_mapped header h task address bytes object offset pages new past k ids objects chains maps rests may o =
    let m = rests.matches in
    record {
      regions = used_declared object pages k.chains chains k.waits.rows o.region rests.used.regions;
      copies =
          copies_kept k.maps maps k.chains chains k.memory.resident k.memory.resident rests.used.copies
          (same_waiting k.maps maps task.0 (Some (entered (shared_entry address bytes object offset) (rows_in task.0 k.maps))) k.waits.rows o.changes
          (unblocked rests may))
          (put_filled object.0 (own_region object pages) k.chains chains o.free o.region
          (declared_unfilled object.0 rests.used m.core.spaces.homes.1 m.core.objects.kinds may.declared)) (rows_unmade k.chains k.memory.resident);
    }

-- it has a control where it had one, and isn't temporary memory
serves_declared : {header : Header} {o : ℕ} {new : ObjectRow} {os : ObjectTable} {cs : ChainTable} → o < named header
    → BecomesKnown header o (object_at os o) new → HasKinds header os cs → StaysServed os o new
serves_declared {o = o} {new = new} {os = os} less known kinds =
    record { live = λ lives. known.live; kind = λ temporary. by (object_at os o) refl temporary }
  where
    by : (was : Option ObjectRow) → object_at os o ≡ was → is_temporary_in was ≡ true → is_temporary_kind new.kind ≡ true
    by None found is = absurd (let bad : false ≡ true = is in cc)
    by (Some row) found is = ap is_temporary_kind (known.kind ∙ sym ((kinds.kinds o row found).declared less).kind) ∙ is

-- something refers to each object in use still, and none can be merged
pub rests_declared : {header : Header} {h : ℕ} {task : TaskId} {row : Entry} {object : ObjectId} {pages : ℕ} {new : ObjectRow} {past : List Event} {k : Parts}
    {ids : Ids} {objects : ObjectTable} {chains : ChainTable} {maps : Mapped} (now : List Event) → Rests header h k ids past → object.0 < named header
    → OpensDeclared header task row object pages new k objects chains maps
    → Matches header h (with_declared k objects chains maps) ids [] now → UsesAll header (with_declared k objects chains maps) now
    → HasWaits header h (with_declared k objects chains maps) woken.Nobody now → HasOrder k now → Rests header h (with_declared k objects chains maps) ids now
rests_declared {object = object} {pages = pages} {new = new} {k = k} {objects = objects} {chains = chains} now rests declared o matches used waits order =
    record {
      matches = matches;
      used = used;
      referred =
          referred_put object.0 new object.0 (Some (own_region object pages)) k.chains chains k.memory.objects objects k.memory.resident o.region o.put
          (let some = o.known.references in let was = counts_known object.0 rests.matches.core.objects.regions in omega (arith, some, was))
          (serves_declared declared o.known rests.matches.core.objects.kinds) rests.referred;
      thin =
          thin_paged object.0 new k.chains chains k.memory.objects objects (keeps_same k.chains chains (λ x. ap (λ f. f x) o.region.shadows))
          (λ never. let number = o.known.number in omega (arith, number, never)) o.put rests.thin;
      waits = waits;
      order = order;
      idle = rests.idle;
    }

-- a region that was there counts one entry more
pub holds_again : (object : ObjectId) (row : RegionRow) (x : Option RegionRow) (k : Parts) (chains : ChainTable) (declared : Option Declared)
    → x ≡ region_at k.chains object.0 → x ≡ Some row
    → IfSome (region_at k.chains object.0) (λ was. PutsRegion object.0 (Some (record was { entries = row.entries + 1 })) k.chains chains)
    → IfSome declared (λ d. Holds object d k (record k { chains = chains }))
holds_again object row x k chains None is there put = tt
holds_again object row x k chains (Some d) is there put =
    let found : region_at k.chains object.0 ≡ Some row = sym is ∙ there in
    Again row found (subst (λ (z : Option RegionRow). IfSome z (λ was. PutsRegion object.0 (Some (record was { entries = row.entries + 1 })) k.chains chains))
    found put) refl
