-- A task gets an entry on a symmetric copy of a region.
use Rattle.vm_kernel.proofs.memory.CoreChanges.{pages_known_so}
use Rattle.vm_state.proofs.KnownPages.{sizes_put}
use Rattle.vm_kernel.proofs.space.CopiesEnd.{copied_referred, copied_regions}
use Rattle.vm_kernel.specs.Matches.{Copied, object_facts}
use Rattle.vm_legal.specs.Pushes.{is_pushed}
use Rattle.vm_kernel.specs.Changes.{CanEnter}
use Rattle.vm_kernel.proofs.Common.{Access, AllReferred, AllRows, ArePlain, Backing, Bool, ChainTable, ChangesOnly, Command, Enters, Entry, Event, Fit}
use Rattle.vm_kernel.proofs.Common.{HasEntries, HasKinds, HasRegions, HasSlow, HasWaiters, HasWaits, Header, HostParts, Ids, Inside, IsFilledIn, IsInside}
use Rattle.vm_kernel.proofs.Common.{IsUsed, KnowsHomes, List, Mapped, None, ObjectRow, ObjectTable, Option, Outside, Parts, PutsEntries, PutsObject, Region}
use Rattle.vm_kernel.proofs.Common.{RegionRow, ResidentTable, Rests, SameMarks, Some, TaskId, Waiting, Works, [], all_tasks, ap, arith, count_again, count_by}
use Rattle.vm_kernel.proofs.Common.{count_on, entered, entering, entries_in, entry, entry_at, eqb_tells, false, fit_objects, found_row, got, has_entry, holds}
use Rattle.vm_kernel.proofs.Common.{home_entered, home_of, if◌then◌else◌, in_use, inl, inr, is_range, is_ready, is_some, is_woken, last_control, length}
use Rattle.vm_kernel.proofs.Common.{length_entered, live_control, lives_on, marks_of, meets_range, most_entries, named, nat_tests, next_object, next_region}
use Rattle.vm_kernel.proofs.Common.{object_at, one_case, page_below, pages_in, pages_of_row, refl, region_at, region_entries, region_of, region_pages}
use Rattle.vm_kernel.proofs.Common.{rows_entered, rows_in, rows_map, same_pages, some_is, subst, suc, sym, tasks, true, waiting, waiting_in, zero, ℕ, ◌%◌, ◌++◌}
use Rattle.vm_kernel.proofs.Common.{◌+◌, ◌-◌, ◌/◌, ◌<◌, ◌==◌, ◌^◌, ◌||◌, ◌∙◌, ◌∷◌, ◌≡◌, ◌≤◌, ◌⊎◌}
use Rattle.vm_kernel.proofs.space.RegionsFilled.{filled_temporary, free_unfilled, row_use, same_waiting}
use Rattle.vm_legal.proofs.Served.{later_paged as paged_temporary}
use Rattle.vm_kernel.proofs.space.RegionsInUse.{fills_here, holds_rows, unfilled, uses_entered}
use Rattle.vm_state.proofs.Places.{keeps_copied}
use Rattle.vm_state.proofs.Filling.{KeepsFilled, copies_kept, rows_unmade, top_unfilled}
use Rattle.vm_state.specs.Filling.{filled_row}
use Rattle.std.proofs.Common.{nat_lt, not}
use Rattle.std.specs.Prelude.{IsSome}
use Rattle.vm_base.specs.declared.code.Code.TheVariants as code
use Rattle.vm_base.specs.declared.ids.RegionId.{RegionId}
use Rattle.vm_base.specs.Limits.{most_objects, most_regions}
use Rattle.vm_maps.specs.Judge.{judged}
use Rattle.vm_model.specs.declared.event.Event.TheVariants as event
use Rattle.vm_parts.specs.Changes.{one}
use Rattle.vm_shadow.specs.Chains.{CopiesRegion, copy_of, shadow_at}
use Rattle.vm_state.proofs.Changing.{SameButEntries, regions_recounted}
use Rattle.vm_state.proofs.Copying.{regions_copied}
use Rattle.vm_state.proofs.Counting.{elsewhere}
use Rattle.vm_state.proofs.Files.{files_entered, files_put, no_file}
use Rattle.vm_state.proofs.Marks.{marked_copied}
use Rattle.vm_state.proofs.Referred.{referred_copied, referred_recounted, stays_served}
use Rattle.vm_state.proofs.Waited.{KeepsPlaces, told_changed, waits_changed}
use Rattle.vm_state.specs.Places.{with_entries}
use Rattle.vm_state.specs.References.{is_backing, is_over, tally}
use Rattle.vm_kernel.specs.Forking.{CanCopy, EntersCopy, entry_on}
use Rattle.vm_abroad.proofs.Home.{named_regions, object_stays}
use Rattle.vm_legal.specs.Accesses.{At}
use Rattle.vm_legal.specs.Licences as cause
use Rattle.vm_legal.specs.Outside.{is_file}
use Rattle.vm_abroad.proofs.Regions.{kind_cases}
use Rattle.vm_state.proofs.Declared.{kind_referred, kinds_put}
use Rattle.vm_state.proofs.Referring.{refers_region, row_of, small_region}
use Rattle.vm_state.proofs.Told.{waits_referred}
use Rattle.vm_supply.specs.declared.woken.Woken.TheVariants as woken
use Rattle.vm_kernel.proofs.space.EntriesCounted.{by_none, none_on, on_entered, one_on}
use Rattle.vm_kernel.proofs.steps.EventsGrow.{licensed, suffices}
use Rattle.vm_kernel.proofs.steps.HeadAlone.{Heads, IsOne}
use Rattle.vm_kernel.proofs.steps.QueueServed.{rests_of, works_at_rest}
use Rattle.vm_kernel.proofs.abroad.OwnEvents.{mine_of, own_task}
use Rattle.vm_kernel.proofs.abroad.OwnHost.{lives_here}
use Rattle.vm_kernel.proofs.space.CountsChanged.{recounts_put}
use Rattle.vm_kernel.proofs.space.RegionRows.{apart_there, none_leads, tops_recounted}
use Rattle.vm_kernel.proofs.space.TaskTables.{Keeps, entries_changed, inside_kept, tasks_entered}
use Rattle.vm_kernel.proofs.space.SharedEntries.{shared_entered, temporary_shared}
use Rattle.vm_kernel.proofs.space.EntriesRewritten.{lives_below}
use Rattle.vm_kernel.proofs.space.RegionEnds.{controls_referred}
use Rattle.vm_kernel.proofs.controls.LockReplied.{replied_behind}
use Rattle.vm_state.specs.Passed.{IsUnmet, StaysAway}
use Rattle.vm_model.specs.Regions.{object_pages}
use Rattle.vm_kernel.proofs.memory.PageReturned.{controls_stay}
use Rattle.vm_kernel.proofs.space.RegionHomes.{homes_caused}
use Rattle.vm_kernel.proofs.space.StillThin.{thin_chains, thin_grown}
use Rattle.vm_kernel.proofs.controls.FlagsKept.{flags_put, flag_few}
use Rattle.vm_state.specs.Pagers.{cached_in}

-- regions that count other entries

pub same_put : (r n : ℕ) (old new : ChainTable) → PutsEntries r n old new → SameButEntries old new
same_put r n old new put = record { count = λ q. if r == q then n else region_entries old q; recounts = recounts_put r n old new put }

pub keeps_recounted : (old new : ChainTable) → SameButEntries old new → KeepsPlaces old new
keeps_recounted old new same = tops_recounted same.count old new same.recounts

pub keeps_both : (one two three : ChainTable) → KeepsPlaces one two → KeepsPlaces two three → KeepsPlaces one three
keeps_both one two three a b =
    record {
      tops = λ r row found.
          let first = a.tops r row found in
          let second = b.tops r first.row_now first.found in
          record { row_now = second.row_now; found = second.found; top = second.top ∙ first.top; shift = second.shift ∙ first.shift };
      shadows = λ o row found. b.shadows o row (a.shadows o row found);
    }

-- The rows of regions, where one is copied and the copy has its first entry.

data RowNow (source copy offset pages : ℕ) (region : RegionRow) (old : ChainTable) (r : ℕ) (row : RegionRow) : Type 0 where
  OfCopy : copy ≡ r → row ≡ record (copy_of region offset pages) { entries = 1 } → RowNow source copy offset pages region old r row
  OfSource : source ≡ r → row ≡ record region { marked = true } → RowNow source copy offset pages region old r row
  OfOther : (copy ≡ r → ⊥) → region_at old r ≡ Some row → RowNow source copy offset pages region old r row

-- a copy was made, and has one entry
record CopiesOnce (source copy offset pages : ℕ) (region : RegionRow) (old mid new : ChainTable) : Type 0 where
  free : region_at old copy ≡ None
  there : region_at old source ≡ Some region
  copies : CopiesRegion source copy offset pages region old mid
  counts : PutsEntries copy 1 mid new

copied_mid : (source copy offset pages : ℕ) (region : RegionRow) (old mid new : ChainTable) → CopiesOnce source copy offset pages region old mid new
    → region_at mid copy ≡ Some (copy_of region offset pages)
copied_mid source copy offset pages region old mid new c =
    elim (one_case copy copy (Some (copy_of region offset pages)) (if source == copy then Some (record region { marked = true }) else region_at old copy)
    (region_at mid copy) (c.copies.at copy)) [
      | inl this ↦ this.1
      | inr other ↦ absurd (other.0 refl)
    ]

copied_now : (source copy offset pages : ℕ) (region : RegionRow) (old mid new : ChainTable) → CopiesOnce source copy offset pages region old mid new
    → region_at new copy ≡ Some (record (copy_of region offset pages) { entries = 1 })
copied_now source copy offset pages region old mid new c =
    elim (one_case copy copy (with_entries 1 (region_at mid copy)) (region_at mid copy) (region_at new copy) (c.counts.at copy)) [
      | inl this ↦ this.1 ∙ ap (with_entries 1) (copied_mid source copy offset pages region old mid new c)
      | inr other ↦ absurd (other.0 refl)
    ]

other_now : (source copy offset pages : ℕ) (region : RegionRow) (old mid new : ChainTable) → CopiesOnce source copy offset pages region old mid new → (r : ℕ)
    → (copy ≡ r → ⊥)
    → ((source ≡ r) × (region_at new r ≡ Some (record region { marked = true }))) ⊎ ((source ≡ r → ⊥) × (region_at new r ≡ region_at old r))
other_now source copy offset pages region old mid new c r apart =
    one_case source r (Some (record region { marked = true })) (region_at old r) (region_at new r)
    (elsewhere copy r (with_entries 1 (region_at mid copy)) (region_at mid r) (region_at new r) (c.counts.at r) apart
    ∙ elsewhere copy r (Some (copy_of region offset pages)) (if source == r then Some (record region { marked = true }) else region_at old r) (region_at mid r)
    (c.copies.at r) apart)

row_now : (source copy offset pages : ℕ) (region : RegionRow) (old mid new : ChainTable) → CopiesOnce source copy offset pages region old mid new
    → (r : ℕ) (row : RegionRow) → region_at new r ≡ Some row → RowNow source copy offset pages region old r row
row_now source copy offset pages region old mid new c r row found = elim (eqb_tells copy r) [
  | inl same ↦ OfCopy same.1 (some_is row (record (copy_of region offset pages) { entries = 1 })
      (sym found ∙ (ap (region_at new) (sym same.1) ∙ copied_now source copy offset pages region old mid new c)))
  | inr apart ↦ elim (other_now source copy offset pages region old mid new c r apart.1) [
    | inl this ↦ OfSource this.0 (some_is row (record region { marked = true }) (sym found ∙ this.1))
    | inr other ↦ OfOther apart.1 (sym other.1 ∙ found)
  ]
]

-- the regions that were there stay
keeps_copy : (source copy offset pages : ℕ) (region : RegionRow) (old mid new : ChainTable) → CopiesOnce source copy offset pages region old mid new
    → Keeps old new
keeps_copy source copy offset pages region old mid new c =
    record {
      there = λ r is. elim (other_now source copy offset pages region old mid new c r (apart_there old copy r c.free is)) [
        | inl this ↦ ap is_some this.1
        | inr other ↦ ap is_some other.1 ∙ is
      ];
      pages = λ r is. elim (other_now source copy offset pages region old mid new c r (apart_there old copy r c.free is)) [
        | inl this ↦ ap pages_in this.1 ∙ sym (ap pages_in (ap (region_at old) (sym this.0) ∙ c.there))
        | inr other ↦ ap pages_in other.1
      ];
    }

places_copy : (source copy offset pages : ℕ) (region : RegionRow) (old mid new : ChainTable) → CopiesOnce source copy offset pages region old mid new
    → KeepsPlaces old new
places_copy source copy offset pages region old mid new c =
    keeps_both old mid new (keeps_copied old mid source copy offset pages region c.free c.there c.copies)
    (keeps_recounted mid new (same_put copy 1 mid new c.counts))

used_copy : (source copy offset pages : ℕ) (region : RegionRow) (old mid new : ChainTable) → CopiesOnce source copy offset pages region old mid new
    → (list : List Waiting) → 0 < region.entries → ((r : ℕ) (row : RegionRow) → region_at old r ≡ Some row → (0 < row.entries) ⊎ IsFilledIn list r)
    → (r : ℕ) (row : RegionRow) → region_at new r ≡ Some row → (0 < row.entries) ⊎ IsFilledIn list r
used_copy source copy offset pages region old mid new c list some used r row found = by (row_now source copy offset pages region old mid new c r row found)
  where
    by : RowNow source copy offset pages region old r row → (0 < row.entries) ⊎ IsFilledIn list r
    by (OfCopy same is) = let one = ap (λ z. z.entries) is in inl (omega (arith, one))
    by (OfSource same is) = let count = ap (λ z. z.entries) is in inl (omega (arith, count, some))
    by (OfOther apart was) = used r row was

-- a region with entries is copied, over its object
filled_copy : (source copy offset pages : ℕ) (region : RegionRow) (old mid new : ChainTable) → CopiesOnce source copy offset pages region old mid new
    → 0 < region.entries → KeepsFilled old new
filled_copy source copy offset pages region old mid new c some r object count was alone =
    let over = top_unfilled old source region c.there some r object count was alone in (
      elim (other_now source copy offset pages region old mid new c r (λ same. let bad : None ≡ Some (filled_row object count) = sym c.free
          ∙ (ap (region_at old) same ∙ was) in cc)) [
            | inl this ↦
                let none : region.entries ≡ 0 = ap (λ z. z.entries) (some_is region (filled_row object count)
                (sym c.there ∙ (ap (region_at old) this.0 ∙ was))) in
                absurd (omega (arith, some, none))
            | inr other ↦ other.1 ∙ was
          ],
      record {
        tops = λ q row found top. by_row over q row top (row_now source copy offset pages region old mid new c q row found);
        unders = λ s row found under. alone.unders s row (sym (ap (λ f. f s) c.counts.shadows ∙ ap (λ f. f s) c.copies.shadows) ∙ found) under;
      },
    )
  where
    by_row : (region.top.0 ≡ object.0 → ⊥) → (q : ℕ) (row : RegionRow) → row.top.0 ≡ object.0 → RowNow source copy offset pages region old q row → q ≡ r
    by_row over q row top (OfCopy same is) = absurd (over (sym (ap (λ z. z.top.0) is) ∙ top))
    by_row over q row top (OfSource same is) = absurd (over (sym (ap (λ z. z.top.0) is) ∙ top))
    by_row over q row top (OfOther apart found) = alone.tops q row found top

-- an entry that holds an address
pub entry_within : (address : ℕ) (rows : List Entry) (row : Entry) → entry_at address rows ≡ Some row → (row.address ≤ address)
    × (address < row.address + row.bytes)
entry_within address rows row found = let is = found_row (λ other. Unit {0}) address rows row (any rows) found in (is.from, is.below)
  where
    any : (rows : List Entry) → AllRows (λ other. Unit {0}) rows
    any [] = tt
    any (row ∷ rows) = (tt, any rows)

-- an entry that a task can get, as far as its numbers and the task's others go
pub record IsFree (size : ℕ) (row : Entry) (rows : List Entry) : Type 0 where
  pub whole : row.bytes % size ≡ 0
  pub some : 0 < row.bytes
  pub below : row.address + row.bytes ≤ 2 ^ 32
  pub room : length rows < most_entries

entries_copy : (size : ℕ) (maps new : Mapped) (source offset : ℕ) (region : RegionRow) (cs mid cs2 : ChainTable) (task : ℕ) (copy : RegionId) (row : Entry)
    → HasEntries size maps cs []
    → CopiesOnce source copy.0 offset (row.bytes / size) region cs mid cs2 → ChangesOnly maps new task (Some (entered (entry_on row copy) (rows_in task maps)))
    → task < all_tasks → IsFree size row (rows_in task maps) → HasEntries size new cs2 []
entries_copy size maps new source offset region cs mid cs2 task copy row has c changes below free =
    entries_changed size maps new cs cs2 task (entered (entry_on row copy) (rows_in task maps)) has keeps changes below
    (rows_entered (IsInside size cs2) (entry_on row copy) (rows_in task maps) one
    (rows_map (IsInside size cs) (IsInside size cs2) (λ other is. inside_kept size cs cs2 other keeps is) (rows_in task maps) (has.inside task)))
    (omega (arith, length_entered (entry_on row copy) (rows_in task maps), free.room))
    (λ r now found. by r now (row_now source copy.0 offset (row.bytes / size) region cs mid cs2 c r now found))
  where
    keeps : Keeps cs cs2
    keeps = keeps_copy source copy.0 offset (row.bytes / size) region cs mid cs2 c

    made : region_at cs2 copy.0 ≡ Some (record (copy_of region offset (row.bytes / size)) { entries = 1 })
    made = copied_now source copy.0 offset (row.bytes / size) region cs mid cs2 c

    sized : region_pages cs2 copy.0 ≡ row.bytes / size
    sized = ap pages_in made

    one : IsInside size cs2 (entry_on row copy)
    one =
        record {
          region = ap is_some made;
          some = free.some;
          below = free.below;
          inside =
              subst (λ (z : ℕ). Inside size z (entry_on row copy)) (sym sized) (record {
                whole = omega arith;
                each = λ a low high. let less = page_below size (a - row.address) row.bytes (omega (arith, low, high)) free.whole in omega
                    (arith, less);
              });
        }

    by : (r : ℕ) (now : RegionRow) → RowNow source copy.0 offset (row.bytes / size) region cs r now
        → now.entries + count_on r (rows_in task maps) ≡ count_by all_tasks r maps + count_on r (entered (entry_on row copy) (rows_in task maps))
    by r now (OfCopy same is) =
        let count = ap (λ z. z.entries) is in
        let nothing : count_by all_tasks r maps ≡ 0 = by_none all_tasks r maps (λ t. subst (λ (z : ℕ). has_entry z (rows_in t maps) ≡ false) same
        (none_leads size cs copy.0 (rows_in t maps) c.free (has.inside t))) in
        omega (arith, count, nothing, one_on copy.0 r same, on_entered r (entry_on row copy) (rows_in task maps))
    by r now (OfSource same is) =
        let count = ap (λ z. z.entries) is in
        let was = subst (λ (z : ℕ). region.entries ≡ count_by all_tasks z maps + 0) same (has.counts source region c.there) in
        let other = none_on copy.0 r (λ e. apart_there cs copy.0 source c.free (ap is_some c.there) (e ∙ sym same)) in
        omega (arith, count, was, other, on_entered r (entry_on row copy) (rows_in task maps))
    by r now (OfOther apart found) = omega (arith, has.counts r now found, none_on copy.0 r apart, on_entered r (entry_on row copy) (rows_in task maps))

-- the pages of the region are among those of an entry
pub record IsFrom (header : Header) (source offset pages : ℕ) (past : List Event) : Type 0 where
  pub task : ℕ
  pub address : ℕ
  pub at : At header task address past
  pub source_is : source ≡ at.entry.region.0
  pub inside : offset + pages ≤ at.entry.offset + at.entry.bytes / header.size

-- What a copy that may be made has: its task lives here and doesn't wait, the range is free, the source has the pages, and numbers are left.

pub record MayCopy (header : Header) (task : ℕ) (source : RegionId) (offset : ℕ) (row : Entry) (past : List Event) (k : Parts) : Type 0 where
  pub lives : entries_in task k.maps ≡ Some (rows_in task k.maps)
  pub idle : waiting task past ≡ None
  pub free : CanEnter task row k
  pub pages : row.bytes / header.size < 2 ^ 32
  pub region : RegionRow
  pub there : region_at k.chains source.0 ≡ Some region
  pub counted : 0 < region.entries
  pub temporary : named header ≤ source.0
  pub inside : offset + row.bytes / header.size ≤ region.pages
  pub regions : next_region header past + 1 ≤ most_regions
  pub objects : next_object header past + (marks_of header past + (if (region_of header source.0 past).mark then 1 else 2)) ≤ most_objects
  pub from : IsFrom header source.0 offset (row.bytes / header.size) past

-- of a list of tests that finds nothing, each found nothing
pub free_of : (size : ℕ) (row : Entry) (rows : List Entry) → judged size (entering row) rows ≡ None → IsFree size row rows
free_of size row rows fine =
    by (is_range size row.address row.bytes) (meets_range row.address row.bytes rows) (nat_lt most_entries (length rows + 1)) refl refl fine
  where
    by : (a b c : Bool) → is_range size row.address row.bytes ≡ a → nat_lt most_entries (length rows + 1) ≡ c
        → (if not a then Some code.InvalidArgument else (if false then Some code.InvalidAddress else
        (if b then Some code.NoSpace else (if c then Some code.TableFull else None)))) ≡ None → IsFree size row rows
    by false b c range few none = absurd (let bad : Some code.InvalidArgument ≡ None = none in cc)
    by true true c range few none = absurd (let bad : Some code.NoSpace ≡ None = none in cc)
    by true false true range few none = absurd (let bad : Some code.TableFull ≡ None = none in cc)
    by true false false range few none =
        record {
          whole = grind (arith, nat_tests);
          some = grind (arith, nat_tests);
          below = grind (arith, nat_tests);
          room = grind (arith, nat_tests);
        }

-- as many references as regions and objects at most
pub tally_few : (test : ℕ → Bool) (n : ℕ) → tally test n ≤ n
tally_few test zero = omega arith
tally_few test (suc n) = by (test n) (tally_few test n)
  where
    by : (b : Bool) → tally test n ≤ n → one b + tally test n ≤ suc n
    by true le = omega arith
    by false le = omega arith

pub can_copy : (header : Header) (h : ℕ) (task : ℕ) (source : RegionId) (offset : ℕ) (row : Entry) (past : List Event) (k : Parts) (ids : Ids)
    → Works header h k ids woken.Nobody past → MayCopy header task source offset row past k → CanCopy task source offset row k ids
can_copy header h task source offset row past k ids works may =
    let m = works.matches in
    let known = row_of (object_at k.memory.objects may.region.top.0) (m.core.objects.regions.tops source.0 may.region may.there) in
    let few = m.core.objects.regions.few in
    let more = may.regions in
    let next = m.core.objects.regions.region in
    let marks = m.core.objects.regions.marks in
    let count = m.core.objects.regions.counts may.region.top.0 known.0 known.1 in
    let overs = tally_few (λ r. is_over may.region.top.0 (region_at k.chains r)) (next_region header past) in
    let unders = tally_few (λ s. is_backing may.region.top.0 (shadow_at k.chains s)) (next_object header past) in
    let over = m.core.objects.regions.fits.tops source.0 may.region may.there in
    let sized = ap pages_of_row known.1 in
    record {
      lives = subst (λ (z : Option (List Entry)). IsSome z) (sym may.lives) refl;
      free = may.free;
      sized = m.core.spaces.tasks.sized ∙ sym m.core.setting.sized;
      pages = subst (λ (z : ℕ). row.bytes / z < 2 ^ 32) (sym m.core.setting.sized) may.pages;
      region = may.region;
      there = may.there;
      inside = subst (λ (z : ℕ). offset + row.bytes / z ≤ may.region.pages) (sym m.core.setting.sized) may.inside;
      known = known.0;
      object = known.1;
      over = omega (arith, over, sized);
      references = (let flag = flag_few known.0.cache in omega (arith, count, flag, overs, unders, few, more));
      below = λ r high. m.core.objects.regions.unmade r (omega (arith, high, next));
      regions = omega (arith, next, more);
      marks = omega (arith, marks, few);
    }

-- that a region was copied
abbrev pub copied : RegionId → RegionId → ℕ → ℕ → Event
copied copy source offset pages = event.RegionCopied copy source offset pages

-- a copy is in use where its source is, and each other region where it was

copy_use : (header : Header) (h : ℕ) (copy source : RegionId) (offset pages : ℕ) (past : List Event)
    → in_use header h copy.0 (copied copy source offset pages ∷ past) ≡ in_use header h source.0 past
copy_use header h copy source offset pages past =
    elim (eqb_tells copy.0 copy.0) [
      | inl same ↦ ap (λ b. if b then in_use header h source.0 past else in_use header h copy.0 past) same.0
      | inr apart ↦ absurd
          (apart.1 refl)
    ]

others_use : (header : Header) (h : ℕ) (copy source : RegionId) (offset pages : ℕ) (past : List Event) (r : ℕ) → (r ≡ copy.0 → ⊥)
    → in_use header h r (copied copy source offset pages ∷ past) ≡ in_use header h r past
others_use header h copy source offset pages past r apart =
    elim (eqb_tells r copy.0) [
      | inl same ↦ absurd (apart same.1)
      | inr other ↦ ap (λ b. if b then in_use header h source.0 past else in_use header h r past)
          other.0
    ]

copy_pages : (header : Header) (copy source : RegionId) (offset pages : ℕ) (past : List Event)
    → (region_of header copy.0 (copied copy source offset pages ∷ past)).pages ≡ pages
copy_pages header copy source offset pages past =
    elim (eqb_tells copy.0 copy.0) [
      | inl same ↦ ap (λ (b : Bool). if b then pages else (region_of header copy.0 past).pages) same.0
      | inr apart ↦ absurd
          (apart.1 refl)
    ]

-- a declared region of one host is a file's
pub file_of : (header : Header) (r : ℕ) → r < named header → cause.is_paged header r ≡ true → is_file header r ≡ true
file_of header r declared paged = let test : nat_lt r (named header) ≡ true = grind (arith, nat_tests) in sym (ap (λ b. not b || is_file header r) test) ∙ paged

-- a region that is there is in use, if it is temporary or a file's
pub used_there : (header : Header) (h : ℕ) (k : Parts) (ids : Ids) (past : List Event) (r : ℕ) (row : RegionRow)
    → Works header h k ids woken.Nobody past → region_at k.chains r ≡ Some row → cause.is_paged header r ≡ true → in_use header h r past ≡ true
used_there header h k ids past r row works there paged =
    let m = works.matches in
    elim (kind_cases header r) [
      | inl declared ↦ elim (row_use r row m.core.spaces.entries there works.used) [
        | inl some ↦ m.core.spaces.uses.files r (file_of header r declared paged) some
        | inr filled ↦ let least = filled_temporary r works.used.copies m.core.spaces.homes.1 filled in absurd (omega (arith, declared, least))
      ]
      | inr temporary ↦ (m.core.spaces.uses.used r temporary).is (row_use r row m.core.spaces.entries there works.used)
    ]

-- the entry on the copy has its cause
pub copy_enters : (header : Header) (h : ℕ) (task : TaskId) (copy source : RegionId) (offset : ℕ) (row : Entry) (past : List Event) (k : Parts) (ids : Ids)
    → Works header h k ids woken.Nobody past → MayCopy header task.0 source offset row past k → copy.0 ≡ next_region header past
    → Enters header task.0 row.bytes copy.0 0 (copied copy source offset (row.bytes / header.size) ∷ past)
copy_enters header h task copy source offset row past k ids works may number =
    let m = works.matches in
    let used : in_use header h copy.0 (copied copy source offset (row.bytes / header.size) ∷ past) ≡ true = copy_use header h copy source offset
    (row.bytes / header.size) past ∙ used_there header h k ids past source.0 may.region works may.there (paged_temporary header source.0 may.temporary) in
    let waits_copied : HasWaits header h k woken.Nobody (copied copy source offset (row.bytes / header.size) ∷ past) = works.waits in
    let copies_copied : HasSlow header k (copied copy source offset (row.bytes / header.size) ∷ past) = works.used.copies in
    record {
      idle = may.idle;
      host = h;
      lives = lives_here m.core.spaces.tasks may.lives;
      whole = subst (λ (z : ℕ). row.bytes % z ≡ 0) m.core.spaces.tasks.sized (free_of k.maps.size row (rows_in task.0 k.maps) may.free).whole;
      inside = let pages = copy_pages header copy source offset (row.bytes / header.size) past in omega (arith, pages);
      made = omega (arith, number);
      used = λ temporary. used;
      file = λ is. used;
      unfilled =
          unfilled header.size copy.0 (tasks past) k.maps k.waits.rows (copied copy source offset (row.bytes / header.size) ∷ past)
          (fills_here {past = copied copy source offset (row.bytes / header.size) ∷ past} waits_copied copies_copied)
          (free_unfilled copy.0 works.used.copies (m.core.objects.regions.unmade copy.0 (omega (arith, number))))
          (λ t none. m.core.spaces.uses.apart t copy.0 none (inr (omega (arith, number))));
    }

-- the copy has its cause
pub copy_cause : (header : Header) (copy source : RegionId) (offset pages : ℕ) (past : List Event) → named header ≤ source.0
    → IsFrom header source.0 offset pages past → copy.0 ≡ next_region header past → cause.CopiesRegion header copy.0 source.0 offset pages past
copy_cause header copy source offset pages past temporary from number =
    record { next = number; temporary = temporary; task = from.task; address = from.address; at = from.at; source_is = from.source_is; inside = from.inside }

-- who doesn't wait in the history has no row
pub no_row : (size : ℕ) (x : Option Waiting) (w : Option Access) → w ≡ waiting_in size x → w ≡ None → x ≡ None
no_row size None w is none = refl
no_row size (Some row) w is none = absurd (let bad : waiting_in size (Some row) ≡ None = sym is ∙ none in cc)

-- the next region in use elsewhere, or not made, was so before the copy
use_before : (header : Header) (h : ℕ) (copy source : RegionId) (offset pages : ℕ) (past : List Event) (r : ℕ) → copy.0 ≡ next_region header past
    → (in_use header h r (copied copy source offset pages ∷ past) ≡ true) ⊎ (next_region header past + 1 ≤ r) → (in_use header h r past ≡ true)
    ⊎ (next_region header past ≤ r)
use_before header h copy source offset pages past r number (inl used) = elim (eqb_tells r copy.0) [
  | inl same ↦ inr (let is = same.1 in omega (arith, is, number))
  | inr apart ↦ inl (sym (others_use header h copy source offset pages past r apart.1) ∙ used)
]
use_before header h copy source offset pages past r number (inr high) = inr (omega (arith, high))

-- the source's top is referred to
referred_source : {chains : ChainTable} {objects : ObjectTable} {ids : Ids} {region_from : ℕ → Region} {backing_from : ℕ → Backing}
    {regions_made objects_made marked : ℕ} → HasRegions chains objects ids region_from backing_from regions_made objects_made marked
    → (r : ℕ) (row : RegionRow) (known : ObjectRow) → region_at chains r ≡ Some row → object_at objects row.top.0 ≡ Some known → 0 < known.references
referred_source has r row known there found =
    let is = refers_region has r row there in subst (λ (z : ObjectRow). 0 < z.references) (some_is is.row known (sym is.known ∙ found)) is.some

-- the copy of a temporary region is over what that is over
kinds_copied : (header : Header) (source copy offset pages : ℕ) (region : RegionRow) (known : ObjectRow) (cs mid cs2 : ChainTable) (os os2 : ObjectTable)
    → CopiesOnce source copy offset pages region cs mid cs2 → named header ≤ source → 0 < known.references
    → object_at os region.top.0 ≡ Some known → PutsObject region.top.0 (Some (record known { references = known.references + 1 })) os os2 → SameMarks os os2
    → HasKinds header os cs → HasKinds header os2 cs2
kinds_copied header source copy offset pages region known cs mid cs2 os os2 once temporary some found put marks has =
    let now = kinds_put header region.top.0 (record known { references = known.references + 1 }) os os2 cs put marks
    (kind_referred header region.top.0 known (known.references + 1) some (has.kinds region.top.0 known found)) has in
    let top : named header ≤ region.top.0 = has.tops source region temporary once.there in
    record {
      kinds = now.kinds;
      present = now.present;
      tops = λ r row least there. by_row top r row least (row_now source copy offset pages region cs mid cs2 once r row there);
      unders = λ o row there. has.unders o row (sym (ap (λ f. f o) once.copies.shadows) ∙ (sym (ap (λ f. f o) once.counts.shadows) ∙ there));
    }
  where
    by_row : named header ≤ region.top.0 → (r : ℕ) (row : RegionRow) → named header ≤ r → RowNow source copy offset pages region cs r row
        → named header ≤ row.top.0
    by_row top r row least (OfCopy same is) = subst (λ (z : RegionRow). named header ≤ z.top.0) (sym is) top
    by_row top r row least (OfSource same is) = subst (λ (z : RegionRow). named header ≤ z.top.0) (sym is) top
    by_row top r row least (OfOther apart was) = has.tops r row least was

-- the kernel behind a copy and its entry
pub works_copied : (header : Header) (h : ℕ) (outside : Outside) (doing : Command) (task : TaskId) (source : RegionId) (offset : ℕ) (row : Entry)
    (past : List Event) (k k2 : Parts) (ids ids2 : Ids) (before after : List Event) → Works header h k ids woken.Nobody past
    → MayCopy header task.0 source offset row past k → (s : EntersCopy task source offset row k k2 ids ids2 before after)
    → Works header h k2 ids2 woken.Nobody (got task (entry_on row s.copy) ∷ copied s.copy source offset (row.bytes / header.size) ∷ past)
works_copied header h outside doing task source offset row past k k2 ids ids2 before after works may s =
    let m = works.matches in
    let size = header.size in
    let pages = row.bytes / size in
    let now : Event = copied s.copy source offset pages in
    let new : Entry = entry_on row s.copy in
    let e = got task new in
    let top = s.region.top.0 in
    let number : s.copy.0 ≡ next_region header past = s.number ∙ m.core.objects.regions.region in
    let same : may.region ≡ s.region = some_is may.region s.region (sym may.there ∙ s.there) in
    let copies : CopiesRegion source.0 s.copy.0 offset pages s.region k.chains s.mid = subst
    (λ (z : ℕ). CopiesRegion source.0 s.copy.0 offset (row.bytes / z) s.region k.chains s.mid) m.core.setting.sized s.copies in
    let once : CopiesOnce source.0 s.copy.0 offset pages s.region k.chains s.mid k2.chains = record {
      free = m.core.objects.regions.unmade s.copy.0 (omega (arith, number));
      there = s.there;
      copies = copies;
      counts = s.counts;
    } in
    let free : IsFree size row (rows_in task.0 k.maps) = subst (λ (z : ℕ). IsFree z row (rows_in task.0 k.maps)) m.core.spaces.tasks.sized
    (free_of k.maps.size row (rows_in task.0 k.maps) may.free) in
    let lives = may.lives in
    let below = lives_below size task.0 k.maps k.chains [] m.core.spaces.entries lives in
    let enters = copy_enters header h task s.copy source offset row past k ids works may number in
    let knows = homes_caused header outside h k.chains e (now ∷ past) (doing, enters) (homes_caused header outside h k.chains now past
    (doing, copy_cause header s.copy source offset pages past may.temporary may.from number) m.core.spaces.homes) in
    let recount = same_put s.copy.0 1 s.mid k2.chains s.counts in
    let small = small_region m.core.objects.regions source.0 s.region s.there in
    let marked = marked_copied header past s.copy source offset pages number small in
    let mark : (region_of header source.0 past).mark ≡ s.region.marked = ap (λ z. z.mark) (m.core.objects.regions.rows source.0 s.region s.there) in
    let marks : ids2.marks ≡ marks_of header (now ∷ past) =
    ap (λ z. z.marks) s.ids ∙ (ap (λ z. z + (if s.region.marked then 1 else 2)) m.core.objects.regions.marks
    ∙ (ap (λ (b : Bool). marks_of header past + (if b then 1 else 2)) (sym mark) ∙ sym marked)) in
    let few : next_object header past + marks_of header (now ∷ past) ≤ most_objects = subst (λ (z : ℕ). next_object header past + z ≤ most_objects)
    (sym marked) may.objects in
    let counted : 0 < s.region.entries = subst (λ (z : RegionRow). 0 < z.entries) same may.counted in
    let within : offset + pages ≤ s.region.pages = subst (λ (z : RegionRow). offset + pages ≤ z.pages) same may.inside in
    let frames_are : k2.memory.frames ≡ k.memory.frames = ap (λ (z : HostParts). z.frames) s.memory in
    let rows_are : k2.memory.resident ≡ k.memory.resident = ap (λ (z : HostParts). z.resident) s.memory in
    let waits_at = λ (t : ℕ). waiting t past in
    let none = no_row k.maps.size (entry k.waits.rows task.0) (waiting task.0 past) (works.waits.is task.0 (ap is_some lives)) may.idle in
    let now_waits : HasWaiters k2.maps k2.chains k.copies k.memory.resident k2.memory.objects k.waits.rows (is_woken woken.Nobody) waits_at
    (StaysAway header h past)
    (IsUnmet header h past) =
    waits_referred k2.maps k2.chains k.memory.resident k.memory.objects k2.memory.objects k.waits.rows (is_woken woken.Nobody) waits_at top
    (s.known.references + 1) s.known
    (waits_changed k.maps k2.maps k.chains k2.chains k.memory.resident k.memory.objects k.waits.rows (is_woken woken.Nobody) waits_at task.0
    (Some (entered new (rows_in task.0 k.maps))) works.waits s.maps none
    (places_copy source.0 s.copy.0 offset pages s.region k.chains s.mid k2.chains once)
    (told_changed k.maps k2.maps k.waits.rows waits_at task.0 (rows_in task.0 k.maps) (Some (entered new (rows_in task.0 k.maps))) works.waits.is s.maps
    lives))
    s.object s.refers in
    let copied_now = copied_regions {chains = s.mid} s.counts.shadows (copied_regions {chains2 = s.mid} copies.shadows
    (copied_referred top (s.known.references + 1) s.known k2.memory.objects
    s.object s.refers (λ more. referred_source m.core.objects.regions source.0 s.region s.known s.there s.object) m.core.copied)) in
    let referred : AllReferred k2.chains k2.memory.objects k.memory.resident =
    referred_recounted s.mid k2.chains k2.memory.objects k.memory.resident recount
    (referred_copied top (record s.known { references = s.known.references + 1 }) source.0 s.copy.0 offset pages s.region k.chains s.mid k.memory.objects
    k2.memory.objects k.memory.resident copies s.refers (omega arith) (stays_served s.object refl refl) works.referred) in
    record {
      matches =
          record {
            core = record {
              setting = rw (s.size, s.host, s.declared) m.core.setting;
              calm = m.core.calm;
              fits = record {
                parts =
                    subst Fit (sym s.memory) (fit_objects k.memory k2.memory.objects m.core.fits.parts
                    (same_pages k.memory.objects k2.memory.objects top s.known (record s.known { references = s.known.references + 1 }) s.object refl
                    s.refers));
                plain = subst ArePlain (sym rows_are) m.core.fits.plain;
                buffers = ap (λ (z : HostParts). z.buffers.size) s.memory ∙ (m.core.fits.buffers ∙ sym s.size);
              };
              spaces = record {
                tasks = tasks_entered h size k.maps k2.maps (now ∷ past) task new m.core.spaces.tasks s.maps lives;
                entries =
                    entries_copy size k.maps k2.maps source.0 offset s.region k.chains s.mid k2.chains task.0 s.copy row m.core.spaces.entries once s.maps below
                    free;
                shared = shared_entered header task.0 k.maps k2.maps new s.maps (temporary_shared header new
                    (let more = named_regions header past in omega (arith, number, more))) m.core.spaces.shared;
                uses = rw s.waits (uses_entered header k.maps k2.maps (λ r. in_use header h r (now ∷ past)) (tasks past)
                    (λ t r. holds header.size t r (e ∷ now ∷ past)) (next_region header past + 1) task.0 new (lives_on h task.0 (now ∷ past))
                    (λ r temporary apart. subst (λ (b : Bool). IsUsed k.maps k.waits.rows r b)
                    (sym (others_use header h s.copy source offset pages past r apart))
                    (m.core.spaces.uses.used r temporary))
                    (λ r file apart some. others_use header h s.copy source offset pages past r apart ∙ m.core.spaces.uses.files r file some)
                    (λ paged. copy_use header h s.copy source offset pages past
                    ∙ used_there header h k ids past source.0 s.region works s.there (paged_temporary header source.0 may.temporary)) m.core.spaces.uses.among
                    s.maps lives
                    below
                    (m.core.spaces.tasks.hosts task.0 ∙ ap is_some lives)
                    (λ t r away why. holds_rows header.size task.0 t r k.maps (rows_in task.0 k.maps) _ (now ∷ past) lives away
                    ∙ m.core.spaces.uses.apart t r away (use_before header h s.copy source offset pages past r number why)));
                homes = (
                  λ r found_row paged found. by_row number knows r found_row paged
                      (row_now source.0 s.copy.0 offset pages s.region k.chains s.mid k2.chains once r
                      found_row found),
                  knows.1,
                );
              };
              objects = record {
                regions = regions_recounted s.mid k2.chains k2.memory.objects ids2 _ _ _ _ _ recount
                    (regions_copied header past s.copy source offset pages s.region s.known k.chains s.mid k.memory.objects k2.memory.objects ids ids2
                    (next_region header past) (next_object header past) (marks_of header past) (marks_of header (now ∷ past)) s.there number within
                    copies s.object s.refers
                    (ap (λ z. z.next_region) s.ids) (ap (λ z. z.next_object) s.ids) marks few m.core.objects.regions);
                kinds = kinds_copied header source.0 s.copy.0 offset pages s.region s.known k.chains s.mid k2.chains k.memory.objects k2.memory.objects once
                    may.temporary (referred_source m.core.objects.regions source.0 s.region s.known s.there s.object) s.object s.refers s.absent
                    m.core.objects.kinds;
                files = files_entered header h task new k2.memory.objects (now ∷ past) (λ file. absurd
                    (no_file header s.copy.0 (let more = named_regions header past in omega (arith, number, more)) file))
                    (files_put header h top s.known (record s.known { references = s.known.references + 1 }) k.memory.objects k2.memory.objects
                    (λ o. home_of o past) s.object s.refers m.core.objects.files);
                sizes = sizes_put (named header) top s.known (record s.known { references = s.known.references + 1 }) k.memory.objects k2.memory.objects
                    (λ o. object_pages header o past) s.object refl s.refers m.core.objects.sizes;
                undelayed = m.core.objects.undelayed;
              };
              copied = rw s.copied (subst (λ (z : HostParts). Copied k.copies z k2.chains (object_facts header (e ∷ now ∷ past))
                  (λ c p. is_pushed h c p past)) (sym s.memory) (record { known = copied_now.known; fits = copied_now.fits }));
              controls = controls_stay (λ o home. object_stays o h e (now ∷ past) home)
                  (controls_referred top (s.known.references + 1) s.known k.memory.objects k2.memory.objects (λ o. last_control h o past)
                  (λ o. live_control h o past) (λ o. is_ready h o past) s.object s.refers m.core.controls);
              flags = flags_put top (record s.known { references = s.known.references + 1 }) s.refers (ap cached_in s.object) m.core.flags;
              pages = rw (frames_are, rows_are, s.laundry) (pages_known_so s.absent m.core.pages);
            };
            settled = record { none_owed = refl; shut = λ region. refl };
            replied = replied_behind tt (replied_behind tt m.replied);
          };
      used = rw (rows_are, s.waits) (record {
        regions = used_copy source.0 s.copy.0 offset pages s.region k.chains s.mid k2.chains once k.waits.rows counted works.used.regions;
        copies =
            copies_kept k.maps k2.maps k.chains k2.chains k.memory.resident k.memory.resident works.used.copies
            (same_waiting k.maps k2.maps task.0 (Some (entered new (rows_in task.0 k.maps))) k.waits.rows s.maps none)
            (filled_copy source.0 s.copy.0 offset pages s.region k.chains s.mid k2.chains once counted) (rows_unmade k.chains k.memory.resident);
      });
      referred = subst (λ (z : ResidentTable). AllReferred k2.chains k2.memory.objects z) (sym rows_are) referred;
      thin =
          rw s.copied (thin_chains s.mid k2.chains k2.memory.objects recount.recounts.shadows (thin_grown top s.known
          (record s.known { references = s.known.references + 1 }) k.chains s.mid k.memory.objects k2.memory.objects
          (λ o shadow found. sym (ap (λ f. f o) copies.shadows) ∙ found) s.object (λ none. none)
          (λ one. let some = referred_source m.core.objects.regions source.0 s.region s.known s.there s.object in omega (arith, one, some)) s.refers
          works.thin));
      waits = rw (rows_are, s.waits, s.copied) now_waits;
      order = rw s.waits works.order;
    }
  where
    by_row : s.copy.0 ≡ next_region header past
        → KnowsHomes header h k.chains (got task (entry_on row s.copy) ∷ copied s.copy source offset (row.bytes / header.size) ∷ past)
        → (r : ℕ) (found_row : RegionRow) → cause.is_paged header r ≡ true
        → RowNow source.0 s.copy.0 offset (row.bytes / header.size) s.region k.chains r found_row
        → home_of r (got task (entry_on row s.copy) ∷ copied s.copy source offset (row.bytes / header.size) ∷ past) ≡ Some h
    by_row number homes r found_row paged (OfCopy same is) =
        let m = works.matches in
        let now : Event = copied s.copy source offset (row.bytes / header.size) in
        subst (λ (z : ℕ). home_of z (got task (entry_on row s.copy) ∷ now ∷ past) ≡ Some h) same
        (home_entered h task row.address row.bytes s.copy 0 row.prot row.inherit (now ∷ past) (m.core.spaces.homes.1.regions s.copy.0 (omega (arith, number)))
        (lives_here m.core.spaces.tasks may.lives))
    by_row number homes r found_row paged (OfSource same is) =
        subst (λ (z : ℕ). home_of z (got task (entry_on row s.copy) ∷ copied s.copy source offset (row.bytes / header.size) ∷ past) ≡ Some h) same
        (homes.0 source.0 s.region (paged_temporary header source.0 may.temporary) s.there)
    by_row number homes r found_row paged (OfOther apart was) = homes.0 r found_row paged was

-- at the end of a step
pub rests_copied : (header : Header) (h : ℕ) (outside : Outside) (doing : Command) (task : TaskId) (source : RegionId) (offset : ℕ) (row : Entry)
    (past : List Event) (k k2 : Parts) (ids ids2 : Ids) (before after : List Event) → Rests header h k ids past
    → MayCopy header task.0 source offset row past k → (s : EntersCopy task source offset row k k2 ids ids2 before after)
    → Rests header h k2 ids2 (got task (entry_on row s.copy) ∷ copied s.copy source offset (row.bytes / header.size) ∷ past)
rests_copied header h outside doing task source offset row past k k2 ids ids2 before after rests may s =
    rests_of header h k2 ids2 (got task (entry_on row s.copy) ∷ copied s.copy source offset (row.bytes / header.size) ∷ past)
    (works_copied header h outside doing task source offset row past k k2 ids ids2 before after (works_at_rest rests) may s)
    (ap (λ z. count_again z.rows) s.waits ∙ rests.idle)

-- the head of a command with an event more
pub heads_more : (header : Header) (h : ℕ) (outside : Outside) (doing : Command) (past events : List Event) (e : Event)
    → Heads header h outside doing past events → IsOne header h outside doing (events ++ past) e → Heads header h outside doing past (e ∷ events)
heads_more header h outside doing past events e heads is =
    record {
      licensed = (licensed header outside doing e (events ++ past) is.settled.none_owed is.cause, heads.licensed);
      own_bytes = (is.own_bytes, heads.own_bytes);
      frames = (is.frames, heads.frames);
      inner = (is.inner, heads.inner);
      said = (is.said, heads.said);
      mine = (mine_of header h e (events ++ past) is.settled.shut is.own is.creates, heads.mine);
    }

-- both events are the host's
pub heads_copied : (header : Header) (h : ℕ) (outside : Outside) (doing : Command) (task : TaskId) (copy source : RegionId) (offset : ℕ) (row : Entry)
    (past events : List Event) (k : Parts) (ids : Ids) → Works header h k ids woken.Nobody (events ++ past)
    → MayCopy header task.0 source offset row (events ++ past) k → copy.0 ≡ next_region header (events ++ past) → Heads header h outside doing past events
    → Heads header h outside doing past (got task (entry_on row copy) ∷ copied copy source offset (row.bytes / header.size) ∷ events)
heads_copied header h outside doing task copy source offset row past events k ids works may number heads =
    let m = works.matches in
    let now : Event = copied copy source offset (row.bytes / header.size) in
    let fine = suffices header h k.memory.frames (events ++ past) m.core.pages.counted in
    heads_more header h outside doing past (now ∷ events) (got task (entry_on row copy))
    (heads_more header h outside doing past events now heads
    (record {
      settled = m.settled;
      cause = copy_cause header copy source offset (row.bytes / header.size) (events ++ past) may.temporary may.from number;
      own_bytes = tt;
      frames = fine;
      inner = tt;
      said = tt;
      own =
          λ g used. m.core.spaces.homes.1.stay g h source.0 used (m.core.spaces.homes.0 source.0 may.region (paged_temporary header source.0 may.temporary)
          may.there);
      creates = tt;
    }))
    (record {
      settled = record { none_owed = refl; shut = λ region. refl };
      cause = copy_enters header h task copy source offset row (events ++ past) k ids works may number;
      own_bytes = tt;
      frames = fine;
      inner = tt;
      said = tt;
      own = own_task h task.0 (now ∷ (events ++ past)) (m.core.spaces.tasks.hosts task.0 ∙ ap is_some may.lives);
      creates = tt;
    })

-- the log behind them
pub told_copied : (header : Header) (h : ℕ) (task : TaskId) (source : RegionId) (offset : ℕ) (row : Entry) (past : List Event) (k k2 : Parts) (ids ids2 : Ids)
    (before after : List Event) → Works header h k ids woken.Nobody past → (s : EntersCopy task source offset row k k2 ids ids2 before after)
    → after ≡ got task (entry_on row s.copy) ∷ copied s.copy source offset (row.bytes / header.size) ∷ before
told_copied header h task source offset row past k k2 ids ids2 before after works s =
    s.told ∙ ap (λ (z : ℕ). got task (entry_on row s.copy) ∷ copied s.copy source offset (row.bytes / z) ∷ before) works.matches.core.setting.sized
