-- A fork makes a child, and gives it what is shared, and copies of what is copied, one entry after another.
use Rattle.vm_kernel.specs.Changes.{CanEnter}
use Rattle.vm_kernel.proofs.Common.{Access, AllRows, AreEntries, CanShare, ChainTable, ChangesOnly, Command, Enters, Entry, Event, HasEntries, HasWaiters}
use Rattle.vm_kernel.proofs.Common.{HasWholePages, HaveHomes, Header, Ids, InOrder, IsFilledIn, IsInside, IsShared, IsSome, List, Mapped, None, Option, Outside}
use Rattle.vm_kernel.proofs.Common.{Parts, PutsEntries, RegionRow, Rests, Shares, Some, Starts, Target, TaskId, Waiting, Works, [], all_tasks, ap, arith}
use Rattle.vm_kernel.proofs.Common.{code_where, copies, copy_target, count_again, count_by, drop, entered, entries_in, entries_in_row, entries_of, entry}
use Rattle.vm_kernel.proofs.Common.{entry_at, eqb_tells, false, got, has_entry, has_region, head, holds, host_id, host_of, if◌then◌else◌, in_use, inl, inr}
use Rattle.vm_kernel.proofs.Common.{is_copied, is_filled, is_fork_full, is_none, is_range, is_some, is_woken, length, length_entered, lives_on, most_entries}
use Rattle.vm_kernel.proofs.Common.{named, nat_tests, next_region, one_case, pages_in, refl, region_at, region_entries, region_of, region_pages, reverse}
use Rattle.vm_kernel.proofs.Common.{reverse-append, rows_entered, rows_in, rows_known, rows_map, slice_get, slice_get_within, some_is, subst, sym, tasks, true}
use Rattle.vm_kernel.proofs.Common.{unwrap_or, waiting, ℕ, ◌%◌, ◌*◌, ◌++◌, ◌+◌, ◌/◌, ◌<◌, ◌==◌, ◌^◌, ◌∙◌, ◌∷◌, ◌≡◌, ◌≢◌, ◌≤◌, ◌⊎◌}
use Rattle.vm_legal.proofs.Files.{file_paged}
use Rattle.vm_kernel.proofs.space.RegionsFilled.{counted_unfilled, entry_some, recount_filled, same_waiting}
use Rattle.vm_legal.proofs.Served.{later_paged as paged_temporary}
use Rattle.vm_kernel.proofs.space.RegionsInUse.{fills_here, holds_rows, unfilled, uses_entered}
use Rattle.vm_state.proofs.Filling.{copies_kept, rows_unmade}
use Rattle.std.proofs.Common.{nat_lt}
use Rattle.vm_abroad.proofs.Elsewhere.{filled_other}
use Rattle.vm_abroad.proofs.Home.{object_stays}
use Rattle.vm_base.specs.declared.code.Code.TheVariants as code
use Rattle.vm_base.specs.declared.ids.Inherit.TheVariants as inherit
use Rattle.vm_base.specs.declared.ids.RegionId.{RegionId}
use Rattle.vm_legal.specs.Follows.{copied_late, inherits, inherits_all, next_behind, object_behind}
use Rattle.vm_model.specs.Regions.{next_object}
use Rattle.vm_model.specs.declared.event.Event.TheVariants as event
use Rattle.vm_model.specs.declared.command.Command.TheVariants as command
use Rattle.vm_state.proofs.Changing.{SameButEntries, regions_recounted}
use Rattle.vm_model.specs.Waiting.{is_target}
use Rattle.vm_abroad.proofs.Regions.{kind_cases}
use Rattle.vm_state.proofs.Files.{files_entered}
use Rattle.vm_state.proofs.Marks.{marked_copied}
use Rattle.vm_state.proofs.Referred.{referred_recounted}
use Rattle.vm_state.proofs.Referring.{small_region}
use Rattle.vm_state.proofs.Waited.{told_changed, waits_changed}
use Rattle.vm_state.specs.Places.{with_entries}
use Rattle.vm_supply.specs.declared.woken.Woken.TheVariants as woken
use Rattle.vm_kernel.specs.Begun.{HasBegun}
use Rattle.vm_kernel.specs.Forking.{EntersCopy, entry_on}
use Rattle.vm_kernel.proofs.space.CopiesCounted.{drop_past}
use Rattle.vm_kernel.proofs.space.RegionCopied.{IsFrom, MayCopy, copied, free_of, heads_copied, heads_more, keeps_recounted, no_row, same_put, works_copied}
use Rattle.vm_kernel.proofs.space.RegionCopied.{told_copied, used_there}
use Rattle.vm_kernel.proofs.space.EntriesCounted.{by_few, most_is, none_on, on_entered, one_on}
use Rattle.vm_kernel.proofs.space.ChildEntries.{found_first, free_behind, told_next}
use Rattle.vm_maps.proofs.Pages.{whole_at}
use Rattle.vm_kernel.proofs.steps.EventsGrow.{suffices}
use Rattle.vm_kernel.proofs.steps.HeadAlone.{Heads, grows_head}
use Rattle.vm_kernel.proofs.steps.QueueServed.{rests_of, works_at_rest}
use Rattle.vm_legal.proofs.Heads.{passed}
use Rattle.vm_kernel.proofs.space.TaskMade.{works_made}
use Rattle.vm_kernel.proofs.abroad.OwnEvents.{own_new, own_task}
use Rattle.vm_kernel.proofs.abroad.OwnHost.{free_in, lives_here, lives_in, named_host, rows_here}
use Rattle.vm_kernel.proofs.space.CountsChanged.{has_same, next_row, pages_same, recounts_put, row_among}
use Rattle.vm_kernel.proofs.space.RegionRows.{region_row}
use Rattle.vm_kernel.proofs.steps.RoomOfFork.{HasRoom, room_copied, room_more, room_of, room_other}
use Rattle.vm_kernel.proofs.space.TaskTables.{Keeps, entries_changed, inside_kept, tasks_entered}
use Rattle.vm_kernel.proofs.space.SharedEntries.{kinds_recounted, shared_entered}
use Rattle.vm_kernel.proofs.space.EntriesRewritten.{lives_below, recount_homes}
use Rattle.vm_kernel.proofs.controls.LockReplied.{replied_behind}
use Rattle.vm_kernel.proofs.space.CopiesEnd.{copied_regions}
use Rattle.vm_state.specs.Passed.{IsUnmet, StaysAway}
use Rattle.vm_kernel.proofs.memory.PageReturned.{controls_stay}
use Rattle.vm_kernel.proofs.space.RegionHomes.{homes_caused}
use Rattle.vm_kernel.proofs.space.StillThin.{thin_chains}

-- One entry is shared.

-- what an entry has that may be shared
pub record MayShare (header : Header) (task : ℕ) (row : Entry) (past : List Event) (k : Parts) : Type 0 where
  pub counted : 0 < region_entries k.chains row.region.0
  pub lives : entries_in task k.maps ≡ Some (rows_in task k.maps)
  pub idle : waiting task past ≡ None
  pub free : CanEnter task row k
  pub pages : row.offset + row.bytes / k.maps.size < 2 ^ 32
  pub inside : IsInside header.size k.chains row
  pub shared : IsShared header row

pub lives_some : (o : Option (List Entry)) (rows : List Entry) → o ≡ Some rows → IsSome o
lives_some None rows is = absurd (let bad : None ≡ Some rows = is in cc)
lives_some (Some more) rows is = refl

pub same_rows : (a b : List Entry) (o : Option (List Entry)) → o ≡ Some a → o ≡ Some b → a ≡ b
same_rows a b o one two = let both : ◌≡◌ {A = Option (List Entry)} (Some a) (Some b) = sym one ∙ two in cc

-- the number of a region's entries is far below its limit
pub few_entries : (size : ℕ) (maps : Mapped) (chains : ChainTable) (r : ℕ) → HasEntries size maps chains [] → has_region chains r ≡ true
    → region_entries chains r + 1 < 2 ^ 32
few_entries size maps chains r has there =
    let row = region_row chains r there in
    let same : region_entries chains r ≡ row.0.entries = ap entries_in_row row.1 in
    let most : count_by all_tasks r maps ≤ 1024 * most_entries = subst (λ (z : ℕ). count_by all_tasks r maps ≤ z * most_entries) most_is
    (by_few all_tasks r most_entries maps has.few) in
    omega (arith, same, has.counts r row.0 row.1, most)

pub can_share : (header : Header) (h task : ℕ) (row : Entry) (past : List Event) (k : Parts) (ids : Ids)
    → Works header h k ids woken.Nobody past → MayShare header task row past k → CanShare task row k
can_share header h task row past k ids works may =
    record {
      lives = lives_some (entries_in task k.maps) (rows_in task k.maps) may.lives;
      free = may.free;
      pages = may.pages;
      region = may.inside.region;
      few = few_entries header.size k.maps k.chains row.region.0 works.matches.core.spaces.entries may.inside.region;
    }

-- the counts of the regions, where one has an entry more

keeps_share : (r n : ℕ) (cs cs2 : ChainTable) → PutsEntries r n cs cs2 → Keeps cs cs2
keeps_share r n cs cs2 put =
    let recounts = recounts_put r n cs cs2 put in
    record { there = λ q is. has_same _ cs cs2 recounts q ∙ is; pages = λ q is. pages_same _ cs cs2 recounts q }

used_share : (r n : ℕ) (row : RegionRow) (cs cs2 : ChainTable) (list : List Waiting) → region_at cs r ≡ Some row → PutsEntries r (n + 1) cs cs2
    → ((r : ℕ) (row : RegionRow) → region_at cs r ≡ Some row → (0 < row.entries) ⊎ IsFilledIn list r)
    → (r : ℕ) (row : RegionRow) → region_at cs2 r ≡ Some row → (0 < row.entries) ⊎ IsFilledIn list r
used_share r n row cs cs2 list there put used q now found =
    elim (one_case r q (with_entries (n + 1) (region_at cs r)) (region_at cs q) (region_at cs2 q) (put.at q)) [
      | inl this ↦
          let count = ap (λ z. z.entries) (some_is (record row { entries = n + 1 }) now (sym (this.1 ∙ ap (with_entries (n + 1)) there) ∙ found)) in
          inl (omega (arith, count))
      | inr other ↦ used q now (sym other.1 ∙ found)
    ]

pub entries_share : (size : ℕ) (maps new : Mapped) (cs cs2 : ChainTable) (task : ℕ) (row : Entry) → HasEntries size maps cs [] → IsInside size cs row
    → PutsEntries row.region.0 (region_entries cs row.region.0 + 1) cs cs2
    → ChangesOnly maps new task (Some (entered row (rows_in task maps))) → task < all_tasks → length (rows_in task maps) < most_entries
    → HasEntries size new cs2 []
entries_share size maps new cs cs2 task row has inside put changes below room =
    let r = row.region.0 in
    let n = region_entries cs r in
    let there = region_row cs r inside.region in
    let keeps = keeps_share r (n + 1) cs cs2 put in
    entries_changed size maps new cs cs2 task (entered row (rows_in task maps)) has keeps changes below
    (rows_entered (IsInside size cs2) row (rows_in task maps) (inside_kept size cs cs2 row keeps inside)
    (rows_map (IsInside size cs) (IsInside size cs2) (λ other is. inside_kept size cs cs2 other keeps is) (rows_in task maps) (has.inside task)))
    (omega (arith, length_entered row (rows_in task maps), room))
    (λ q now found. elim (one_case r q (with_entries (n + 1) (region_at cs r)) (region_at cs q) (region_at cs2 q) (put.at q)) [
      | inl this ↦
          let count = ap (λ z. z.entries) (some_is (record there.0 { entries = n + 1 }) now (sym (this.1 ∙ ap (with_entries (n + 1)) there.1) ∙ found)) in
          let were : n ≡ there.0.entries = ap entries_in_row there.1 in
          let old = subst (λ (z : ℕ). there.0.entries ≡ count_by all_tasks z maps + 0) this.0 (has.counts r there.0 there.1) in
          omega (arith, count, were, old, one_on r q this.0, on_entered q row (rows_in task maps))
      | inr other ↦ omega (arith, has.counts q now (sym other.1 ∙ found), none_on r q other.0, on_entered q row (rows_in task maps))
    ])

-- no slow copy fills a declared region

target_declared : (header : Header) (r : ℕ) (x : Option Target) → r < named header → ((target : Target) → x ≡ Some target → named header ≤ target.region)
    → is_target r x ≡ false
target_declared header r None declared temporary = refl
target_declared header r (Some target) declared temporary = let least = temporary target refl in grind (arith, nat_tests)

pub unfilled_declared : (header : Header) (r : ℕ) (list : List ℕ) (past : List Event) → r < named header → HaveHomes header past → is_filled r list past ≡ false
unfilled_declared header r [] past declared homes = refl
unfilled_declared header r (task ∷ others) past declared homes =
    rw (filled_other r (waiting task past) (copy_target task past) (target_declared header r (copy_target task past) declared (homes.fills task)))
    (unfilled_declared header r others past declared homes)

-- the entry has its cause
pub share_enters : (header : Header) (h : ℕ) (task : TaskId) (row : Entry) (past : List Event) (k : Parts) (ids : Ids)
    → Works header h k ids woken.Nobody past → MayShare header task.0 row past k → Enters header task.0 row.bytes row.region.0 row.offset past
share_enters header h task row past k ids works may =
    let m = works.matches in
    let r = row.region.0 in
    let there = region_row k.chains r may.inside.region in
    let used = used_there header h k ids past r there.0 works there.1 in
    let pages : (region_of header r past).pages ≡ region_pages k.chains r = ap (λ z. z.pages) (m.core.objects.regions.rows r there.0 there.1)
    ∙ sym (ap pages_in there.1) in
    let inside = may.inside.inside.whole in
    record {
      idle = may.idle;
      host = h;
      lives = lives_here m.core.spaces.tasks may.lives;
      whole = subst (λ (z : ℕ). row.bytes % z ≡ 0) m.core.spaces.tasks.sized (free_of k.maps.size row (rows_in task.0 k.maps) may.free).whole;
      inside = omega (arith, inside, pages);
      made = small_region m.core.objects.regions r there.0 there.1;
      used = λ temporary. used (paged_temporary header r temporary);
      file = λ is. used (file_paged header r is);
      unfilled = elim (kind_cases header r) [
        | inl declared ↦ unfilled_declared header r (tasks past) past declared m.core.spaces.homes.1
        | inr temporary ↦ unfilled header.size r (tasks past) k.maps k.waits.rows past (fills_here {past = past} works.waits works.used.copies)
            (counted_unfilled r there.0 works.used.copies there.1 (subst (λ (z : ℕ). 0 < z) (ap entries_in_row there.1) may.counted))
            (λ t none. m.core.spaces.uses.apart t r none (inl (used (paged_temporary header r temporary))))
      ];
    }

-- the kernel behind the entry
pub works_shared : (header : Header) (h : ℕ) (outside : Outside) (doing : Command) (task : TaskId) (row : Entry) (past : List Event) (k k2 : Parts) (ids : Ids)
    (before after : List Event) → Works header h k ids woken.Nobody past → MayShare header task.0 row past k
    → Shares task row k k2 before after → Works header h k2 ids woken.Nobody (got task row ∷ past)
works_shared header h outside doing task row past k k2 ids before after works may s =
    let m = works.matches in
    let size = header.size in
    let r = row.region.0 in
    let e = got task row in
    let there = region_row k.chains r may.inside.region in
    let recount : SameButEntries k.chains k2.chains = same_put r (region_entries k.chains r + 1) k.chains k2.chains s.counts in
    let lives = may.lives in
    let below = lives_below size task.0 k.maps k.chains [] m.core.spaces.entries lives in
    let free = free_of k.maps.size row (rows_in task.0 k.maps) may.free in
    let waits_at = λ (t : ℕ). waiting t past in
    let none = no_row k.maps.size (entry k.waits.rows task.0) (waiting task.0 past) (works.waits.is task.0 (ap is_some lives)) may.idle in
    let copied_now = copied_regions s.counts.shadows m.core.copied in
    let now_waits : HasWaiters k2.maps k2.chains k.copies k.memory.resident k.memory.objects k.waits.rows (is_woken woken.Nobody) waits_at
    (StaysAway header h past)
    (IsUnmet header h past) =
    waits_changed k.maps k2.maps k.chains k2.chains k.memory.resident k.memory.objects k.waits.rows (is_woken woken.Nobody) waits_at task.0
    (Some (entered row (rows_in task.0 k.maps))) works.waits s.maps none (keeps_recounted k.chains k2.chains recount)
    (told_changed k.maps k2.maps k.waits.rows waits_at task.0 (rows_in task.0 k.maps) (Some (entered row (rows_in task.0 k.maps))) works.waits.is s.maps
    lives) in
    record {
      matches =
          record {
            core = record {
              setting = rw (s.size, s.host, s.declared) m.core.setting;
              calm = m.core.calm;
              fits = rw (s.memory, s.size) m.core.fits;
              spaces = record {
                tasks = tasks_entered h size k.maps k2.maps past task row m.core.spaces.tasks s.maps lives;
                entries = entries_share size k.maps k2.maps k.chains k2.chains task.0 row m.core.spaces.entries may.inside s.counts s.maps below free.room;
                shared = shared_entered header task.0 k.maps k2.maps row s.maps may.shared m.core.spaces.shared;
                uses = rw s.waits (uses_entered header k.maps k2.maps (λ q. in_use header h q past) (tasks past) (λ t q. holds header.size t q (e ∷ past))
                    (next_region header past) task.0 row (lives_on h task.0 past) (λ q temporary apart. m.core.spaces.uses.used q temporary)
                    (λ q file apart some. m.core.spaces.uses.files q file some) (used_there header h k ids past r there.0 works there.1)
                    m.core.spaces.uses.among s.maps lives below
                    (m.core.spaces.tasks.hosts task.0 ∙ ap is_some lives)
                    (λ t q away why. holds_rows header.size task.0 t q k.maps (rows_in task.0 k.maps) _ past lives away
                    ∙ m.core.spaces.uses.apart t q away why));
                homes = homes_caused header outside h k2.chains e past (doing, share_enters header h task row past k ids works may)
                    (recount_homes _ header h k.chains k2.chains past (recounts_put r (region_entries k.chains r + 1) k.chains k2.chains s.counts)
                    m.core.spaces.homes);
              };
              objects = rw s.memory (record {
                regions = regions_recounted k.chains k2.chains k.memory.objects ids _ _ _ _ _ recount m.core.objects.regions;
                kinds = kinds_recounted header _ k.memory.objects k.chains k2.chains
                    (recounts_put r (region_entries k.chains r + 1) k.chains k2.chains s.counts) m.core.objects.kinds;
                files =
                    files_entered header h task row k.memory.objects past (λ file. m.core.spaces.homes.0 r there.0 (file_paged header r file) there.1)
                    m.core.objects.files;
                sizes = m.core.objects.sizes;
                undelayed = m.core.objects.undelayed;
              });
              copied = rw (s.memory, s.copied) (record { known = copied_now.known; fits = copied_now.fits });
              controls = rw s.memory (controls_stay (λ o at_home. object_stays o h e past at_home) m.core.controls);
              flags = rw s.memory m.core.flags;
              pages = rw (s.memory, s.laundry) m.core.pages;
            };
            settled = record { none_owed = refl; shut = λ region. refl };
            replied = replied_behind tt m.replied;
          };
      used = rw (s.memory, s.waits) (record {
        regions = used_share r (region_entries k.chains r) there.0 k.chains k2.chains k.waits.rows there.1 s.counts works.used.regions;
        copies =
            copies_kept k.maps k2.maps k.chains k2.chains k.memory.resident k.memory.resident works.used.copies
            (same_waiting k.maps k2.maps task.0 (Some (entered row (rows_in task.0 k.maps))) k.waits.rows s.maps none)
            (recount_filled _ k.chains k2.chains (recounts_put r (region_entries k.chains r + 1) k.chains k2.chains s.counts) none_counted)
            (rows_unmade k.chains k.memory.resident);
      });
      referred = rw s.memory (referred_recounted k.chains k2.chains k.memory.objects k.memory.resident recount works.referred);
      thin = rw (s.memory, s.copied) (thin_chains k.chains k2.chains k.memory.objects recount.recounts.shadows works.thin);
      waits = rw (s.memory, s.waits, s.copied) now_waits;
      order = rw s.waits works.order;
    }
  where
    none_counted : (q : ℕ) → has_region k.chains q ≡ true → region_entries k.chains q ≡ 0
        → (if row.region.0 == q then region_entries k.chains row.region.0 + 1 else region_entries k.chains q) ≡ 0
    none_counted q there_q none_q = elim (eqb_tells row.region.0 q) [
      | inl same ↦ let some = may.counted in let that = ap (region_entries k.chains) same.1 in absurd (omega (arith, some, that, none_q))
      | inr apart ↦ ap (λ b. if b then region_entries k.chains row.region.0 + 1 else region_entries k.chains q) apart.0 ∙ none_q
    ]

-- at the end of a step
pub rests_shared : (header : Header) (h : ℕ) (outside : Outside) (doing : Command) (task : TaskId) (row : Entry) (past : List Event) (k k2 : Parts) (ids : Ids)
    (before after : List Event) → Rests header h k ids past → MayShare header task.0 row past k
    → Shares task row k k2 before after → Rests header h k2 ids (got task row ∷ past)
rests_shared header h outside doing task row past k k2 ids before after rests may s =
    rests_of header h k2 ids (got task row ∷ past)
    (works_shared header h outside doing task row past k k2 ids before after (works_at_rest rests) may s)
    (ap (λ z. count_again z.rows) s.waits ∙ rests.idle)

-- The fork.

-- a task that can be forked lives, its child doesn't, and what is copied fits
pub record MayFork (header : Header) (k : Parts) (task child : ℕ) (past : List Event) : Type 0 where
  pub lives : entries_in task k.maps ≡ Some (rows_in task k.maps)
  pub free : entries_in child k.maps ≡ None
  pub new : is_some (host_of child past) ≡ false
  pub room : HasRoom header (rows_in task k.maps) past

pub may_fork : (header : Header) (h : ℕ) (task child : TaskId) (past : List Event) (k : Parts) (ids : Ids) (events : List Event)
    → Starts header h (command.Fork task child) past k ids events → MayFork header k task.0 child.0 past
may_fork header h task child past k ids events s =
    let m = s.rests.matches in
    let rows = entries_of header.size task.0 past in
    let last = code_where (is_fork_full header rows past) code.TableFull None in
    let next = code_where (is_some (waiting task.0 past)) code.Blocked last in
    let first = passed (is_none (host_of task.0 past)) code.NoSuchName (code_where (is_some (host_of child.0 past)) code.NameTaken next) s.accepted in
    let second = passed (is_some (host_of child.0 past)) code.NameTaken next first.1 in
    let third = passed (is_some (waiting task.0 past)) code.Blocked last second.1 in
    let fourth = passed (is_fork_full header rows past) code.TableFull None third.1 in
    let lives = lives_in task.0 m.core.spaces.tasks s.acts in
    record {
      lives = lives;
      free = free_in child.0 m.core.spaces.tasks second.0;
      new = second.0;
      room = subst (λ (z : List Entry). HasRoom header z past) (rows_here m.core.spaces.tasks lives) (room_of header rows past fourth.0);
    }

-- what a fork tells
abbrev pub forked : Header → ℕ → TaskId → List Entry → List Event → List Event
forked header h child rows past = event.TaskMade child (host_id h) ∷ inherits_all header child (next_region header past) (next_object header past) rows

-- So many entries of the forked task were given to its child, or weren't to be: the child's end in front of the others, which fit, and
-- what is left to tell is told of the others.
pub record HasForked (header : Header) (h : ℕ) (outside : Outside) (task child : TaskId) (rows : List Entry) (i : ℕ) (past : List Event) (k : Parts) (ids : Ids)
    (events : List Event) : Type 0 where
  pub apart : task.0 ≢ child.0
  pub works : Works header h k ids woken.Nobody (events ++ past)
  pub heads : Heads header h outside (command.Fork task child) past events
  pub others : entries_in task.0 k.maps ≡ Some rows
  pub lives : entries_in child.0 k.maps ≡ Some (rows_in child.0 k.maps)
  pub front : ℕ
  pub own : AllRows (λ mine. mine.address + mine.bytes ≤ front) (rows_in child.0 k.maps)
  pub order : InOrder front (2 ^ 32) (drop i rows)
  pub few : length (rows_in child.0 k.maps) ≤ i
  pub idle : waiting child.0 (events ++ past) ≡ None
  pub room : HasRoom header (drop i rows) (events ++ past)
  pub told : reverse (forked header h child rows past) ≡ reverse (inherits_all header child ids.next_region ids.next_object (drop i rows)) ++ events

-- nothing has been given yet
pub fork_start : (header : Header) (h : ℕ) (outside : Outside) (task child : TaskId) (past : List Event) (k : Parts) (ids : Ids) (before after : List Event)
    (maps : Mapped) → Starts header h (command.Fork task child) past k ids before
    → ChangesOnly k.maps maps child.0 (Some []) → (list : List Entry) → entries_in task.0 maps ≡ Some list → InOrder 0 (2 ^ 32) list
    → after ≡ event.TaskMade child k.host ∷ before
    → HasForked header h outside task child (rows_in task.0 k.maps) 0 past (record k { maps = maps }) ids after
fork_start header h outside task child past k ids before after maps s changes list still in_order told =
    let m = s.rests.matches in
    let may = may_fork header h task child past k ids before s in
    let rows = rows_in task.0 k.maps in
    let apart : task.0 ≢ child.0 = λ e. (let bad : None ≡ Some rows = sym may.free ∙ (ap (λ z. entries_in z k.maps) (sym e) ∙ may.lives) in cc) in
    let e : Event = event.TaskMade child (host_id h) in
    let log : after ≡ e ∷ [] = told ∙ (ap (λ z. event.TaskMade child z ∷ before) (named_host k.host h m.core.setting.numbered) ∙ ap (λ z. e ∷ z) s.nothing) in
    let nobody : rows_in child.0 maps ≡ [] = ap (λ z. unwrap_or z []) changes.changed in
    subst (λ (z : List Event). HasForked header h outside task child rows 0 past (record k { maps = maps }) ids z) (sym log)
    (record {
      apart = apart;
      works = works_made header h child past k ids maps (works_at_rest s.rests) changes may.free s.range.1;
      heads =
          heads_more header h outside (command.Fork task child) past [] e (record
          { licensed = tt; own_bytes = tt; frames = tt; inner = tt; said = tt; mine = tt })
          (record {
            settled = m.settled;
            cause = tt;
            own_bytes = tt;
            frames = suffices header h k.memory.frames past m.core.pages.counted;
            inner = tt;
            said = refl;
            own = own_new h child.0 past may.new;
            creates = tt;
          });
      others = changes.others task.0 apart ∙ may.lives;
      lives = changes.changed ∙ ap Some (sym nobody);
      front = 0;
      own = subst (AllRows (λ mine. mine.address + mine.bytes ≤ 0)) (sym nobody) tt;
      order = subst (InOrder 0 (2 ^ 32)) (same_rows list rows (entries_in task.0 maps) still (changes.others task.0 apart ∙ may.lives)) in_order;
      few = let none = ap length nobody in omega (arith, none);
      idle = not_begun child.0 (waiting child.0 past);
      room = room_more header rows past (e ∷ past) refl refl (λ r. refl) may.room;
      told =
          reverse-append (e ∷ []) (inherits_all header child (next_region header past) (next_object header past) rows)
          ∙ (ap (λ (z : ℕ). reverse (inherits_all header child z (next_object header past) rows) ++ e ∷ []) (sym m.core.objects.regions.region)
          ∙ ap (λ (z : ℕ). reverse (inherits_all header child ids.next_region z rows) ++ e ∷ []) (sym m.core.objects.regions.object));
    })
  where
    not_begun : (n : ℕ) (other : Option Access) → ◌≡◌ {A = Option Access} (if n == n then None else other) None
    not_begun n other = elim (eqb_tells n n) [ inl same ↦ ap (λ b. if b then None else other) same.0 | inr apart ↦ absurd (apart.1 refl) ]

-- the next entry, as far as its place goes
pub record IsNext (header : Header) (child : ℕ) (rows : List Entry) (i : ℕ) (row : Entry) (k : Parts) : Type 0 where
  pub leads : has_entry row.region.0 rows ≡ true
  pub inside : IsInside header.size k.chains row
  pub shared : IsShared header row
  pub whole : HasWholePages k.maps.size row
  pub free : CanEnter child row k
  pub own : AllRows (λ mine. mine.address + mine.bytes ≤ row.address + row.bytes) (rows_in child k.maps)
  pub order : InOrder (row.address + row.bytes) (2 ^ 32) (drop (i + 1) rows)

pub is_next : (header : Header) (h : ℕ) (outside : Outside) (task child : TaskId) (rows : List Entry) (i : ℕ) (row : Entry) (past : List Event) (k : Parts)
    (ids : Ids) (events : List Event) → HasForked header h outside task child rows i past k ids events
    → AreEntries k.maps.size rows → slice_get rows i ≡ Some row → IsNext header child.0 rows i row k
is_next header h outside task child rows i row past k ids events f sound found =
    let size = k.maps.size in
    let order = subst (InOrder f.front (2 ^ 32)) (next_row rows i row found) f.order in
    let start : f.front ≤ row.address = order.0 in
    let whole = whole_at size i rows row sound.whole found in
    let here : rows_in task.0 k.maps ≡ rows = ap (λ z. unwrap_or z []) f.others in
    let inside = row_among (IsInside header.size k.chains) rows i row (subst (AllRows (IsInside header.size k.chains)) here
    (f.works.matches.core.spaces.entries.inside task.0)) found in
    let low = inside.below in
    let some = inside.some in
    let even = whole.address in
    let pages = whole.bytes in
    let range : is_range size row.address row.bytes ≡ true = grind (arith, nat_tests) in
    let free = free_behind row (rows_in child.0 k.maps) (rows_map (λ mine. mine.address + mine.bytes ≤ f.front)
    (λ mine. mine.address + mine.bytes ≤ row.address) (λ mine le. omega (arith, le, start)) (rows_in child.0 k.maps) f.own) in
    let count = slice_get_within rows i row found in
    let most = sound.few in
    let few = f.few in
    let fits : nat_lt most_entries (length (rows_in child.0 k.maps) + 1) ≡ false = let le : length (rows_in child.0 k.maps) + 1 ≤ most_entries = omega
    (arith, count, most, few) in grind (arith, nat_tests) in
    record {
      leads =
          (row_among (λ mine. IsInside header.size k.chains mine × (has_entry mine.region.0 rows ≡ true)) rows i row
          (rows_known (IsInside header.size k.chains) rows (subst (AllRows (IsInside header.size k.chains)) here
          (f.works.matches.core.spaces.entries.inside task.0)))
          found).1;
      inside = inside;
      shared =
          row_among (IsShared header) rows i row (subst (AllRows (IsShared header)) here (f.works.matches.core.spaces.shared task.0)) found;
      whole = whole;
      free = rw (range, free, fits) refl;
      own =
          rows_map (λ mine. mine.address + mine.bytes ≤ f.front) (λ mine. mine.address + mine.bytes ≤ row.address + row.bytes)
          (λ mine le. omega (arith, le, start)) (rows_in child.0 k.maps) f.own;
      order = order.1.1;
    }

-- the next entry may be shared
pub may_share : (header : Header) (h : ℕ) (outside : Outside) (task child : TaskId) (rows : List Entry) (i : ℕ) (row : Entry) (past : List Event) (k : Parts)
    (ids : Ids) (events : List Event) → HasForked header h outside task child rows i past k ids events
    → AreEntries k.maps.size rows → slice_get rows i ≡ Some row → MayShare header child.0 row (events ++ past) k
may_share header h outside task child rows i row past k ids events f sound found =
    let next = is_next header h outside task child rows i row past k ids events f sound found in
    let there = region_row k.chains row.region.0 next.inside.region in
    let some = entry_some header.size row.region.0 task.0 k.maps k.chains [] there.0 f.works.matches.core.spaces.entries there.1
    (ap (has_entry row.region.0) (ap (λ z. unwrap_or z []) f.others) ∙ next.leads) in
    record {
      counted = subst (λ (z : ℕ). 0 < z) (sym (ap entries_in_row there.1)) some;
      lives = f.lives;
      idle = f.idle;
      free = next.free;
      pages = next.whole.pages;
      inside = next.inside;
      shared = next.shared;
    }

-- its region has entries, and the pages of this one
pub record LeadsNext (header : Header) (row : Entry) (past : List Event) (k : Parts) : Type 0 where
  pub pages : row.bytes / header.size < 2 ^ 32
  pub region : RegionRow
  pub there : region_at k.chains row.region.0 ≡ Some region
  pub counted : 0 < region.entries
  pub inside : row.offset + row.bytes / header.size ≤ region.pages
  pub from : IsFrom header row.region.0 row.offset (row.bytes / header.size) past

pub leads_next : (header : Header) (h : ℕ) (outside : Outside) (task child : TaskId) (rows : List Entry) (i : ℕ) (row : Entry) (past : List Event) (k : Parts)
    (ids : Ids) (events : List Event) → HasForked header h outside task child rows i past k ids events
    → AreEntries k.maps.size rows → slice_get rows i ≡ Some row → LeadsNext header row (events ++ past) k
leads_next header h outside task child rows i row past k ids events f sound found =
    let m = f.works.matches in
    let size = header.size in
    let next = is_next header h outside task child rows i row past k ids events f sound found in
    let region = region_row k.chains row.region.0 next.inside.region in
    let pages : region_pages k.chains row.region.0 ≡ region.0.pages = ap pages_in region.1 in
    let inside = next.inside.inside.whole in
    let whole = next.whole.pages in
    let sized : row.bytes / k.maps.size ≡ row.bytes / size = ap (λ (z : ℕ). row.bytes / z) m.core.spaces.tasks.sized in
    record {
      pages = omega (arith, whole, sized);
      counted =
          entry_some size row.region.0 task.0 k.maps k.chains [] region.0 m.core.spaces.entries region.1
          (ap (has_entry row.region.0) (ap (λ z. unwrap_or z []) f.others) ∙ next.leads);
      region = region.0;
      there = region.1;
      inside = omega (arith, inside, pages);
      from =
          record {
            task = task.0;
            address = row.address;
            at =
                record {
                  host = h;
                  entry = row;
                  lives = lives_here m.core.spaces.tasks f.others;
                  found =
                      ap (entry_at row.address) (rows_here m.core.spaces.tasks f.others ∙ ap (λ z. unwrap_or z []) f.others)
                      ∙ (found_first 0 (2 ^ 32) rows i row sound.in_order found).1;
                };
            source_is = refl;
            inside = omega arith;
          };
    }

-- the next entry stands first among those that are left, for which there is room, and of which is still to be told

pub room_next : {header : Header} {h : ℕ} {outside : Outside} {task child : TaskId} {rows : List Entry} {i : ℕ} {row : Entry} {past events : List Event}
    {k : Parts} {ids : Ids} → HasForked header h outside task child rows i past k ids events → slice_get rows i ≡ Some row
    → HasRoom header (row ∷ drop (i + 1) rows) (events ++ past)
room_next {header = header} {rows = rows} {i = i} {row = row} {past = past} {events = events} f found =
    subst (λ (z : List Entry). HasRoom header z (events ++ past)) (next_row rows i row found) f.room

pub left_next : {header : Header} {h : ℕ} {outside : Outside} {task child : TaskId} {rows : List Entry} {i : ℕ} {row : Entry} {past events : List Event}
    {k : Parts} {ids : Ids} → HasForked header h outside task child rows i past k ids events → slice_get rows i ≡ Some row
    → reverse (forked header h child rows past)
    ≡ reverse (inherits_all header child ids.next_region ids.next_object (row ∷ drop (i + 1) rows)) ++ events
left_next {header = header} {h = h} {child = child} {rows = rows} {i = i} {row = row} {past = past} {events = events} {ids = ids} f found =
    subst (λ (z : List Entry). reverse (forked header h child rows past) ≡ reverse (inherits_all header child ids.next_region ids.next_object z) ++ events)
    (next_row rows i row found) f.told

-- the next entry may be copied
pub may_copy : (header : Header) (h : ℕ) (outside : Outside) (task child : TaskId) (rows : List Entry) (i : ℕ) (row : Entry) (past : List Event) (k : Parts)
    (ids : Ids) (events : List Event) → HasForked header h outside task child rows i past k ids events
    → AreEntries k.maps.size rows → slice_get rows i ≡ Some row → row.inherit ≡ inherit.Copy → named header ≤ row.region.0
    → MayCopy header child.0 row.region row.offset row (events ++ past) k
may_copy header h outside task child rows i row past k ids events f sound found is temporary =
    let m = f.works.matches in
    let before = events ++ past in
    let rest = drop (i + 1) rows in
    let pages = row.bytes / header.size in
    let leads = leads_next header h outside task child rows i row past k ids events f sound found in
    let room : HasRoom header (row ∷ rest) before = room_next f found in
    let count : copies (row ∷ rest) ≡ copies rest + 1 = rw (ap is_copied is) refl in
    let copy : RegionId = record { 0 = next_region header before } in
    let small = small_region m.core.objects.regions row.region.0 leads.region leads.there in
    let later = room_copied header row rest before copy pages (ap is_copied is) temporary refl small room in
    let marks = marked_copied header before copy row.region row.offset pages refl small in
    record {
      lives = f.lives;
      idle = f.idle;
      free = (is_next header h outside task child rows i row past k ids events f sound found).free;
      pages = leads.pages;
      region = leads.region;
      there = leads.there;
      counted = leads.counted;
      temporary = temporary;
      inside = leads.inside;
      regions = omega (arith, room.regions, count);
      objects = omega (arith, later.objects, marks);
      from = leads.from;
    }

-- the child has the next entry, or one in its place
pub gave_next : {header : Header} {h : ℕ} {outside : Outside} {task child : TaskId} {rows : List Entry} {i : ℕ} {past : List Event} {k k2 : Parts}
    {ids ids2 : Ids} {events after : List Event} (row new : Entry) → HasForked header h outside task child rows i past k ids events
    → IsNext header child.0 rows i row k → new.address ≡ row.address → new.bytes ≡ row.bytes
    → ChangesOnly k.maps k2.maps child.0 (Some (entered new (rows_in child.0 k.maps))) → Works header h k2 ids2 woken.Nobody (after ++ past)
    → Heads header h outside (command.Fork task child) past after → waiting child.0 (after ++ past) ≡ None
    → HasRoom header (drop (i + 1) rows) (after ++ past)
    → reverse (forked header h child rows past) ≡ reverse (inherits_all header child ids2.next_region ids2.next_object (drop (i + 1) rows)) ++ after
    → HasForked header h outside task child rows (i + 1) past k2 ids2 after
gave_next {task = task} {child = child} {k = k} {k2 = k2} row new f next address bytes changes works heads idle room told =
    let now : rows_in child.0 k2.maps ≡ entered new (rows_in child.0 k.maps) = ap (λ z. unwrap_or z []) changes.changed in
    record {
      apart = f.apart;
      works = works;
      heads = heads;
      others = changes.others task.0 f.apart ∙ f.others;
      lives = changes.changed ∙ ap Some (sym now);
      front = row.address + row.bytes;
      own =
          subst (AllRows (λ mine. mine.address + mine.bytes ≤ row.address + row.bytes)) (sym now)
          (rows_entered (λ mine. mine.address + mine.bytes ≤ row.address + row.bytes) new (rows_in child.0 k.maps) (omega (arith, address, bytes)) next.own);
      order = next.order;
      few = let count = ap length now in omega (arith, count, length_entered new (rows_in child.0 k.maps), f.few);
      idle = idle;
      room = room;
      told = told;
    }

-- an entry more was shared
pub fork_shared : (header : Header) (h : ℕ) (outside : Outside) (task child : TaskId) (rows : List Entry) (i : ℕ) (row : Entry) (past : List Event)
    (k k2 : Parts) (ids : Ids) (events after : List Event) → HasForked header h outside task child rows i past k ids events
    → AreEntries k.maps.size rows → slice_get rows i ≡ Some row → row.inherit ≡ inherit.Share → Shares child row k k2 events after
    → HasForked header h outside task child rows (i + 1) past k2 ids after
fork_shared header h outside task child rows i row past k k2 ids events after f sound found is s =
    let m = f.works.matches in
    let doing = command.Fork task child in
    let e = got child row in
    let rest = drop (i + 1) rows in
    let next = is_next header h outside task child rows i row past k ids events f sound found in
    let may = may_share header h outside task child rows i row past k ids events f sound found in
    let told = told_next header child ids.next_region ids.next_region ids.next_object ids.next_object row rest (forked header h child rows past) (e ∷ []) events
    (e ∷ events) (ap (λ z. inherits z header child ids.next_region ids.next_object row) is) (ap (λ z. next_behind z ids.next_region) is)
    (ap (λ z. object_behind z header row.region ids.next_object) is)
    (left_next f found) refl in
    subst (λ (z : List Event). HasForked header h outside task child rows (i + 1) past k2 ids z) (sym s.told)
    (gave_next row row f next refl refl s.maps (works_shared header h outside doing child row (events ++ past) k k2 ids events after f.works may s)
    (heads_more header h outside doing past events e f.heads
    (record {
      settled = m.settled;
      cause = share_enters header h child row (events ++ past) k ids f.works may;
      own_bytes = tt;
      frames = suffices header h k.memory.frames (events ++ past) m.core.pages.counted;
      inner = tt;
      said = tt;
      own = own_task h child.0 (events ++ past) (m.core.spaces.tasks.hosts child.0 ∙ ap is_some f.lives);
      creates = tt;
    }))
    f.idle
    (room_more header rest (events ++ past) (e ∷ (events ++ past)) refl refl (λ r. refl)
    (room_other header row rest (events ++ past) (ap is_copied is) (room_next f found)))
    told)

-- an entry more was copied
pub fork_copied : (header : Header) (h : ℕ) (outside : Outside) (task child : TaskId) (rows : List Entry) (i : ℕ) (row : Entry) (past : List Event)
    (k k2 : Parts) (ids ids2 : Ids) (events after : List Event) → HasForked header h outside task child rows i past k ids events
    → AreEntries k.maps.size rows → slice_get rows i ≡ Some row → row.inherit ≡ inherit.Copy → named header ≤ row.region.0
    → EntersCopy child row.region row.offset row k k2 ids ids2 events after → HasForked header h outside task child rows (i + 1) past k2 ids2 after
fork_copied header h outside task child rows i row past k k2 ids ids2 events after f sound found is temporary s =
    let m = f.works.matches in
    let doing = command.Fork task child in
    let size = header.size in
    let before = events ++ past in
    let new = entry_on row s.copy in
    let rest = drop (i + 1) rows in
    let one : Event = copied s.copy row.region row.offset (row.bytes / size) in
    let e = got child new in
    let next = is_next header h outside task child rows i row past k ids events f sound found in
    let may = may_copy header h outside task child rows i row past k ids events f sound found is temporary in
    let number : s.copy.0 ≡ next_region header before = s.number ∙ m.core.objects.regions.region in
    let named_copy : record { 0 = ids.next_region } ≡ s.copy = λ j. record { 0 = sym s.number j } in
    let next2 : ids.next_region + 1 ≡ ids2.next_region = sym (ap (λ z. z.next_region) s.ids) in
    let region = region_row k.chains row.region.0 next.inside.region in
    let small = small_region m.core.objects.regions row.region.0 region.0 region.1 in
    let above : nat_lt row.region.0 (named header) ≡ false = grind (arith, nat_tests) in
    let told = told_next header child ids.next_region ids2.next_region ids.next_object ids2.next_object row rest (forked header h child rows past)
    (one ∷ e ∷ []) events (e ∷ one ∷ events)
    (ap (λ z. inherits z header child ids.next_region ids.next_object row) is
    ∙ (ap (λ b. copied_late b ids.next_region ids.next_object row.region row.offset (row.bytes / size)
    ∷ got child (entry_on row (record { 0 = ids.next_region })) ∷ []) above
    ∙ ap (λ (z : RegionId). copied z row.region row.offset (row.bytes / size) ∷ got child (entry_on row z) ∷ []) named_copy))
    (ap (λ z. next_behind z ids.next_region) is ∙ next2)
    (ap (λ z. object_behind z header row.region ids.next_object) is ∙ (ap (λ b. if b then ids.next_object + 1 else ids.next_object) above
    ∙ sym (ap (λ z. z.next_object) s.ids)))
    (left_next f found) refl in
    subst (λ (z : List Event). HasForked header h outside task child rows (i + 1) past k2 ids2 z)
    (sym (told_copied header h child row.region row.offset row before k k2 ids ids2 events after f.works s))
    (gave_next row new f next refl refl s.maps
    (works_copied header h outside doing child row.region row.offset row before k k2 ids ids2 events after f.works may s)
    (heads_copied header h outside doing child s.copy row.region row.offset row past events k ids f.works may number f.heads) f.idle
    (room_more header rest (one ∷ before) (e ∷ one ∷ before) refl refl (λ r. refl)
    (room_copied header row rest before s.copy (row.bytes / size) (ap is_copied is) temporary number small
    (room_next f found)))
    told)

-- an entry isn't given
pub fork_other : (header : Header) (h : ℕ) (outside : Outside) (task child : TaskId) (rows : List Entry) (i : ℕ) (row : Entry) (past : List Event) (k : Parts)
    (ids : Ids) (events : List Event) → HasForked header h outside task child rows i past k ids events
    → AreEntries k.maps.size rows → slice_get rows i ≡ Some row → row.inherit ≡ inherit.Never
    → HasForked header h outside task child rows (i + 1) past k ids events
fork_other header h outside task child rows i row past k ids events f sound found isnt =
    let next = is_next header h outside task child rows i row past k ids events f sound found in
    let few = f.few in
    record {
      apart = f.apart;
      works = f.works;
      heads = f.heads;
      others = f.others;
      lives = f.lives;
      front = row.address + row.bytes;
      own = next.own;
      order = next.order;
      few = omega (arith, few);
      idle = f.idle;
      room =
          room_other header row (drop (i + 1) rows) (events ++ past) (ap is_copied isnt)
          (room_next f found);
      told =
          told_next header child ids.next_region ids.next_region ids.next_object ids.next_object row (drop (i + 1) rows) (forked header h child rows past) []
          events events (ap (λ z. inherits z header child ids.next_region ids.next_object row) isnt) (ap (λ z. next_behind z ids.next_region) isnt)
          (ap (λ z. object_behind z header row.region ids.next_object) isnt)
          (left_next f found) refl;
    }

-- all was given
pub begun_fork : (header : Header) (h : ℕ) (outside : Outside) (task child : TaskId) (i : ℕ) (past : List Event) (k k2 : Parts) (ids ids2 : Ids)
    (before events : List Event) → Starts header h (command.Fork task child) past k ids before
    → HasForked header h outside task child (rows_in task.0 k.maps) i past k2 ids2 events → length (rows_in task.0 k.maps) ≤ i
    → HasBegun header h outside (command.Fork task child) past k2 ids2 events
begun_fork header h outside task child i past k k2 ids ids2 before events s f end =
    let m = s.rests.matches in
    let may = may_fork header h task child past k ids before s in
    let rows = rows_in task.0 k.maps in
    let first = forked header h child rows past in
    let whole : reverse first ≡ events = f.told ∙ ap (λ (z : List Entry). reverse (inherits_all header child ids2.next_region ids2.next_object z) ++ events)
    (drop_past rows i end) in
    let is : head header past (command.Fork task child) ≡ Some first = rw (lives_here m.core.spaces.tasks may.lives, rows_here m.core.spaces.tasks may.lives)
    refl in
    record {
      works = f.works;
      grows = grows_head header h outside (command.Fork task child) past events first is (sym whole) f.heads;
      done = λ all. tt;
    }
