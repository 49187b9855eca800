-- A range is allocated: a region over a new object, and an entry on the whole of it.
use Rattle.vm_kernel.proofs.memory.CoreChanges.{pages_known_so}
use Rattle.vm_state.proofs.KnownPages.{sizes_made}
use Rattle.vm_kernel.proofs.space.CopiesEnd.{copied_made, made_no_newest}
use Rattle.vm_kernel.proofs.space.DeclaredPages.{declared_made}
use Rattle.vm_state.proofs.PlainObjects.{unmade_plain}
use Rattle.vm_kernel.proofs.Common.{AllInTurn, AllReferred, Bool, ChainTable, ChangesOnly, EachIn, Enters, Entry, Event, Fit, HasCause, HasEntries, HasRegions}
use Rattle.vm_kernel.proofs.Common.{HasSlow, HasUse, HasWaits, Header, HostParts, Ids, IfSome, IsFilledIn, IsInside, IsLined, IsMine, IsUsed, KnowsHomes, List}
use Rattle.vm_kernel.proofs.Common.{MadeRange, MapChange, Mapped, None, ObjectId, ObjectRow, ObjectTable, Outside, Parts, PutsObject, PutsRegion, Ran, Region}
use Rattle.vm_kernel.proofs.Common.{RegionId, RegionRow, Rests, Some, Starts, TaskId, Waiting, [], all_tasks, ap, arith, backing_of, begins_copy, begins_here}
use Rattle.vm_kernel.proofs.Common.{both_left, code_where, copy_target, count_by, entered, entering, entries_in, entries_of, entry, eqb_tells, false, fills}
use Rattle.vm_kernel.proofs.Common.{fit_within, got, has_entry, head, holds, home_entered, home_of, host_of, if◌then◌else◌, in_use, inl, inr, is_none, is_on}
use Rattle.vm_kernel.proofs.Common.{is_range, is_ready, is_some, last_control, length, length_entered, live_control, lives_on, local, made_here, marked_regions}
use Rattle.vm_kernel.proofs.Common.{meets_range, most_entries, nat_le, nat_tests, next_object, next_region, object_at, object_home, one_case, page_below}
use Rattle.vm_kernel.proofs.Common.{pages_in, pages_of_row, place_of, refl, region_at, region_of, region_pages, rows_entered, rows_in, rows_map, some_is}
use Rattle.vm_kernel.proofs.Common.{starts_copy, subst, sym, tasks, true, waiting, waiting_in, whole_entry, ℕ, ◌%◌, ◌++◌, ◌+◌, ◌-◌, ◌/◌, ◌<◌, ◌==◌, ◌^◌, ◌||◌}
use Rattle.vm_kernel.proofs.Common.{Inside, ◌∙◌, ◌∷◌, ◌≡◌, ◌≢◌, ◌≤◌, ◌⊎◌}
use Rattle.vm_supply.specs.declared.woken.Woken.TheVariants as woken
use Rattle.vm_kernel.proofs.space.RegionsFilled.{free_unfilled, put_filled, same_waiting, unknown_unfilled}
use Rattle.vm_kernel.proofs.space.RegionsInUse.{ApartFrom, fills_here, holds_rows, unfilled, uses_entered}
use Rattle.vm_state.proofs.Filling.{copies_kept, copies_told, rows_unmade}
use Rattle.vm_state.specs.Places.{known_local}
use Rattle.std.proofs.Common.{nat_lt, not}
use Rattle.vm_base.specs.declared.code.Code.TheVariants as code
use Rattle.vm_model.specs.declared.event.Event.TheVariants as event
use Rattle.vm_model.specs.declared.command.Command.TheVariants as command
use Rattle.vm_model.specs.Homes.{copying_host, home_in}
use Rattle.vm_model.specs.Regions as R
use Rattle.vm_kernel.proofs.space.EntriesCounted.{by_none, most_is, none_on, on_entered, one_on}
use Rattle.vm_kernel.proofs.steps.EventsGrow.{licensed, suffices}
use Rattle.vm_kernel.proofs.steps.HeadAlone.{ran_head}
use Rattle.vm_legal.proofs.Heads.{passed}
use Rattle.vm_kernel.proofs.space.TaskMade.{controls_made, idle_of, new_object}
use Rattle.vm_kernel.proofs.abroad.OwnEvents.{mine_of, own_task}
use Rattle.vm_kernel.proofs.space.RegionCases.{region_cases}
use Rattle.vm_kernel.proofs.space.SharedEntries.{shared_entered, temporary_shared}
use Rattle.vm_model.specs.Named.{named}
use Rattle.vm_state.proofs.Declared.{kind_new, kinds_put, kinds_region}
use Rattle.vm_state.specs.Stands.{HasKinds}
use Rattle.vm_kernel.proofs.space.TaskTables.{Keeps, entries_changed, inside_kept, tasks_entered}
use Rattle.vm_abroad.proofs.Home.{home_plain, named_objects, named_regions, objects_stay, region_made}
use Rattle.vm_base.specs.Limits.{most_objects}
use Rattle.vm_state.proofs.Bare.{next_bare}
use Rattle.vm_state.proofs.Files.{files_entered, files_temporary, no_file}
use Rattle.vm_state.proofs.Making.{regions_made}
use Rattle.vm_state.proofs.Marks.{marked_made, regions_marked}
use Rattle.vm_state.proofs.Places.{keeps_made}
use Rattle.vm_state.proofs.Referred.{comes_served, referred_put}
use Rattle.vm_state.proofs.Told.{knows_made, waits_known}
use Rattle.vm_state.proofs.Waited.{told_changed, waits_changed}
use Rattle.vm_kernel.proofs.abroad.OwnHost.{lives_here, lives_in, rows_here}
use Rattle.vm_kernel.proofs.space.RegionRows.{apart_there, none_leads}
use Rattle.vm_kernel.proofs.controls.LockReplied.{replied_behind}
use Rattle.std.proofs.lemmas.Bool.{not-false, or_parts}
use Rattle.vm_state.specs.Counts.{marks_of}
use Rattle.vm_kernel.proofs.space.RegionHomes.{homes_caused, homes_put}
use Rattle.vm_kernel.proofs.space.StillThin.{thin_made}
use Rattle.vm_kernel.proofs.controls.FlagsKept.{flags_temporary}

-- what an allocation that isn't refused has
pub record MayRange (size : ℕ) (k : Parts) (ids : Ids) (task address bytes : ℕ) : Type 0 where
  pub lives : entries_in task k.maps ≡ Some (rows_in task k.maps)
  pub whole : bytes % size ≡ 0
  pub some : 0 < bytes
  pub below : address + bytes ≤ 2 ^ 32
  pub few : bytes / size ≤ 4096
  pub range : is_range size address bytes ≡ true
  pub free : meets_range address bytes (rows_in task k.maps) ≡ false
  pub room : length (rows_in task k.maps) < most_entries
  pub regions : ids.next_region < 8192
  pub objects : ids.next_object < 8192
  pub marks : ids.next_object + ids.marks < 8192
  pub idle : entry k.waits.rows task ≡ None

pub may_range : (header : Header) (h : ℕ) (task : TaskId) (address bytes : ℕ) (past : List Event) (k : Parts) (ids : Ids) (events : List Event)
    → Starts header h (command.Allocate task address bytes) past k ids events → MayRange header.size k ids task.0 address bytes
may_range header h task address bytes past k ids events s =
    let m = s.rests.matches in
    let rows = entries_of header.size task.0 past in
    let full = nat_lt most_entries (length rows + 1) || (nat_le 8192 (next_region header past) || nat_le 8192
    (next_object header past + marked_regions header past)) in
    let last = code_where full code.TableFull None in
    let next = code_where (meets_range address bytes rows) code.NoSpace last in
    let tests = not (is_range header.size address bytes) || nat_lt 4096 (bytes / header.size) in
    let acts = passed (is_none (host_of task.0 past)) code.NoSuchName (code_where (is_some (waiting task.0 past)) code.Blocked
    (code_where tests code.InvalidArgument next)) s.accepted in
    let idle = passed (is_some (waiting task.0 past)) code.Blocked (code_where tests code.InvalidArgument next) acts.1 in
    let first = passed tests code.InvalidArgument next idle.1 in
    let second = passed (meets_range address bytes rows) code.NoSpace last first.1 in
    let third = passed full code.TableFull None second.1 in
    let lives = lives_in task.0 m.core.spaces.tasks s.acts in
    let own : rows ≡ rows_in task.0 k.maps = rows_here m.core.spaces.tasks lives in
    let test : tests ≡ false = first.0 in
    let range : is_range header.size address bytes ≡ true = not-false (is_range header.size address bytes)
    (or_parts (not (is_range header.size address bytes)) (nat_lt 4096 (bytes / header.size)) test).0 in
    let limits : full ≡ false = third.0 in
    let counts : (nat_lt most_entries (length rows + 1) ≡ false) × (nat_le 8192 (next_region header past) ≡ false)
    × (nat_le 8192 (next_object header past + marked_regions header past) ≡ false) =
    all_false (nat_lt most_entries (length rows + 1)) (nat_le 8192 (next_region header past))
    (nat_le 8192 (next_object header past + marked_regions header past)) limits in
    let short : nat_lt most_entries (length rows + 1) ≡ false = counts.0 in
    let regions : nat_le 8192 (next_region header past) ≡ false = counts.1 in
    let objects : nat_le 8192 (next_object header past + marked_regions header past) ≡ false = counts.2 in
    let next_one = m.core.objects.regions.region in
    let next_two = m.core.objects.regions.object in
    let marked : ids.marks ≡ marked_regions header past = m.core.objects.regions.marks ∙ sym (regions_marked header past) in
    record {
      lives = lives;
      whole = grind (arith, nat_tests);
      some = grind (arith, nat_tests);
      below = grind (arith, nat_tests);
      few = grind (arith, nat_tests);
      range = range;
      free = ap (meets_range address bytes) (sym own) ∙ second.0;
      room = subst (λ (z : List Entry). length z < most_entries) own (grind (arith, nat_tests));
      regions = grind (arith, nat_tests);
      objects = grind (arith, nat_tests);
      marks = grind (arith, nat_tests);
      idle = idle_of k.maps.size (entry k.waits.rows task.0) (waiting task.0 past) (s.rests.waits.is task.0 (ap is_some lives)) idle.0;
    }
  where
    all_false : (a b c : Bool) → (a || (b || c)) ≡ false → (a ≡ false) × (b ≡ false) × (c ≡ false)
    all_false true b c e = absurd (let bad : true ≡ false = e in cc)
    all_false false true c e = absurd (let bad : true ≡ false = e in cc)
    all_false false false true e = absurd (let bad : true ≡ false = e in cc)
    all_false false false false e = (refl, refl, refl)

-- what is free has no number yet
pub region_free : (header : Header) (h : ℕ) (k : Parts) (ids : Ids) (past : List Event) → Rests header h k ids past → region_at k.chains ids.next_region ≡ None
region_free header h k ids past rests =
    let number = rests.matches.core.objects.regions.region in rests.matches.core.objects.regions.unmade ids.next_region (omega arith)

pub object_free : (header : Header) (h : ℕ) (k : Parts) (ids : Ids) (past : List Event) → Rests header h k ids past
    → object_at k.memory.objects ids.next_object ≡ None
object_free header h k ids past rests =
    let number = rests.matches.core.objects.regions.object in rests.matches.core.objects.regions.unknown ids.next_object (omega arith)

-- a new region's row
abbrev pub new_region : ObjectId → ℕ → RegionRow
new_region object pages = record { top = object; shift = 0; pages = pages; marked = false; entries = 1 }

pub keeps_new : (old new : ChainTable) (n : ℕ) (row : RegionRow) → region_at old n ≡ None → PutsRegion n (Some row) old new → Keeps old new
keeps_new old new n row none put =
    record {
      there = λ r is. elim (region_cases n (Some row) old new put r) [
        | inl same ↦ ap is_some same.1
        | inr apart ↦ ap is_some apart.1 ∙ is
      ];
      pages = λ r is. elim (region_cases n (Some row) old new put r) [
        | inl same ↦ absurd (apart_there old n r none is same.0)
        | inr apart ↦ ap pages_in apart.1
      ];
    }

made_test : (r n o pages : ℕ) (was : Region) → n ≡ r → R.made (r == n) o pages was ≡ record { mark = false; top = o; shift = 0; pages = pages }
made_test r n o pages was same = elim (eqb_tells r n) [
  | inl is ↦ ap (λ b. R.made b o pages was) is.0
  | inr apart ↦ absurd (apart.1 (sym same))
]

-- a region is made with so many pages, and a task gets an entry on the whole of it
pub entries_over : (size : ℕ) (maps new : Mapped) (chains chains2 : ChainTable) (task : ℕ) (row : RegionRow) (entry : Entry) → HasEntries size maps chains []
    → region_at chains entry.region.0 ≡ None → PutsRegion entry.region.0 (Some row) chains chains2 → row.pages ≡ entry.bytes / size → row.entries ≡ 1
    → entry.offset ≡ 0 → ChangesOnly maps new task (Some (entered entry (rows_in task maps))) → task < all_tasks → entry.bytes % size ≡ 0 → 0 < entry.bytes
    → entry.address + entry.bytes ≤ 2 ^ 32 → length (rows_in task maps) < most_entries
    → HasEntries size new chains2 []
entries_over size maps new chains chains2 task row entry has none put pages single first changes below whole some end room =
    let n = entry.region.0 in
    let keeps = keeps_new chains chains2 n row none put in
    let sized : region_pages chains2 n ≡ entry.bytes / size = ap pages_in made ∙ pages in
    let one : IsInside size chains2 entry =
    record {
      region = ap is_some made;
      some = some;
      below = end;
      inside =
          subst (λ (z : ℕ). Inside size z entry) (sym sized) (record {
            whole = omega (arith, first);
            each = λ a low high. let less = page_below size (a - entry.address) entry.bytes (omega (arith, low, high)) whole in omega
                (arith, less, first);
          });
    } in
    let all = rows_map (IsInside size chains) (IsInside size chains2) (λ other is. inside_kept size chains chains2 other keeps is) (rows_in task maps)
    (has.inside task) in
    entries_changed size maps new chains chains2 task (entered entry (rows_in task maps)) has keeps changes below
    (rows_entered (IsInside size chains2) entry (rows_in task maps) one all) (omega (arith, length_entered entry (rows_in task maps), room))
    (λ r row2 found. elim (region_cases n (Some row) chains chains2 put r) [
      | inl same ↦
          let is : row ≡ row2 = some_is row row2 (sym same.1 ∙ found) in
          let count : row.entries ≡ row2.entries = ap (λ z. z.entries) is in
          let nothing : count_by all_tasks r maps ≡ 0 = by_none all_tasks r maps (λ t. subst (λ (z : ℕ). has_entry z (rows_in t maps) ≡ false) same.0
          (none_leads size chains n (rows_in t maps) none (has.inside t))) in
          omega (arith, count, single, nothing, one_on n r same.0, on_entered r entry (rows_in task maps))
      | inr apart ↦
          omega (arith, has.counts r row2 (sym apart.1 ∙ found), none_on n r apart.0, on_entered r entry (rows_in task maps))
    ])
  where
    made : region_at chains2 entry.region.0 ≡ Some row
    made = elim (region_cases entry.region.0 (Some row) chains chains2 put entry.region.0) [ inl same ↦ same.1 | inr apart ↦ absurd (apart.0 refl) ]

-- no slow copy has just begun
target_lined : (past : List Event) (task : ℕ) → IsLined past → (region : RegionId) (object : ObjectId) (pages : ℕ)
    → copy_target task (event.RegionMade region object pages ∷ past) ≡ copy_target task past
target_lined past task lined region object pages =
    subst (λ (z : List Event). copy_target task (event.RegionMade region object pages ∷ z) ≡ copy_target task z) (sym lined.is) refl

used_range : (chains chains2 : ChainTable) (n : ℕ) (object : ObjectId) (pages : ℕ) (list : List Waiting)
    → ((r : ℕ) (row : RegionRow) → region_at chains r ≡ Some row → (0 < row.entries) ⊎ IsFilledIn list r)
    → PutsRegion n (Some (new_region object pages)) chains chains2
    → (r : ℕ) (row : RegionRow) → region_at chains2 r ≡ Some row → (0 < row.entries) ⊎ IsFilledIn list r
used_range chains chains2 n object pages list used put r row found = elim (region_cases n (Some (new_region object pages)) chains chains2 put r) [
  | inl same ↦ let count : 1 ≡ row.entries = ap (λ z. z.entries) (some_is (new_region object pages) row (sym same.1 ∙ found)) in inl (omega arith)
  | inr apart ↦ used r row (sym apart.1 ∙ found)
]

-- no page is of an object that isn't known
pub fit_range : (parts : HostParts) (os : ObjectTable) (chains : ChainTable) (n : ℕ) (row : ObjectRow) → Fit parts
    → AllReferred chains parts.objects parts.resident → object_at parts.objects n ≡ None
    → PutsObject n (Some row) parts.objects os → Fit (record parts { objects = os })
fit_range parts os chains n row fit referred none put =
    fit_within parts os fit
    (λ o p r found. elim (one_case n o (Some row) (object_at parts.objects o) (object_at os o) (put.at o)) [
      | inl same ↦
          let is = referred.pages o p r found in
          absurd (let bad : None ≡ Some is.row = sym none ∙ (ap (object_at parts.objects) same.0 ∙ is.known) in cc)
      | inr apart ↦ subst (λ (z : ℕ). p < z) (sym (ap pages_of_row apart.1)) (fit.inside o p r found)
    ])

-- the entry that was entered
pub changes_entered : (old new : Mapped) (task : ℕ) (change : MapChange) (row : Entry) → change ≡ entering row
    → IfSome change.entry (λ other. ChangesOnly old new task (Some (entered other (rows_in task old))))
    → ChangesOnly old new task (Some (entered row (rows_in task old)))
changes_entered old new task change row is changes =
    subst (λ (z : MapChange). IfSome z.entry (λ other. ChangesOnly old new task (Some (entered other (rows_in task old))))) is changes

-- that a range was allocated
abbrev pub ranged : TaskId → Ids → ℕ → ℕ → ℕ → List Event
ranged task ids address bytes pages =
    got task (whole_entry address bytes (record { 0 = ids.next_region })) ∷ event.RegionMade (record { 0 = ids.next_region }) (record { 0 = ids.next_object })
    pages ∷ []

abbrev pub ids_after : Ids → Ids
ids_after ids = record ids { next_object = ids.next_object + 1; next_region = ids.next_region + 1 }

-- the kernel with a range
abbrev with_range : Parts → Parts → Mapped → Parts
with_range k k2 maps =
    record {
      alloc = k2.alloc;
      host = k.host;
      size = k.size;
      declared = k.declared;
      memory = record k.memory { objects = k2.memory.objects };
      maps = maps;
      chains = k2.chains;
      copies = k.copies;
      laundry = k.laundry;
      waits = k.waits;
    }

-- a region that was made may be used, up to its first entry
made_use : (header : Header) (h : ℕ) (n r pages : ℕ) (object : ObjectId) (past : List Event) → IsLined past → n ≡ r
    → in_use header h r (event.RegionMade (record { 0 = n }) object pages ∷ past) ≡ true
made_use header h n r pages object past lined same = elim (eqb_tells r n) [
  | inl is ↦ ap (λ b. if b then made_here h past else in_use header h r past) is.0 ∙ ap (made_here h) lined.is
  | inr apart ↦ absurd (apart.1 (sym same))
]

pub other_use : (header : Header) (h : ℕ) (n r pages : ℕ) (object : ObjectId) (past : List Event) → r ≢ n
    → in_use header h r (event.RegionMade (record { 0 = n }) object pages ∷ past) ≡ in_use header h r past
other_use header h n r pages object past apart = elim (eqb_tells r n) [
  | inl is ↦ absurd (apart is.1)
  | inr other ↦ ap (λ b. if b then made_here h past else in_use header h r past) other.0
]

-- what others hold stays, where a region is made
holds_range : (header : Header) (task : TaskId) (past : List Event) (t r : ℕ) → IsLined past → (object : ObjectId) (n pages : ℕ)
    → holds header.size t r (event.RegionMade (record { 0 = n }) object pages ∷ past) ≡ holds header.size t r past
holds_range header task past t r lined object n pages =
    ap (λ z. has_entry r (entries_of header.size t past) || fills r (waiting t past)
    (if begins_copy t z then Some (record { region = n; object = object.0 }) else copy_target t past)) lined.is

range_apart : (header : Header) (h : ℕ) (task : TaskId) (address bytes : ℕ) (past : List Event) (k : Parts) (ids : Ids) (maps : Mapped) (object : ObjectId)
    (pages : ℕ) → IsLined past → Rests header h k ids past → MayRange header.size k ids task.0 address bytes
    → ApartFrom k.maps (λ r. in_use header h r (event.RegionMade (record { 0 = ids.next_region }) object pages ∷ past))
    (λ t r. holds header.size t r (got task (whole_entry address bytes (record { 0 = ids.next_region })) ∷ event.RegionMade (record { 0 = ids.next_region })
    object pages ∷ past)) (next_region header past + 1)
range_apart header h task address bytes past k ids maps object pages lined rests may t r none why =
    let m = rests.matches in
    let n = ids.next_region in
    let made : Event = event.RegionMade (record { 0 = n }) object pages in
    holds_rows header.size task.0 t r k.maps (rows_in task.0 k.maps) _ (made ∷ past) may.lives none
    ∙ (holds_range header task past t r lined object n pages ∙ m.core.spaces.uses.apart t r none (either why))
  where
    either : (in_use header h r (event.RegionMade (record { 0 = ids.next_region }) object pages ∷ past) ≡ true) ⊎ (next_region header past + 1 ≤ r)
        → (in_use header h r past ≡ true) ⊎ (next_region header past ≤ r)
    either (inl used) = elim (eqb_tells r ids.next_region) [
      | inl same ↦ inr (omega (arith, same.1, rests.matches.core.objects.regions.region))
      | inr apart ↦ inl (sym (other_use header h ids.next_region r pages object past apart.1) ∙ used)
    ]
    either (inr high) = inr (omega (arith, high))

range_uses : (header : Header) (h : ℕ) (task : TaskId) (address bytes : ℕ) (past : List Event) (k : Parts) (ids : Ids) (maps : Mapped) (object : ObjectId)
    (pages : ℕ) → IsLined past → Rests header h k ids past → MayRange header.size k ids task.0 address bytes → task.0 < all_tasks
    → ChangesOnly k.maps maps task.0 (Some (entered (whole_entry address bytes (record { 0 = ids.next_region })) (rows_in task.0 k.maps)))
    → HasUse header maps k.waits.rows (λ r. in_use header h r (got task (whole_entry address bytes (record { 0 = ids.next_region })) ∷ event.RegionMade
    (record { 0 = ids.next_region }) object pages ∷ past)) (tasks past)
    (λ t r. holds header.size t r (got task (whole_entry address bytes (record { 0 = ids.next_region })) ∷ event.RegionMade (record { 0 = ids.next_region })
    object pages ∷ past)) (next_region header past + 1)
range_uses header h task address bytes past k ids maps object pages lined rests may below changes =
    let m = rests.matches in
    let n = ids.next_region in
    let made : Event = event.RegionMade (record { 0 = n }) object pages in
    uses_entered header k.maps maps (λ r. in_use header h r (made ∷ past)) (tasks past) _ _ task.0 (whole_entry address bytes (record { 0 = n }))
    (lives_on h task.0 (made ∷ past))
    (λ r temporary apart. subst (λ (b : Bool). IsUsed k.maps k.waits.rows r b) (sym (other_use header h n r pages object past apart))
    (m.core.spaces.uses.used r temporary))
    (λ r file apart some. other_use header h n r pages object past apart ∙ m.core.spaces.uses.files r file some)
    (λ paged. made_use header h n n pages object past lined refl) m.core.spaces.uses.among changes may.lives below
    (m.core.spaces.tasks.hosts task.0 ∙ ap is_some may.lives)
    (range_apart header h task address bytes past k ids maps object pages lined rests may)

range_enters : (header : Header) (h : ℕ) (task : TaskId) (address bytes : ℕ) (past : List Event) (k : Parts) (ids : Ids) → IsLined past
    → Rests header h k ids past → MayRange header.size k ids task.0 address bytes
    → Enters header task.0 bytes ids.next_region 0 (event.RegionMade (record { 0 = ids.next_region }) (record { 0 = ids.next_object }) (bytes / header.size) ∷
    past)
range_enters header h task address bytes past k ids lined rests may =
    let m = rests.matches in
    let n = ids.next_region in
    let pages = bytes / header.size in
    let object : ObjectId = record { 0 = ids.next_object } in
    let made : Event = event.RegionMade (record { 0 = n }) object pages in
    let sized : (region_of header n (made ∷ past)).pages ≡ pages = ap (λ z. z.pages) (made_test n n ids.next_object pages (region_of header n past) refl) in
    let own = made_use header h n n pages object past lined refl in
    let waits_made : HasWaits header h k woken.Nobody (made ∷ past) = rests.waits in
    let copies_made : HasSlow header k (made ∷ past) = copies_told rests.used.copies
    (λ t w found. (refl, target_lined past t lined (record { 0 = n }) object pages)) in
    record {
      idle = rests.waits.is task.0 (ap is_some may.lives) ∙ ap (waiting_in k.maps.size) may.idle;
      host = h;
      lives = lives_here m.core.spaces.tasks may.lives;
      whole = may.whole;
      inside = omega (arith, sized);
      made = let number = m.core.objects.regions.region in omega arith;
      used = λ temporary. own;
      file = λ is. own;
      unfilled =
          unfilled header.size n (tasks past) k.maps k.waits.rows (made ∷ past) (fills_here {past = made ∷ past} waits_made copies_made)
          (free_unfilled n rests.used.copies (region_free header h k ids past rests))
          (λ t none. holds_range header task past t n lined object n pages
          ∙ m.core.spaces.uses.apart t n none (inr (omega (arith, m.core.objects.regions.region))));
    }

range_licensed : (header : Header) (h : ℕ) (outside : Outside) (task : TaskId) (address bytes : ℕ) (past : List Event) (k : Parts) (ids : Ids) → IsLined past
    → Rests header h k ids past → MayRange header.size k ids task.0 address bytes
    → AllInTurn header outside (command.Allocate task address bytes) (ranged task ids address bytes (bytes / header.size)) past
range_licensed header h outside task address bytes past k ids lined rests may =
    let m = rests.matches in
    let n = ids.next_region in
    let made : Event = event.RegionMade (record { 0 = n }) (record { 0 = ids.next_object }) (bytes / header.size) in
    let numbers : (n ≡ next_region header past) × (ids.next_object ≡ next_object header past) = (
      m.core.objects.regions.region,
      m.core.objects.regions.object,
    ) in (
      licensed header outside (command.Allocate task address bytes) (got task (whole_entry address bytes (record { 0 = n }))) (made ∷ past) refl
          (range_enters header h task address bytes past k ids lined rests may),
      (licensed header outside (command.Allocate task address bytes) made past m.settled.none_owed numbers, tt),
    )

-- the range's two events are the host's, and its region has its home
range_mine : (header : Header) (h : ℕ) (task : TaskId) (address bytes : ℕ) (past : List Event) (k : Parts) (ids : Ids) → IsLined past
    → Rests header h k ids past → lives_on h task.0 past ≡ true
    → EachIn (IsMine header h) (ranged task ids address bytes (bytes / header.size)) past
range_mine header h task address bytes past k ids lined rests here =
    let n = ids.next_region in
    let made : Event = event.RegionMade (record { 0 = n }) (record { 0 = ids.next_object }) (bytes / header.size) in (
      record { enters = λ r is. both_left (r == n) (not (starts_copy past)) is; own = own_task h task.0 (made ∷ past) here; creates = tt },
      (mine_of header h made past rests.matches.settled.shut (λ g is. absurd (let bad : false ≡ true = sym (ap (begins_here g) lined.is) ∙ is in cc)) tt, tt),
    )

-- the causes of the two
range_made : (header : Header) (h : ℕ) (outside : Outside) (task : TaskId) (address bytes : ℕ) (past : List Event) (k : Parts) (ids : Ids)
    → Rests header h k ids past
    → HasCause header outside (event.RegionMade (record { 0 = ids.next_region }) (record { 0 = ids.next_object }) (bytes / header.size)) past
range_made header h outside task address bytes past k ids rests =
    (command.Allocate task address bytes, (rests.matches.core.objects.regions.region, rests.matches.core.objects.regions.object))

range_knows : (header : Header) (h : ℕ) (outside : Outside) (task : TaskId) (address bytes : ℕ) (past : List Event) (k : Parts) (ids : Ids) → IsLined past
    → Rests header h k ids past → MayRange header.size k ids task.0 address bytes
    → KnowsHomes header h k.chains (ranged task ids address bytes (bytes / header.size) ++ past)
range_knows header h outside task address bytes past k ids lined rests may =
    let made : Event = event.RegionMade (record { 0 = ids.next_region }) (record { 0 = ids.next_object }) (bytes / header.size) in
    homes_caused header outside h k.chains (got task (whole_entry address bytes (record { 0 = ids.next_region }))) (made ∷ past)
    (command.Allocate task address bytes, range_enters header h task address bytes past k ids lined rests may)
    (homes_caused header outside h k.chains made past (range_made header h outside task address bytes past k ids rests) rests.matches.core.spaces.homes)

-- behind a line no slow copy fills it
range_homes : (past : List Event) → IsLined past → (r : ℕ) (region : RegionId) (object : ObjectId) (pages : ℕ)
    → home_of r (event.RegionMade region object pages ∷ past) ≡ home_of r past
range_homes past lined r region object pages = home_plain r region object pages past (ap copying_host lined.is)

-- the new region is on the host, and so is its object
range_home : (header : Header) (h : ℕ) (task : TaskId) (address bytes : ℕ) (past : List Event) (k : Parts) (ids : Ids) → IsLined past
    → Rests header h k ids past → MayRange header.size k ids task.0 address bytes
    → home_of ids.next_region (ranged task ids address bytes (bytes / header.size) ++ past) ≡ Some h
range_home header h task address bytes past k ids lined rests may =
    let m = rests.matches in
    let made : Event = event.RegionMade (record { 0 = ids.next_region }) (record { 0 = ids.next_object }) (bytes / header.size) in
    let row = whole_entry address bytes (record { 0 = ids.next_region }) in
    home_entered h task row.address row.bytes row.region row.offset row.prot row.inherit (made ∷ past)
    (range_homes past lined ids.next_region (record { 0 = ids.next_region }) (record { 0 = ids.next_object }) (bytes / header.size)
    ∙ m.core.spaces.homes.1.regions ids.next_region (omega (arith, m.core.objects.regions.region))) (lives_here m.core.spaces.tasks may.lives)

range_object_home : (header : Header) (h : ℕ) (task : TaskId) (address bytes : ℕ) (past : List Event) (k : Parts) (ids : Ids) → IsLined past
    → Rests header h k ids past → MayRange header.size k ids task.0 address bytes
    → object_home ids.next_object (ranged task ids address bytes (bytes / header.size) ++ past) ≡ Some h
range_object_home header h task address bytes past k ids lined rests may =
    let m = rests.matches in
    let region : RegionId = record { 0 = ids.next_region } in
    let object : ObjectId = record { 0 = ids.next_object } in
    let none = m.core.spaces.homes.1.objects ids.next_object (omega (arith, m.core.objects.regions.object)) in
    ap (home_in (λ r. home_of r (ranged task ids address bytes (bytes / header.size) ++ past))) (region_made region object (bytes / header.size) past none)
    ∙ range_home header h task address bytes past k ids lined rests may

-- the regions and objects behind the two
range_regions : (header : Header) (h : ℕ) (task : TaskId) (address bytes : ℕ) (past : List Event) (k k2 : Parts) (ids : Ids) → Rests header h k ids past
    → MayRange header.size k ids task.0 address bytes
    → MadeRange (record { 0 = ids.next_region }) (record { 0 = ids.next_object }) (bytes / header.size) 1 k k2
    → HasRegions k2.chains k2.memory.objects (ids_after ids) (λ r. region_of header r (ranged task ids address bytes (bytes / header.size) ++ past))
    (λ o. backing_of header o (ranged task ids address bytes (bytes / header.size) ++ past))
    (next_region header (ranged task ids address bytes (bytes / header.size) ++ past))
    (next_object header (ranged task ids address bytes (bytes / header.size) ++ past))
    (marks_of header (ranged task ids address bytes (bytes / header.size) ++ past))
range_regions header h task address bytes past k k2 ids rests may made =
    let m = rests.matches in
    let pages = bytes / header.size in
    let region : RegionId = record { 0 = ids.next_region } in
    let object : ObjectId = record { 0 = ids.next_object } in
    let e : Event = event.RegionMade region object pages in
    let room : next_object header past + marks_of header past < most_objects = omega
    (arith, may.marks, m.core.objects.regions.object, m.core.objects.regions.marks) in
    let now = regions_made header past region object (new_region object pages) (new_object pages) pages k.chains k2.chains k.memory.objects k2.memory.objects
    ids (next_region header past) (next_object header past) (marks_of header past)
    m.core.objects.regions.region m.core.objects.regions.object room (next_bare header past m.core.spaces.homes.1) refl refl made.region_row made.object_row
    m.core.objects.regions in
    let marks : marks_of header (e ∷ past) ≡ marks_of header past = marked_made header past region object pages m.core.objects.regions.region in
    subst (λ (z : ℕ). HasRegions k2.chains k2.memory.objects (ids_after ids) (λ r. region_of header r (e ∷ past)) (λ o. backing_of header o (e ∷ past))
    (next_region header past + 1) (next_object header past + 1) z) (sym marks) now

-- the numbers of the next region and object are those of temporary ones
pub record AreTemporary (header : Header) (ids : Ids) : Type 0 where
  pub region : named header ≤ ids.next_region
  pub object : named header ≤ ids.next_object

pub first_temporary : (header : Header) (h : ℕ) (past : List Event) (k : Parts) (ids : Ids) → Rests header h k ids past → AreTemporary header ids
first_temporary header h past k ids rests =
    let region = rests.matches.core.objects.regions.region in
    let object = rests.matches.core.objects.regions.object in
    record {
      region = let more = named_regions header past in omega (arith, region, more);
      object = let more = named_objects header past in omega (arith, object, more);
    }

-- the new object and its region are temporary ones
range_kinds : (header : Header) (h : ℕ) (past : List Event) (k k2 : Parts) (ids : Ids) (pages : ℕ) → Rests header h k ids past
    → MadeRange (record { 0 = ids.next_region }) (record { 0 = ids.next_object }) pages 1 k k2 → HasKinds header k2.memory.objects k2.chains
range_kinds header h past k k2 ids pages rests made =
    let least = (first_temporary header h past k ids rests).object in
    kinds_region header ids.next_region (new_region (record { 0 = ids.next_object }) pages) k2.memory.objects k.chains k2.chains made.region_row
    (λ temporary. least)
    (kinds_put header ids.next_object (new_object pages) k.memory.objects k2.memory.objects k.chains made.object_row made.marks
    (kind_new header ids.next_object (new_object pages) pages least refl) rests.matches.core.objects.kinds)

rests_range : (header : Header) (h : ℕ) (outside : Outside) (task : TaskId) (address bytes : ℕ) (past : List Event) (k k2 : Parts) (ids : Ids) (maps : Mapped)
    → IsLined past → Rests header h k ids past → MayRange header.size k ids task.0 address bytes → task.0 < 1024
    → MadeRange (record { 0 = ids.next_region }) (record { 0 = ids.next_object }) (bytes / header.size) 1 k k2
    → ChangesOnly k.maps maps task.0 (Some (entered (whole_entry address bytes (record { 0 = ids.next_region })) (rows_in task.0 k.maps)))
    → Rests header h (with_range k k2 maps) (ids_after ids) (ranged task ids address bytes (bytes / header.size) ++ past)
rests_range header h outside task address bytes past k k2 ids maps lined rests may below made changes =
    let m = rests.matches in
    let pages = bytes / header.size in
    let n = ids.next_region in
    let object : ObjectId = record { 0 = ids.next_object } in
    let row = whole_entry address bytes (record { 0 = n }) in
    let none = region_free header h k ids past rests in
    let local_at = λ (o p : ℕ). known_local header o p (local header h (place_of o p) past) in
    let unknown = object_free header h k ids past rests in
    let high : next_object header past ≤ ids.next_object = omega (arith, m.core.objects.regions.object) in
    let copied_now = copied_made ids.next_object (new_object pages) k2.memory.objects unknown made.object_row made.region_row.shadows
    (unmade_plain ids.next_object past (m.core.spaces.homes.1.objects ids.next_object high))
    (made_no_newest header ids.next_object past m.core.spaces.homes.1 high) (λ o shadow found. (m.core.objects.regions.unders o shadow found).1)
    m.core.copied in
    record {
      matches =
          record {
            core = record {
              setting = m.core.setting;
              calm = m.core.calm;
              fits = record {
                parts = fit_range k.memory k2.memory.objects k.chains ids.next_object (new_object pages) m.core.fits.parts rests.referred unknown
                    made.object_row;
                plain = m.core.fits.plain;
                buffers = m.core.fits.buffers;
              };
              spaces = record {
                tasks = tasks_entered h header.size k.maps maps (event.RegionMade (record { 0 = n }) object pages ∷ past) task
                    (whole_entry address bytes (record { 0 = n })) m.core.spaces.tasks changes may.lives;
                entries =
                    entries_over header.size k.maps maps k.chains k2.chains task.0 (new_region object pages) row m.core.spaces.entries none made.region_row
                    refl refl refl changes (rw most_is below) may.whole may.some may.below may.room;
                shared = shared_entered header task.0 k.maps maps row changes (temporary_shared header row
                    (first_temporary header h past k ids rests).region) m.core.spaces.shared;
                uses = range_uses header h task address bytes past k ids maps object (bytes / header.size) lined rests may (rw most_is below) changes;
                homes = homes_put header h k.chains k2.chains n (new_region object pages) (ranged task ids address bytes pages ++ past) made.region_row.at
                    (λ paged. range_home header h task address bytes past k ids lined rests may)
                    (range_knows header h outside task address bytes past k ids lined rests may);
              };
              objects = record {
                regions = range_regions header h task address bytes past k k2 ids rests may made;
                kinds = range_kinds header h past k k2 ids pages rests made;
                files = files_entered header h task row k2.memory.objects (event.RegionMade (record { 0 = n }) object pages ∷ past)
                    (λ file. absurd (no_file header n (first_temporary header h past k ids rests).region file))
                    (λ o file. ap (is_on h) (range_homes past lined o (record { 0 = n }) object pages)
                    ∙ files_temporary header h ids.next_object (Some (new_object pages)) k.memory.objects k2.memory.objects (λ z. home_of z past)
                    (first_temporary header h past k ids rests).object made.object_row m.core.objects.files o file);
                sizes =
                    sizes_made header past (named header) (record { 0 = n }) object pages (new_object pages) k.memory.objects k2.memory.objects made.object_row
                    may.few refl m.core.objects.sizes;
                undelayed = declared_made header past (record { 0 = n }) object pages (first_temporary header h past k ids rests).object
                    m.core.objects.undelayed;
              };
              copied = record { known = copied_now.known; fits = copied_now.fits };
              controls = controls_made k.memory.objects k2.memory.objects (λ o. last_control h o past) (λ o. live_control h o past) (λ o. is_ready h o past)
                  ids.next_object pages m.core.controls unknown made.object_row
                  (λ o is. objects_stay o h (ranged task ids address bytes pages) past is)
                  (range_object_home header h task address bytes past k ids lined rests may);
              flags = flags_temporary ids.next_object (Some (new_object pages)) (first_temporary header h past k ids rests).object made.object_row m.core.flags;
              pages = pages_known_so made.marks m.core.pages;
            };
            settled = record { none_owed = refl; shut = λ region. refl };
            replied = replied_behind tt (replied_behind tt m.replied);
          };
      used = record {
        regions = used_range k.chains k2.chains n object pages k.waits.rows rests.used.regions made.region_row;
        copies = copies_told
            (copies_kept k.maps maps k.chains k2.chains k.memory.resident k.memory.resident rests.used.copies
            (same_waiting k.maps maps task.0 _ k.waits.rows changes may.idle)
            (put_filled n (new_region object pages) k.chains k2.chains none made.region_row
            (unknown_unfilled k.chains k.memory.objects ids.next_object m.core.objects.regions.tops unknown)) (rows_unmade k.chains k.memory.resident))
            (λ t w found. (refl, target_lined past t lined (record { 0 = n }) object pages));
      };
      referred =
          referred_put ids.next_object (new_object pages) n (Some (new_region object pages)) k.chains k2.chains k.memory.objects k2.memory.objects
          k.memory.resident made.region_row made.object_row (omega arith) (comes_served unknown)
          rests.referred;
      thin =
          thin_made ids.next_object (new_object pages) k.chains k2.chains k.memory.objects k2.memory.objects m.core.objects.regions.unders
          (λ o shadow found. sym (ap (λ f. f o) made.region_row.shadows) ∙ found) unknown made.object_row rests.thin;
      waits =
          waits_known maps k2.chains k.memory.resident k.memory.objects k2.memory.objects k.waits.rows _ (λ t. waiting t past)
          (waits_changed k.maps maps k.chains k2.chains k.memory.resident k.memory.objects k.waits.rows _ (λ t. waiting t past) task.0 _ rests.waits changes
          may.idle (keeps_made k.chains k2.chains n (new_region object pages) none made.region_row)
          (told_changed k.maps maps k.waits.rows (λ t. waiting t past) task.0 (rows_in task.0 k.maps) _ rests.waits.is changes may.lives))
          (knows_made k.memory.objects k2.memory.objects ids.next_object (new_object pages) unknown made.object_row);
      order = rests.order;
      idle = rests.idle;
    }

pub ran_range : (header : Header) (h : ℕ) (outside : Outside) (task : TaskId) (address bytes pages : ℕ) (past : List Event) (k k2 : Parts) (ids : Ids)
    (before after : List Event) (maps : Mapped) → Starts header h (command.Allocate task address bytes) past k ids before → pages ≡ bytes / k.size
    → MadeRange (record { 0 = ids.next_region }) (record { 0 = ids.next_object }) pages 1 k k2
    → ChangesOnly k2.maps maps task.0 (Some (entered (whole_entry address bytes (record { 0 = ids.next_region })) (rows_in task.0 k2.maps)))
    → after ≡ ranged task ids address bytes pages ++ before
    → Ran header h outside (command.Allocate task address bytes) past (record k2 { maps = maps }) (ids_after ids) after
ran_range header h outside task address bytes pages past k k2 ids before after maps s count made changes told =
    let m = s.rests.matches in
    let whole : pages ≡ bytes / header.size = count ∙ ap (λ z. bytes / z) m.core.setting.sized in
    let events = ranged task ids address bytes (bytes / header.size) in
    let log : after ≡ events = told ∙ (ap (λ z. ranged task ids address bytes z ++ before) whole ∙ ap (λ z. events ++ z) s.nothing) in
    let made_whole = subst (λ (z : ℕ). MadeRange (record { 0 = ids.next_region }) (record { 0 = ids.next_object }) z 1 k k2) whole made in
    let changed = subst (λ (z : Mapped). ChangesOnly z maps task.0 (Some (entered (whole_entry address bytes (record { 0 = ids.next_region }))
    (rows_in task.0 z)))) made.maps changes in
    let rests = rests_range header h outside task address bytes past k k2 ids maps s.begins s.rests (may_range header h task address bytes past k ids before s)
    s.range.task made_whole changed in
    let first = event.RegionMade (record { 0 = ids.next_region }) (record { 0 = ids.next_object }) (bytes / header.size) ∷ got task
    (whole_entry address bytes (record { 0 = ids.next_region })) ∷ [] in
    let is : head header past (command.Allocate task address bytes) ≡ Some first = rw (← m.core.objects.regions.region, ← m.core.objects.regions.object) refl in
    let fine = suffices header h k.memory.frames past m.core.pages.counted in
    let ran : Ran header h outside (command.Allocate task address bytes) past (with_range k k2 maps) (ids_after ids) events =
    ran_head header h outside (command.Allocate task address bytes) past (with_range k k2 maps) (ids_after ids) events first is refl
    (record {
      licensed = range_licensed header h outside task address bytes past k ids s.begins s.rests
          (may_range header h task address bytes past k ids before s);
      own_bytes = (tt, (tt, tt));
      frames = (fine, (fine, tt));
      inner = (tt, (tt, tt));
      said = (tt, (tt, tt));
      mine = range_mine header h task address bytes past k ids s.begins s.rests s.acts;
    })
    tt rests in
    let same : record k2 { maps = maps } ≡ with_range k k2 maps =
    λ i. record {
      alloc = k2.alloc;
      host = made.host i;
      size = made.size i;
      declared = made.declared i;
      memory = made.memory i;
      maps = maps;
      chains = k2.chains;
      copies = made.copied i;
      laundry = made.laundry i;
      waits = made.waits i;
    } in
    subst (λ (z : List Event). Ran header h outside (command.Allocate task address bytes) past (record k2 { maps = maps }) (ids_after ids) z) (sym log)
    (subst (λ (z : Parts). Ran header h outside (command.Allocate task address bytes) past z (ids_after ids) events) (sym same) ran)
