-- A task gets an entry on a delayed copy of a file's pages.
use Rattle.vm_kernel.proofs.Common.{ArePlain, Bool, Command, Enters, Entry, Event, Fit, HasRegions, HasSlow, HasWaiters, HasWaits, Header, HostParts, Ids}
use Rattle.vm_kernel.proofs.Common.{IsDeclared, IsSome, IsUsed, KnowsHomes, List, Matches, None, ObjectId, ObjectRow, Option, Outside, Parts, PutsRegion}
use Rattle.vm_kernel.proofs.Common.{RegionId, RegionRow, ResidentTable, Some, TaskId, Works, [], all_tasks, ap, arith, backing_of, entered, entries_in, entry}
use Rattle.vm_kernel.proofs.Common.{eqb_tells, got, holds, home_entered, home_of, if◌then◌else◌, in_use, inl, inr, is_some, is_woken, lives_on, marks_of, named}
use Rattle.vm_kernel.proofs.Common.{next_object, next_region, object_at, object_home, pages_in, pages_of_row, refl, region_at, region_of, rows_in, shadow_at}
use Rattle.vm_kernel.proofs.Common.{some_is, subst, sym, tasks, true, waiting, ℕ, ◌%◌, ◌++◌, ◌+◌, ◌/◌, ◌<◌, ◌^◌, ◌∙◌, ◌∷◌, ◌≡◌, ◌≤◌, ◌⊎◌}
use Rattle.vm_abroad.proofs.Home.{named_objects, named_regions, objects_stay}
use Rattle.vm_base.specs.Limits.{most_objects, most_regions}
use Rattle.vm_copies.specs.Copies.{newest_at}
use Rattle.vm_kernel.proofs.abroad.OwnEvents.{own_task}
use Rattle.vm_kernel.proofs.abroad.OwnHost.{lives_here}
use Rattle.vm_kernel.proofs.controls.FlagsKept.{flag_few}
use Rattle.vm_kernel.proofs.controls.LockReplied.{replied_behind}
use Rattle.vm_kernel.proofs.memory.CoreChanges.{pages_known_so}
use Rattle.vm_kernel.proofs.memory.PlacesPassed.{fresh_away}
use Rattle.vm_kernel.proofs.memory.ShadowMade.{entries_kept}
use Rattle.vm_kernel.proofs.space.CopiesEnd.{copied_regions, made_no_newest}
use Rattle.vm_kernel.proofs.space.CopyObjectMade.{stands_regions}
use Rattle.vm_kernel.proofs.space.DeclaredPages.{declared_delayed}
use Rattle.vm_kernel.proofs.space.DelayedObjects.{controls_delayed, copied_delayed, files_delayed, filled_delayed, fit_delayed, flags_delayed, kinds_delayed}
use Rattle.vm_kernel.proofs.space.DelayedObjects.{referred_delayed, sizes_delayed, thin_delayed, waits_delayed}
use Rattle.vm_kernel.proofs.space.DelayedTables.{DelaysFile, regions_delayed}
use Rattle.vm_kernel.proofs.space.EntriesRewritten.{lives_below}
use Rattle.vm_kernel.proofs.space.RangeAllocated.{entries_over}
use Rattle.vm_kernel.proofs.space.RegionCases.{region_cases}
use Rattle.vm_kernel.proofs.space.RegionCopied.{IsFree, IsFrom, free_of, heads_more, no_row, tally_few}
use Rattle.vm_kernel.proofs.space.RegionHomes.{homes_caused, homes_put}
use Rattle.vm_kernel.proofs.space.RegionsFilled.{free_unfilled, put_filled, same_waiting, unknown_unfilled}
use Rattle.vm_kernel.proofs.space.RegionsInUse.{fills_here, holds_rows, unfilled, uses_entered}
use Rattle.vm_kernel.proofs.space.SharedEntries.{shared_entered, temporary_shared}
use Rattle.vm_kernel.proofs.space.StillThin.{thin_chains}
use Rattle.vm_kernel.proofs.space.TaskTables.{tasks_entered}
use Rattle.vm_kernel.proofs.steps.EventsGrow.{suffices}
use Rattle.vm_kernel.proofs.steps.HeadAlone.{Heads}
use Rattle.vm_kernel.proofs.steps.PushersFreed.{freed_none, works_freed}
use Rattle.vm_kernel.specs.Changes.{CanEnter}
use Rattle.vm_kernel.specs.Delaying.{CanDelay, EntersDelayed, delayed, delayed_row}
use Rattle.vm_kernel.specs.Forking.{entry_on}
use Rattle.vm_kernel.specs.Matches.{Copied, object_facts}
use Rattle.vm_legal.proofs.Files.{file_named, file_paged}
use Rattle.vm_legal.specs.Outside.{is_file}
use Rattle.vm_legal.specs.Pushes.{is_pushed}
use Rattle.vm_model.specs.Homes.{first_of, home_in, region_for}
use Rattle.vm_shadow.specs.Chains.{ObjectsBelow}
use Rattle.vm_state.proofs.Bypassing.{waits_quiet}
use Rattle.vm_state.proofs.Declared.{kinds_region, whole_row}
use Rattle.vm_state.proofs.Files.{files_entered, no_file}
use Rattle.vm_state.proofs.Filling.{KeepsFilled, copies_kept, rows_unmade}
use Rattle.vm_state.proofs.Fresh.{other_test, same_test, unshadowed}
use Rattle.vm_state.proofs.Marks.{marked_delayed}
use Rattle.vm_state.proofs.Places.{keeps_made}
use Rattle.vm_state.proofs.Referred.{referred_chains}
use Rattle.vm_state.proofs.Referring.{objects_below, refers_region, row_of}
use Rattle.vm_state.proofs.Waited.{told_changed, waits_changed}
use Rattle.vm_state.specs.Passed.{IsUnmet, StaysAway}
use Rattle.vm_state.specs.References.{AllReferred, is_backing, is_over}
use Rattle.vm_legal.specs.Licences as cause
use Rattle.vm_model.specs.Regions as R
use Rattle.vm_supply.specs.declared.woken.Woken.TheVariants as woken

-- What a delayed copy that may be made has: its task lives here and doesn't wait, the range is free, the file's region has the pages, and numbers are left.
pub record MayDelay (header : Header) (task : ℕ) (source : RegionId) (offset : ℕ) (row : Entry) (past : List Event) (k : Parts) : Type 0 where
  pub lives : entries_in task k.maps ≡ Some (rows_in task k.maps)
  pub idle : waiting task past ≡ None
  pub free : CanEnter task row k
  pub pages : row.bytes / header.size < 2 ^ 32
  pub region : RegionRow
  pub there : region_at k.chains source.0 ≡ Some region
  pub counted : 0 < region.entries
  pub file : is_file header source.0 ≡ true
  pub inside : offset + row.bytes / header.size ≤ region.pages
  pub regions : next_region header past + 1 ≤ most_regions
  pub objects : next_object header past + 1 + (marks_of header past + 1) ≤ most_objects
  pub from : IsFrom header source.0 offset (row.bytes / header.size) past

-- the file is known, and its region is over the whole of it
record IsFileHere (source : ℕ) (region : RegionRow) (k : Parts) : Type 0 where
  row : ObjectRow
  known : object_at k.memory.objects source ≡ Some row
  some : 0 < row.references
  over : region.pages ≤ row.pages
  top : region.top.0 ≡ source

file_here : (header : Header) (h : ℕ) (past : List Event) (k : Parts) (ids : Ids) (source : ℕ) (region : RegionRow) → Matches header h k ids [] past
    → is_file header source ≡ true → region_at k.chains source ≡ Some region → IsFileHere source region k
file_here header h past k ids source region m file there =
    let whole = whole_row m.core.objects.regions m.core.spaces.homes.1 source region (file_named header source file) there in
    let known = row_of (object_at k.memory.objects region.top.0) (m.core.objects.regions.tops source region there) in
    let referred = refers_region m.core.objects.regions source region there in
    let fits = m.core.objects.regions.fits.tops source region there in
    let sized = ap pages_of_row known.1 in
    record {
      row = known.0;
      known = ap (object_at k.memory.objects) (sym whole.top) ∙ known.1;
      some = subst (λ (z : ObjectRow). 0 < z.references) (some_is referred.row known.0 (sym referred.known ∙ known.1)) referred.some;
      over = omega (arith, fits, sized);
      top = whole.top;
    }

pub can_delay : (header : Header) (h : ℕ) (task : ℕ) (source : RegionId) (offset : ℕ) (row : Entry) (past : List Event) (k : Parts) (ids : Ids)
    → Works header h k ids woken.Nobody past → MayDelay header task source offset row past k → CanDelay task source row k ids
can_delay header h task source offset row past k ids works may =
    let m = works.matches in
    let regions = m.core.objects.regions in
    let its = file_here header h past k ids source.0 may.region m may.file may.there in
    let more = may.regions in
    let few = may.objects in
    let next = regions.region in
    let object = regions.object in
    let marks = regions.marks in
    let count = regions.counts source.0 its.row its.known in
    let overs = tally_few (λ r. is_over source.0 (region_at k.chains r)) (next_region header past) in
    let unders = tally_few (λ s. is_backing source.0 (shadow_at k.chains s)) (next_object header past) in
    let least = named_objects header past in
    let less = file_named header source.0 may.file in
    record {
      lives = subst (λ (z : Option (List Entry)). IsSome z) (sym may.lives) refl;
      free = may.free;
      sized = m.core.spaces.tasks.sized ∙ sym m.core.setting.sized;
      pages = subst (λ (z : ℕ). row.bytes / z < 2 ^ 32) (sym m.core.setting.sized) may.pages;
      file = its.row;
      delays = record {
        known = its.known;
        pages = m.core.objects.sizes.few source.0 its.row its.known;
        references = (let flag = flag_few its.row.cache in omega (arith, count, flag, overs, unders, few, more));
        older = omega (arith, less, least, object);
        unknown = regions.unknown ids.next_object (omega (arith, object));
        below = subst (λ (z : ℕ). ObjectsBelow z k.chains) (sym object) (objects_below regions);
        fits = m.core.copied.fits;
        number = omega (arith, object, few);
      };
      below = λ r high. regions.unmade r (omega (arith, high, next));
      regions = omega (arith, next, more);
      marks = omega (arith, marks, few);
    }

-- what is known of the file and its newest copy object, for the next one
delays_file : (header : Header) (h : ℕ) (past : List Event) (k : Parts) (ids : Ids) (source : RegionId) (copy : ObjectId) (region : RegionRow)
    (file : ObjectRow) → Works header h k ids woken.Nobody past → is_file header source.0 ≡ true → region_at k.chains source.0 ≡ Some region
    → object_at k.memory.objects source.0 ≡ Some file → copy.0 ≡ ids.next_object
    → DelaysFile (record { 0 = source.0 }) copy file (newest_at k.copies source.0) (R.newest_copy source.0 past) k.chains k.memory.objects
delays_file header h past k ids source copy region file works is_one there known number =
    let m = works.matches in
    let its = file_here header h past k ids source.0 region m is_one there in
    let object = m.core.objects.regions.object in
    record {
      known = known;
      some = subst (λ (z : ObjectRow). 0 < z.references) (some_is its.row file (sym its.known ∙ known)) its.some;
      unknown = m.core.objects.regions.unknown copy.0 (omega (arith, number, object));
      last = m.core.copied.known.last source.0;
      told = m.core.copied.known.newest source.0;
      stood = λ was is.
          let on = m.core.copied.fits.stands source.0 was is in
          on.found ∙ (λ i. Some (record { under = record { 0 = on.under i }; shift = on.shift i }));
      shadows = works.referred.shadows;
    }

-- the new region is in use where the file's is, and each other where it was

delayed_use : (header : Header) (h : ℕ) (region source : RegionId) (offset pages : ℕ) (copy : ObjectId) (past : List Event)
    → in_use header h region.0 (delayed region source offset pages copy ∷ past) ≡ in_use header h source.0 past
delayed_use header h region source offset pages copy past =
    ap (λ b. if b then in_use header h source.0 past else in_use header h region.0 past) (same_test region.0 region.0 refl)

others_use : (header : Header) (h : ℕ) (region source : RegionId) (offset pages : ℕ) (copy : ObjectId) (past : List Event) (r : ℕ) → (r ≡ region.0 → ⊥)
    → in_use header h r (delayed region source offset pages copy ∷ past) ≡ in_use header h r past
others_use header h region source offset pages copy past r apart =
    ap (λ b. if b then in_use header h source.0 past else in_use header h r past) (other_test r region.0 apart)

-- the next region in use elsewhere, or not made, was so before
use_before : (header : Header) (h : ℕ) (region source : RegionId) (offset pages : ℕ) (copy : ObjectId) (past : List Event) (r : ℕ)
    → region.0 ≡ next_region header past
    → (in_use header h r (delayed region source offset pages copy ∷ past) ≡ true) ⊎ (next_region header past + 1 ≤ r)
    → (in_use header h r past ≡ true) ⊎ (next_region header past ≤ r)
use_before header h region source offset pages copy past r number (inl used) = elim (eqb_tells r region.0) [
  | inl same ↦ inr (let is = same.1 in omega (arith, is, number))
  | inr apart ↦ inl (sym (others_use header h region source offset pages copy past r apart.1) ∙ used)
]
use_before header h region source offset pages copy past r number (inr high) = inr (omega (arith, high))

-- the file's region is in use
file_used : (header : Header) (h : ℕ) (past : List Event) (k : Parts) (ids : Ids) (r : ℕ) (row : RegionRow) → Works header h k ids woken.Nobody past
    → is_file header r ≡ true → region_at k.chains r ≡ Some row → 0 < row.entries → in_use header h r past ≡ true
file_used header h past k ids r row works file there some =
    let m = works.matches in
    let counts = m.core.spaces.entries.counts r row there in
    m.core.spaces.uses.files r file (omega (arith, counts, some))

-- the delayed copy has its cause
delayed_cause : (header : Header) (region source : RegionId) (offset pages : ℕ) (copy : ObjectId) (past : List Event) → is_file header source.0 ≡ true
    → IsFrom header source.0 offset pages past → region.0 ≡ next_region header past → copy.0 ≡ next_object header past
    → cause.CopiesFile header region.0 source.0 offset pages copy.0 past
delayed_cause header region source offset pages copy past file from next new =
    record {
      next = next;
      new = new;
      file = file;
      task = from.task;
      address = from.address;
      at = from.at;
      source_is = from.source_is;
      inside = from.inside;
    }

-- and so has the entry on it
delayed_enters : (header : Header) (h : ℕ) (task : TaskId) (region source : RegionId) (copy : ObjectId) (offset : ℕ) (row : Entry) (past : List Event)
    (k : Parts) (ids : Ids) → Works header h k ids woken.Nobody past → MayDelay header task.0 source offset row past k → region.0 ≡ next_region header past
    → Enters header task.0 row.bytes region.0 0 (delayed region source offset (row.bytes / header.size) copy ∷ past)
delayed_enters header h task region source copy offset row past k ids works may number =
    let m = works.matches in
    let pages = row.bytes / header.size in
    let now = delayed region source offset pages copy ∷ past in
    let used : in_use header h region.0 now ≡ true = delayed_use header h region source offset pages copy past
    ∙ file_used header h past k ids source.0 may.region works may.file may.there may.counted in
    let slow : HasSlow header k now = works.used.copies in
    let waits : HasWaits header h k woken.Nobody now =
    waits_quiet header h (delayed region source offset pages copy) past (λ key. tt) works.waits in
    record {
      idle = may.idle;
      host = h;
      lives = lives_here m.core.spaces.tasks may.lives;
      whole = subst (λ (z : ℕ). row.bytes % z ≡ 0) m.core.spaces.tasks.sized (free_of k.maps.size row (rows_in task.0 k.maps) may.free).whole;
      inside =
          let sized : (region_of header region.0 now).pages ≡ pages =
          ap (λ (b : Bool). if b then pages else (region_of header region.0 past).pages) (same_test region.0 region.0 refl) in
          omega (arith, sized);
      made = omega (arith, number);
      used = λ temporary. used;
      file = λ is. used;
      unfilled =
          unfilled header.size region.0 (tasks past) k.maps k.waits.rows now (fills_here {past = now} waits slow)
          (free_unfilled region.0 works.used.copies (m.core.objects.regions.unmade region.0 (omega (arith, number))))
          (λ t none. m.core.spaces.uses.apart t region.0 none (inr (omega (arith, number))));
    }

-- the kernel behind a delayed copy and its entry
pub works_delayed : (header : Header) (h : ℕ) (outside : Outside) (doing : Command) (task : TaskId) (source : RegionId) (offset : ℕ) (row : Entry)
    (past : List Event) (k k2 : Parts) (ids ids2 : Ids) (before after : List Event) → Works header h k ids woken.Nobody past
    → MayDelay header task.0 source offset row past k → (s : EntersDelayed task source offset row k k2 ids ids2 before after)
    → Works header h k2 ids2 woken.Nobody (got task (entry_on row s.region) ∷ delayed s.region source offset (row.bytes / header.size) s.copy ∷ past)
works_delayed header h outside doing task source offset row past k k2 ids ids2 before after works may s =
    record {
      matches =
          record {
            core = record {
              setting = rw (s.size, s.host, s.declared) m.core.setting;
              calm = m.core.calm;
              fits = record {
                parts = subst Fit (sym s.memory) (fit_delayed d s.stands m.core.fits.parts works.referred);
                plain = subst ArePlain (sym rows_are) m.core.fits.plain;
                buffers = ap (λ (z : HostParts). z.buffers.size) s.memory ∙ (m.core.fits.buffers ∙ sym s.size);
              };
              spaces = record {
                tasks = tasks_entered h header.size k.maps k2.maps (now ∷ past) task new m.core.spaces.tasks s.maps may.lives;
                entries =
                    entries_over header.size k.maps k2.maps s.mid k2.chains task.0 over new
                    (entries_kept header.size k s.mid m.core.spaces.entries (record {
                      has = λ r. ap is_some (same_at r);
                      pages = λ r. ap pages_in (same_at r);
                      row = λ r found_row found. (found_row, sym (same_at r) ∙ found, refl);
                    }))
                    vacant made refl refl refl s.maps below free.whole free.some free.below free.room;
                shared = shared_entered header task.0 k.maps k2.maps new s.maps (temporary_shared header new least_region) m.core.spaces.shared;
                uses =
                    uses_entered header k.maps k2.maps (λ r. in_use header h r (now ∷ past)) (tasks past) (λ t r. holds header.size t r (e ∷ now ∷ past))
                    (next_region header past + 1) task.0 new (lives_on h task.0 (now ∷ past))
                    (λ r temporary apart. subst (λ (b : Bool). IsUsed k.maps k2.waits.rows r b)
                    (sym (others_use header h s.region source offset pages s.copy past r apart))
                    (m.core.spaces.uses.used r temporary))
                    (λ r file apart some. others_use header h s.region source offset pages s.copy past r apart ∙ m.core.spaces.uses.files r file some)
                    (λ paged. delayed_use header h s.region source offset pages s.copy past
                    ∙ file_used header h past k ids source.0 may.region works may.file may.there may.counted) m.core.spaces.uses.among
                    s.maps may.lives below (m.core.spaces.tasks.hosts task.0 ∙ ap is_some may.lives)
                    (λ t r away why. holds_rows header.size task.0 t r k.maps (rows_in task.0 k.maps) _ (now ∷ past) may.lives away
                    ∙ m.core.spaces.uses.apart t r away (use_before header h s.region source offset pages s.copy past r number why));
                homes =
                    homes_put header h s.mid k2.chains s.region.0 over (e ∷ now ∷ past) made.at
                    (λ paged. home_entered h task row.address row.bytes s.region 0 row.prot row.inherit (now ∷ past)
                    (m.core.spaces.homes.1.regions s.region.0 (omega (arith, number))) (lives_here m.core.spaces.tasks may.lives))
                    ((λ r found_row paged found. knows.0 r found_row paged (sym (same_at r) ∙ found)), knows.1);
              };
              objects = record {
                regions =
                    subst (λ (z : ℕ). HasRegions k2.chains k2.memory.objects ids2 (λ r. region_of header r (e ∷ now ∷ past))
                    (λ o. backing_of header o (e ∷ now ∷ past)) (next_region header past + 1) (next_object header past + 1) z)
                    (sym (marked_delayed header past s.region source offset pages s.copy number))
                    (regions_delayed header past s.region source s.copy offset pages s.file (newest_at k.copies source.0) k.chains s.mid k2.chains
                    k.memory.objects k2.memory.objects ids ids2 (next_region header past) (next_object header past) (marks_of header past) d s.stands made
                    number object within s.ids may.objects m.core.objects.regions);
                kinds =
                    kinds_region header s.region.0 over k2.memory.objects s.mid k2.chains made (λ temporary. least)
                    (kinds_delayed d s.stands header least may.file s.absent m.core.objects.kinds);
                files =
                    files_entered header h task new k2.memory.objects (now ∷ past) (λ file. absurd (no_file header s.region.0 least_region file))
                    (files_delayed d s.stands header h (λ o. home_of o past) least m.core.objects.files);
                sizes = sizes_delayed d s.stands header past s.region source offset pages sized m.core.objects.sizes;
                undelayed = declared_delayed header past s.region source offset pages s.copy least m.core.objects.undelayed;
              };
              copied =
                  subst (λ (z : HostParts). Copied k2.copies z k2.chains (object_facts header (e ∷ now ∷ past)) (λ c p. is_pushed h c p past)) (sym s.memory)
                  (copied_regions made.shadows copied);
              controls = controls_delayed d s.stands m.core.controls (λ o home. objects_stay o h (e ∷ now ∷ []) past home) copy_home;
              flags = flags_delayed d s.stands least m.core.flags;
              pages = rw (frames_are, rows_are, s.laundry) (pages_known_so s.absent m.core.pages);
            };
            settled = record { none_owed = refl; shut = λ region. refl };
            replied = replied_behind tt (replied_behind tt m.replied);
          };
      used = rw rows_are (record {
        regions = λ r found_row found. elim (region_cases s.region.0 (Some over) s.mid k2.chains made r) [
          | inl this ↦ inl (subst (λ (z : RegionRow). 0 < z.entries) (some_is over found_row (sym this.1 ∙ found)) (omega arith))
          | inr other ↦ freed.used.regions r found_row (sym (same_at r) ∙ (sym other.1 ∙ found))
        ];
        copies =
            copies_kept k.maps k2.maps k.chains k2.chains k.memory.resident k.memory.resident freed.used.copies
            (same_waiting k.maps k2.maps task.0 (Some (entered new (rows_in task.0 k.maps))) k2.waits.rows s.maps none) filled
            (rows_unmade k.chains k.memory.resident);
      });
      referred =
          subst (λ (z : ResidentTable). AllReferred k2.chains k2.memory.objects z) (sym rows_are)
          (referred_chains s.mid k2.chains k2.memory.objects k.memory.resident (λ x shadow found. inl (sym (ap (λ f. f x) made.shadows) ∙ found))
          (referred_delayed d s.stands works.referred));
      thin =
          thin_chains s.mid k2.chains k2.memory.objects (λ o. ap (λ f. f o) made.shadows)
          (thin_delayed d s.stands s.begins.put declared.number (λ o shadow found. m.core.objects.regions.unders o shadow found) works.thin);
      waits = rw rows_are (waits_quiet header h now past (λ key. tt) waits);
      order = freed.order;
    }
  where
    freed : Works header h (record k { waits = k2.waits }) ids woken.Nobody past
    freed = works_freed source.0 k2.waits works s.waits

    m : Matches header h (record k { waits = k2.waits }) ids [] past
    m = freed.matches

    pages : ℕ
    pages = row.bytes / header.size

    new : Entry
    new = entry_on row s.region

    now : Event
    now = delayed s.region source offset pages s.copy

    e : Event
    e = got task new

    over : RegionRow
    over = delayed_row s.copy offset pages

    number : s.region.0 ≡ next_region header past
    number = s.number ∙ m.core.objects.regions.region

    object : s.copy.0 ≡ next_object header past
    object = s.object ∙ m.core.objects.regions.object

    least : named header ≤ s.copy.0
    least = let more = named_objects header past in omega (arith, more, object)

    least_region : named header ≤ s.region.0
    least_region = let more = named_regions header past in omega (arith, more, number)

    high : next_object header past ≤ s.copy.0
    high = omega (arith, object)

    unknown : object_at k.memory.objects s.copy.0 ≡ None
    unknown = m.core.objects.regions.unknown s.copy.0 high

    d : DelaysFile (record { 0 = source.0 }) s.copy s.file (newest_at k.copies source.0) (R.newest_copy source.0 past) k.chains k.memory.objects
    d = delays_file header h past k ids source s.copy may.region s.file works may.file may.there s.known s.object

    made : PutsRegion s.region.0 (Some over) s.mid k2.chains
    made = subst (λ (z : ℕ). PutsRegion s.region.0 (Some (delayed_row s.copy offset (row.bytes / z))) s.mid k2.chains) m.core.setting.sized s.made

    same_at : (r : ℕ) → region_at s.mid r ≡ region_at k.chains r
    same_at r = ap (λ f. f r) (stands_regions s.stands)

    vacant : region_at s.mid s.region.0 ≡ None
    vacant = same_at s.region.0 ∙ m.core.objects.regions.unmade s.region.0 (omega (arith, number))

    free : IsFree header.size row (rows_in task.0 k.maps)
    free = subst (λ (z : ℕ). IsFree z row (rows_in task.0 k.maps)) m.core.spaces.tasks.sized (free_of k.maps.size row (rows_in task.0 k.maps) may.free)

    below : task.0 < all_tasks
    below = lives_below header.size task.0 k.maps k.chains [] m.core.spaces.entries may.lives

    its : IsFileHere source.0 may.region k
    its = file_here header h past k ids source.0 may.region works.matches may.file may.there

    within : offset + pages ≤ s.file.pages
    within =
        let same = ap (λ (z : ObjectRow). z.pages) (some_is its.row s.file (sym its.known ∙ s.known)) in
        let inside = may.inside in
        let all = its.over in
        omega (arith, same, inside, all)

    declared : IsDeclared header source.0 s.file
    declared = (m.core.objects.kinds.kinds source.0 s.file s.known).declared (file_named header source.0 may.file)

    sized : s.file.pages ≡ R.object_pages header source.0 past
    sized = declared.pages ∙ sym (m.core.objects.undelayed source.0 (file_named header source.0 may.file)).pages

    knows : KnowsHomes header h k.chains (e ∷ now ∷ past)
    knows =
        homes_caused header outside h k.chains e (now ∷ past)
        (doing, delayed_enters header h task s.region source s.copy offset row past k ids works may number)
        (homes_caused header outside h k.chains now past
        (doing, delayed_cause header s.region source offset pages s.copy past may.file may.from number object) m.core.spaces.homes)

    copy_home : object_home s.copy.0 (e ∷ now ∷ past) ≡ Some h
    copy_home =
        ap (home_in (λ r. home_of r (e ∷ now ∷ past)))
        (ap (λ b. if b then first_of (region_for s.copy.0 past) (Some source.0) else region_for s.copy.0 past) (same_test s.copy.0 s.copy.0 refl)
        ∙ ap (λ z. first_of z (Some source.0)) (m.core.spaces.homes.1.objects s.copy.0 high))
        ∙ knows.0 source.0 may.region (file_paged header source.0 may.file) may.there

    copied : Copied k2.copies (record k.memory { objects = k2.memory.objects }) s.mid (object_facts header (e ∷ now ∷ past)) (λ c p. is_pushed h c p past)
    copied =
        copied_delayed d s.stands {f2 = object_facts header (e ∷ now ∷ past)} {pushed2 = λ c p. is_pushed h c p past} refl
        (record { put = s.begins.put; had = s.begins.had; newest = s.begins.newest }) refl refl
        (record {
          copies = λ o. refl;
          newest = λ f. refl;
          pushed = λ c p. refl;
          bare = λ p. m.core.copied.known.unpushed s.copy.0 p unknown;
          unmade = made_no_newest header s.copy.0 past m.core.spaces.homes.1 high;
        })
        (λ o shadow found. (m.core.objects.regions.unders o shadow found).1) works.referred m.core.copied

    frames_are : k2.memory.frames ≡ k.memory.frames
    frames_are = ap (λ (z : HostParts). z.frames) s.memory

    rows_are : k2.memory.resident ≡ k.memory.resident
    rows_are = ap (λ (z : HostParts). z.resident) s.memory

    none : entry k2.waits.rows task.0 ≡ None
    none = no_row k.maps.size (entry k2.waits.rows task.0) (waiting task.0 past) (freed.waits.is task.0 (ap is_some may.lives)) may.idle

    filled : KeepsFilled k.chains k2.chains
    filled r target count filled_row alone =
        let first = filled_delayed d s.stands source.0 may.region may.there may.counted its.top m.core.objects.regions.tops r target count filled_row alone in
        put_filled s.region.0 over s.mid k2.chains vacant made
        (unknown_unfilled s.mid k.memory.objects s.copy.0 (λ q found_row found. m.core.objects.regions.tops q found_row (sym (same_at q) ∙ found)) unknown)
        r target count first.0 first.1

    waits : HasWaiters k2.maps k2.chains k2.copies k.memory.resident k2.memory.objects k2.waits.rows (is_woken woken.Nobody) (λ t. waiting t past)
        (StaysAway header h past) (IsUnmet header h past)
    waits =
        waits_changed k.maps k2.maps s.mid k2.chains k.memory.resident k2.memory.objects k2.waits.rows (is_woken woken.Nobody) (λ t. waiting t past) task.0
        (Some (entered new (rows_in task.0 k.maps)))
        (waits_delayed d s.stands k.maps k.memory.resident k2.waits.rows (is_woken woken.Nobody) (λ t. waiting t past)
        (unshadowed k.chains k.memory.objects ids _ _ _ _ _ s.copy.0 m.core.objects.regions unknown) s.begins.newest s.begins.had
        (freed_none source.0 k2.waits works s.waits) (fresh_away header h (record k { waits = k2.waits }) ids past m works.referred s.copy least unknown)
        freed.waits)
        s.maps none (keeps_made s.mid k2.chains s.region.0 over vacant made)
        (told_changed k.maps k2.maps k2.waits.rows (λ t. waiting t past) task.0 (rows_in task.0 k.maps) (Some (entered new (rows_in task.0 k.maps)))
        freed.waits.is s.maps may.lives)

-- both events are the host's
pub heads_delayed : (header : Header) (h : ℕ) (outside : Outside) (doing : Command) (task : TaskId) (region source : RegionId) (copy : ObjectId) (offset : ℕ)
    (row : Entry) (past events : List Event) (k : Parts) (ids : Ids) → Works header h k ids woken.Nobody (events ++ past)
    → MayDelay header task.0 source offset row (events ++ past) k → region.0 ≡ next_region header (events ++ past)
    → copy.0 ≡ next_object header (events ++ past) → Heads header h outside doing past events
    → Heads header h outside doing past (got task (entry_on row region) ∷ delayed region source offset (row.bytes / header.size) copy ∷ events)
heads_delayed header h outside doing task region source copy offset row past events k ids works may number object heads =
    let m = works.matches in
    let now : Event = delayed region source offset (row.bytes / header.size) copy in
    let fine = suffices header h k.memory.frames (events ++ past) m.core.pages.counted in
    heads_more header h outside doing past (now ∷ events) (got task (entry_on row region))
    (heads_more header h outside doing past events now heads
    (record {
      settled = m.settled;
      cause = delayed_cause header region source offset (row.bytes / header.size) copy (events ++ past) may.file may.from number object;
      own_bytes = tt;
      frames = fine;
      inner = tt;
      said = tt;
      own =
          λ g used. m.core.spaces.homes.1.stay g h source.0 used (m.core.spaces.homes.0 source.0 may.region (file_paged header source.0 may.file) may.there);
      creates = tt;
    }))
    (record {
      settled = record { none_owed = refl; shut = λ region. refl };
      cause = delayed_enters header h task region source copy offset row (events ++ past) k ids works may number;
      own_bytes = tt;
      frames = fine;
      inner = tt;
      said = tt;
      own = own_task h task.0 (now ∷ (events ++ past)) (m.core.spaces.tasks.hosts task.0 ∙ ap is_some may.lives);
      creates = tt;
    })

-- the log behind them
pub told_delayed : (header : Header) (h : ℕ) (task : TaskId) (source : RegionId) (offset : ℕ) (row : Entry) (past : List Event) (k k2 : Parts) (ids ids2 : Ids)
    (before after : List Event) → Works header h k ids woken.Nobody past → (s : EntersDelayed task source offset row k k2 ids ids2 before after)
    → after ≡ got task (entry_on row s.region) ∷ delayed s.region source offset (row.bytes / header.size) s.copy ∷ before
told_delayed header h task source offset row past k k2 ids ids2 before after works s =
    s.told
    ∙ ap (λ (z : ℕ). got task (entry_on row s.region) ∷ delayed s.region source offset (row.bytes / z) s.copy ∷ before) works.matches.core.setting.sized
