-- A slow copy begins: its region is there at once, over an object of its own, and its task waits.
use Rattle.vm_kernel.proofs.memory.CoreChanges.{pages_known_so}
use Rattle.vm_state.proofs.KnownPages.{sizes_made}
use Rattle.vm_kernel.proofs.space.DeclaredPages.{declared_made}
use Rattle.vm_kernel.proofs.space.CopiesEnd.{copied_made, made_no_newest}
use Rattle.vm_state.proofs.PlainObjects.{unmade_plain}
use Rattle.vm_kernel.proofs.Common.{AllUsed, BeganInOrder, Bool, ChainTable, Command, EachOf, Entry, Event, Grows, HasEntries, HasRegions, HasUse, HasWaiters}
use Rattle.vm_kernel.proofs.Common.{Header, Ids, InOrder, IsAllowed, IsDoneInTurn, IsFilledIn, IsInUse, IsInside, IsLined, KnowsHomes, List}
use Rattle.vm_kernel.proofs.Common.{MadeRange, Matches, None, ObjectId, ObjectRow, Option, Outside, PageRow, Parts, Place, PutsEntry, PutsRegion, QueueIsStill}
use Rattle.vm_kernel.proofs.Common.{RegionId, RegionRow, Rests, RunsNone, Some, Starts, TaskId, WaitTable, Waiting, Works, [], all_tasks, ap, arith}
use Rattle.vm_kernel.proofs.Common.{backing_of, begun_at, copy_target, count_by, entries_in, entries_of, entry, entry_at, eqb_tells, false, fills, fills_in}
use Rattle.vm_kernel.proofs.Common.{has_entry, head, holds, home_of, host_of, if◌then◌else◌, in_use, inl, inr, is_on, is_ready, is_some, is_woken, last_control}
use Rattle.vm_kernel.proofs.Common.{length, live_control, lives_on, made_here, named, nat_lt, nat_tests, next_object, next_page, next_region, object_at}
use Rattle.vm_kernel.proofs.Common.{object_home, page_at, place_at, puts_cases, refl, region_at, region_of, row_at, rows_in, rows_map, some_is, subst, sym}
use Rattle.vm_kernel.proofs.Common.{tasks, true, waiting, with_entries, ℕ, ◌%◌, ◌&&◌, ◌*◌, ◌++◌, ◌+◌, ◌/◌, ◌<◌, ◌==◌, ◌^◌, ◌||◌, ◌∙◌, ◌∷◌, ◌≡◌, ◌≤◌, ◌⊎◌}
use Rattle.std.specs.Prelude.{IsSome}
use Rattle.vm_abroad.proofs.Home.{home_made, objects_stay, region_made}
use Rattle.vm_base.specs.Limits.{most_objects, most_regions}
use Rattle.vm_base.specs.declared.ids.Inherit.TheVariants.{Copy}
use Rattle.vm_base.specs.declared.ids.Access.TheVariants as need
use Rattle.vm_kernel.proofs.steps.AccessBegins.{lined_below, waits_added}
use Rattle.vm_kernel.proofs.space.RegionCopied.{heads_more, same_put}
use Rattle.vm_kernel.proofs.space.RangeCopied.{may_place}
use Rattle.vm_kernel.proofs.space.EntriesCounted.{by_none}
use Rattle.vm_kernel.proofs.space.RegionsFilled.{free_unfilled, put_filled, unknown_unfilled}
use Rattle.vm_kernel.proofs.steps.EventsGrow.{suffices}
use Rattle.vm_kernel.proofs.steps.HeadAlone.{Heads, grows_head, heads_one}
use Rattle.vm_kernel.proofs.space.TaskMade.{controls_made, new_object}
use Rattle.vm_kernel.proofs.abroad.OwnEvents.{own_task}
use Rattle.vm_kernel.proofs.steps.RowsInOrder.{begun_order}
use Rattle.vm_kernel.proofs.abroad.OwnHost.{lives_here, rows_here}
use Rattle.vm_kernel.proofs.memory.PagesShown.{itself}
use Rattle.vm_kernel.proofs.space.RangeAllocated.{first_temporary, fit_range, ids_after, keeps_new, new_region, object_free, region_free}
use Rattle.vm_kernel.proofs.space.RegionRows.{none_leads}
use Rattle.vm_kernel.proofs.controls.LockReplied.{replied_behind}
use Rattle.vm_kernel.proofs.space.RegionCases.{region_cases}
use Rattle.vm_kernel.proofs.space.TaskTables.{inside_kept}
use Rattle.vm_kernel.proofs.space.RegionsInUse.{elsewhere}
use Rattle.vm_kernel.specs.Forking.{EntersCopy}
use Rattle.vm_kernel.specs.Sweeping.{PutsEntries}
use Rattle.vm_legal.proofs.Heads.{to_itself}
use Rattle.vm_legal.specs.Follows.{copied_late, copy_head}
use Rattle.std.specs.Prelude.{not}
use Rattle.vm_legal.specs.Outside.{is_file}
use Rattle.vm_model.specs.Homes.{first_of, home_in}
use Rattle.vm_model.specs.Waiting.{Copying}
use Rattle.vm_model.specs.declared.command.Command.TheVariants as command
use Rattle.vm_model.specs.declared.event.Event.TheVariants as event
use Rattle.vm_state.proofs.Bare.{next_bare}
use Rattle.vm_state.proofs.Changing.{regions_recounted}
use Rattle.vm_state.proofs.Declared.{kind_new, kinds_put, kinds_region}
use Rattle.vm_state.proofs.Files.{files_temporary, no_file}
use Rattle.vm_state.proofs.Filling.{copies_kept, copies_told, rows_unmade}
use Rattle.vm_state.proofs.Making.{regions_made}
use Rattle.vm_state.proofs.Marks.{marked_made}
use Rattle.vm_state.proofs.Places.{keeps_made}
use Rattle.vm_state.proofs.Referred.{comes_served, referred_put}
use Rattle.vm_state.proofs.Told.{knows_made, waits_known}
use Rattle.vm_state.proofs.Waited.{waits_kept}
use Rattle.vm_state.specs.Filling.{FitsCopy, IsAlone, IsSlow, filled_row}
use Rattle.vm_supply.specs.declared.woken.Woken.TheVariants as woken
use Rattle.vm_waits.specs.declared.waiting.On.TheVariants as on
use Rattle.vm_waits.specs.declared.waiting.Want.TheVariants as want
use Rattle.vm_state.specs.Passed.{IsUnmet, StaysAway}
use Rattle.vm_state.specs.Counts.{marks_of}
use Rattle.vm_kernel.proofs.space.RegionHomes.{homes_caused, homes_put}
use Rattle.vm_kernel.proofs.space.StillThin.{thin_made}
use Rattle.vm_kernel.proofs.controls.FlagsKept.{flags_temporary}
use Rattle.vm_kernel.specs.Begun.{HasBegun}
use Rattle.vm_kernel.proofs.space.PagedRegions.{paged_among}
use Rattle.vm_kernel.proofs.steps.CopyMayBegin.{MayBegin, may_begin, slow_declared}
use Rattle.vm_kernel.specs.Refusing.{is_paged}
use Rattle.vm_legal.specs.Licences.{is_paged as is_paged_for}
use Rattle.vm_model.specs.declared.script.Declared.{Declared}

-- the row of the access that begins
abbrev pub copy_row : TaskId → ℕ → ℕ → ℕ → RegionId → ObjectId → Waiting
copy_row task address pages to region target =
    record { task = task; want = want.CopyTo address pages target 0; on = on.Again; destination = Some (record { region = region; address = to }) }

-- the kernel with the region, its object and the access
abbrev with_copy : Parts → Parts → WaitTable → Parts
with_copy k k2 waits =
    record {
      alloc = k2.alloc;
      host = k.host;
      size = k.size;
      declared = k.declared;
      memory = record k.memory { objects = k2.memory.objects };
      maps = k.maps;
      chains = k2.chains;
      copies = k.copies;
      laundry = k.laundry;
      waits = waits;
    }

none_left : (b : Bool) → (b && false) ≡ false
none_left true = refl
none_left false = refl

-- a region that is put into a list of them
put_first : (n : RegionId) (row : RegionRow) (chains : ChainTable) → PutsRegion n.0 (Some row) chains (record chains { regions = (n, row) ∷ chains.regions })
put_first n row chains = record { at = at; shadows = refl }
  where
    at : (r : ℕ) → region_at (record chains { regions = (n, row) ∷ chains.regions }) r ≡ (if n.0 == r then Some row else region_at chains r)
    at r = elim (eqb_tells n.0 r) [
      | inl same ↦ let turned : (r == n.0) ≡ true = let is = same.1 in grind (arith, nat_tests) in rw (same.0, turned) refl
      | inr apart ↦ let turned : (r == n.0) ≡ false = let is = apart.1 in grind (arith, nat_tests) in rw (apart.0, turned) refl
    ]

-- a region that counts other entries is the region that was put
counts_put : (n : ℕ) (row : RegionRow) (count : ℕ) (old mid new : ChainTable) → PutsRegion n (Some row) old mid
    → PutsRegion n (Some (record row { entries = count })) old new → PutsEntries n count mid new
counts_put n row count old mid new put now =
    record {
      at = λ r. now.at r ∙ by (n == r) r (put.at r);
      shadows = now.shadows ∙ sym put.shadows;
    }
  where
    own : region_at mid n ≡ Some row
    own = put.at n ∙ ap (λ b. if b then Some row else region_at old n) (itself n)

    by : (b : Bool) (r : ℕ) → region_at mid r ≡ (if b then Some row else region_at old r)
        → (if b then Some (record row { entries = count }) else region_at old r) ≡ (if b then with_entries count (region_at mid n) else region_at mid r)
    by true r is = sym (ap (with_entries count) own)
    by false r is = sym is

module _ (header : Header) (h : ℕ) (outside : Outside) (task : TaskId) (address bytes to : ℕ) (past : List Event) (k k2 : Parts) (ids : Ids) (waits : WaitTable)
    (rests : Rests header h k ids past) (may : MayBegin header task.0 address bytes to past k ids)
    (made : MadeRange (record { 0 = ids.next_region }) (record { 0 = ids.next_object }) (bytes / header.size) 0 k k2)
    (puts : PutsEntry task.0 (Some (copy_row task address (bytes / header.size) to (record { 0 = ids.next_region }) (record { 0 = ids.next_object })))
    k.waits.rows waits.rows) where
  abbrev n : ℕ
  n = ids.next_region

  abbrev region : RegionId
  region = record { 0 = ids.next_region }

  abbrev target : ObjectId
  target = record { 0 = ids.next_object }

  abbrev pages : ℕ
  pages = bytes / header.size

  abbrev begun : Event
  begun = event.BegunCopy task address bytes to

  abbrev its : Event
  its = event.RegionMade (record { 0 = ids.next_region }) (record { 0 = ids.next_object }) (bytes / header.size)

  abbrev front : List Event
  front = event.BegunCopy task address bytes to ∷ past

  abbrev now : List Event
  now = event.RegionMade (record { 0 = ids.next_region }) (record { 0 = ids.next_object }) (bytes / header.size) ∷ event.BegunCopy task address bytes to ∷ past

  abbrev row : Waiting
  row = copy_row task address (bytes / header.size) to (record { 0 = ids.next_region }) (record { 0 = ids.next_object })

  lives : host_of task.0 past ≡ Some h
  lives = lives_here rests.matches.core.spaces.tasks may.lives

  here : lives_on h task.0 past ≡ true
  here = rests.matches.core.spaces.tasks.hosts task.0 ∙ ap is_some may.lives

  none : region_at k.chains n ≡ None
  none = region_free header h k ids past rests

  unknown : object_at k.memory.objects ids.next_object ≡ None
  unknown = object_free header h k ids past rests

  numbers : (ids.next_region ≡ next_region header past) × (ids.next_object ≡ next_object header past)
  numbers = (rests.matches.core.objects.regions.region, rests.matches.core.objects.regions.object)

  least : named header ≤ n
  least = (first_temporary header h past k ids rests).region

  -- what the rows fill now

  fills_now : (t r : ℕ) → fills_in r (entry waits.rows t) ≡ (if task.0 == t then n == r else fills_in r (entry k.waits.rows t))
  fills_now t r = ap (fills_in r) (puts.at t) ∙ by (task.0 == t)
    where
      by : (b : Bool) → fills_in r (if b then Some (row) else entry k.waits.rows t) ≡ (if b then n == r else fills_in r (entry k.waits.rows t))
      by true = refl
      by false = refl

  fills_own : fills_in n (entry waits.rows task.0) ≡ true
  fills_own = fills_now task.0 n ∙ (ap (λ b. if b then n == n else fills_in n (entry k.waits.rows task.0)) (itself task.0) ∙ itself n)

  fills_other : (t r : ℕ) → (n ≡ r → ⊥) → fills_in r (entry waits.rows t) ≡ fills_in r (entry k.waits.rows t)
  fills_other t r apart = fills_now t r ∙ elim (eqb_tells task.0 t) [
    | inl same ↦
        let other : (n == r) ≡ false = grind (arith, nat_tests) in
        ap (λ b. if b then n == r else fills_in r (entry k.waits.rows t)) same.0
        ∙ (other ∙ sym (ap (fills_in r) (ap (entry k.waits.rows) (sym same.1) ∙ may.absent)))
    | inr other ↦ ap (λ b. if b then n == r else fills_in r (entry k.waits.rows t)) other.0
  ]

  filled_now : (r : ℕ) → (n ≡ r → ⊥) → IsFilledIn k.waits.rows r → IsFilledIn waits.rows r
  filled_now r apart filled = record { task = filled.task; fills = fills_other filled.task r apart ∙ filled.fills }

  filled_was : (r : ℕ) → (n ≡ r → ⊥) → IsFilledIn waits.rows r → IsFilledIn k.waits.rows r
  filled_was r apart filled = record { task = filled.task; fills = sym (fills_other filled.task r apart) ∙ filled.fills }

  -- whoever fills the new region is the task
  fills_it : (t : ℕ) → fills_in n (entry waits.rows t) ≡ true → task.0 ≡ t
  fills_it t is = elim (eqb_tells task.0 t) [
    | inl same ↦ same.1
    | inr apart ↦
        let was : fills_in n (entry k.waits.rows t) ≡ true = sym (fills_now t n ∙ ap (λ b. if b then n == n else fills_in n (entry k.waits.rows t)) apart.0)
        ∙ is in
        absurd (let bad : false ≡ true = sym (free_unfilled n rests.used.copies none t) ∙ was in cc)
  ]

  -- the regions and objects

  own_region : region_at k2.chains n ≡ Some (filled_row target pages)
  own_region = made.region_row.at n ∙ ap (λ b. if b then Some (filled_row target pages) else region_at k.chains n) (itself n)

  homes_front : KnowsHomes header h k.chains front
  homes_front = homes_caused header outside h k.chains begun past (command.Copy task address bytes task to, may.idle) rests.matches.core.spaces.homes

  regions_front : HasRegions k.chains k.memory.objects ids (λ r. region_of header r front) (λ o. backing_of header o front) (next_region header front)
      (next_object header front) (marks_of header front)
  regions_front = rests.matches.core.objects.regions

  regions_now : HasRegions k2.chains k2.memory.objects (ids_after ids) (λ r. region_of header r now) (λ o. backing_of header o now) (next_region header now)
      (next_object header now) (marks_of header now)
  regions_now =
      let mid : ChainTable = record k.chains { regions = (region, new_region target pages) ∷ k.chains.regions } in
      let put = put_first region (new_region target pages) k.chains in
      let few : next_object header past + marks_of header front < most_objects = let room = may.marks in let number = rests.matches.core.objects.regions.object
      in let
      marks = regions_front.marks in omega (arith, room, number, marks) in
      let there = regions_made header front region target (new_region target pages) (new_object pages) pages k.chains mid k.memory.objects k2.memory.objects ids
      (next_region header past) (next_object header past) (marks_of header front)
      numbers.0 numbers.1 few (next_bare header front homes_front.1) refl refl put made.object_row regions_front in
      let counted = same_put n 0 mid k2.chains (counts_put n (new_region target pages) 0 k.chains mid k2.chains put made.region_row) in
      let marked : marks_of header now ≡ marks_of header front = marked_made header front region target pages numbers.0 in
      subst (λ (z : ℕ). HasRegions k2.chains k2.memory.objects (ids_after ids) (λ r. region_of header r now) (λ o. backing_of header o now)
      (next_region header past + 1) (next_object header past + 1) z) (sym marked)
      (regions_recounted mid k2.chains k2.memory.objects (ids_after ids) _ _ _ _ _ counted there)

  entries_now : HasEntries header.size k.maps k2.chains []
  entries_now =
      let has = rests.matches.core.spaces.entries in
      let keeps = keeps_new k.chains k2.chains n (filled_row target pages) none made.region_row in
      record {
        inside =
            λ t. rows_map (IsInside header.size k.chains) (IsInside header.size k2.chains) (λ row is. inside_kept header.size k.chains k2.chains row keeps is)
            (rows_in t k.maps) (has.inside t);
        known = tt;
        most = has.most;
        few = has.few;
        counts = λ r found_row found. elim (region_cases n (Some (filled_row target pages)) k.chains k2.chains made.region_row r) [
          | inl same ↦
              let count : 0 ≡ found_row.entries = ap (λ z. z.entries) (some_is (filled_row target pages) found_row (sym same.1 ∙ found)) in
              let nothing : count_by all_tasks r k.maps ≡ 0 = by_none all_tasks r k.maps
              (λ t. subst (λ (z : ℕ). has_entry z (rows_in t k.maps) ≡ false) same.0
              (none_leads header.size k.chains n (rows_in t k.maps) none (has.inside t))) in
              omega (arith, count, nothing)
          | inr apart ↦ has.counts r found_row (sym apart.1 ∙ found)
        ];
      }

  -- the region is in use here, and others as they were

  use_own : in_use header h n now ≡ true
  use_own = ap (λ b. if b then made_here h front else in_use header h n front) (itself n) ∙ here

  use_other : (r : ℕ) → (n ≡ r → ⊥) → in_use header h r now ≡ in_use header h r past
  use_other r apart = let other : (r == n) ≡ false = grind (arith, nat_tests) in ap (λ b. if b then made_here h front else in_use header h r front) other

  -- what tasks elsewhere hold stays
  holds_still : (t r : ℕ) → entries_in t k.maps ≡ None → holds header.size t r now ≡ holds header.size t r past
  holds_still t r away = elim (eqb_tells task.0 t) [
    | inl same ↦ absurd (elsewhere k.maps task.0 t (rows_in task.0 k.maps) may.lives away same.1)
    | inr other ↦
        ap (λ b. has_entry r (entries_of header.size t past) || fills r (if b then Some (Copying address bytes to) else waiting t past)
        (if b then Some (record { region = n; object = ids.next_object }) else (if b then None else copy_target t past))) other.0
  ]

  uses_now : HasUse header k.maps waits.rows (λ r. in_use header h r now) (tasks past) (λ t r. holds header.size t r now) (next_region header past + 1)
  uses_now =
      let m = rests.matches in
      record {
        used = λ r temporary. elim (eqb_tells n r) [
          | inl same ↦
              record {
                why = λ used. inr (record { task = task.0; fills = subst (λ (z : ℕ). fills_in z (entry waits.rows task.0) ≡ true) same.1 fills_own });
                is = λ needed. subst (λ (z : ℕ). in_use header h z now ≡ true) same.1 use_own;
              }
          | inr apart ↦
              let was = m.core.spaces.uses.used r temporary in
              let other = use_other r apart.1 in
              record {
                why = λ used. elim (was.why (sym other ∙ used)) [ inl some ↦ inl some | inr filled ↦ inr (filled_now r apart.1 filled) ];
                is = λ needed. other ∙ was.is (needed_was r apart.1 needed);
              }
        ];
        files =
            λ r file some. use_other r (λ same. no_file header n least (subst (λ (z : ℕ). is_file header z ≡ true) (sym same) file))
            ∙ m.core.spaces.uses.files r file some;
        among = m.core.spaces.uses.among;
        apart = λ t r away why. holds_still t r away ∙ m.core.spaces.uses.apart t r away (either r why);
      }
    where
      needed_was : (r : ℕ) → (n ≡ r → ⊥) → IsInUse k.maps waits.rows r → IsInUse k.maps k.waits.rows r
      needed_was r apart (inl some) = inl some
      needed_was r apart (inr filled) = inr (filled_was r apart filled)

      either : (r : ℕ) → (in_use header h r now ≡ true) ⊎ (next_region header past + 1 ≤ r) → (in_use header h r past ≡ true) ⊎ (next_region header past ≤ r)
      either r (inl used) = elim (eqb_tells n r) [
        | inl same ↦ inr (let is = same.1 in let number = numbers.0 in omega (arith, is, number))
        | inr apart ↦ inl (sym (use_other r apart.1) ∙ used)
      ]
      either r (inr high) = inr (omega (arith, high))

  -- the slow copy as the tables and the history have it

  target_now : copy_target task.0 now ≡ Some (record { region = n; object = ids.next_object })
  target_now = ap (λ b. if b then Some (record { region = n; object = ids.next_object }) else copy_target task.0 front) (itself task.0)

  next_now : next_page task.0 now ≡ 0
  next_now = ap (λ b. if b then 0 else next_page task.0 past) (itself task.0)

  alone_now : IsAlone k2.chains n ids.next_object
  alone_now =
      record {
        tops = λ q found_row found top. elim (region_cases n (Some (filled_row target pages)) k.chains k2.chains made.region_row q) [
          | inl same ↦ sym same.0
          | inr apart ↦ absurd (not_known (object_at k.memory.objects found_row.top.0) (ap (object_at k.memory.objects) top ∙ unknown)
              (rests.matches.core.objects.regions.tops q found_row (sym apart.1 ∙ found)))
        ];
        unders = λ s found_row found under.
            not_known (object_at k.memory.objects found_row.under.0) (ap (object_at k.memory.objects) under ∙ unknown)
            (rests.matches.core.objects.regions.unders s found_row (sym (ap (λ f. f s) made.region_row.shadows) ∙ found)).1;
      }
    where
      not_known : (x : Option ObjectRow) → x ≡ None → IsSome x → ⊥
      not_known None is some = let bad : false ≡ true = some in cc
      not_known (Some known) is some = let bad : Some known ≡ None = is in cc

  unmade_now : (p : ℕ) → row_at k.memory.resident ids.next_object p ≡ None
  unmade_now p = by (row_at k.memory.resident ids.next_object p) refl
    where
      by : (x : Option PageRow) → row_at k.memory.resident ids.next_object p ≡ x → row_at k.memory.resident ids.next_object p ≡ None
      by None is = is
      by (Some page) is =
          let refers = rests.referred.pages ids.next_object p page is in absurd (let bad : None ≡ Some refers.row = sym unknown ∙ refers.known in cc)

  slow_now : IsSlow header k.maps k2.chains k.memory.resident task.0 address pages target 0 (Some (record { region = region; address = to }))
      (next_page task.0 now) (copy_target task.0 now)
  slow_now =
      record {
        to = record { region = region; address = to };
        goes = refl;
        next = next_now;
        made = target_now;
        region = own_region;
        alone = alone_now;
        range = may.copied;
        place = may.place;
        unmade = λ p low. unmade_now p;
      }

  -- the others are as they were
  told_still : (t : ℕ) → (task.0 ≡ t → ⊥) → (next_page t now ≡ next_page t past) × (copy_target t now ≡ copy_target t past)
  told_still t apart =
      let other : (task.0 == t) ≡ false = grind (arith, nat_tests) in (
        ap (λ b. if b then 0 else next_page t past) other,
        ap (λ b. if b then Some (record { region = n; object = ids.next_object }) else (if b then None else copy_target t past)) other,
      )

  not_waiting : (t : ℕ) (w : Waiting) → entry k.waits.rows t ≡ Some w → task.0 ≡ t → ⊥
  not_waiting t w found same = let bad : None ≡ Some w = sym may.absent ∙ (ap (entry k.waits.rows) same ∙ found) in cc

  used_now : AllUsed header k.maps k2.chains k.memory.resident waits.rows (λ t. next_page t now) (λ t. copy_target t now)
  used_now =
      let kept = copies_told
      (copies_kept k.maps k.maps k.chains k2.chains k.memory.resident k.memory.resident rests.used.copies (λ t w found. record { size = refl; entries = refl })
      (put_filled n (filled_row target pages) k.chains k2.chains none made.region_row
      (unknown_unfilled k.chains k.memory.objects ids.next_object rests.matches.core.objects.regions.tops unknown)) (rows_unmade k.chains k.memory.resident))
      (λ t w found. told_still t (not_waiting t w found)) in
      record {
        regions = λ r found_row found. elim (region_cases n (Some (filled_row target pages)) k.chains k2.chains made.region_row r) [
          | inl same ↦ inr (record { task = task.0; fills = subst (λ (z : ℕ). fills_in z (entry waits.rows task.0) ≡ true) same.0 fills_own })
          | inr apart ↦ elim (rests.used.regions r found_row (sym apart.1 ∙ found)) [ inl some ↦ inl some | inr filled ↦ inr (filled_now r apart.0 filled) ]
        ];
        copies = record {
          each = λ t w found. puts_cases task.0 t (Some row) k.waits.rows waits.rows w puts found
              (λ same is. subst (λ (z : ℕ). FitsCopy header k.maps k2.chains k.memory.resident z w.want w.destination (next_page z now) (copy_target z now))
              same
              (subst (λ (z : Waiting). FitsCopy header k.maps k2.chains k.memory.resident task.0 z.want z.destination (next_page task.0 now)
              (copy_target task.0 now)) (some_is row w is) slow_now))
              (λ apart was. kept.each t w was);
          apart = λ t u r one two. elim (eqb_tells n r) [
            | inl same ↦
                let first = fills_it t (subst (λ (z : ℕ). fills_in z (entry waits.rows t) ≡ true) (sym same.1) one) in
                let second = fills_it u (subst (λ (z : ℕ). fills_in z (entry waits.rows u) ≡ true) (sym same.1) two) in
                sym first ∙ second
            | inr other ↦ kept.apart t u r (sym (fills_other t r other.1) ∙ one) (sym (fills_other u r other.1) ∙ two)
          ];
        };
      }

  -- the new region is on the host, and so is its object

  home_now : home_of n now ≡ Some h
  home_now =
      let none : home_of n past ≡ None = rests.matches.core.spaces.homes.1.regions n (let number = numbers.0 in omega (arith, number)) in
      ap (λ b. if b then first_of (home_of n past) (host_of task.0 past) else home_of n past) (itself n)
      ∙ (ap (λ z. first_of z (host_of task.0 past)) none ∙ lives)

  object_now : object_home ids.next_object now ≡ Some h
  object_now =
      let none = rests.matches.core.spaces.homes.1.objects ids.next_object (let number = numbers.1 in omega (arith, number)) in
      ap (home_in (λ r. home_of r now)) (region_made region target pages front none) ∙ home_now

  -- the access waits, and is to be run

  waits_now : HasWaiters k.maps k2.chains k.copies k.memory.resident k2.memory.objects waits.rows (is_woken woken.Nobody) (λ t. waiting t now)
      (StaysAway header h now)
      (IsUnmet header h now)
  waits_now =
      let sized = rests.matches.core.spaces.tasks.sized in
      let before = waits_known k.maps k2.chains k.memory.resident k.memory.objects k2.memory.objects k.waits.rows (is_woken woken.Nobody) (λ t. waiting t past)
      (waits_kept k.maps k.maps k.chains k2.chains k.memory.resident k.memory.objects k.waits.rows (is_woken woken.Nobody) (λ t. waiting t past) rests.waits
      (λ t w found. record { size = refl; entries = refl })
      (keeps_made k.chains k2.chains n (filled_row target pages) none made.region_row) rests.waits.is)
      (knows_made k.memory.objects k2.memory.objects ids.next_object (new_object pages) unknown made.object_row) in
      let at : address + 0 * k.maps.size ≡ address = omega arith in
      let all : pages * k.maps.size ≡ bytes = ap (λ z. pages * z) sized ∙ may.whole in
      waits_added k.maps k2.chains k.memory.resident k2.memory.objects k.waits.rows waits.rows row (λ t. waiting t past) (λ t. waiting t now) before puts
      may.absent refl
      (subst (λ (z : ℕ). IsAllowed k.maps task.0 z need.Load) (sym at) may.allowed)
      (subst (λ (z : ℕ). address % z ≡ 0) (sym sized) may.even, may.some, (let end = may.below in omega (arith, all, end)))
      (λ t. ap (λ (z : ℕ). if task.0 == t then Some (Copying address z to) else waiting t past) (sym all))

  order_now : waits.rows ≡ k.waits.rows ++ row ∷ [] → IsLined past → BeganInOrder (λ t. begun_at t now) 0 waits.rows
  order_now pushed lined =
      subst (λ (z : List Waiting). BeganInOrder (λ t. begun_at t now) 0 z) (sym pushed)
      (begun_order (λ t. begun_at t past) (λ t. begun_at t now) row (length past) 0 k.waits.rows may.absent (λ t. refl) (λ t. lined_below t past lined)
      (omega arith) rests.order)

  -- the kernel behind both events

  matches_now : Matches header h (with_copy k k2 waits) (ids_after ids) [] now
  matches_now =
      let m = rests.matches in
      let temporary = first_temporary header h past k ids rests in
      let high : next_object header past ≤ ids.next_object = let number = numbers.1 in omega (arith, number) in
      let copied_now = copied_made ids.next_object (new_object pages) k2.memory.objects unknown made.object_row made.region_row.shadows
      (unmade_plain ids.next_object past (m.core.spaces.homes.1.objects ids.next_object high))
      (made_no_newest header ids.next_object past m.core.spaces.homes.1 high) (λ o shadow found. (m.core.objects.regions.unders o shadow found).1)
      m.core.copied in
      record {
        core = record {
          setting = m.core.setting;
          calm = m.core.calm;
          fits = record {
            parts = fit_range k.memory k2.memory.objects k.chains ids.next_object (new_object pages) m.core.fits.parts rests.referred unknown
                made.object_row;
            plain = m.core.fits.plain;
            buffers = m.core.fits.buffers;
          };
          spaces = record {
            tasks = m.core.spaces.tasks;
            entries = entries_now;
            shared = m.core.spaces.shared;
            uses = uses_now;
            homes = homes_put header h k.chains k2.chains n (filled_row target pages) now made.region_row.at (λ paged. home_now)
                (homes_caused header outside h k.chains its front (command.Copy task address bytes task to, numbers) homes_front);
          };
          objects = record {
            regions = regions_now;
            kinds = kinds_region header n (filled_row target pages) k2.memory.objects k.chains k2.chains made.region_row (λ is. temporary.object)
                (kinds_put header ids.next_object (new_object pages) k.memory.objects k2.memory.objects k.chains made.object_row made.marks
                (kind_new header ids.next_object (new_object pages) pages temporary.object refl) m.core.objects.kinds);
            files = λ o file.
                ap (is_on h) (home_made o region target pages front (λ same. no_file header n least
                (subst (λ (z : ℕ). is_file header z ≡ true) (sym same) file)))
                ∙ files_temporary header h ids.next_object (Some (new_object pages)) k.memory.objects k2.memory.objects (λ z. home_of z past) temporary.object
                made.object_row m.core.objects.files o file;
            sizes = sizes_made header front (named header) region target pages (new_object pages) k.memory.objects k2.memory.objects made.object_row may.short
                refl m.core.objects.sizes;
            undelayed = declared_made header front region target pages temporary.object m.core.objects.undelayed;
          };
          copied = record { known = copied_now.known; fits = copied_now.fits };
          controls =
              controls_made k.memory.objects k2.memory.objects (λ o. last_control h o past) (λ o. live_control h o past) (λ o. is_ready h o past)
              ids.next_object
              pages m.core.controls unknown made.object_row
              (λ o is. objects_stay o h (its ∷ begun ∷ []) past is) object_now;
          flags = flags_temporary ids.next_object (Some (new_object pages)) temporary.object made.object_row m.core.flags;
          pages = pages_known_so made.marks m.core.pages;
        };
        settled = record { none_owed = refl; shut = λ r. none_left (r == n) };
        replied = replied_behind tt (replied_behind tt m.replied);
      }

  pub works_now : waits.rows ≡ k.waits.rows ++ row ∷ [] → IsLined past → Works header h (with_copy k k2 waits) (ids_after ids) woken.Nobody now
  works_now pushed lined =
      record {
        matches = matches_now;
        used = used_now;
        referred =
            referred_put ids.next_object (new_object pages) n (Some (filled_row target pages)) k.chains k2.chains k.memory.objects k2.memory.objects
            k.memory.resident made.region_row made.object_row (omega arith) (comes_served unknown)
            rests.referred;
        thin =
            thin_made ids.next_object (new_object pages) k.chains k2.chains k.memory.objects k2.memory.objects rests.matches.core.objects.regions.unders
            (λ o shadow found. sym (ap (λ f. f o) made.region_row.shadows) ∙ found) unknown made.object_row rests.thin;
        waits = waits_now;
        order = order_now pushed lined;
      }

  -- both events are the host's, and the head of their command

  heads_now : Heads header h outside (command.Copy task address bytes task to) past (its ∷ begun ∷ [])
  heads_now =
      let fine = suffices header h k.memory.frames past rests.matches.core.pages.counted in
      heads_more header h outside (command.Copy task address bytes task to) past (begun ∷ []) its
      (heads_one header h outside (command.Copy task address bytes task to) past begun
      (record {
        settled = rests.matches.settled;
        cause = may.idle;
        own_bytes = tt;
        frames = fine;
        inner = tt;
        said = tt;
        own = own_task h task.0 past here;
        creates = tt;
      }))
      (record {
        settled = record { none_owed = refl; shut = λ r. refl };
        cause = numbers;
        own_bytes = tt;
        frames = fine;
        inner = tt;
        said = tt;
        own = own_task h task.0 past here;
        creates = tt;
      })

  head_now : head header past (command.Copy task address bytes task to) ≡ Some (begun ∷ its ∷ [])
  head_now =
      let both = slow_declared header may.row.region.0 may.slow in
      let there : entry_at address (entries_of header.size task.0 past) ≡ Some may.row = ap (entry_at address)
      (rows_here rests.matches.core.spaces.tasks may.lives)
      ∙ may.found in
      ap (copy_head header (next_region header past) (next_object header past) task address bytes task to) there
      ∙ (ap (λ b. Some (if b then begun ∷ event.RegionMade (record { 0 = next_region header past }) (record { 0 = next_object header past }) pages ∷ [] else
      copied_late (is_file header may.row.region.0) (next_region header past) (next_object header past) may.row.region
      (page_at header.size address may.row) pages
      ∷ event.Entered task to bytes (record { 0 = next_region header past }) 0 (record { read = true; write = true }) Copy ∷ []))
      (ap (λ b. nat_lt may.row.region.0 (named header) && not b) both.1 ∙ ap (λ b. b && not false) both.0)
      ∙ rw (← numbers.0, ← numbers.1) refl)

  pub grows_now : Grows header h outside (command.Copy task address bytes task to) past (its ∷ begun ∷ [])
  grows_now = grows_head header h outside (command.Copy task address bytes task to) past (its ∷ begun ∷ []) (begun ∷ its ∷ []) head_now refl heads_now

-- what the code did is that
pub record BeginsCopy (doing : Command) (task : TaskId) (address bytes to pages : ℕ) (k k2 : Parts) (ids : Ids) (before mid log : List Event)
    (reserved waits : WaitTable) : Type 0 where
  pub is : doing ≡ command.Copy task address bytes task to
  pub pages_are : pages ≡ bytes / k.size
  pub made : MadeRange (record { 0 = ids.next_region }) (record { 0 = ids.next_object }) pages 0 (record k { waits = reserved }) k2
  pub rows : reserved.rows ≡ k.waits.rows
  pub told : mid ≡ event.BegunCopy task address bytes to ∷ before
  pub region_told : log ≡ event.RegionMade (record { 0 = ids.next_region }) (record { 0 = ids.next_object }) pages ∷ mid
  pub puts : PutsEntry task.0 (Some (copy_row task address pages to (record { 0 = ids.next_region }) (record { 0 = ids.next_object }))) k2.waits.rows waits.rows
  pub pushed : waits.rows ≡ k2.waits.rows ++ copy_row task address pages to (record { 0 = ids.next_region }) (record { 0 = ids.next_object }) ∷ []

pub has_begun : {doing : Command} {task : TaskId} {address bytes to pages : ℕ} {k k2 : Parts} {ids : Ids} {before mid log : List Event}
    {reserved waits : WaitTable} (header : Header) (h : ℕ) (outside : Outside) (past : List Event)
    → Starts header h doing past k ids before
    → ((row : Entry) → entry_at address (rows_in task.0 k.maps) ≡ Some row → is_paged k.declared.items row.region.0 ≡ false)
    → InOrder 0 (2 ^ 32) (rows_in task.0 k.maps)
    → BeginsCopy doing task address bytes to pages k k2 ids before mid log reserved waits
    → HasBegun header h outside doing past (record k2 { waits = waits }) (ids_after ids) log
has_begun {doing = doing} {task = task} {address = address} {bytes = bytes} {to = to} {pages = pages} {k = k} {k2 = k2} {ids = ids} {before = before}
    {mid = mid} {log = log} {reserved = reserved} {waits = waits} header h outside past starts declared order b =
    let s : Starts header h (command.Copy task address bytes task to) past k ids before = subst (λ (z : Command). Starts header h z past k ids before) b.is
    starts in
    let may = may_begin header h task address bytes to past k ids before s declared order in
    let region : RegionId = record { 0 = ids.next_region } in
    let target : ObjectId = record { 0 = ids.next_object } in
    let whole : pages ≡ bytes / header.size = b.pages_are ∙ ap (λ z. bytes / z) s.rests.matches.core.setting.sized in
    let k3 : Parts = record k2 { waits = k.waits } in
    let made : MadeRange region target (bytes / header.size) 0 k k3 =
    subst (λ (z : ℕ). MadeRange region target z 0 k k3) whole
    (record {
      host = b.made.host;
      size = b.made.size;
      declared = b.made.declared;
      copied = b.made.copied;
      memory = b.made.memory;
      maps = b.made.maps;
      laundry = b.made.laundry;
      waits = refl;
      region_row = b.made.region_row;
      object_row = b.made.object_row;
      marks = b.made.marks;
    }) in
    let rows : k2.waits.rows ≡ k.waits.rows = ap (λ z. z.rows) b.made.waits ∙ b.rows in
    let puts : PutsEntry task.0 (Some (copy_row task address (bytes / header.size) to region target)) k.waits.rows waits.rows =
    subst (λ (z : ℕ). PutsEntry task.0 (Some (copy_row task address z to region target)) k.waits.rows waits.rows) whole
    (subst (λ (z : List Waiting). PutsEntry task.0 (Some (copy_row task address pages to region target)) z waits.rows) rows b.puts) in
    let pushed : waits.rows ≡ k.waits.rows ++ copy_row task address (bytes / header.size) to region target ∷ [] =
    b.pushed ∙ (ap (λ z. z ++ copy_row task address pages to region target ∷ []) rows
    ∙ ap (λ (z : ℕ). k.waits.rows ++ copy_row task address z to region target ∷ []) whole) in
    let events : List Event = event.RegionMade region target (bytes / header.size) ∷ event.BegunCopy task address bytes to ∷ [] in
    let told : log ≡ events =
    b.region_told ∙ (ap (λ (z : ℕ). event.RegionMade region target z ∷ mid) whole
    ∙ ap (λ (z : List Event). event.RegionMade region target (bytes / header.size) ∷ z)
    (b.told ∙ ap (λ (z : List Event). event.BegunCopy task address bytes to ∷ z) s.nothing)) in
    let same : record k2 { waits = waits } ≡ with_copy k k3 waits =
    λ i. record {
      alloc = k2.alloc;
      host = b.made.host i;
      size = b.made.size i;
      declared = b.made.declared i;
      memory = b.made.memory i;
      maps = b.made.maps i;
      chains = k2.chains;
      copies = b.made.copied i;
      laundry = b.made.laundry i;
      waits = waits;
    } in
    record {
      works = subst (λ (z : List Event). Works header h (record k2 { waits = waits }) (ids_after ids) woken.Nobody (z ++ past)) (sym told)
          (subst (λ (z : Parts). Works header h z (ids_after ids) woken.Nobody (events ++ past)) (sym same)
          (works_now header h outside task address bytes to past k k3 ids waits s.rests may made puts pushed s.begins));
      grows = subst (λ (z : Command). Grows header h outside z past log) (sym b.is)
          (subst (λ (z : List Event). Grows header h outside (command.Copy task address bytes task to) past z) (sym told)
          (grows_now header h outside task address bytes to past k k3 ids waits s.rests may made puts));
      done = λ events. subst (λ (z : Command). IsDoneInTurn header z events past) (sym b.is) tt;
    }

-- its task has no row yet, and there are regions left
pub copy_absent : {doing : Command} {task : TaskId} {address bytes to : ℕ} {k : Parts} {ids : Ids} {before : List Event} (header : Header) (h : ℕ)
    (past : List Event) → doing ≡ command.Copy task address bytes task to → Starts header h doing past k ids before
    → ((row : Entry) → entry_at address (rows_in task.0 k.maps) ≡ Some row → is_paged k.declared.items row.region.0 ≡ false)
    → InOrder 0 (2 ^ 32) (rows_in task.0 k.maps) → (entry k.waits.rows task.0 ≡ None) × (ids.next_region < most_regions)
copy_absent {task = task} {address = address} {bytes = bytes} {to = to} {k = k} {ids = ids} {before = before} header h past is starts declared order =
    let may = may_begin header h task address bytes to past k ids before (subst (λ (z : Command). Starts header h z past k ids before) is starts) declared
    order in
    (may.absent, may.regions)

-- nobody has run yet
pub copy_quiet : {old new : List TaskId} {before mid after : List Event} {task : TaskId} {address bytes to count : ℕ} {made : RegionId} {over : ObjectId}
    → new ≡ old → mid ≡ event.BegunCopy task address bytes to ∷ before → after ≡ event.RegionMade made over count ∷ mid
    → QueueIsStill old new before after
copy_quiet {count = count} {made = made} {over = over} queue told region_told =
    record {
      queue = queue;
      none = λ all. subst (EachOf RunsNone) (sym (region_told ∙ ap (λ (z : List Event). event.RegionMade made over count ∷ z) told))
          (tt, (tt, all));
    }

-- a copy that isn't delayed is to the task itself

pub copy_slow : (address : ℕ) (place : Place) (k : Parts) (rows : List Entry)
    → ((entry : Entry) → entry_at address rows ≡ Some entry → place ≡ place_at k.maps.size address entry)
    → is_paged k.declared.items place.region.0 ≡ false
    → (own : Entry) → entry_at address rows ≡ Some own → is_paged k.declared.items own.region.0 ≡ false
copy_slow address place k rows is slow own found = sym (ap (λ (z : Place). is_paged k.declared.items z.region.0) (is own found)) ∙ slow

pub copy_target_own : {header : Header} {h : ℕ} {task : TaskId} {address bytes : ℕ} {target : TaskId} {to : ℕ} {past : List Event} {k : Parts} {ids : Ids}
    {before : List Event} (place : Place) → Starts header h (command.Copy task address bytes target to) past k ids before
    → ((entry : Entry) → entry_at address (rows_in task.0 k.maps) ≡ Some entry → place ≡ place_at k.maps.size address entry)
    → is_paged k.declared.items place.region.0 ≡ false → target ≡ task
copy_target_own {header = header} {h = h} {task = task} {address = address} {bytes = bytes} {target = target} {to = to} {past = past} {k = k} {ids = ids}
    {before = before} place s is slow =
    let p = may_place header h task address bytes target to past k ids before s in
    let r = p.entry.region.0 in
    let late : is_paged_for header r ≡ false =
    sym (ap (λ (z : List Declared). is_paged z r) s.rests.matches.core.setting.objects ∙ paged_among header r)
    ∙ copy_slow address place k (rows_in task.0 k.maps) is slow p.entry p.found in
    let there : entry_at address (entries_of header.size task.0 past) ≡ Some p.entry = ap (entry_at address)
    (rows_here s.rests.matches.core.spaces.tasks p.lives)
    ∙ p.found in
    let own = (to_itself header past task address bytes target to p.entry s.accepted there).1 late in
    let same : target.0 ≡ task.0 = grind (arith, nat_tests) in
    λ i. record { 0 = same i }

-- nobody has run where a symmetric copy is made
pub entered_quiet : {task : TaskId} {source : RegionId} {offset : ℕ} {range : Entry} {old new : Parts} {ids ids2 : Ids} {before after : List Event}
    → EntersCopy task source offset range old new ids ids2 before after → QueueIsStill old.waits.queue new.waits.queue before after
entered_quiet entered = record { queue = ap (λ z. z.queue) entered.waits; none = λ all. subst (EachOf RunsNone) (sym entered.told) (tt, (tt, all)) }
