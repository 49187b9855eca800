-- Commands that change a task's entries, from their beginning to their end.
use Rattle.vm_kernel.proofs.Common.{Access, AllReferred, AllRows, AllUsed, ChainTable, ChangesOnly, Code, Entry, Event, HasEntries, HasUse, HasWaiters, Header}
use Rattle.vm_kernel.proofs.Common.{Ids, Inherit, IsInside, IsShared, KnowsHomes, List, MapChange, Mapped, None, Option, Outside, Parts, Prot, Raised, Ran}
use Rattle.vm_kernel.proofs.Common.{RegionRow, Rests, Some, Starts, TaskId, Waiting, [], acting, all_tasks, ap, arith, code_where, copy_target, count_by}
use Rattle.vm_kernel.proofs.Common.{count_on, cut_at_ends, entries_in, entries_in_row, entries_of, entry, eqb_tells, false, fills, has_entry, has_region, holds}
use Rattle.vm_kernel.proofs.Common.{host_of, if◌then◌else◌, in_use, inheritance, inherited, inl, inr, is_copied, is_none, is_range, is_some, is_woken}
use Rattle.vm_kernel.proofs.Common.{meets_uncopied, most_entries, next_page, next_region, not-false, protected, protection, refl, region_at}
use Rattle.vm_kernel.proofs.Common.{region_entries, removed, rows_in, rows_map, subst, suc, sym, tasks, true, unwrap_or, waiting, waiting_in, zero, ℕ, ◌&&◌}
use Rattle.vm_kernel.proofs.Common.{◌*◌, ◌+◌, ◌-◌, ◌<◌, ◌==◌, ◌^◌, ◌||◌, ◌∙◌, ◌∷◌, ◌≡◌, ◌≤◌}
use Rattle.vm_kernel.proofs.space.RegionsFilled.{recount_filled, same_waiting}
use Rattle.vm_state.proofs.Filling.{copies_kept, rows_unmade}
use Rattle.std.proofs.Common.{not}
use Rattle.std.proofs.lemmas.Bool.{or_parts}
use Rattle.vm_base.specs.Entries.{is_mapped}
use Rattle.vm_base.specs.declared.code.Code.TheVariants as code
use Rattle.vm_legal.specs.Refusal.{are_too_many}
use Rattle.vm_model.specs.declared.event.Event.TheVariants as event
use Rattle.vm_model.specs.declared.command.Command.TheVariants as command
use Rattle.vm_supply.specs.declared.woken.Woken.TheVariants as woken
use Rattle.vm_kernel.proofs.space.EntriesCounted.{by_changed, by_few, most_is}
use Rattle.vm_kernel.proofs.space.EntriesCut.{Cuts, MayCut, inherit_cuts, may_cut, protect_cuts}
use Rattle.vm_kernel.proofs.steps.EventsGrow.{suffices}
use Rattle.vm_kernel.proofs.steps.HeadAlone.{grows_one}
use Rattle.vm_legal.proofs.Heads.{passed}
use Rattle.vm_kernel.proofs.space.CountsChanged.{raised_recounts}
use Rattle.vm_kernel.proofs.space.RegionRows.{region_row, tops_recounted}
use Rattle.vm_kernel.proofs.space.EntriesRewritten.{entries_changed, lives_below, objects_recounted, on_among, recount_homes, recount_referred, recount_used}
use Rattle.vm_kernel.proofs.space.EntriesRewritten.{tasks_changed}
use Rattle.vm_kernel.proofs.space.RegionsInUse.{holds_rows, uses_same}
use Rattle.vm_state.proofs.Waited.{told_changed, waits_changed}
use Rattle.vm_kernel.proofs.abroad.OwnEvents.{own_task}
use Rattle.vm_kernel.proofs.abroad.OwnHost.{lives_in, rows_here}
use Rattle.vm_kernel.proofs.space.SharedEntries.{shared_changed, shared_inherited, shared_protected}
use Rattle.vm_kernel.proofs.controls.LockReplied.{replied_behind}
use Rattle.vm_state.specs.Passed.{IsUnmet, StaysAway}
use Rattle.vm_kernel.proofs.space.CopiesEnd.{copied_chains}
use Rattle.vm_kernel.specs.Matches.{Copied, Core, Objects, control_facts, memory_facts, object_facts, space_facts}
use Rattle.vm_kernel.proofs.space.StillThin.{thin_chains}
use Rattle.vm_merge.specs.Merges.{IsThin}

-- how many entries lead to a region

by_most : (n r task : ℕ) (maps : Mapped) → task < n → count_on r (rows_in task maps) ≤ count_by n r maps
by_most zero r task maps less = absurd (omega arith)
by_most (suc n) r task maps less = elim (eqb_tells n task) [
  | inl same ↦ subst (λ (z : ℕ). count_on r (rows_in z maps) ≤ count_by (suc n) r maps) same.1 (omega arith)
  | inr apart ↦ let later = by_most n r task maps (let other = apart.1 in grind arith) in omega arith
]

counted : (size task : ℕ) (maps : Mapped) (cs : ChainTable) (lost : List Entry) → HasEntries size maps cs lost → entries_in task maps ≡ Some (rows_in task maps)
    → (r : ℕ) → has_region cs r ≡ true → count_on r (rows_in task maps) ≤ region_entries cs r
counted size task maps cs lost has lives r there =
    let row = region_row cs r there in
    let counts = has.counts r row.0 row.1 in
    let is = ap entries_in_row row.1 in
    let most = by_most all_tasks r task maps (lives_below size task maps cs lost has lives) in
    omega arith

pub entries_few : (size : ℕ) (maps : Mapped) (cs : ChainTable) → HasEntries size maps cs [] → (r : ℕ) → region_entries cs r < 2 ^ 32 - 2
entries_few size maps cs has r = go (region_at cs r) refl
  where
    go : (x : Option RegionRow) → region_at cs r ≡ x → entries_in_row x < 2 ^ 32 - 2
    go None is = omega arith
    go (Some row) is =
        let counts = has.counts r row is in
        let few : count_by all_tasks r maps ≤ 1024 * 256 = subst (λ (z : ℕ). count_by all_tasks r maps ≤ z * 256) most_is
        (by_few all_tasks r most_entries maps has.few) in
        omega arith

pub lives_as : (task : ℕ) (maps : Mapped) (rows : List Entry) → entries_in task maps ≡ Some rows → (rows_in task maps ≡ rows)
    × (entries_in task maps ≡ Some (rows_in task maps))
lives_as task maps rows is = let same : rows_in task maps ≡ rows = ap (λ z. unwrap_or z []) is in (same, is ∙ ap Some (sym same))

-- the task of a command that acts has no access that waits

pub acts : (task : ℕ) (past : List Event) (later : Option Code) → acting past task later ≡ None → waiting task past ≡ None
acts task past later accepted =
    go (waiting task past) (passed (is_some (waiting task past)) code.Blocked later
    (passed (is_none (host_of task past)) code.NoSuchName (code_where (is_some (waiting task past)) code.Blocked later) accepted).1).0
  where
    go : (x : Option Access) → is_some x ≡ false → x ≡ None
    go None is = refl
    go (Some access) bad = absurd (let no : true ≡ false = bad in cc)

no_row : (size : ℕ) (x : Option Waiting) → waiting_in size x ≡ None → x ≡ None
no_row size None is = refl
no_row size (Some w) bad = absurd (let no : waiting_in size (Some w) ≡ None = bad in cc)

pub not_there : (header : Header) (h : ℕ) (past : List Event) (k : Parts) (ids : Ids) (task : ℕ) (rows : List Entry) → Rests header h k ids past
    → entries_in task k.maps ≡ Some rows → waiting task past ≡ None → entry k.waits.rows task ≡ None
not_there header h past k ids task rows rests lives none = no_row k.maps.size (entry k.waits.rows task) (sym (rests.waits.is task (ap is_some lives)) ∙ none)

none_among : (r : ℕ) (rows made : List Entry) → AllRows (λ row. has_entry row.region.0 rows ≡ true) made → count_on r rows ≡ 0 → count_on r made ≡ 0
none_among r rows made own none = by (count_on r made) refl
  where
    by : (n : ℕ) → count_on r made ≡ n → n ≡ 0
    by zero is = refl
    by (suc n) is = let some = on_among r rows made own (omega arith) in absurd (omega (arith, some, none))

-- regions count what was made, and what was lost, in place of what there was

pub record Changed (header : Header) (h : ℕ) (past : List Event) (k : Parts) (ids : Ids) (maps : Mapped) (chains : ChainTable) (lost : List Entry) : Type 0
  where
    pub objects : Objects header h chains k.memory.objects ids (object_facts header past)
    pub copied : Copied k.copies k.memory chains (object_facts header past) (memory_facts header h past).pushed
    pub entries : HasEntries header.size maps chains lost
    pub homes : KnowsHomes header h chains past
    pub used : AllUsed header maps chains k.memory.resident k.waits.rows (λ t. next_page t past) (λ t. copy_target t past)
    pub referred : AllReferred chains k.memory.objects k.memory.resident
    pub thin : IsThin k.copies chains k.memory.objects
    pub waits : HasWaiters maps chains k.copies k.memory.resident k.memory.objects k.waits.rows (is_woken woken.Nobody) (λ t. waiting t past)
        (StaysAway header h past)
        (IsUnmet header h past)

pub changed_by : (header : Header) (h : ℕ) (past : List Event) (k : Parts) (ids : Ids) (maps : Mapped) (chains : ChainTable) (task : ℕ)
    (rows : Option (List Entry)) (lost more : List Entry) → Rests header h k ids past → waiting task past ≡ None
    → ChangesOnly k.maps maps task rows → entries_in task k.maps ≡ Some (rows_in task k.maps)
    → Cuts header.size k.chains (rows_in task k.maps) (unwrap_or rows []) lost more → Raised more k.chains chains
    → Changed header h past k ids maps chains lost
changed_by header h past k ids maps chains task rows lost more rests idle changes lives cuts up =
    let m = rests.matches in
    let old = rows_in task k.maps in
    let is = raised_recounts more k.chains chains up in
    record {
      objects = objects_recounted count is m.core.objects;
      copied = copied_chains up.shadows m.core.copied;
      entries =
          entries_changed header.size task k.maps maps k.chains chains count rows lost m.core.spaces.entries changes lives is
          (λ r there. let sum = cuts.sums r in omega arith) cuts.inside cuts.known cuts.few;
      homes = recount_homes count header h k.chains chains past is m.core.spaces.homes;
      used = record {
        regions = recount_used count k.chains chains is (λ r there some. omega arith) k.waits.rows rests.used.regions;
        copies =
            copies_kept k.maps maps k.chains chains k.memory.resident k.memory.resident rests.used.copies
            (same_waiting k.maps maps task rows k.waits.rows changes (not_there header h past k ids task old rests lives idle))
            (recount_filled count k.chains chains is none_counted) (rows_unmade k.chains k.memory.resident);
      };
      referred = recount_referred count k.chains chains k.memory.objects k.memory.resident is rests.referred;
      thin = thin_chains k.chains chains k.memory.objects up.shadows rests.thin;
      waits =
          waits_changed k.maps maps k.chains chains k.memory.resident k.memory.objects k.waits.rows (is_woken woken.Nobody) (λ t. waiting t past) task rows
          rests.waits changes (not_there header h past k ids task old rests lives idle) (tops_recounted count k.chains chains is)
          (told_changed k.maps maps k.waits.rows (λ t. waiting t past) task old rows rests.waits.is changes lives);
    }
  where
    count : ℕ → ℕ
    count r = region_entries k.chains r + count_on r more

    -- a region without entries has none of the new ones
    none_counted : (r : ℕ) → has_region k.chains r ≡ true → region_entries k.chains r ≡ 0 → count r ≡ 0
    none_counted r there none =
        let had : count_on r (rows_in task k.maps) ≤ region_entries k.chains r = counted header.size task k.maps k.chains [] rests.matches.core.spaces.entries
        lives r
        there in
        let made_none = none_among r (rows_in task k.maps) (unwrap_or rows []) cuts.own (omega (arith, had, none)) in
        let lost_none = none_among r (rows_in task k.maps) lost cuts.gone (omega (arith, had, none)) in
        omega (arith, cuts.sums r, had, none, made_none, lost_none)

-- a region is in use as long as before where no entry on it is new, and after where none goes

pub uses_fewer : (size task r : ℕ) (maps new : Mapped) (cs : ChainTable) (rows : Option (List Entry)) → HasEntries size maps cs []
    → ChangesOnly maps new task rows → entries_in task maps ≡ Some (rows_in task maps)
    → AllRows (λ row. has_entry row.region.0 (rows_in task maps) ≡ true) (unwrap_or rows []) → 0 < count_by all_tasks r new → 0 < count_by all_tasks r maps
uses_fewer size task r maps new cs rows has changes lives own some = by_count (count_on r (unwrap_or rows [])) refl
  where
    below : task < all_tasks
    below = lives_below size task maps cs [] has lives

    by_count : (n : ℕ) → count_on r (unwrap_or rows []) ≡ n → 0 < count_by all_tasks r maps
    by_count zero is = let moved = by_changed all_tasks r task maps new rows below changes in omega arith
    by_count (suc n) is =
        let had = on_among r (rows_in task maps) (unwrap_or rows []) own (omega arith) in
        let most = by_most all_tasks r task maps below in
        omega arith

pub uses_kept : (header : Header) (h : ℕ) (past : List Event) (k : Parts) (ids : Ids) (maps : Mapped) (task : ℕ) (two more : List Entry)
    → Rests header h k ids past → ChangesOnly k.maps maps task (Some two) → entries_in task k.maps ≡ Some (rows_in task k.maps)
    → Cuts header.size k.chains (rows_in task k.maps) two [] more → (own : ℕ → List Entry)
    → HasUse header maps k.waits.rows (λ r. in_use header h r past) (tasks past) (λ t r. has_entry r
    (if task == t then own t else entries_of header.size t past) || fills r (waiting t past) (copy_target t past)) (next_region header past)
uses_kept header h past k ids maps task two more rests changes lives cuts own =
    let m = rests.matches in
    uses_same header k.maps maps (λ r. in_use header h r past) (tasks past) (λ t r. holds header.size t r past) _ (next_region header past) task two
    m.core.spaces.uses
    changes lives
    (λ r some. let moved = by_changed all_tasks r task k.maps maps (Some two) (lives_below header.size task k.maps k.chains [] m.core.spaces.entries lives)
    changes in let sum = cuts.sums r in omega arith)
    (λ r some. uses_fewer header.size task r k.maps maps k.chains (Some two) m.core.spaces.entries changes lives cuts.own some)
    (λ t r none. holds_rows header.size task t r k.maps (rows_in task k.maps) (own t) past lives none)

-- the entries of a task are what a function makes of them
core_rewritten : {header : Header} {h : ℕ} {past : List Event} {k : Parts} {ids : Ids} {maps : Mapped} {chains : ChainTable} {more : List Entry} (task : ℕ)
    (f : List Entry → List Entry) → Rests header h k ids past → Changed header h past k ids maps chains []
    → ChangesOnly k.maps maps task (Some (f (rows_in task k.maps))) → entries_in task k.maps ≡ Some (rows_in task k.maps)
    → Cuts header.size k.chains (rows_in task k.maps) (f (rows_in task k.maps)) [] more → AllRows (IsShared header) (f (rows_in task k.maps))
    → Core header h (record k { maps = maps; chains = chains }) ids []
    (record (space_facts header past) {
      entries = λ t. if task == t then f (entries_of header.size t past) else entries_of header.size t past;
      holds_at = λ t r. has_entry r (if task == t then f (entries_of header.size t past) else entries_of header.size t past)
          || fills r (waiting t past) (copy_target t past);
    }) (control_facts h past) (memory_facts header h past)
core_rewritten {header = header} {h = h} {past = past} {k = k} {ids = ids} {maps = maps} {more = more} task f rests c changes lives cuts shared =
    let core = rests.matches.core in
    let made = f (rows_in task k.maps) in
    record {
      setting = core.setting;
      calm = core.calm;
      fits = core.fits;
      spaces = record {
        tasks = tasks_changed h header.size task k.maps maps (λ t. host_of t past) (λ t. entries_of header.size t past) f core.spaces.tasks changes lives;
        entries = c.entries;
        shared = shared_changed header task k.maps maps (Some made) changes shared core.spaces.shared;
        uses = uses_kept header h past k ids maps task made more rests changes lives cuts (λ t. f (entries_of header.size t past));
        homes = c.homes;
      };
      objects = c.objects;
      copied = c.copied;
      controls = core.controls;
      flags = core.flags;
      pages = core.pages;
    }

-- the entries of a task lead to regions
pub all_there : {header : Header} {h : ℕ} {past : List Event} {k : Parts} {ids : Ids} (task : ℕ) → Rests header h k ids past
    → AllRows (λ row. has_region k.chains row.region.0 ≡ true) (rows_in task k.maps)
all_there {header = header} {k = k} task rests =
    rows_map (IsInside header.size k.chains) (λ row. has_region k.chains row.region.0 ≡ true) (λ row is. is.region) (rows_in task k.maps)
    (rests.matches.core.spaces.entries.inside task)

-- what a task that acts lets a command do to a range of its entries

acted : (task : ℕ) (past : List Event) (later : Option Code) → acting past task later ≡ None → later ≡ None
acted task past later accepted =
    (passed (is_some (waiting task past)) code.Blocked later (passed (is_none (host_of task past)) code.NoSuchName
    (code_where (is_some (waiting task past)) code.Blocked later) accepted).1).1

pub may_remove : {header : Header} {h : ℕ} {task : TaskId} {address bytes : ℕ} {past events : List Event} {k : Parts} {ids : Ids}
    → Starts header h (command.Deallocate task address bytes) past k ids events
    → MayCut address bytes (removed header.size address bytes (rows_in task.0 k.maps))
may_remove {header = header} {task = task} {address = address} {bytes = bytes} {past = past} {k = k} s =
    let m = s.rests.matches in
    let full = are_too_many (removed header.size address bytes (entries_of header.size task.0 past)) in
    let first = passed (not (is_range header.size address bytes)) code.InvalidArgument (code_where full code.TableFull None) (acted task.0 past _ s.accepted) in
    let second = passed full code.TableFull None first.1 in
    may_cut header.size address bytes (removed header.size address bytes (rows_in task.0 k.maps)) (not-false (is_range header.size address bytes) first.0)
    (ap (λ z. are_too_many (removed header.size address bytes z)) (sym (rows_here m.core.spaces.tasks (lives_in task.0 m.core.spaces.tasks s.acts))) ∙ second.0)

pub may_protect : {header : Header} {h : ℕ} {task : TaskId} {address bytes : ℕ} {prot : Prot} {past events : List Event} {k : Parts} {ids : Ids}
    → Starts header h (command.Protect task address bytes prot) past k ids events
    → MayCut address bytes (protected header.size address bytes prot (rows_in task.0 k.maps))
may_protect {header = header} {task = task} {address = address} {bytes = bytes} {prot = prot} {past = past} {k = k} s =
    let m = s.rests.matches in
    let rows = entries_of header.size task.0 past in
    let full = are_too_many (protected header.size address bytes prot rows) in
    let last = code_where full code.TableFull None in
    let first = passed (not (is_range header.size address bytes)) code.InvalidArgument
    (code_where (not (is_mapped header.size address bytes rows)) code.InvalidAddress last) (acted task.0 past _ s.accepted) in
    let second = passed (not (is_mapped header.size address bytes rows)) code.InvalidAddress last first.1 in
    let third = passed full code.TableFull None second.1 in
    may_cut header.size address bytes (protected header.size address bytes prot (rows_in task.0 k.maps))
    (not-false (is_range header.size address bytes) first.0)
    (ap (λ z. are_too_many (protected header.size address bytes prot z)) (sym (rows_here m.core.spaces.tasks (lives_in task.0 m.core.spaces.tasks s.acts)))
    ∙ third.0)

pub ran_protect : (header : Header) (h : ℕ) (outside : Outside) (task : TaskId) (address bytes : ℕ) (prot : Prot) (past events : List Event) (k : Parts)
    (ids : Ids) (maps : Mapped) (chains : ChainTable) (change : MapChange)
    → Starts header h (command.Protect task address bytes prot) past k ids events → change ≡ protection address bytes prot
    → ChangesOnly k.maps maps task.0 (Some (protected k.maps.size change.address change.bytes change.prot (rows_in task.0 k.maps)))
    → Raised (cut_at_ends address bytes (rows_in task.0 k.maps)) k.chains chains
    → Ran header h outside (command.Protect task address bytes prot) past (record k { maps = maps; chains = chains }) ids
    (event.Protected task address bytes prot ∷ [])
ran_protect header h outside task address bytes prot past events k ids maps chains change s is changes up =
    let m = s.rests.matches in
    let lives = lives_in task.0 m.core.spaces.tasks s.acts in
    let rows = rows_in task.0 k.maps in
    let made = protected header.size address bytes prot rows in
    let more = cut_at_ends address bytes rows in
    let cuts = protect_cuts header.size address bytes prot k.chains rows (m.core.spaces.entries.inside task.0) (may_protect s) in
    let idle = acts task.0 past _ s.accepted in
    let same : ChangesOnly k.maps maps task.0 (Some made) =
    record {
      size = changes.size;
      changed = changes.changed
          ∙ ap Some (ap (λ z. protected k.maps.size z.address z.bytes z.prot rows) is
          ∙ ap (λ z. protected z address bytes prot rows) m.core.spaces.tasks.sized);
      others = changes.others;
    } in
    let c = changed_by header h past k ids maps chains task.0 (Some made) [] more s.rests idle same lives cuts up in
    let rests : Rests header h (record k { maps = maps; chains = chains }) ids (event.Protected task address bytes prot ∷ past) =
    record {
      matches =
          record {
            core = core_rewritten task.0 (protected header.size address bytes prot) s.rests c same lives cuts
                (shared_protected header header.size address bytes prot rows (m.core.spaces.shared task.0));
            settled = record { none_owed = refl; shut = λ region. refl };
            replied = replied_behind tt m.replied;
          };
      used = c.used;
      referred = c.referred;
      thin = c.thin;
      waits = c.waits;
      order = s.rests.order;
      idle = s.rests.idle;
    } in
    record {
      rests = rests;
      grows =
          grows_one header h outside (command.Protect task address bytes prot) past (event.Protected task address bytes prot) refl
          (record {
            settled = m.settled;
            cause = idle;
            own_bytes = tt;
            frames = suffices header h k.memory.frames (event.Protected task address bytes prot ∷ past) m.core.pages.counted;
            inner = tt;
            said = tt;
            own = own_task h task.0 past s.acts;
            creates = tt;
          });
      done = tt;
    }

-- here no entry on a shared or wild object is in a range that a fork is to copy, too
pub may_inherit : {header : Header} {h : ℕ} {task : TaskId} {address bytes : ℕ} {inherit : Inherit} {past events : List Event} {k : Parts} {ids : Ids}
    → Starts header h (command.Inherit task address bytes inherit) past k ids events
    → MayCut address bytes (inherited header.size address bytes inherit (rows_in task.0 k.maps))
    × ((is_copied inherit && meets_uncopied header address bytes (rows_in task.0 k.maps)) ≡ false)
may_inherit {header = header} {task = task} {address = address} {bytes = bytes} {inherit = inherit} {past = past} {k = k} s =
    let m = s.rests.matches in
    let rows = entries_of header.size task.0 past in
    let own = sym (rows_here m.core.spaces.tasks (lives_in task.0 m.core.spaces.tasks s.acts)) in
    let full = are_too_many (inherited header.size address bytes inherit rows) in
    let last = code_where full code.TableFull None in
    let next = code_where (not (is_mapped header.size address bytes rows)) code.InvalidAddress last in
    let met = is_copied inherit && meets_uncopied header address bytes rows in
    let first = passed (not (is_range header.size address bytes) || met) code.InvalidArgument next (acted task.0 past _ s.accepted) in
    let both = or_parts (not (is_range header.size address bytes)) met first.0 in
    let second = passed (not (is_mapped header.size address bytes rows)) code.InvalidAddress last first.1 in
    let third = passed full code.TableFull None second.1 in (
      may_cut header.size address bytes (inherited header.size address bytes inherit (rows_in task.0 k.maps))
          (not-false (is_range header.size address bytes) both.0)
          (ap (λ z. are_too_many (inherited header.size address bytes inherit z)) own ∙ third.0),
      ap (λ (z : List Entry). is_copied inherit && meets_uncopied header address bytes z) own ∙ both.1,
    )

pub ran_inherit : (header : Header) (h : ℕ) (outside : Outside) (task : TaskId) (address bytes : ℕ) (inherit : Inherit) (past events : List Event) (k : Parts)
    (ids : Ids) (maps : Mapped) (chains : ChainTable) (change : MapChange)
    → Starts header h (command.Inherit task address bytes inherit) past k ids events → change ≡ inheritance address bytes inherit
    → ChangesOnly k.maps maps task.0 (Some (inherited k.maps.size change.address change.bytes change.inherit (rows_in task.0 k.maps)))
    → Raised (cut_at_ends address bytes (rows_in task.0 k.maps)) k.chains chains
    → Ran header h outside (command.Inherit task address bytes inherit) past (record k { maps = maps; chains = chains }) ids
    (event.Inherited task address bytes inherit ∷ [])
ran_inherit header h outside task address bytes inherit past events k ids maps chains change s is changes up =
    let m = s.rests.matches in
    let lives = lives_in task.0 m.core.spaces.tasks s.acts in
    let rows = rows_in task.0 k.maps in
    let made = inherited header.size address bytes inherit rows in
    let more = cut_at_ends address bytes rows in
    let may = may_inherit s in
    let cuts = inherit_cuts header.size address bytes inherit k.chains rows (m.core.spaces.entries.inside task.0) may.0 in
    let idle = acts task.0 past _ s.accepted in
    let same : ChangesOnly k.maps maps task.0 (Some made) =
    record {
      size = changes.size;
      changed = changes.changed
          ∙ ap Some (ap (λ z. inherited k.maps.size z.address z.bytes z.inherit rows) is
          ∙ ap (λ z. inherited z address bytes inherit rows) m.core.spaces.tasks.sized);
      others = changes.others;
    } in
    let c = changed_by header h past k ids maps chains task.0 (Some made) [] more s.rests idle same lives cuts up in
    let rests : Rests header h (record k { maps = maps; chains = chains }) ids (event.Inherited task address bytes inherit ∷ past) =
    record {
      matches =
          record {
            core = core_rewritten task.0 (inherited header.size address bytes inherit) s.rests c same lives cuts
                (shared_inherited header header.size address bytes inherit rows (m.core.spaces.shared task.0) may.1);
            settled = record { none_owed = refl; shut = λ region. refl };
            replied = replied_behind tt m.replied;
          };
      used = c.used;
      referred = c.referred;
      thin = c.thin;
      waits = c.waits;
      order = s.rests.order;
      idle = s.rests.idle;
    } in
    record {
      rests = rests;
      grows =
          grows_one header h outside (command.Inherit task address bytes inherit) past (event.Inherited task address bytes inherit) refl
          (record {
            settled = m.settled;
            cause = idle;
            own_bytes = tt;
            frames = suffices header h k.memory.frames (event.Inherited task address bytes inherit ∷ past) m.core.pages.counted;
            inner = tt;
            said = tt;
            own = own_task h task.0 past s.acts;
            creates = tt;
          });
      done = tt;
    }
